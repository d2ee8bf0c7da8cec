use Rattle.std.proofs.Common.{◌≡◌, length}
use Rattle.class_table.proofs.Words.{AreJoined}
use Rattle.class_table.proofs.bits.add_all.Given as goal

abbrev pub invariant-loop-i : goal.invariant-loop-i
invariant-loop-i l = record { same : length l.words.items ≡ length l.more; joined : AreJoined l.initial.words.items l.more l.i l.words.items }
