use Rattle.std.proofs.Common.{◌≡◌, drop}
use Rattle.tree_numbers.specs.Members.{keys_of, held, no_members, also_keyed}
use Rattle.tree_numbers.proofs.members.member_numbers.Given as goal

abbrev pub invariant-loop-i : goal.invariant-loop-i
invariant-loop-i l = also_keyed l.i (keys_of (drop l.i l.keys)) (held l.numbers) ≡ also_keyed 0 (keys_of l.keys) no_members
