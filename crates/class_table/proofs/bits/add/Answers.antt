use Rattle.std.proofs.Common.{◌≡◌, ◌/◌, slice_index, arith}
use Rattle.std.proofs.lemmas.Grind.{common_steps}
use Rattle.class_table.proofs.Words.{holds_set}
use Rattle.class_table.proofs.bits.add.Goals as goal

pub returns-clause-bits : goal.returns-clause-bits
returns-clause-bits c = λ k.
    let word : c.index_mut.result.now ≡ slice_index c.args.words.now.items (c.args.d / 64) = grind (arith, common_steps, c.index_mut.ensures) in
    rw word (holds_set c.args.words.now.items c.args.d k c.requires)
