use Rattle.std.proofs.Common.{◌≡◌, length, slice_index, subst, refl, arith}
use Rattle.std.proofs.lemmas.Grind.{common_steps}
use Rattle.class_table.proofs.Words.{AreJoined, joined_step, holds_joined}
use Rattle.class_table.proofs.bits.add_all.Goals as goal

pub loop-i-init : goal.loop-i-init
loop-i-init c = record { same = c.requires; joined = record { below = λ j lt. absurd (omega arith); rest = λ j le. refl } }

pub loop-i-preserved : goal.loop-i-preserved
loop-i-preserved c = record {
  same = grind (arith, common_steps, c.loop-i.invariant.same);
  joined = let word : c.index_mut.result.now ≡ slice_index c.loop-i.words.items c.loop-i.i = grind (arith, common_steps, c.index_mut.ensures) in rw word (joined_step c.args.words.now.items c.args.more.now c.loop-i.words.items c.loop-i.i (omega arith) c.loop-i.invariant.joined);
}

pub returns-clause-bits : goal.returns-clause-bits
returns-clause-bits c = λ k.
    let at : c.loop-i.i ≡ length c.args.more.now = omega arith in
    holds_joined c.args.words.now.items c.args.more.now c.loop-i.words.items k (subst (λ n. AreJoined c.args.words.now.items c.args.more.now n c.loop-i.words.items) at c.loop-i.invariant.joined)
