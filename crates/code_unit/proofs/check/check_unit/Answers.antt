-- A unit is sound where each of its places is fine.
use Rattle.std.proofs.Common.{rules, refl, sym, ◌∙◌}
use Rattle.code_unit.proofs.Places.{next_read, all_fine, sound_read}
use Rattle.code_unit.proofs.check.check_unit.Goals as goal

pub returns-then-not-is_fine : goal.returns-then-not-is_fine
returns-then-not-is_fine c =
    (λ h. search rules, λ sound. sym c.if-not-is_fine.true ∙ c.is_fine.ensures.1 (sound_read c.args.unit.now c.as_slice-code.result.now c.loop-place.place _ c.as_slice-code.ensures c.loop-place-test.true sound))

pub loop-place-preserved : goal.loop-place-preserved
loop-place-preserved c = next_read c.args.unit.now c.as_slice-code.result.now c.loop-place.place _ c.as_slice-code.ensures c.loop-place-test.true c.loop-place.invariant (c.is_fine.ensures.0 c.if-not-is_fine.false)

pub returns : goal.returns
returns c =
    (λ h. all_fine c.args.unit.now c.loop-place.place (search rules) (search rules) (search rules) c.loop-place.invariant, λ sound. refl)
