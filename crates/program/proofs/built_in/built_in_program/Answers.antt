use Rattle.std.proofs.Common.{rules}
use Rattle.program.proofs.BuiltInSound.{sound_of}
use Rattle.program.proofs.built_in.built_in_program.Goals as goal

pub invariant_of-result : goal.invariant_of-result
invariant_of-result c = record {
  sound = sound_of (c.in_ok-classes.ensures) (c.in_ok-methods.ensures) (c.new.ensures) (search (rules, c.push.ensures, c.in_ok-push.ensures, c.new-selectors.ensures)) (search (rules, c.push-3.ensures)) (c.new-2.ensures);
}
