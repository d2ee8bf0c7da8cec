use Rattle.std.proofs.Common.{◌≡◌, true, false, ap, ◌∙◌}
use Rattle.dart_values.specs.declared.value.Value.{Value}
use Rattle.dart_values.specs.declared.value.Value.TheVariants as v
use Rattle.isolate_state.proofs.Branches.{passes, branches, branch_faults}
use Rattle.isolate_state.proofs.jumps.jump_if_false.Goals as goal

pub returns-then-b : goal.returns-then-b
returns-then-b c = passes c.args.to c.args.isolate.now (record c.args.isolate.now { values = c.take_last.new.self }) c.args.frame.now c.take_last.result
    c.take_last.ensures.items (c.in-Bool.is ∙ ap v.Bool c.if-b.true)

pub returns : goal.returns
returns c = branches c.args.to c.args.isolate.now (record c.args.isolate.now { values = c.take_last.new.self }) c.args.frame.now c.take_last.result
    c.take_last.ensures.items (c.in-Bool.is ∙ ap v.Bool c.if-b.false)

pub returns-in_default : goal.returns-in_default
returns-in_default c = branch_faults c.args.to c.args.isolate.now (record c.args.isolate.now { values = c.take_last.new.self }) c.args.frame.now c.take_last.result
    c.take_last.ensures.items c.in_default.not-Bool
