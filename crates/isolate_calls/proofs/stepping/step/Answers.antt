use Rattle.std.proofs.Common.{sym, subst, refl}
use Rattle.program.specs.Program.{parts_of}
use Rattle.program.specs.declared.numbered.Numbered.{Numbered}
use Rattle.code_unit.specs.declared.unit.Unit.{Unit}
use Rattle.code_unit.specs.declared.instr.Instr.{Instr}
use Rattle.code_unit.specs.declared.instr.Instr.TheVariants as instr
use Rattle.isolate_state.specs.State.{IsHeld, Did, Needs}
use Rattle.isolate_calls.specs.Stepping.{CanStep, Stepped}
use Rattle.isolate_calls.proofs.Does.{needs_of, asked_steps, tested_steps, did_steps, test_operand, test_there}
use Rattle.isolate_calls.proofs.stepping.step.Goals as goal

pub act-requires : goal.act-requires
act-requires g c = record {
  place = c.requires.place;
  held = c.requires.held.values;
  needs = subst (λ (n : Numbered). Needs (parts_of n) c.args.pool.now c.args.instr c.args.isolate.now c.args.frame.now c.args.turns.now) (sym c.program.ensures)
      (needs_of (parts_of c.args.linked.now.program) c.args.pool.now (g.C.Cells.answers c.args.cells.now c.args.linked.now) c.args.instr c.args.isolate.now c.args.frame.now c.args.turns.now c.requires.held c.requires.can);
}

pub returns-in_ok-flow-in-Call-clause-stepped : goal.returns-in_ok-flow-in-Call-clause-stepped
returns-in_ok-flow-in-Call-clause-stepped g c =
    subst (λ (i : Instr). Stepped (g.C.Cells.After c.args.cells.now) c.call.new.cells (g.Q.Subtypes.After c.args.types.now) c.args.types.now (parts_of c.args.linked.now.program) c.args.pool.now (g.C.Cells.answers c.args.cells.now c.args.linked.now) i c.args.isolate.now c.args.frame.now c.args.turns.now c.in_ok-flow-in-Call.flow c.call.new.isolate c.call.new.frame c.call.new.turns) (sym c.in-Call.is)
    (asked_steps (g.C.Cells.After c.args.cells.now) c.call.new.cells (g.Q.Subtypes.After c.args.types.now) c.args.types.now (parts_of c.args.linked.now.program) c.args.pool.now (g.C.Cells.answers c.args.cells.now c.args.linked.now) c.args.isolate.now c.call.new.isolate c.args.frame.now c.call.new.frame c.args.turns.now c.in_ok-flow-in-Call.flow
    (instr.Call c.in-Call.site c.in-Call.n) c.call.new.turns c.in_ok-flow-in-Call.ensures.called (g.met.Q.Subtypes.after_none c.args.types.now))

pub returns-in_ok-flow-in-Equal-clause-stepped : goal.returns-in_ok-flow-in-Equal-clause-stepped
returns-in_ok-flow-in-Equal-clause-stepped g c =
    subst (λ (i : Instr). Stepped (g.C.Cells.After c.args.cells.now) c.equal.new.cells (g.Q.Subtypes.After c.args.types.now) c.args.types.now (parts_of c.args.linked.now.program) c.args.pool.now (g.C.Cells.answers c.args.cells.now c.args.linked.now) i c.args.isolate.now c.args.frame.now c.args.turns.now c.in_ok-flow-in-Equal.flow c.equal.new.isolate c.equal.new.frame c.equal.new.turns) (sym c.in-Equal.is)
    (asked_steps (g.C.Cells.After c.args.cells.now) c.equal.new.cells (g.Q.Subtypes.After c.args.types.now) c.args.types.now (parts_of c.args.linked.now.program) c.args.pool.now (g.C.Cells.answers c.args.cells.now c.args.linked.now) c.args.isolate.now c.equal.new.isolate c.args.frame.now c.equal.new.frame c.args.turns.now c.in_ok-flow-in-Equal.flow
    (instr.Equal c.in-Equal.site) c.equal.new.turns c.in_ok-flow-in-Equal.ensures.equal (g.met.Q.Subtypes.after_none c.args.types.now))

pub returns-in_ok-flow-in-IsClass-clause-stepped : goal.returns-in_ok-flow-in-IsClass-clause-stepped
returns-in_ok-flow-in-IsClass-clause-stepped g c =
    subst (λ (i : Instr). Stepped (g.C.Cells.After c.args.cells.now) c.args.cells.now (g.Q.Subtypes.After c.args.types.now) c.is_class.new.types (parts_of c.args.linked.now.program) c.args.pool.now (g.C.Cells.answers c.args.cells.now c.args.linked.now) i c.args.isolate.now c.args.frame.now c.args.turns.now c.in_ok-flow-in-IsClass.flow c.is_class.new.isolate c.is_class.new.frame c.args.turns.now) (sym c.in-IsClass.is)
    (tested_steps (g.C.Cells.After c.args.cells.now) c.args.cells.now (g.Q.Subtypes.After c.args.types.now) c.is_class.new.types (parts_of c.args.linked.now.program) c.args.pool.now (g.C.Cells.answers c.args.cells.now c.args.linked.now) c.args.isolate.now c.is_class.new.isolate c.args.frame.now c.is_class.new.frame c.args.turns.now c.in_ok-flow-in-IsClass.flow
    c.in-IsClass.c c.requires.held c.in_ok-flow-in-IsClass.ensures.tested (g.met.C.Cells.after_none c.args.cells.now))

pub returns-in_ok-flow-in_default : goal.returns-in_ok-flow-in_default
returns-in_ok-flow-in_default g c =
    let did = subst (λ (n : Numbered). (unit : Unit) → IsHeld (parts_of n) c.args.pool.now c.args.isolate.now
    → Did (parts_of n) c.args.pool.now unit c.args.instr c.args.isolate.now c.args.frame.now c.args.turns.now c.in_ok-flow-in_default.flow c.act.new.isolate c.act.new.frame c.act.new.turns) c.program.ensures c.in_ok-flow-in_default.ensures in
    record {
      cells = c.requires.cells;
      answers = refl;
      types = c.requires.types;
      stepped = did_steps (g.C.Cells.After c.args.cells.now) c.args.cells.now (g.Q.Subtypes.After c.args.types.now) c.args.types.now (parts_of c.args.linked.now.program) c.args.pool.now (g.C.Cells.answers c.args.cells.now c.args.linked.now) c.args.isolate.now c.act.new.isolate c.args.frame.now c.act.new.frame c.args.turns.now c.in_ok-flow-in_default.flow
          c.args.instr c.act.new.turns c.requires.can c.requires.held did (g.met.C.Cells.after_none c.args.cells.now) (g.met.Q.Subtypes.after_none c.args.types.now);
    }

pub is_class-requires-clause-some : goal.is_class-requires-clause-some
is_class-requires-clause-some g c =
    test_operand (parts_of c.args.linked.now.program) c.args.pool.now (g.C.Cells.answers c.args.cells.now c.args.linked.now) c.in-IsClass.c c.args.isolate.now c.args.frame.now c.args.turns.now
    (subst (λ (i : Instr). CanStep (parts_of c.args.linked.now.program) c.args.pool.now (g.C.Cells.answers c.args.cells.now c.args.linked.now) i c.args.isolate.now c.args.frame.now c.args.turns.now) c.in-IsClass.is c.requires.can)

pub is_class-requires-clause-there : goal.is_class-requires-clause-there
is_class-requires-clause-there g c =
    test_there (parts_of c.args.linked.now.program) c.args.pool.now (g.C.Cells.answers c.args.cells.now c.args.linked.now) c.in-IsClass.c c.args.isolate.now c.args.frame.now c.args.turns.now
    (subst (λ (i : Instr). CanStep (parts_of c.args.linked.now.program) c.args.pool.now (g.C.Cells.answers c.args.cells.now c.args.linked.now) i c.args.isolate.now c.args.frame.now c.args.turns.now) c.in-IsClass.is c.requires.can)
