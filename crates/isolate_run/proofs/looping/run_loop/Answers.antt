use Rattle.std.proofs.Common.{[], sym, refl, ◌∙◌, ap, subst, arith}
use Rattle.program.specs.Program.{parts_of}
use Rattle.isolate_state.specs.State.{seen}
use Rattle.isolate_run.specs.Loop.{first_frame}
use Rattle.isolate_run.proofs.Runs.{counted, has_unit}
use Rattle.isolate_run.proofs.Far.{LeadsOn, at_start, as_many, some_left, unit_there, place_there, can_step, far_on, came, same_code}
use Rattle.isolate_run.proofs.looping.run_loop.Goals as goal

pub code_at-code-requires : goal.code_at-code-requires
code_at-code-requires g c =
    has_unit (parts_of c.args.linked.now.program) c.args.pool.now (g.C.Cells.answers c.args.cells.now c.args.linked.now) g.bound (seen c.args.isolate.now (first_frame c.args.u) c.args.turns [] []) c.requires.1.1.1.1.0.comes

pub run-init : goal.run-init
run-init g c = record {
  far = at_start (g.C.Cells.After c.args.cells.now) c.args.cells.now (g.Q.Subtypes.After c.args.types.now) c.args.types.now (parts_of c.args.linked.now.program) c.args.pool.now
      (g.C.Cells.answers c.args.cells.now c.args.linked.now) g.bound c.args.steps.now c.args.isolate.now (first_frame c.args.u) c.args.turns
      (g.met.C.Cells.after_none c.args.cells.now) (g.met.Q.Subtypes.after_none c.args.types.now) c.requires.1.1.1.1.0.held;
  cells = c.requires.1.1.1.1.1.0;
  answers = refl;
  types = c.requires.1.1.1.1.1.1;
  code = c.code_at-code.ensures;
  steps = omega arith;
}

pub instr_at-instr-requires : goal.instr_at-instr-requires
instr_at-instr-requires g c = place_there c.run.invariant.far c.requires.1.1.1.1.0.comes c.run.code.now c.run.invariant.code

pub step-requires-clause-counts : goal.step-requires-clause-counts
step-requires-clause-counts g c = as_many c.run.invariant.far ∙ c.requires.1.1.1.1.0.counts

pub step-requires-clause-can : goal.step-requires-clause-can
step-requires-clause-can g c =
    let n = counted g.bound c.args.steps.now c.run.steps c.tick.new.self c.run.invariant.steps c.tick.ensures (some_left c.run.invariant.far c.requires.1.1.1.1.0.comes) in
    can_step c.run.invariant.far c.requires.1.1.1.1.0.comes c.run.invariant.code c.instr_at-instr.ensures.instr n (ap (λ a. a c.args.linked.now) c.run.invariant.answers)

pub returns-in_err-ends-clause-cost : goal.returns-in_err-ends-clause-cost
returns-in_err-ends-clause-cost g c = omega (arith, some_left c.run.invariant.far c.requires.1.1.1.1.0.comes, c.tick.ensures, c.run.invariant.steps)

pub run-smaller-in-Here : goal.run-smaller-in-Here
run-smaller-in-Here g c = omega (arith, some_left c.run.invariant.far c.requires.1.1.1.1.0.comes, c.tick.ensures, c.run.invariant.steps)

pub run-smaller : goal.run-smaller
run-smaller g c = omega (arith, some_left c.run.invariant.far c.requires.1.1.1.1.0.comes, c.tick.ensures, c.run.invariant.steps)

pub run-preserved-in-Here : goal.run-preserved-in-Here
run-preserved-in-Here g c =
    let n = counted g.bound c.args.steps.now c.run.steps c.tick.new.self c.run.invariant.steps c.tick.ensures (some_left c.run.invariant.far c.requires.1.1.1.1.0.comes) in
    let both = g.met.C.Cells.after_both c.args.cells.now c.run.cells c.step.new.cells in
    let tests = g.met.Q.Subtypes.after_both c.args.types.now c.run.types c.step.new.types in
    let same = ap (λ a. a c.args.linked.now) c.run.invariant.answers in
    record {
      far = far_on c.run.invariant.far c.requires.1.1.1.1.0.comes c.run.invariant.code c.instr_at-instr.ensures.instr n same c.in_ok-ends.ensures.stepped both tests (subst LeadsOn (sym c.in-Here.is) (λ trap s. refl));
      cells = c.in_ok-ends.ensures.cells;
      answers = c.in_ok-ends.ensures.answers ∙ c.run.invariant.answers;
      types = c.in_ok-ends.ensures.types;
      code = same_code c.run.invariant.far c.requires.1.1.1.1.0.comes c.run.invariant.code c.instr_at-instr.ensures.instr n same c.in_ok-ends.ensures.stepped c.in-Here.is;
      steps = omega (arith, c.tick.ensures, c.run.invariant.steps);
    }

pub code_at-code-requires-in-Elsewhere : goal.code_at-code-requires-in-Elsewhere
code_at-code-requires-in-Elsewhere g c =
    let n = counted g.bound c.args.steps.now c.run.steps c.tick.new.self c.run.invariant.steps c.tick.ensures (some_left c.run.invariant.far c.requires.1.1.1.1.0.comes) in
    let both = g.met.C.Cells.after_both c.args.cells.now c.run.cells c.step.new.cells in
    let tests = g.met.Q.Subtypes.after_both c.args.types.now c.run.types c.step.new.types in
    let same = ap (λ a. a c.args.linked.now) c.run.invariant.answers in
    unit_there (far_on c.run.invariant.far c.requires.1.1.1.1.0.comes c.run.invariant.code c.instr_at-instr.ensures.instr n same c.in_ok-ends.ensures.stepped {first_calls = g.C.Cells.After c.args.cells.now} {first_tests = g.Q.Subtypes.After c.args.types.now} both tests (subst LeadsOn (sym c.in-Elsewhere.is) (λ trap s. refl)))
    c.requires.1.1.1.1.0.comes

pub run-preserved : goal.run-preserved
run-preserved g c =
    let n = counted g.bound c.args.steps.now c.run.steps c.tick.new.self c.run.invariant.steps c.tick.ensures (some_left c.run.invariant.far c.requires.1.1.1.1.0.comes) in
    let both = g.met.C.Cells.after_both c.args.cells.now c.run.cells c.step.new.cells in
    let tests = g.met.Q.Subtypes.after_both c.args.types.now c.run.types c.step.new.types in
    let same = ap (λ a. a c.args.linked.now) c.run.invariant.answers in
    record {
      far = far_on c.run.invariant.far c.requires.1.1.1.1.0.comes c.run.invariant.code c.instr_at-instr.ensures.instr n same c.in_ok-ends.ensures.stepped both tests (subst LeadsOn (sym c.in-Elsewhere.is) (λ trap s. refl));
      cells = c.in_ok-ends.ensures.cells;
      answers = c.in_ok-ends.ensures.answers ∙ c.run.invariant.answers;
      types = c.in_ok-ends.ensures.types;
      code = c.code_at-code-in-Elsewhere.ensures;
      steps = omega (arith, c.tick.ensures, c.run.invariant.steps);
    }

pub returns-in_default : goal.returns-in_default
returns-in_default g c =
    let n = counted g.bound c.args.steps.now c.run.steps c.tick.new.self c.run.invariant.steps c.tick.ensures (some_left c.run.invariant.far c.requires.1.1.1.1.0.comes) in
    let both = g.met.C.Cells.after_both c.args.cells.now c.run.cells c.step.new.cells in
    let tests = g.met.Q.Subtypes.after_both c.args.types.now c.run.types c.step.new.types in
    let same = ap (λ a. a c.args.linked.now) c.run.invariant.answers in
    record {
      cells = c.in_ok-ends.ensures.cells;
      answers = c.in_ok-ends.ensures.answers ∙ c.run.invariant.answers;
      types = c.in_ok-ends.ensures.types;
      cost = omega (arith, some_left c.run.invariant.far c.requires.1.1.1.1.0.comes, c.tick.ensures, c.run.invariant.steps);
      came = came c.run.invariant.far c.requires.1.1.1.1.0.comes c.run.invariant.code c.instr_at-instr.ensures.instr n same c.in_ok-ends.ensures.stepped both tests c.args.isolate.now refl c.in_default.not-Here c.in_default.not-Elsewhere;
    }
