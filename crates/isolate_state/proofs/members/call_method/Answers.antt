use Rattle.std.proofs.Common.{rules, ◌≡◌, ◌<◌, ℕ, ap, sym, ◌∙◌, subst, Bool, true, false}
use Rattle.std.specs.Prelude.{Some, slice_get}
use Rattle.program.specs.Program.{parts_of}
use Rattle.code_pool.specs.declared.pool.MethodBody.{MethodBody}
use Rattle.code_pool.specs.declared.pool.MethodBody.TheVariants as body
use Rattle.isolate_state.specs.declared.frame.Flow.TheVariants as flow
use Rattle.isolate_state.specs.State.{next, Answered, Performed, Called}
use Rattle.isolate_state.proofs.Receives.{lifts, can_enter, can_read, can_write, can_native, enters_as}
use Rattle.isolate_state.proofs.members.call_method.Goals as goal

pub enter-requires-clause-takes : goal.enter-requires-clause-takes
enter-requires-clause-takes c =
    (can_enter (parts_of c.args.program.now) c.args.pool.now c.args.m.0 c.args.n c.in-Code.u c.args.isolate.now c.args.frame.now c.args.turns.now c.requires.operands
    (c.method_unit.ensures ∙ ap Some c.in-Code.is) c.requires.can).1

pub native-requires-clause-built_in : goal.native-requires-clause-built_in
native-requires-clause-built_in c =
    (can_native (parts_of c.args.program.now) c.args.pool.now c.args.m.0 c.args.n c.in-Native.id c.args.isolate.now c.args.frame.now c.args.turns.now (c.method_unit.ensures ∙ ap Some c.in-Native.is) c.requires.can).0

pub returns-in_ok-flow-in-Code : goal.returns-in_ok-flow-in-Code
returns-in_ok-flow-in-Code c =
    lifts (parts_of c.args.program.now) c.args.pool.now c.args.m.0 c.args.n (body.Code c.in-Code.u) c.args.isolate.now c.enter.new.isolate c.args.frame.now c.enter.new.frame c.args.turns.now c.enter.new.turns c.in_ok-flow-in-Code.flow
    (c.method_unit.ensures ∙ ap Some c.in-Code.is)
    (enters_as (parts_of c.args.program.now) c.args.pool.now c.in-Code.u c.args.n c.args.isolate.now c.enter.new.isolate c.args.frame.now c.enter.new.frame c.args.turns.now c.enter.new.turns c.in_ok-flow-in-Code.flow c.in_ok-flow-in-Code.ensures)

pub returns-in_ok-flow-in-ReadField : goal.returns-in_ok-flow-in-ReadField
returns-in_ok-flow-in-ReadField c =
    let is : slice_get c.args.pool.now.methods c.args.m.0 ≡ Some (body.ReadField c.in-ReadField.k) = c.method_unit.ensures ∙ ap Some c.in-ReadField.is in
    let one = can_read (parts_of c.args.program.now) c.args.pool.now c.args.m.0 c.args.n c.in-ReadField.k c.args.isolate.now c.args.frame.now c.args.turns.now c.requires.operands is c.requires.can in
    lifts (parts_of c.args.program.now) c.args.pool.now c.args.m.0 c.args.n (body.ReadField c.in-ReadField.k) c.args.isolate.now c.read_field.new.isolate c.args.frame.now c.read_field.new.frame c.args.turns.now c.args.turns.now
    c.in_ok-flow-in-ReadField.flow is
    (subst (λ (j : ℕ). Performed (parts_of c.args.program.now) c.args.pool.now (body.ReadField c.in-ReadField.k) j c.args.isolate.now c.args.frame.now c.args.turns.now c.in_ok-flow-in-ReadField.flow c.read_field.new.isolate c.read_field.new.frame c.args.turns.now)
    (sym one) (c.in_ok-flow-in-ReadField.ensures (parts_of c.args.program.now) c.args.pool.now c.args.turns.now))

pub returns-in_ok-flow-in-WriteField : goal.returns-in_ok-flow-in-WriteField
returns-in_ok-flow-in-WriteField c =
    let is : slice_get c.args.pool.now.methods c.args.m.0 ≡ Some (body.WriteField c.in-WriteField.k) = c.method_unit.ensures ∙ ap Some c.in-WriteField.is in
    let two = can_write (parts_of c.args.program.now) c.args.pool.now c.args.m.0 c.args.n c.in-WriteField.k c.args.isolate.now c.args.frame.now c.args.turns.now c.requires.operands is c.requires.can in
    lifts (parts_of c.args.program.now) c.args.pool.now c.args.m.0 c.args.n (body.WriteField c.in-WriteField.k) c.args.isolate.now c.write_field.new.isolate c.args.frame.now c.write_field.new.frame c.args.turns.now c.args.turns.now
    c.in_ok-flow-in-WriteField.flow is
    (subst (λ (j : ℕ). Performed (parts_of c.args.program.now) c.args.pool.now (body.WriteField c.in-WriteField.k) j c.args.isolate.now c.args.frame.now c.args.turns.now c.in_ok-flow-in-WriteField.flow c.write_field.new.isolate c.write_field.new.frame c.args.turns.now)
    (sym two) (c.in_ok-flow-in-WriteField.ensures (parts_of c.args.program.now) c.args.pool.now c.args.turns.now))

pub returns-then-not-branch : goal.returns-then-not-branch
returns-then-not-branch c =
    let is : slice_get c.args.pool.now.methods c.args.m.0 ≡ Some (body.Native c.in-Native.id) = c.method_unit.ensures ∙ ap Some c.in-Native.is in
    let done : Answered (parts_of c.args.program.now) c.in-Native.id c.args.n c.args.isolate.now false c.native.new.isolate =
    subst (λ (b : Bool). Answered (parts_of c.args.program.now) c.in-Native.id c.args.n c.args.isolate.now b c.native.new.isolate) c.if-not-branch.true c.in_ok-native-in-Native.ensures in
    lifts (parts_of c.args.program.now) c.args.pool.now c.args.m.0 c.args.n (body.Native c.in-Native.id) c.args.isolate.now c.native.new.isolate c.args.frame.now c.args.frame.now c.args.turns.now c.args.turns.now
    flow.Trapped is (done c.args.pool.now c.args.frame.now c.args.turns.now)

pub returns-else-not-branch : goal.returns-else-not-branch
returns-else-not-branch c =
    let is : slice_get c.args.pool.now.methods c.args.m.0 ≡ Some (body.Native c.in-Native.id) = c.method_unit.ensures ∙ ap Some c.in-Native.is in
    let done : Answered (parts_of c.args.program.now) c.in-Native.id c.args.n c.args.isolate.now true c.native.new.isolate =
    subst (λ (b : Bool). Answered (parts_of c.args.program.now) c.in-Native.id c.args.n c.args.isolate.now b c.native.new.isolate) c.if-not-branch.false c.in_ok-native-in-Native.ensures in
    lifts (parts_of c.args.program.now) c.args.pool.now c.args.m.0 c.args.n (body.Native c.in-Native.id) c.args.isolate.now c.native.new.isolate c.args.frame.now (next c.args.frame.now) c.args.turns.now c.args.turns.now
    flow.Here is (done c.args.pool.now c.args.frame.now c.args.turns.now)
