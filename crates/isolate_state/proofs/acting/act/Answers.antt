use Rattle.std.proofs.Common.{◌≡◌, ℕ, ap, sym, ◌∙◌, subst}
use Rattle.program.specs.Program.{parts_of}
use Rattle.code_unit.specs.declared.instr.Instr.{Instr}
use Rattle.code_unit.specs.declared.instr.Instr.TheVariants as instr
use Rattle.isolate_state.specs.declared.frame.Flow.TheVariants as flow
use Rattle.isolate_state.specs.State.{next, Did, Needs}
use Rattle.isolate_state.proofs.Receives.{statics, methods}
use Rattle.isolate_state.proofs.acting.act.Goals as goal

pub constant-requires-clause-there : goal.constant-requires-clause-there
constant-requires-clause-there c = subst (λ (i : Instr). Needs (parts_of c.args.program.now) c.args.pool.now i c.args.isolate.now c.args.frame.now c.args.turns.now) c.in-Const.is c.requires.needs

pub local-requires-clause-there : goal.local-requires-clause-there
local-requires-clause-there c = subst (λ (i : Instr). Needs (parts_of c.args.program.now) c.args.pool.now i c.args.isolate.now c.args.frame.now c.args.turns.now) c.in-Local.is c.requires.needs

pub set_local-requires-clause-there : goal.set_local-requires-clause-there
set_local-requires-clause-there c = subst (λ (i : Instr). Needs (parts_of c.args.program.now) c.args.pool.now i c.args.isolate.now c.args.frame.now c.args.turns.now) c.in-SetLocal.is c.requires.needs

pub global-requires-clause-there : goal.global-requires-clause-there
global-requires-clause-there c = subst (λ (i : Instr). Needs (parts_of c.args.program.now) c.args.pool.now i c.args.isolate.now c.args.frame.now c.args.turns.now) c.in-Global.is c.requires.needs

pub set_global-requires-clause-some : goal.set_global-requires-clause-some
set_global-requires-clause-some c = (subst (λ (i : Instr). Needs (parts_of c.args.program.now) c.args.pool.now i c.args.isolate.now c.args.frame.now c.args.turns.now) c.in-SetGlobal.is c.requires.needs).0

pub set_global-requires-clause-there : goal.set_global-requires-clause-there
set_global-requires-clause-there c = (subst (λ (i : Instr). Needs (parts_of c.args.program.now) c.args.pool.now i c.args.isolate.now c.args.frame.now c.args.turns.now) c.in-SetGlobal.is c.requires.needs).1

pub pop-requires-clause-some : goal.pop-requires-clause-some
pop-requires-clause-some c = subst (λ (i : Instr). Needs (parts_of c.args.program.now) c.args.pool.now i c.args.isolate.now c.args.frame.now c.args.turns.now) c.in-Pop.is c.requires.needs

pub dup-requires-clause-some : goal.dup-requires-clause-some
dup-requires-clause-some c = subst (λ (i : Instr). Needs (parts_of c.args.program.now) c.args.pool.now i c.args.isolate.now c.args.frame.now c.args.turns.now) c.in-Dup.is c.requires.needs

pub dup_two-requires-clause-some : goal.dup_two-requires-clause-some
dup_two-requires-clause-some c = subst (λ (i : Instr). Needs (parts_of c.args.program.now) c.args.pool.now i c.args.isolate.now c.args.frame.now c.args.turns.now) c.in-Dup2.is c.requires.needs

pub jump_if_false-requires-clause-some : goal.jump_if_false-requires-clause-some
jump_if_false-requires-clause-some c = subst (λ (i : Instr). Needs (parts_of c.args.program.now) c.args.pool.now i c.args.isolate.now c.args.frame.now c.args.turns.now) c.in-JumpIfFalse.is c.requires.needs

pub expect_bool-requires-clause-some : goal.expect_bool-requires-clause-some
expect_bool-requires-clause-some c = subst (λ (i : Instr). Needs (parts_of c.args.program.now) c.args.pool.now i c.args.isolate.now c.args.frame.now c.args.turns.now) c.in-ExpectBool.is c.requires.needs

pub not-requires-clause-some : goal.not-requires-clause-some
not-requires-clause-some c = subst (λ (i : Instr). Needs (parts_of c.args.program.now) c.args.pool.now i c.args.isolate.now c.args.frame.now c.args.turns.now) c.in-Not.is c.requires.needs

pub expect_text-requires-clause-some : goal.expect_text-requires-clause-some
expect_text-requires-clause-some c = subst (λ (i : Instr). Needs (parts_of c.args.program.now) c.args.pool.now i c.args.isolate.now c.args.frame.now c.args.turns.now) c.in-ExpectString.is c.requires.needs

pub throw-requires-clause-some : goal.throw-requires-clause-some
throw-requires-clause-some c = subst (λ (i : Instr). Needs (parts_of c.args.program.now) c.args.pool.now i c.args.isolate.now c.args.frame.now c.args.turns.now) c.in-Throw.is c.requires.needs

pub emit-requires-clause-some : goal.emit-requires-clause-some
emit-requires-clause-some c = subst (λ (i : Instr). Needs (parts_of c.args.program.now) c.args.pool.now i c.args.isolate.now c.args.frame.now c.args.turns.now) c.in-Emit.is c.requires.needs

pub set_field-requires-clause-some : goal.set_field-requires-clause-some
set_field-requires-clause-some c = subst (λ (i : Instr). Needs (parts_of c.args.program.now) c.args.pool.now i c.args.isolate.now c.args.frame.now c.args.turns.now) c.in-SetField.is c.requires.needs

pub element_or-requires-clause-some : goal.element_or-requires-clause-some
element_or-requires-clause-some c = subst (λ (i : Instr). Needs (parts_of c.args.program.now) c.args.pool.now i c.args.isolate.now c.args.frame.now c.args.turns.now) c.in-ElementOr.is c.requires.needs

pub make_list-requires-clause-operands : goal.make_list-requires-clause-operands
make_list-requires-clause-operands c = subst (λ (i : Instr). Needs (parts_of c.args.program.now) c.args.pool.now i c.args.isolate.now c.args.frame.now c.args.turns.now) c.in-MakeList.is c.requires.needs

pub concat-requires-clause-operands : goal.concat-requires-clause-operands
concat-requires-clause-operands c = subst (λ (i : Instr). Needs (parts_of c.args.program.now) c.args.pool.now i c.args.isolate.now c.args.frame.now c.args.turns.now) c.in-Concat.is c.requires.needs

pub give_back-requires : goal.give_back-requires
give_back-requires c = subst (λ (i : Instr). Needs (parts_of c.args.program.now) c.args.pool.now i c.args.isolate.now c.args.frame.now c.args.turns.now) c.in-Return.is c.requires.needs

pub static_target-u-requires : goal.static_target-u-requires
static_target-u-requires c = (subst (λ (i : Instr). Needs (parts_of c.args.program.now) c.args.pool.now i c.args.isolate.now c.args.frame.now c.args.turns.now) c.in-CallStatic.is c.requires.needs).0

pub enter-requires-clause-operands : goal.enter-requires-clause-operands
enter-requires-clause-operands c = (subst (λ (i : Instr). Needs (parts_of c.args.program.now) c.args.pool.now i c.args.isolate.now c.args.frame.now c.args.turns.now) c.in-CallStatic.is c.requires.needs).1

pub returns-in_ok-flow-in-Const : goal.returns-in_ok-flow-in-Const
returns-in_ok-flow-in-Const c = λ unit held.
    subst (λ (i : Instr). Did (parts_of c.args.program.now) c.args.pool.now unit i c.args.isolate.now c.args.frame.now c.args.turns.now c.in_ok-flow-in-Const.flow c.constant.new.isolate c.constant.new.frame c.args.turns.now) (sym c.in-Const.is)
    (c.in_ok-flow-in-Const.ensures c.args.turns.now (parts_of c.args.program.now) c.args.pool.now unit held)

pub returns-in_ok-flow-in-Local : goal.returns-in_ok-flow-in-Local
returns-in_ok-flow-in-Local c = λ unit held.
    subst (λ (i : Instr). Did (parts_of c.args.program.now) c.args.pool.now unit i c.args.isolate.now c.args.frame.now c.args.turns.now c.in_ok-flow-in-Local.flow c.local.new.isolate c.local.new.frame c.args.turns.now) (sym c.in-Local.is)
    (c.in_ok-flow-in-Local.ensures c.args.turns.now (parts_of c.args.program.now) c.args.pool.now unit held)

pub returns-in_ok-flow-in-Global : goal.returns-in_ok-flow-in-Global
returns-in_ok-flow-in-Global c = λ unit held.
    subst (λ (i : Instr). Did (parts_of c.args.program.now) c.args.pool.now unit i c.args.isolate.now c.args.frame.now c.args.turns.now c.in_ok-flow-in-Global.flow c.global.new.isolate c.global.new.frame c.args.turns.now) (sym c.in-Global.is)
    (c.in_ok-flow-in-Global.ensures c.args.turns.now (parts_of c.args.program.now) c.args.pool.now unit held)

pub returns-in_ok-flow-in-Dup : goal.returns-in_ok-flow-in-Dup
returns-in_ok-flow-in-Dup c = λ unit held.
    subst (λ (i : Instr). Did (parts_of c.args.program.now) c.args.pool.now unit i c.args.isolate.now c.args.frame.now c.args.turns.now c.in_ok-flow-in-Dup.flow c.dup.new.isolate c.dup.new.frame c.args.turns.now) (sym c.in-Dup.is)
    (c.in_ok-flow-in-Dup.ensures c.args.turns.now (parts_of c.args.program.now) c.args.pool.now unit held)

pub returns-in_ok-flow-in-Dup2 : goal.returns-in_ok-flow-in-Dup2
returns-in_ok-flow-in-Dup2 c = λ unit held.
    subst (λ (i : Instr). Did (parts_of c.args.program.now) c.args.pool.now unit i c.args.isolate.now c.args.frame.now c.args.turns.now c.in_ok-flow-in-Dup2.flow c.dup_two.new.isolate c.dup_two.new.frame c.args.turns.now) (sym c.in-Dup2.is)
    (c.in_ok-flow-in-Dup2.ensures c.args.turns.now (parts_of c.args.program.now) c.args.pool.now unit held)

pub returns-in_ok-flow-in-Not : goal.returns-in_ok-flow-in-Not
returns-in_ok-flow-in-Not c = λ unit held.
    subst (λ (i : Instr). Did (parts_of c.args.program.now) c.args.pool.now unit i c.args.isolate.now c.args.frame.now c.args.turns.now c.in_ok-flow-in-Not.flow c.not.new.isolate c.not.new.frame c.args.turns.now) (sym c.in-Not.is)
    (c.in_ok-flow-in-Not.ensures c.args.turns.now (parts_of c.args.program.now) c.args.pool.now unit held)

pub returns-in_ok-flow-in-Return : goal.returns-in_ok-flow-in-Return
returns-in_ok-flow-in-Return c = λ unit held.
    subst (λ (i : Instr). Did (parts_of c.args.program.now) c.args.pool.now unit i c.args.isolate.now c.args.frame.now c.args.turns.now c.in_ok-flow-in-Return.flow c.give_back.new.isolate c.give_back.new.frame c.args.turns.now) (sym c.in-Return.is)
    (c.in_ok-flow-in-Return.ensures c.args.turns.now (parts_of c.args.program.now) c.args.pool.now unit held)

pub returns-in_ok-flow-in-ElementOr : goal.returns-in_ok-flow-in-ElementOr
returns-in_ok-flow-in-ElementOr c = λ unit held.
    subst (λ (i : Instr). Did (parts_of c.args.program.now) c.args.pool.now unit i c.args.isolate.now c.args.frame.now c.args.turns.now c.in_ok-flow-in-ElementOr.flow c.element_or.new.isolate c.element_or.new.frame c.args.turns.now) (sym c.in-ElementOr.is)
    (c.in_ok-flow-in-ElementOr.ensures c.args.turns.now (parts_of c.args.program.now) c.args.pool.now unit held)

pub returns-in-SetLocal : goal.returns-in-SetLocal
returns-in-SetLocal c = λ unit held.
    subst (λ (i : Instr). Did (parts_of c.args.program.now) c.args.pool.now unit i c.args.isolate.now c.args.frame.now c.args.turns.now c.set_local.result c.set_local.new.isolate c.set_local.new.frame c.args.turns.now) (sym c.in-SetLocal.is)
    (c.set_local.ensures c.args.turns.now (parts_of c.args.program.now) c.args.pool.now unit held)

pub returns-in-SetGlobal : goal.returns-in-SetGlobal
returns-in-SetGlobal c = λ unit held.
    subst (λ (i : Instr). Did (parts_of c.args.program.now) c.args.pool.now unit i c.args.isolate.now c.args.frame.now c.args.turns.now c.set_global.result c.set_global.new.isolate c.set_global.new.frame c.args.turns.now) (sym c.in-SetGlobal.is)
    (c.set_global.ensures c.args.turns.now (parts_of c.args.program.now) c.args.pool.now unit held)

pub returns-in-Pop : goal.returns-in-Pop
returns-in-Pop c = λ unit held.
    subst (λ (i : Instr). Did (parts_of c.args.program.now) c.args.pool.now unit i c.args.isolate.now c.args.frame.now c.args.turns.now c.pop.result c.pop.new.isolate c.pop.new.frame c.args.turns.now) (sym c.in-Pop.is)
    (c.pop.ensures c.args.turns.now (parts_of c.args.program.now) c.args.pool.now unit held)

pub returns-in-Jump : goal.returns-in-Jump
returns-in-Jump c = λ unit held.
    subst (λ (i : Instr). Did (parts_of c.args.program.now) c.args.pool.now unit i c.args.isolate.now c.args.frame.now c.args.turns.now c.jump.result c.jump.new.isolate c.jump.new.frame c.args.turns.now) (sym c.in-Jump.is)
    (c.jump.ensures c.args.turns.now (parts_of c.args.program.now) c.args.pool.now unit held)

pub returns-in-JumpIfFalse : goal.returns-in-JumpIfFalse
returns-in-JumpIfFalse c = λ unit held.
    subst (λ (i : Instr). Did (parts_of c.args.program.now) c.args.pool.now unit i c.args.isolate.now c.args.frame.now c.args.turns.now c.jump_if_false.result c.jump_if_false.new.isolate c.jump_if_false.new.frame c.args.turns.now) (sym c.in-JumpIfFalse.is)
    (c.jump_if_false.ensures c.args.turns.now (parts_of c.args.program.now) c.args.pool.now unit held)

pub returns-in-ExpectBool : goal.returns-in-ExpectBool
returns-in-ExpectBool c = λ unit held.
    subst (λ (i : Instr). Did (parts_of c.args.program.now) c.args.pool.now unit i c.args.isolate.now c.args.frame.now c.args.turns.now c.expect_bool.result c.expect_bool.new.isolate c.expect_bool.new.frame c.args.turns.now) (sym c.in-ExpectBool.is)
    (c.expect_bool.ensures c.args.turns.now (parts_of c.args.program.now) c.args.pool.now unit held)

pub returns-in-SetField : goal.returns-in-SetField
returns-in-SetField c = λ unit held.
    subst (λ (i : Instr). Did (parts_of c.args.program.now) c.args.pool.now unit i c.args.isolate.now c.args.frame.now c.args.turns.now c.set_field.result c.set_field.new.isolate c.set_field.new.frame c.args.turns.now) (sym c.in-SetField.is)
    (c.set_field.ensures c.args.turns.now (parts_of c.args.program.now) c.args.pool.now unit held)

pub returns-in-ExpectString : goal.returns-in-ExpectString
returns-in-ExpectString c = λ unit held.
    subst (λ (i : Instr). Did (parts_of c.args.program.now) c.args.pool.now unit i c.args.isolate.now c.args.frame.now c.args.turns.now c.expect_text.result c.expect_text.new.isolate c.expect_text.new.frame c.args.turns.now) (sym c.in-ExpectString.is)
    (c.expect_text.ensures c.args.turns.now (parts_of c.args.program.now) c.args.pool.now unit held)

pub returns-in-LoopTurn : goal.returns-in-LoopTurn
returns-in-LoopTurn c = λ unit held.
    subst (λ (i : Instr). Did (parts_of c.args.program.now) c.args.pool.now unit i c.args.isolate.now c.args.frame.now c.args.turns.now c.loop_turn.result c.loop_turn.new.isolate c.loop_turn.new.frame c.loop_turn.new.turns) (sym c.in-LoopTurn.is)
    (c.loop_turn.ensures (parts_of c.args.program.now) c.args.pool.now unit held)

pub returns-in_ok-flow-in-Throw : goal.returns-in_ok-flow-in-Throw
returns-in_ok-flow-in-Throw c = λ unit held.
    subst (λ (i : Instr). Did (parts_of c.args.program.now) c.args.pool.now unit i c.args.isolate.now c.args.frame.now c.args.turns.now c.in_ok-flow-in-Throw.flow c.throw.new.isolate c.args.frame.now c.args.turns.now) (sym c.in-Throw.is)
    (c.in_ok-flow-in-Throw.ensures c.args.pool.now unit c.args.frame.now c.args.turns.now held)

pub returns-in_ok-make_list-in-MakeList : goal.returns-in_ok-make_list-in-MakeList
returns-in_ok-make_list-in-MakeList c = λ unit held.
    subst (λ (i : Instr). Did (parts_of c.args.program.now) c.args.pool.now unit i c.args.isolate.now c.args.frame.now c.args.turns.now flow.Here c.make_list.new.isolate (next c.args.frame.now) c.args.turns.now) (sym c.in-MakeList.is)
    (c.in_ok-make_list-in-MakeList.ensures c.args.frame.now c.args.turns.now (parts_of c.args.program.now) c.args.pool.now unit held)

pub returns-in_ok-concat-in-Concat : goal.returns-in_ok-concat-in-Concat
returns-in_ok-concat-in-Concat c = λ unit held.
    subst (λ (i : Instr). Did (parts_of c.args.program.now) c.args.pool.now unit i c.args.isolate.now c.args.frame.now c.args.turns.now flow.Here c.concat.new.isolate (next c.args.frame.now) c.args.turns.now) (sym c.in-Concat.is)
    (c.in_ok-concat-in-Concat.ensures c.args.frame.now c.args.turns.now (parts_of c.args.program.now) c.args.pool.now unit held)

pub returns-in_ok-emit-in-Emit : goal.returns-in_ok-emit-in-Emit
returns-in_ok-emit-in-Emit c = λ unit held.
    subst (λ (i : Instr). Did (parts_of c.args.program.now) c.args.pool.now unit i c.args.isolate.now c.args.frame.now c.args.turns.now flow.Here c.emit.new.isolate (next c.args.frame.now) c.args.turns.now) (sym c.in-Emit.is)
    (c.in_ok-emit-in-Emit.ensures c.args.frame.now c.args.turns.now (parts_of c.args.program.now) c.args.pool.now unit held)

pub returns-in_ok-flow-in-CallStatic : goal.returns-in_ok-flow-in-CallStatic
returns-in_ok-flow-in-CallStatic c = λ unit held.
    subst (λ (i : Instr). Did (parts_of c.args.program.now) c.args.pool.now unit i c.args.isolate.now c.args.frame.now c.args.turns.now c.in_ok-flow-in-CallStatic.flow c.enter.new.isolate c.enter.new.frame c.enter.new.turns) (sym c.in-CallStatic.is)
    (statics c.in-CallStatic.k c.in-CallStatic.n c.static_target-u.result (parts_of c.args.program.now) c.args.pool.now unit c.args.isolate.now c.enter.new.isolate c.args.frame.now c.enter.new.frame c.args.turns.now c.enter.new.turns c.in_ok-flow-in-CallStatic.flow
    (subst (λ (i : Instr). Needs (parts_of c.args.program.now) c.args.pool.now i c.args.isolate.now c.args.frame.now c.args.turns.now) c.in-CallStatic.is c.requires.needs).1 c.static_target-u.ensures c.in_ok-flow-in-CallStatic.ensures held)

pub returns-in_ok-flow-in-CallMethod : goal.returns-in_ok-flow-in-CallMethod
returns-in_ok-flow-in-CallMethod c = λ unit held.
    subst (λ (i : Instr). Did (parts_of c.args.program.now) c.args.pool.now unit i c.args.isolate.now c.args.frame.now c.args.turns.now c.in_ok-flow-in-CallMethod.flow c.call_method.new.isolate c.call_method.new.frame c.call_method.new.turns) (sym c.in-CallMethod.is)
    (methods c.in-CallMethod.m c.in-CallMethod.n (parts_of c.args.program.now) c.args.pool.now unit c.args.isolate.now c.call_method.new.isolate c.args.frame.now c.call_method.new.frame c.args.turns.now c.call_method.new.turns c.in_ok-flow-in-CallMethod.flow
    (subst (λ (i : Instr). Needs (parts_of c.args.program.now) c.args.pool.now i c.args.isolate.now c.args.frame.now c.args.turns.now) c.in-CallMethod.is c.requires.needs).1 c.in_ok-flow-in-CallMethod.ensures held)

pub enter-requires-clause-takes : goal.enter-requires-clause-takes
enter-requires-clause-takes c = ((subst (λ (i : Instr). Needs (parts_of c.args.program.now) c.args.pool.now i c.args.isolate.now c.args.frame.now c.args.turns.now) c.in-CallStatic.is c.requires.needs).2 c.static_target-u.result c.static_target-u.ensures).1

pub make_object-requires-clause-open : goal.make_object-requires-clause-open
make_object-requires-clause-open c = (subst (λ (i : Instr). Needs (parts_of c.args.program.now) c.args.pool.now i c.args.isolate.now c.args.frame.now c.args.turns.now) c.in-New.is c.requires.needs).0

pub make_object-requires-clause-concrete : goal.make_object-requires-clause-concrete
make_object-requires-clause-concrete c = (subst (λ (i : Instr). Needs (parts_of c.args.program.now) c.args.pool.now i c.args.isolate.now c.args.frame.now c.args.turns.now) c.in-New.is c.requires.needs).1

pub make_object-requires-clause-there : goal.make_object-requires-clause-there
make_object-requires-clause-there c = (subst (λ (i : Instr). Needs (parts_of c.args.program.now) c.args.pool.now i c.args.isolate.now c.args.frame.now c.args.turns.now) c.in-New.is c.requires.needs).2

pub returns-in_ok-make_object-in-New : goal.returns-in_ok-make_object-in-New
returns-in_ok-make_object-in-New c = λ unit held.
    subst (λ (i : Instr). Did (parts_of c.args.program.now) c.args.pool.now unit i c.args.isolate.now c.args.frame.now c.args.turns.now flow.Here c.make_object.new.isolate (next c.args.frame.now) c.args.turns.now) (sym c.in-New.is)
    (c.in_ok-make_object-in-New.ensures c.args.pool.now unit c.args.frame.now c.args.turns.now held)
