-- The instructions as a table: the operands that each takes and leaves, where it may lead, and the slot that it uses.
use Rattle.std.specs.Prelude.{ℕ, suc, true, false, None, Some}
use Rattle.code_unit.specs.declared.instr.Instr.{Instr}
use Rattle.code_unit.specs.declared.instr.Instr.TheVariants.{Const, Local, SetLocal, Global, SetGlobal, Pop, Dup, Dup2, Jump, JumpIfFalse, ExpectBool, Not, LoopTurn, Call, Equal, CallStatic, CallMethod, Return, Throw, New, SetField, MakeList, Concat, ExpectString, IsClass, Emit, ElementOr}
use Rattle.code_unit.specs.declared.effect.Effect.{Effect}

-- an instruction that goes on and does not jump, and uses no slot
abbrev pub simple : ℕ → ℕ → Effect
simple takes leaves = record { takes = takes; leaves = leaves; goes_on = true; jump = None; slot = None }

-- the same with a slot
abbrev pub with_slot : ℕ → Effect → Effect
with_slot k e = record e { slot = Some k }

-- the same with a place where it may lead as well, leaving no operand there
abbrev pub or_jump : ℕ → Effect → Effect
or_jump t e = record e { jump = Some t }

-- the same, but it does not go on
abbrev pub and_ends : Effect → Effect
and_ends e = record e { goes_on = false }

-- what each instruction takes, and what it leaves
abbrev pub effect : Instr → Effect
effect (Const k) = simple 0 1
effect (Local i) = with_slot i (simple 0 1)
effect (SetLocal i) = with_slot i (simple 1 0)
effect (Global g) = simple 0 1
effect (SetGlobal g) = simple 1 0
effect Pop = simple 1 0
effect Dup = simple 1 2
effect Dup2 = simple 2 4
effect (Jump t) = and_ends (or_jump t (simple 0 0))
effect (JumpIfFalse t) = or_jump t (simple 1 0)
effect ExpectBool = simple 1 1
effect Not = simple 1 1
effect LoopTurn = simple 0 0
effect (Call s n) = simple (suc n) 1
effect (Equal s) = simple 2 1
effect (CallStatic k n) = simple n 1
effect (CallMethod m n) = simple n 1
effect Return = and_ends (simple 1 0)
effect Throw = and_ends (simple 1 0)
effect (New c) = simple 0 1
effect (SetField f) = simple 2 0
effect (MakeList n) = simple n 1
effect (Concat n) = simple n 1
effect ExpectString = simple 1 1
effect (IsClass c) = simple 1 1
effect Emit = simple 1 0
effect (ElementOr t) = or_jump t (simple 2 2)
