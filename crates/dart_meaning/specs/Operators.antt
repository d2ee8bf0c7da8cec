-- The operators of a tree: which member each one calls, and the name that a declared one has; a minus that is part of a number.
use Rattle.std.specs.Prelude.{ℕ, List, [], ◌∷◌, Option, Some, None, codes}
use Rattle.dart_syntax.specs.declared.tree.Binary.TheVariants as b
use Rattle.dart_syntax.specs.declared.tree.Binary.{Binary}
use Rattle.dart_syntax.specs.declared.tree.Assignment.{Assignment}
use Rattle.dart_syntax.specs.declared.tree.Assignment.TheVariants as a
use Rattle.dart_syntax.specs.declared.tree.Step.{Step}
use Rattle.dart_syntax.specs.declared.tree.Step.TheVariants as s
use Rattle.dart_syntax.specs.declared.tree.Operator.{Operator}
use Rattle.dart_syntax.specs.declared.tree.Operator.TheVariants as o
use Rattle.dart_syntax.specs.Syntax.{Param}
use Rattle.program.specs.declared.body.BinaryOperator.{BinaryOperator}
use Rattle.program.specs.declared.body.BinaryOperator.TheVariants as by
use Rattle.program.specs.declared.body.Joint.{Joint}
use Rattle.program.specs.declared.body.Joint.TheVariants as joint
use Rattle.program.specs.declared.body.OperatorCall.{OperatorCall}
use Rattle.dart_values.specs.Values.{Text}

-- the operator that a sign between two operands calls; `&&` and `||` call none
abbrev pub operator_of : Binary → Option BinaryOperator
operator_of b.Or = None
operator_of b.And = None
operator_of b.Equal = Some by.Equal
operator_of b.NotEqual = Some by.NotEqual
operator_of b.Less = Some by.Less
operator_of b.LessEqual = Some by.LessEqual
operator_of b.Greater = Some by.Greater
operator_of b.GreaterEqual = Some by.GreaterEqual
operator_of b.BitOr = Some by.BitOr
operator_of b.BitXor = Some by.BitXor
operator_of b.BitAnd = Some by.BitAnd
operator_of b.ShiftLeft = Some by.ShiftLeft
operator_of b.ShiftRight = Some by.ShiftRight
operator_of b.ShiftUnsigned = Some by.ShiftUnsigned
operator_of b.Add = Some by.Add
operator_of b.Subtract = Some by.Subtract
operator_of b.Multiply = Some by.Multiply
operator_of b.Divide = Some by.Divide
operator_of b.Remainder = Some by.Remainder

-- a call of an operator through a site
abbrev pub operator_call : BinaryOperator → ℕ → OperatorCall
operator_call op site = record { operator = op; site = record { 0 = site } }

-- an operator that is called, or else the sign's own meaning
abbrev pub joint_by : Binary → Option BinaryOperator → ℕ → Joint
joint_by op (Some called) site = joint.Operator (operator_call called site)
joint_by b.Or None site = joint.Or
joint_by _ None site = joint.And

-- a sign between two operands, as numbered programs write it
abbrev pub joint_of : Binary → ℕ → Joint
joint_of op site = joint_by op (operator_of op) site

-- the operator of `+=` and its like
abbrev pub compound : Assignment → Option BinaryOperator
compound a.Plain = None
compound a.Add = Some by.Add
compound a.Subtract = Some by.Subtract
compound a.Multiply = Some by.Multiply
compound a.Divide = Some by.Divide
compound a.Remainder = Some by.Remainder
compound a.BitAnd = Some by.BitAnd
compound a.BitOr = Some by.BitOr
compound a.BitXor = Some by.BitXor
compound a.ShiftLeft = Some by.ShiftLeft
compound a.ShiftRight = Some by.ShiftRight
compound a.ShiftUnsigned = Some by.ShiftUnsigned

-- that of `++` and `--`
abbrev pub step_operator : Step → BinaryOperator
step_operator s.Increment = by.Add
step_operator s.Decrement = by.Subtract

-- A minus that is declared without parameters has the name `unary-`.
abbrev pub minus_name : List Param → Text
minus_name [] = codes "unary-"
minus_name (_ ∷ _) = codes "-"

-- the name of a declared operator
abbrev pub operator_name : Operator → List Param → Text
operator_name o.Subtract params = minus_name params
operator_name o.Add params = codes "+"
operator_name o.Multiply params = codes "*"
operator_name o.Divide params = codes "~/"
operator_name o.Remainder params = codes "%"
operator_name o.BitAnd params = codes "&"
operator_name o.BitOr params = codes "|"
operator_name o.BitXor params = codes "^"
operator_name o.ShiftLeft params = codes "<<"
operator_name o.ShiftRight params = codes ">>"
operator_name o.ShiftUnsigned params = codes ">>>"
operator_name o.Less params = codes "<"
operator_name o.LessEqual params = codes "<="
operator_name o.Greater params = codes ">"
operator_name o.GreaterEqual params = codes ">="
operator_name o.Equal params = codes "=="
operator_name o.Complement params = codes "~"
operator_name o.Get params = codes "[]"
operator_name o.Set params = codes "[]="
