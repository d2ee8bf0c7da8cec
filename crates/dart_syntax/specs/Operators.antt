-- Names, and the signs that are operators of expressions.
use Rattle.std.specs.Prelude.{ℕ, Bool, true, false, List, [], ◌∷◌, Option, Some, None}
use Rattle.dart_syntax.specs.declared.token.Span.{Span}
use Rattle.dart_syntax.specs.declared.token.TokenKind.{TokenKind}
use Rattle.dart_syntax.specs.declared.token.TokenKind.TheVariants as kind
use Rattle.dart_syntax.specs.Words.{Tokens}
use Rattle.dart_syntax.specs.declared.token.Sign.{Sign}
use Rattle.dart_syntax.specs.declared.token.Sign.TheVariants as s
use Rattle.dart_syntax.specs.declared.tree.Name.{Name}
use Rattle.dart_syntax.specs.declared.tree.Unary.{Unary}
use Rattle.dart_syntax.specs.declared.tree.Unary.TheVariants as unary
use Rattle.dart_syntax.specs.declared.tree.Binary.{Binary}
use Rattle.dart_syntax.specs.declared.tree.Binary.TheVariants as binary
use Rattle.dart_syntax.specs.declared.tree.Step.{Step}
use Rattle.dart_syntax.specs.declared.tree.Step.TheVariants as step
use Rattle.dart_syntax.specs.declared.tree.Assignment.{Assignment}
use Rattle.dart_syntax.specs.declared.tree.Assignment.TheVariants as assignment

-- a name as it stands at a place
abbrev pub named : List ℕ → Span → Name
named text at = record { text = text; span = at }

-- the operator that a sign is before an operand
abbrev pub unary_of : Sign → Option Unary
unary_of s.Minus = Some unary.Minus
unary_of s.Not = Some unary.Not
unary_of s.Tilde = Some unary.Complement
unary_of _ = None

-- whether the operator is the `-`, under which the least integer may stand
abbrev pub is_minus : Unary → Bool
is_minus unary.Minus = true
is_minus unary.Not = false
is_minus unary.Complement = false

-- what the first token is
abbrev pub first_kind : Tokens → Option TokenKind
first_kind [] = None
first_kind (t ∷ ts) = Some t.kind

-- The least integer stands only behind a minus.
abbrev pub may_precede : Unary → Option TokenKind → Bool
may_precede op (Some kind.MinInt) = is_minus op
may_precede op _ = true

-- the step that a sign is, before a target or behind it
abbrev pub step_of : Sign → Option Step
step_of s.Increment = Some step.Increment
step_of s.Decrement = Some step.Decrement
step_of _ = None

-- the assignment that a sign is, with its operator
abbrev pub assignment_of : Sign → Option Assignment
assignment_of s.Assign = Some assignment.Plain
assignment_of s.PlusAssign = Some assignment.Add
assignment_of s.MinusAssign = Some assignment.Subtract
assignment_of s.StarAssign = Some assignment.Multiply
assignment_of s.DivideAssign = Some assignment.Divide
assignment_of s.PercentAssign = Some assignment.Remainder
assignment_of s.AmpersandAssign = Some assignment.BitAnd
assignment_of s.BarAssign = Some assignment.BitOr
assignment_of s.CaretAssign = Some assignment.BitXor
assignment_of s.ShiftLeftAssign = Some assignment.ShiftLeft
assignment_of s.ShiftRightAssign = Some assignment.ShiftRight
assignment_of s.ShiftUnsignedAssign = Some assignment.ShiftUnsigned
assignment_of _ = None

-- the operator that a sign is between two operands
abbrev pub binary_of : Sign → Option Binary
binary_of s.Or = Some binary.Or
binary_of s.And = Some binary.And
binary_of s.Equal = Some binary.Equal
binary_of s.NotEqual = Some binary.NotEqual
binary_of s.Less = Some binary.Less
binary_of s.LessEqual = Some binary.LessEqual
binary_of s.Greater = Some binary.Greater
binary_of s.GreaterEqual = Some binary.GreaterEqual
binary_of s.ShiftLeft = Some binary.ShiftLeft
binary_of s.ShiftRight = Some binary.ShiftRight
binary_of s.ShiftUnsigned = Some binary.ShiftUnsigned
binary_of s.Ampersand = Some binary.BitAnd
binary_of s.Bar = Some binary.BitOr
binary_of s.Caret = Some binary.BitXor
binary_of s.Plus = Some binary.Add
binary_of s.Minus = Some binary.Subtract
binary_of s.Star = Some binary.Multiply
binary_of s.Divide = Some binary.Divide
binary_of s.Percent = Some binary.Remainder
binary_of _ = None

-- the level of an operator, the tightest first
abbrev pub level : Binary → ℕ
level binary.Multiply = 1
level binary.Divide = 1
level binary.Remainder = 1
level binary.Add = 2
level binary.Subtract = 2
level binary.ShiftLeft = 3
level binary.ShiftRight = 3
level binary.ShiftUnsigned = 3
level binary.BitAnd = 4
level binary.BitXor = 5
level binary.BitOr = 6
level binary.Less = 7
level binary.LessEqual = 7
level binary.Greater = 7
level binary.GreaterEqual = 7
level binary.Equal = 8
level binary.NotEqual = 8
level binary.And = 9
level binary.Or = 10
