-- What literals stand for, and which value a literal of a tree has.
use Rattle.std.specs.Prelude.{pos, neg_ℤ, Option, Some, None, unwrap_or}
use Rattle.std.specs.Option.{option_map}
use Rattle.dart_syntax.specs.declared.tree.Unary.{Unary}
use Rattle.dart_syntax.specs.declared.tree.Unary.TheVariants as u
use Rattle.dart_syntax.specs.Syntax as t
use Rattle.dart_syntax.specs.Syntax.{Exp}
use Rattle.program.specs.declared.literal.Literal.{Literal}
use Rattle.program.specs.declared.literal.Literal.TheVariants as l
use Rattle.dart_values.specs.Values.{Value, null, bool, num, text}
use Rattle.dart_values.specs.Numbers.{wrap}

-- the value of a literal
abbrev pub literal : Literal → Value
literal l.Null = null
literal (l.Bool b) = bool b
literal (l.Int n) = num n
literal (l.Str units) = text units

-- A minus directly before a number is part of the number: it is wrapped, and calls nothing.
abbrev pub negated : Unary → Exp → Option Literal
negated u.Minus (t.int n span) = Some (l.Int (wrap (neg_ℤ n)))
negated u.Minus (t.min_int span) = Some (l.Int (neg_ℤ (pos 9223372036854775808)))
negated _ _ = None

-- the value of a literal of a tree
abbrev pub literal_value : Exp → Value
literal_value (t.bool x span) = bool x
literal_value (t.int n span) = num n
literal_value (t.str units span) = text units
literal_value (t.unary op span e) = unwrap_or (option_map literal (negated op e)) null
literal_value _ = null

-- null where none is written
abbrev pub literal_or_null : Option Exp → Value
literal_or_null e = unwrap_or (option_map literal_value e) null
