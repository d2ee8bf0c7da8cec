-- **BadReturnPlace.** `return` with a value in a constructor; `break` or `continue` outside a loop. The place is that word.
use Rattle.std.specs.Prelude.{Bool, true, false, not, None}
use Rattle.dart_syntax.specs.Syntax.{Tree}
use Rattle.dart_meaning.specs.Uses.{Use, leaves_loop, returns_value, Part, Kind, of_function, of_member, of_passed, of_constructor}
use Rattle.static_rules.specs.Places.{Fault, at_if}
use Rattle.static_rules.specs.InParts.{in_parts}

abbrev pub is_constructor_body : Kind → Bool
is_constructor_body of_function = false
is_constructor_body of_member = false
is_constructor_body of_passed = false
is_constructor_body of_constructor = true

-- where one use breaks the rule
abbrev pub misplaced : Part → Use → Fault
misplaced part (leaves_loop at is_open) = at_if (not is_open) at
misplaced part (returns_value at) = at_if (is_constructor_body part.kind) at
misplaced part _ = None

-- the first place at which the tree breaks the rule
unfoldable pub bad_return_place : Tree → Fault
bad_return_place tree = in_parts misplaced tree
