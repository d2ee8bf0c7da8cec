-- Constants: literals, each once.
use Rattle.std.specs.Prelude.{ℕ, Bool, true, false, not, ◌||◌, ◌&&◌, List, [], ◌∷◌, ◌++◌, map, if◌then◌else◌}
use Rattle.std.specs.List.{list_any, position_or_len}
use Rattle.std.specs.Str.{bytes_eq}
use Rattle.std.specs.Ordering.{int_eq}
use Rattle.std.specs.Bool.{beq}
use Rattle.std.specs.HashSet.{HashSet}
use Rattle.program.specs.declared.literal.Literal.{Literal}
use Rattle.program.specs.declared.literal.Literal.TheVariants as l
use Rattle.code_writer.specs.declared.key.Key.{Key}
use Rattle.code_writer.specs.declared.key.Key.TheVariants as k

-- the literal that a key stands for
abbrev pub literal_of : Key → Literal
literal_of k.Null = l.Null
literal_of (k.Bool b) = l.Bool b
literal_of (k.Int n) = l.Int n
literal_of (k.Text units) = l.Str units.now

-- the literals that a set holds, in the order in which they came
abbrev pub held : {S : Type 0} → HashSet Key S → List Literal
held known = map literal_of known.keys

-- whether two literals are the same
abbrev pub same_literal : Literal → Literal → Bool
same_literal l.Null l.Null = true
same_literal (l.Bool a) (l.Bool b) = beq a b
same_literal (l.Int m) (l.Int n) = int_eq m n
same_literal (l.Str a) (l.Str b) = bytes_eq a b
same_literal _ _ = false

-- the place of a literal: the first that is the same
abbrev pub number_in : List Literal → Literal → ℕ
number_in constants l = position_or_len (same_literal l) constants

-- the literals with one more, unless it is there
abbrev pub with_literal : Literal → List Literal → List Literal
with_literal l constants = if list_any (same_literal l) constants then constants else constants ++ l ∷ []
