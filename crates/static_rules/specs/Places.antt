-- The first place in the text at which something is wrong.
use Rattle.std.specs.Prelude.{Bool, nat_lt, if◌then◌else◌, List, [], ◌∷◌, Option, None, Some}
use Rattle.dart_syntax.specs.declared.token.Span.{Span}

-- where a rule is broken first, if it is
abbrev pub Fault : Type 0
Fault = Option Span

-- the earlier of two places
abbrev pub before : Span → Span → Span
before a b = if nat_lt b.start a.start then b else a

infixr 5 ◌or_else◌
-- the earlier of two places, where there are any
abbrev pub ◌or_else◌ : Fault → Fault → Fault
None or_else b = b
Some a or_else None = Some a
Some a or_else Some b = Some (before a b)

-- this place, where something is wrong there
abbrev pub at_if : Bool → Span → Fault
at_if wrong place = if wrong then Some place else None

-- the first place in any of these
abbrev pub first_in : {A : Type 0} → (A → Fault) → List A → Fault
first_in f [] = None
first_in f (x ∷ more) = f x or_else first_in f more
