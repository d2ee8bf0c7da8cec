-- The earlier of places.
use Rattle.std.proofs.Common.{◌≡◌, None, Some, refl, ap, arith}
use Rattle.std.proofs.lemmas.Bool.Decides.{nat_tests}
use Rattle.dart_syntax.specs.declared.token.Span.{Span}
use Rattle.static_rules.specs.Places.{Fault, before, ◌or_else◌}

before_assoc : (a b c : Span) → before (before a b) c ≡ before a (before b c)
before_assoc a b c = grind (arith, nat_tests)

pub or_else_assoc : (a b c : Fault) → (a or_else b) or_else c ≡ a or_else (b or_else c)
or_else_assoc None b c = refl
or_else_assoc (Some a) None c = refl
or_else_assoc (Some a) (Some b) None = refl
or_else_assoc (Some a) (Some b) (Some c) = ap Some (before_assoc a b c)

pub or_else_none : (a : Fault) → (a or_else None) ≡ a
or_else_none None = refl
or_else_none (Some a) = refl
