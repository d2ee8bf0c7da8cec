-- What is open: the innermost string is known from the last of the items.
use Rattle.std.proofs.Common.{◌≡◌, ◌-◌, ◌<◌, List, [], ◌∷◌, length, get_or, reverse, refl, ap, ◌∙◌, arith}
use Rattle.std.proofs.lemmas.List.{get_or-reverse, length-reverse}
use Rattle.dart_syntax.specs.declared.open.Open.{Open}
use Rattle.dart_syntax.specs.declared.open.Open.TheVariants as op
use Rattle.dart_syntax.specs.Tokens.{inside}

inside_first : (os : List Open) (d : Open) → 0 < length os → inside os ≡ inside (get_or os 0 d ∷ [])
inside_first [] d h = absurd (omega arith)
inside_first (op.Brace outer ∷ os) d h = refl
inside_first (op.Text q l ∷ os) d h = refl

pub inside_last : (os : List Open) (d : Open) → 0 < length os → inside (reverse os) ≡ inside (get_or os (length os - 1) d ∷ [])
inside_last os d h =
    let place : length os - 1 - 0 ≡ length os - 1 = omega arith in
    inside_first (reverse os) d (omega (arith, length-reverse os)) ∙ ap (λ o. inside (o ∷ [])) (get_or-reverse os 0 d h ∙ ap (λ i. get_or os i d) place)
