-- The variables with which a body begins, by their names.
use Rattle.std.proofs.Common.{◌≡◌, Bool, true, false, List, [], ◌∷◌, ◌++◌, map, reverse, refl, ap, sym, ◌∙◌}
use Rattle.std.specs.Prelude.{if◌then◌else◌}
use Rattle.std.proofs.lemmas.List.{map-append, reverse-append}
use Rattle.dart_syntax.specs.Syntax.{Param}
use Rattle.dart_values.specs.Values.{Text, Value}
use Rattle.dart_meaning.specs.Run.{choose}
use Rattle.dart_meaning.specs.Meaning.{Bound, bind, unnamed}
use Rattle.dart_meaning.specs.Numbering.{body_name}
use Rattle.bare_names.specs.OpenVariables.{BodiesBeginWithParameters, FieldParametersLoseTheirNames}

abbrev text_of : Param → Text
text_of k = k.name.text

reversed : {A B : Type 0} (f : A → B) (xs : List A) → map f (reverse xs) ≡ reverse (map f xs)
reversed f [] = refl
reversed f (x ∷ more) =
    ap (map f) (reverse-append (x ∷ []) more) ∙ map-append f (reverse more) (x ∷ []) ∙ ap (λ l. l ++ (f x ∷ [])) (reversed f more) ∙ sym (reverse-append (f x ∷ []) (map f more))

bound_names : (params : List Param) (args : List Value) → map (λ b. b.name) (bind params args) ≡ map text_of params
bound_names [] args = refl
bound_names (k ∷ more) [] = ap (λ l. k.name.text ∷ l) (bound_names more [])
bound_names (k ∷ more) (v ∷ args) = ap (λ l. k.name.text ∷ l) (bound_names more args)

pub begin_with_parameters : BodiesBeginWithParameters
begin_with_parameters params args = reversed (λ b. b.name) (bind params args) ∙ ap reverse (bound_names params args)

name_left : (is_field : Bool) (b : Bound) (x : Text) → b.name ≡ x → (choose is_field (record b { name = [] }) b).name ≡ (if is_field then [] else x)
name_left true b x e = refl
name_left false b x e = e

names_left : (params : List Param) (vars : List Bound) → map (λ b. b.name) vars ≡ map text_of params → map (λ b. b.name) (unnamed params vars) ≡ map body_name params
names_left [] [] e = refl
names_left [] (b ∷ vars) e = cc
names_left (k ∷ more) [] e = cc
names_left (k ∷ more) (b ∷ vars) e =
    let first : b.name ≡ k.name.text = cc in
    let rest : map (λ b. b.name) vars ≡ map text_of more = cc in
    λ i. name_left k.is_field b k.name.text first i ∷ names_left more vars rest i

pub lose_their_names : FieldParametersLoseTheirNames
lose_their_names params vars e = names_left (reverse params) vars (e ∙ sym (reversed text_of params)) ∙ reversed body_name params
