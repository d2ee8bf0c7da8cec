-- Strings in order, one more at a time.
use Rattle.std.proofs.Common.{◌≡◌, ℕ, ◌+◌, ◌<◌, List, [], ◌∷◌, ◌++◌, length, take, get_or, refl, sym, ◌∙◌, ap, append_assoc}
use Rattle.std.proofs.lemmas.List.{map-append, take_more}
use Rattle.dart_values.specs.declared.value.Value.{Value}
use Rattle.dart_values.specs.Values as m
use Rattle.dart_values.specs.Values.{Text, null, bool, num, text, at}
use Rattle.dart_values.specs.Reads.{joined}
use Rattle.dart_values.specs.Store.{value_in, values_in}

pub joined-append : (xs ys : List m.Value) → joined (xs ++ ys) ≡ joined xs ++ joined ys
joined-append [] ys = refl
joined-append (null ∷ xs) ys = joined-append xs ys
joined-append (bool b ∷ xs) ys = joined-append xs ys
joined-append (num z ∷ xs) ys = joined-append xs ys
joined-append (text units ∷ xs) ys = ap (λ rest. units ++ rest) (joined-append xs ys) ∙ sym (append_assoc units (joined xs) (joined ys))
joined-append (at a ∷ xs) ys = joined-append xs ys

pub joined_more : (texts : List Text) (parts : List Value) (i : ℕ) (d : Value) → i < length parts
    → joined (values_in texts (take (i + 1) parts)) ≡ joined (values_in texts (take i parts)) ++ joined (value_in texts (get_or parts i d) ∷ [])
joined_more texts parts i d h =
    rw (take_more parts i d h, map-append (value_in texts) (take i parts) (get_or parts i d ∷ [])) (joined-append (values_in texts (take i parts)) (value_in texts (get_or parts i d) ∷ []))
