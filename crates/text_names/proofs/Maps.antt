-- Names that come to a set or a map.
use Rattle.std.proofs.Common.{◌≡◌, Bool, true, false, ◌||◌, cond, is_some, option_map, Option, None, Some, refl, sym, ◌∙◌, ap, subst, bytes_eq}
use Rattle.std.proofs.lemmas.Slice.Eq.{bytes_eq-Decides}
use Rattle.dart_syntax.specs.Bytes.{Text}
use Rattle.dart_meaning.specs.Classes.{if_so}
use Rattle.text_names.specs.Maps.{Known, or_first, with_first}

pub cond_or : (x b : Bool) → cond x true b ≡ (x || b)
cond_or true b = refl
cond_or false b = refl

or_none : {V : Type 0} (o : Option V) → or_first o None ≡ o
or_none None = refl
or_none (Some v) = refl

some_stays : {V : Type 0} (o : Option V) (other : Option V) → is_some o ≡ true → o ≡ or_first o other
some_stays None other h = absurd cc
some_stays (Some v) other h = refl

-- where a name is known already
pub stays_known : {V : Type 0} (known : Known V) (n : Text) (v : V) → is_some (known n) ≡ true → known ≡ with_first n v known
stays_known known n v h i q = same q i
  where
    same : (q : Text) → known q ≡ or_first (known q) (if_so (bytes_eq n q) v)
    same q = elim (bytes_eq n q) as (λ b. bytes_eq n q ≡ b → known q ≡ or_first (known q) (if_so b v)) [
      | true ↦ λ e. some_stays (known q) (Some v) (subst (λ t. is_some (known t) ≡ true) ((bytes_eq-Decides n q).0 e) h)
      | false ↦ λ e. sym (or_none (known q))
    ] refl

-- where it is new
pub comes_new : {V : Type 0} (known next : Known V) (n : Text) (v : V) → is_some (known n) ≡ false → ((q : Text) → next q ≡ cond (bytes_eq n q) (Some v) (known q)) → next ≡ with_first n v known
comes_new known next n v h each i q = (each q ∙ same q) i
  where
    none_first : (o : Option _) → is_some o ≡ false → Some v ≡ or_first o (Some v)
    none_first None e = refl
    none_first (Some u) e = absurd cc

    same : (q : Text) → cond (bytes_eq n q) (Some v) (known q) ≡ or_first (known q) (if_so (bytes_eq n q) v)
    same q = elim (bytes_eq n q) as (λ b. bytes_eq n q ≡ b → cond b (Some v) (known q) ≡ or_first (known q) (if_so b v)) [
      | true ↦ λ e. none_first (known q) (subst (λ t. is_some (known t) ≡ false) ((bytes_eq-Decides n q).0 e) h)
      | false ↦ λ e. sym (or_none (known q))
    ] refl

-- what is kept, seen otherwise
pub first_mapped : {A B : Type 0} (f : A → B) (known : Known A) (n : Text) (v : A) (w : B) → f v ≡ w → (λ (q : Text). option_map f (with_first n v known q)) ≡ with_first n w (λ q. option_map f (known q))
first_mapped f known n v w e i q = (same (known q) (bytes_eq n q) ∙ ap (λ u. or_first (option_map f (known q)) (if_so (bytes_eq n q) u)) e) i
  where
    same : (o : Option _) (b : Bool) → option_map f (or_first o (if_so b v)) ≡ or_first (option_map f o) (if_so b (f v))
    same None true = refl
    same None false = refl
    same (Some u) b = refl
