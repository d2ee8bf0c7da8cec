-- What is set in a map and put back.
use Rattle.std.proofs.Common.{◌≡◌, true, false, if◌then◌else◌, Option, refl, ap, bytes_eq}
use Rattle.std.proofs.lemmas.Slice.Eq.{bytes_eq-Decides}
use Rattle.dart_syntax.specs.Bytes.{Text}
use Rattle.body_numbers.specs.Maps.{Meanings, with_meaning}

-- Where a name gets a meaning and then the one that it had, nothing has changed.
pub set_and_back : {V : Type 0} (n : Text) (v : Option V) (m : Meanings V) → with_meaning n (m n) (with_meaning n v m) ≡ m
set_and_back n v m = λ i q. same q i
  where
    same : (q : Text) → with_meaning n (m n) (with_meaning n v m) q ≡ m q
    same q = elim (bytes_eq n q) as (λ b. bytes_eq n q ≡ b → (if b then m n else (if b then v else m q)) ≡ m q) [
      | true ↦ λ h. ap m ((bytes_eq-Decides n q).0 h)
      | false ↦ λ h. refl
    ] refl
