-- Laws of what each member has, and of members of two lists together.
use Rattle.std.proofs.Common.{◌≡◌, List, [], ◌∷◌, ◌++◌, sym, subst, ⊎_elim, inl, inr}
use Rattle.list_members.specs.Members.{Each, Has}

module _ {A : Type 0} where
  pub each_map : (P Q : A → Type 0) (l : List A) → ((a : A) → P a → Q a) → Each P l → Each Q l
  each_map P Q [] f h = tt
  each_map P Q (x ∷ xs) f h = (f x h.0, each_map P Q xs f h.1)

  pub each_append : (P : A → Type 0) (l m : List A) → Each P l → Each P m → Each P (l ++ m)
  each_append P [] m h k = k
  each_append P (x ∷ xs) m h k = (h.0, each_append P xs m h.1 k)

  pub each_has : (P : A → Type 0) (l : List A) (a : A) → Has a l → Each P l → P a
  each_has P [] a h k = absurd h
  each_has P (x ∷ xs) a h k = ⊎_elim (λ (e : a ≡ x). subst P (sym e) k.0) (λ (t : Has a xs). each_has P xs a t k.1) h

  pub has_left : (l m : List A) (a : A) → Has a l → Has a (l ++ m)
  has_left [] m a h = absurd h
  has_left (x ∷ xs) m a h = ⊎_elim (λ (e : a ≡ x). inl e) (λ (t : Has a xs). inr (has_left xs m a t)) h

  pub has_right : (l m : List A) (a : A) → Has a m → Has a (l ++ m)
  has_right [] m a h = h
  has_right (x ∷ xs) m a h = inr (has_right xs m a h)
