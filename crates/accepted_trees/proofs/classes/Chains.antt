-- The classes above a class by `extends`, where each way up ends: the bound of the walk does not matter, and each class has a depth.
use Rattle.std.proofs.Common.{◌≡◌, ℕ, zero, suc, ◌+◌, ◌≤◌, ◌⊎◌, inl, inr, List, [], ◌∷◌, ◌++◌, length, drop, Option, None, Some, option_map, unwrap_or, refl, sym, ◌∙◌, ap, subst, arith}
use Rattle.std.specs.Option.{option_to_list}
use Rattle.dart_syntax.specs.Syntax.{Tree}
use Rattle.dart_values.specs.Values.{Text}
use Rattle.dart_meaning.specs.Classes.{classes, class_count, object, parent, interfaces_of, chain_from, chain, chain_above}
use Rattle.accepted_trees.proofs.classes.Lists.{In}
use Rattle.accepted_trees.proofs.classes.ClassRules.{KeepsClasses, user_names}
use Rattle.accepted_trees.proofs.classes.WaysEnd.{above_of, Known, Ends, ends, above_known, above_is, parent_object}

-- a class, if any, and those above it
abbrev pub chain_of : Tree → Option Text → List Text
chain_of tree o = unwrap_or (option_map (chain tree) o) []

-- how many classes a class has above it, itself counted
abbrev pub depth : Tree → Text → ℕ
depth tree x = length (chain tree x)

pub parent_above : (tree : Tree) (x z : Text) → parent tree x ≡ Some z → In z (above_of tree x)
parent_above tree x z e = subst (λ o. In z (option_to_list o ++ interfaces_of tree x)) (sym e) (inl refl)

tail_is : {A : Type 0} (x : A) (xs : List A) → drop 1 (x ∷ xs) ≡ xs
tail_is x [] = refl
tail_is x (y ∷ ys) = refl

-- the bound does not matter
chain_same : (tree : Tree) (n m : ℕ) (x : Text) → Ends tree n x → Ends tree m x → chain_from n tree x ≡ chain_from m tree x
chain_same tree zero m x h k = absurd h
chain_same tree (suc n) zero x h k = absurd k
chain_same tree (suc n) (suc m) x h k =
    ap (λ ys. x ∷ ys)
    ((elim (parent tree x) as (λ o. parent tree x ≡ o → unwrap_or (option_map (chain_from n tree) o) [] ≡ unwrap_or (option_map (chain_from m tree) o) []) [
      | None ↦ λ e. refl
      | Some z ↦ λ e. chain_same tree n m z (h z (parent_above tree x z e)) (k z (parent_above tree x z e))
    ]) refl)

few : (tree : Tree) (n : ℕ) (x : Text) → length (chain_from n tree x) ≤ n
few tree zero x = omega arith
few tree (suc n) x = elim (parent tree x) as (λ o. suc (length (unwrap_or (option_map (chain_from n tree) o) [])) ≤ suc n) [
  | None ↦ omega arith
  | Some z ↦ let le = few tree n z in omega arith
]

pub depth_few : (tree : Tree) (x : Text) → depth tree x ≤ class_count tree
depth_few tree x = few tree (class_count tree) x

module _ (tree : Tree) (keeps : KeepsClasses tree) where
  pub parent_known : (x z : Text) → parent tree x ≡ Some z → Known tree z
  parent_known x z e = above_known tree keeps x z (parent_above tree x z e)

  pub parent_open : (x z : Text) → parent tree x ≡ Some z → (z ≡ object) ⊎ In z (user_names tree)
  parent_open x z e = above_is tree keeps x z (parent_above tree x z e)

  count_is : class_count tree ≡ suc (6 + length (classes tree))
  count_is = omega arith

  -- a class, and then those above it
  pub chain_step : (x : Text) → Known tree x → chain tree x ≡ x ∷ chain_of tree (parent tree x)
  chain_step x known =
      let n = 6 + length (classes tree) in
      let all : Ends tree (suc n) x = subst (λ k. Ends tree k x) count_is (ends tree keeps x known) in
      ap (λ k. chain_from k tree x) count_is
      ∙ ap (λ ys. x ∷ ys)
      ((elim (parent tree x) as (λ o. parent tree x ≡ o → unwrap_or (option_map (chain_from n tree) o) [] ≡ chain_of tree o) [
        | None ↦ λ e. refl
        | Some z ↦ λ e. chain_same tree n (class_count tree) z (all z (parent_above tree x z e)) (ends tree keeps z (parent_known x z e))
      ]) refl)

  pub above_step : (x : Text) → Known tree x → chain_above tree x ≡ chain_of tree (parent tree x)
  above_step x known = ap (λ ys. drop 1 ys) (chain_step x known) ∙ tail_is x (chain_of tree (parent tree x))

  pub object_known : Known tree object
  object_known = inl refl

  pub chain_object : chain tree object ≡ object ∷ []
  chain_object = chain_step object object_known ∙ ap (λ o. object ∷ chain_of tree o) (parent_object tree keeps)

  pub chain_some : (x z : Text) → Known tree x → parent tree x ≡ Some z → chain tree x ≡ x ∷ chain tree z
  chain_some x z known e = chain_step x known ∙ ap (λ o. x ∷ chain_of tree o) e

  pub in_self : (x : Text) → Known tree x → In x (chain tree x)
  in_self x known = subst (λ ys. In x ys) (sym (chain_step x known)) (inl refl)

  pub in_up : (x y z : Text) → Known tree x → parent tree x ≡ Some z → In y (chain tree z) → In y (chain tree x)
  in_up x y z known e h = subst (λ ys. In y ys) (sym (chain_some x z known e)) (inr h)

  pub in_cases : (x y : Text) → Known tree x → In y (chain tree x) → (x ≡ y) ⊎ ((z : Text) × (parent tree x ≡ Some z) × In y (chain tree z))
  in_cases x y known h = (elim (parent tree x) as (λ o. parent tree x ≡ o → In y (x ∷ chain_of tree o) → (x ≡ y) ⊎ ((z : Text) × (parent tree x ≡ Some z) × In y (chain tree z))) [
    | None ↦ λ e k. elim k [ inl is ↦ inl is | inr m ↦ absurd m ]
    | Some z ↦ λ e k. elim k [ inl is ↦ inl is | inr m ↦ inr (z, e, m) ]
  ]) refl (subst (λ ys. In y ys) (chain_step x known) h)

  pub deeper : (x z : Text) → Known tree x → parent tree x ≡ Some z → depth tree x ≡ suc (depth tree z)
  deeper x z known e = ap (λ (ys : List Text). length ys) (chain_some x z known e)

  -- A fact of each known class, where it holds of a class if it holds of the one above it.
  up_by : (P : Text → Type 0) → ((x : Text) → Known tree x → ((z : Text) → parent tree x ≡ Some z → P z) → P x) → (n : ℕ) (x : Text) → Ends tree n x → Known tree x → P x
  up_by P step zero x h known = absurd h
  up_by P step (suc n) x h known = step x known (λ z e. up_by P step n z (h z (parent_above tree x z e)) (parent_known x z e))

  pub by_parents : (P : Text → Type 0) → ((x : Text) → Known tree x → ((z : Text) → parent tree x ≡ Some z → P z) → P x) → (x : Text) → Known tree x → P x
  by_parents P step x known = up_by P step (class_count tree) x (ends tree keeps x known) known

  pub in_known : (x y : Text) → Known tree x → In y (chain tree x) → Known tree y
  in_known x y known h =
      by_parents (λ x. In y (chain tree x) → Known tree y)
      (λ x known up m. elim (in_cases x y known m) [ inl e ↦ subst (Known tree) e known | inr r ↦ up r.0 r.1 r.2 ])
      x known h

  pub depth_le : (x y : Text) → Known tree x → In y (chain tree x) → depth tree y ≤ depth tree x
  depth_le x y known h =
      by_parents (λ x. In y (chain tree x) → depth tree y ≤ depth tree x)
      (λ x known up m. elim (in_cases x y known m) [
        | inl e ↦ let same = ap (depth tree) e in omega arith
        | inr r ↦ let le = up r.0 r.1 r.2 in let d = deeper x r.0 known r.1 in omega arith
      ])
      x known h

  -- what is above one of these is one of these
  pub in_further : (x y z : Text) → Known tree x → In y (chain tree x) → parent tree y ≡ Some z → In z (chain tree x)
  in_further x y z known h p =
      by_parents (λ x. In y (chain tree x) → In z (chain tree x))
      (λ x known up m. elim (in_cases x y known m) [
        | inl e ↦ let q : parent tree x ≡ Some z = ap (parent tree) e ∙ p in in_up x z z known q (in_self z (parent_known x z q))
        | inr r ↦ in_up x z r.0 known r.1 (up r.0 r.1 r.2)
      ])
      x known h

  -- of the classes above one, only one has a depth
  pub same_depth : (x y z : Text) → Known tree x → In y (chain tree x) → In z (chain tree x) → depth tree y ≡ depth tree z → y ≡ z
  same_depth x y z known h k d =
      by_parents (λ x. In y (chain tree x) → In z (chain tree x) → y ≡ z)
      (λ x known up m n. elim (in_cases x y known m) [
        | inl e ↦ elim (in_cases x z known n) [
          | inl f ↦ sym e ∙ f
          | inr r ↦
              let le = depth_le r.0 z (parent_known x r.0 r.1) r.2 in
              let one = deeper x r.0 known r.1 in
              let same = ap (depth tree) e in
              absurd (omega arith)
        ]
        | inr r ↦ elim (in_cases x z known n) [
          | inl f ↦
              let le = depth_le r.0 y (parent_known x r.0 r.1) r.2 in
              let one = deeper x r.0 known r.1 in
              let same = ap (depth tree) f in
              absurd (omega arith)
          | inr s ↦
              let same : Some r.0 ≡ Some s.0 = sym r.1 ∙ s.1 in
              let is : r.0 ≡ s.0 = cc in
              up r.0 r.1 r.2 (subst (λ w. In z (chain tree w)) (sym is) s.2)
        ]
      ])
      x known h k
