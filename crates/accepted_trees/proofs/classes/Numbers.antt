-- The numbers of classes: each known class has one, Object has 0, built-in classes have those below 7, and a class has a greater one than those above it.
use Rattle.std.proofs.Common.{◌≡◌, ℕ, zero, suc, ◌<◌, ◌≤◌, ◌⊎◌, inl, inr, true, false, not, nat_eq, List, [], ◌∷◌, ◌++◌, length, drop, Option, None, Some, slice_get, unwrap_or, bytes_eq, refl, sym, ◌∙◌, ap, subst, arith, append_assoc, append-nil}
use Rattle.std.specs.Prelude.{flat_map}
use Rattle.std.proofs.lemmas.Bool.Decides.{nat_tests}
use Rattle.std.proofs.lemmas.Bool.{cases_lt}
use Rattle.std.proofs.lemmas.Option.{slice_get_within, get_or_from_slice_get, slice_get-get_or}
use Rattle.dart_syntax.specs.Syntax.{Tree}
use Rattle.dart_values.specs.Values.{Text}
use Rattle.dart_meaning.specs.Classes.{classes, class_count, class_names, class_name, class_number, class_numbers, built_in_names, object, parent, parent_of, children, preorder, chain, if_so}
use Rattle.accepted_trees.proofs.classes.Lists.{In, same_text, text_self, other_text, in_either, get_in, in_get, spot_at, position_spot}
use Rattle.accepted_trees.proofs.classes.ClassRules.{KeepsClasses, user_names, named_none}
use Rattle.accepted_trees.proofs.classes.WaysEnd.{Known, parent_object, user_known, built_in_known}
use Rattle.accepted_trees.proofs.classes.Chains.{parent_known, chain_object, in_self, in_up, in_cases, in_further, by_parents}
use Rattle.accepted_trees.proofs.classes.EachClassOnce.{built_in_twice, in_names, from_names, names_twice, names_count, child_of, child_known, user_parent}

front_get : {A : Type 0} (xs ys : List A) (i : ℕ) (a : A) → slice_get xs i ≡ Some a → slice_get (xs ++ ys) i ≡ Some a
front_get [] ys i a e = absurd cc
front_get (x ∷ xs) ys zero a e = e
front_get (x ∷ xs) ys (suc i) a e = front_get xs ys i a e

front_in : {A : Type 0} (xs ys : List A) (i : ℕ) (a : A) → slice_get (xs ++ ys) i ≡ Some a → i < length xs → In a xs
front_in [] ys i a e lt = absurd (omega arith)
front_in (x ∷ xs) ys zero a e lt = let is : x ≡ a = cc in inl is
front_in (x ∷ xs) ys (suc i) a e lt = inr (front_in xs ys i a e (omega arith))

-- the class above one is among those of another one
abbrev ParentIn : Tree → Option Text → Text → Type 0
ParentIn tree None b = ⊥
ParentIn tree (Some z) b = In z (chain tree b)

-- each of these has the class above it among those of the one before it
abbrev Linked : Tree → Text → List Text → Type 0
Linked tree b [] = Unit {0}
Linked tree b (x ∷ xs) = ParentIn tree (parent tree x) b × Linked tree x xs

linked_at : (tree : Tree) (b : Text) (xs : List Text) (i : ℕ) (x y : Text) → Linked tree b xs → slice_get (b ∷ xs) i ≡ Some x → slice_get (b ∷ xs) (suc i) ≡ Some y → ParentIn tree (parent tree y) x
linked_at tree b [] i x y h e f = absurd cc
linked_at tree b (c ∷ xs) zero x y h e f =
    let one : b ≡ x = cc in
    let two : c ≡ y = cc in
    subst (λ z. ParentIn tree (parent tree y) z) one (subst (λ z. ParentIn tree (parent tree z) b) two h.0)
linked_at tree b (c ∷ xs) (suc i) x y h e f = linked_at tree c xs i x y h.1 e f

module _ (tree : Tree) (keeps : KeepsClasses tree) where
  abbrev names : List Text
  names = class_names tree

  pub number_at : (i : ℕ) (x : Text) → slice_get names i ≡ Some x → class_number tree x ≡ i
  number_at i x e = ap (λ o. unwrap_or o 0) (position_spot (bytes_eq x) names ∙ spot_at names i x (names_twice tree keeps) e)

  pub number_get : (x : Text) → Known tree x → slice_get names (class_number tree x) ≡ Some x
  number_get x known = let r = in_get names x (in_names tree keeps x known) in ap (slice_get names) (number_at r.0 x r.1) ∙ r.1

  pub number_within : (x : Text) → Known tree x → class_number tree x < class_numbers tree
  number_within x known = slice_get_within names (class_number tree x) x (number_get x known)

  -- The class of a class's number is that class.
  pub name_number : (x : Text) → Known tree x → class_name tree (class_number tree x) ≡ x
  name_number x known = get_or_from_slice_get names (class_number tree x) x [] (number_get x known)

  pub name_get : (c : ℕ) → c < class_numbers tree → slice_get names c ≡ Some (class_name tree c)
  name_get c lt = slice_get-get_or names c [] lt

  -- The number of a number's class is that number.
  pub number_name : (c : ℕ) → c < class_numbers tree → class_number tree (class_name tree c) ≡ c
  number_name c lt = number_at c (class_name tree c) (name_get c lt)

  pub name_known : (c : ℕ) → c < class_numbers tree → Known tree (class_name tree c)
  name_known c lt = from_names tree keeps (class_name tree c) (get_in names c (class_name tree c) (name_get c lt))

  pub numbers_count : class_numbers tree ≡ class_count tree
  numbers_count = names_count tree keeps

  pub number_same : (x y : Text) → Known tree x → Known tree y → class_number tree x ≡ class_number tree y → x ≡ y
  number_same x y known other e = sym (name_number x known) ∙ ap (class_name tree) e ∙ name_number y other

  -- Numbers are the same where names are.
  pub same_numbers : (x y : Text) → Known tree x → Known tree y → nat_eq (class_number tree x) (class_number tree y) ≡ bytes_eq x y
  same_numbers x y known other = elim (bytes_eq x y) as (λ b. bytes_eq x y ≡ b → nat_eq (class_number tree x) (class_number tree y) ≡ b) [
    | true ↦ λ e. equal (class_number tree x) (class_number tree y) (ap (class_number tree) (same_text x y e))
    | false ↦ λ e. unequal (class_number tree x) (class_number tree y) (λ is.
        let no : true ≡ false = sym (text_self y) ∙ sym (ap (λ z. bytes_eq z y) (number_same x y known other is)) ∙ e in
        absurd cc)
  ] refl
    where
      equal : (n m : ℕ) → n ≡ m → nat_eq n m ≡ true
      equal n m e = grind (arith, nat_tests)

      unequal : (n m : ℕ) → (n ≡ m → ⊥) → nat_eq n m ≡ false
      unequal n m e = grind (arith, nat_tests)

  pub object_number : class_number tree object ≡ 0
  object_number = number_at 0 object refl

  pub built_in_number : (i : ℕ) (x : Text) → slice_get built_in_names i ≡ Some x → class_number tree x ≡ i
  built_in_number i x e = number_at i x (front_get built_in_names (flat_map (preorder (class_count tree) tree) (children tree object)) i x e)

  pub built_in_below : (x : Text) → In x built_in_names → class_number tree x < 7
  built_in_below x m =
      let r = in_get built_in_names x m in
      let is = built_in_number r.0 x r.1 in
      let lt : r.0 < 7 = slice_get_within built_in_names r.0 x r.1 in
      omega arith

  pub user_number : (x : Text) → In x (user_names tree) → 7 ≤ class_number tree x
  user_number x m = elim (low_or_not (class_number tree x)) [
    | inl lt ↦ absurd (keeps.apart x m (front_in built_in_names (flat_map (preorder (class_count tree) tree) (children tree object)) (class_number tree x) x (number_get x (user_known tree keeps x m)) lt))
    | inr le ↦ le
  ]
    where
      low_or_not : (n : ℕ) → (n < 7) ⊎ (7 ≤ n)
      low_or_not n = cases_lt n 7

  -- ---- each class comes behind the one above it

  abbrev MayFollow : Text → List Text → Type 0
  MayFollow x rest = (c : Text) → Known tree c → In x (chain tree c) → Linked tree c rest

  abbrev Goes : ℕ → Text → Type 0
  Goes n x = (u b : Text) (rest : List Text) → Known tree x → parent tree x ≡ Some u → Known tree b → In u (chain tree b) → MayFollow u rest → Linked tree b (preorder n tree x ++ rest)

  linked_list : (n : ℕ) → ((z : Text) → Goes n z) → (x b : Text) (zs rest : List Text) → ((z : Text) → In z zs → In z (children tree x)) → Known tree b → In x (chain tree b) → MayFollow x rest → Linked tree b (flat_map (preorder n tree) zs ++ rest)
  linked_list n goes x b [] rest all known above more = more b known above
  linked_list n goes x b (z ∷ zs) rest all known above more =
      subst (λ xs. Linked tree b xs) (sym (append_assoc (preorder n tree z) (flat_map (preorder n tree) zs) rest))
      (goes z x b (flat_map (preorder n tree) zs ++ rest) (child_known tree keeps x z (all z (inl refl))) (child_of tree keeps x z (all z (inl refl))).1 known above
      (λ c there up. linked_list n goes x c zs rest (λ w m. all w (inr m)) there up more))

  linked_below : (n : ℕ) (x : Text) → Goes n x
  linked_below zero x u b rest known up there above more = more b there above
  linked_below (suc n) x u b rest known up there above more = (
    subst (λ o. ParentIn tree o b) (sym up) above,
    linked_list n (linked_below n) x x (children tree x) rest (λ z m. m) known (in_self tree keeps x known) (λ c at h. more c at (in_further tree keeps c x u at h up)),
  )

  pub built_in_parent : (x : Text) → In x built_in_names → bytes_eq x object ≡ false → parent tree x ≡ Some object
  built_in_parent x m other = ap (λ o. parent_of o x) (named_none (classes tree) x (λ user. keeps.apart x user m)) ∙ ap (λ b. if_so (not b) object) other

  pub rootless : (x : Text) → Known tree x → parent tree x ≡ None → x ≡ object
  rootless x known e = elim (in_either x built_in_names (user_names tree) known) [
    | inl m ↦ elim (bytes_eq x object) as (λ b. bytes_eq x object ≡ b → x ≡ object) [
      | true ↦ λ is. same_text x object is
      | false ↦ λ other. let some = built_in_parent x m other in let no : None ≡ Some object = sym e ∙ some in absurd cc
    ] refl
    | inr m ↦ let r = user_parent tree keeps x m in let no : None ≡ Some r.0 = sym e ∙ r.1 in absurd cc
  ]

  pub object_in : (x : Text) → Known tree x → In object (chain tree x)
  object_in = by_parents tree keeps (λ x. In object (chain tree x))
      (λ x known up. elim (parent tree x) as (λ o. parent tree x ≡ o → In object (chain tree x)) [
        | None ↦ λ e. subst (λ z. In object (chain tree z)) (sym (rootless x known e)) (subst (λ ys. In object ys) (sym (chain_object tree keeps)) (inl refl))
        | Some z ↦ λ e. in_up tree keeps x object z known e (up z e)
      ] refl)

  built_in_linked : (x b : Text) → In x built_in_names → bytes_eq x object ≡ false → In b built_in_names → ParentIn tree (parent tree x) b
  built_in_linked x b m other k = subst (λ o. ParentIn tree o b) (sym (built_in_parent x m other)) (object_in b (built_in_known tree keeps b k))

  abbrev user_order : List Text
  user_order = flat_map (preorder (class_count tree) tree) (children tree object)

  user_linked : (b : Text) → In b built_in_names → Linked tree b user_order
  user_linked b m =
      let known = built_in_known tree keeps b m in
      subst (λ xs. Linked tree b xs) (append-nil user_order)
      (linked_list (class_count tree) (linked_below (class_count tree)) object b (children tree object) [] (λ z k. k) known (object_in b known) (λ c at h. tt))

  built_in_all : (b : Text) (xs : List Text) → In b built_in_names → ((x : Text) → In x xs → In x built_in_names × (bytes_eq x object ≡ false)) → Linked tree b (xs ++ user_order)
  built_in_all b [] m all = user_linked b m
  built_in_all b (x ∷ xs) m all = let here = all x (inl refl) in (built_in_linked x b here.0 here.1 m, built_in_all x xs here.0 (λ z k. all z (inr k)))

  below_object : (x : Text) → In x (drop 1 built_in_names) → In x built_in_names × (bytes_eq x object ≡ false)
  below_object x m = (inr m, other_text x object (λ is. (built_in_twice).0 (subst (λ z. In z (drop 1 built_in_names)) is m)))

  all_linked : Linked tree object (drop 1 built_in_names ++ user_order)
  all_linked = built_in_all object (drop 1 built_in_names) (inl refl) below_object

  -- the class above one is among those of the class with the number before
  pub linked : (i : ℕ) (x z : Text) → slice_get names (suc i) ≡ Some x → parent tree x ≡ Some z → In z (chain tree (class_name tree i))
  linked i x z at up =
      let lt : suc i < class_numbers tree = slice_get_within names (suc i) x at in
      let here : slice_get names i ≡ Some (class_name tree i) = name_get i (omega arith) in
      subst (λ o. ParentIn tree o (class_name tree i)) up (linked_at tree object (drop 1 built_in_names ++ user_order) i (class_name tree i) x all_linked here at)

  -- No class above one has a greater number.
  lower : (n i : ℕ) → i < n → (b u : Text) → slice_get names i ≡ Some b → In u (chain tree b) → class_number tree u ≤ i
  lower zero i lt b u at h = absurd (omega arith)
  lower (suc n) zero lt b u at h =
      let is : object ≡ b = cc in
      let one : In u (object ∷ []) = subst (λ ys. In u ys) (ap (chain tree) (sym is) ∙ chain_object tree keeps) h in
      elim one [
        | inl e ↦ let zero_is = ap (class_number tree) (sym e) ∙ object_number in omega arith
        | inr m ↦ absurd m
      ]
  lower (suc n) (suc i) lt b u at h = elim (in_cases tree keeps b u (from_names tree keeps b (get_in names (suc i) b at)) h) [
    | inl e ↦ let is = number_at (suc i) u (at ∙ ap Some e) in omega arith
    | inr r ↦
        let within : suc i < class_numbers tree = slice_get_within names (suc i) b at in
        let low = lower n i (omega arith) (class_name tree i) r.0 (name_get i (omega arith)) (linked i b r.0 at r.1) in
        let more = lower n (class_number tree r.0) (omega arith) r.0 u (number_get r.0 (parent_known tree keeps b r.0 r.1)) r.2 in
        omega arith
  ]

  pub number_falls : (x z : Text) → Known tree x → parent tree x ≡ Some z → class_number tree z < class_number tree x
  number_falls x z known up = at_place (class_number tree x) (number_get x known)
    where
      at_place : (i : ℕ) → slice_get names i ≡ Some x → class_number tree z < i
      at_place zero at =
          let is : object ≡ x = cc in
          let no : None ≡ Some z = sym (parent_object tree keeps) ∙ ap (parent tree) is ∙ up in
          absurd cc
      at_place (suc i) at =
          let within : suc i < class_numbers tree = slice_get_within names (suc i) x at in
          let low = lower (suc i) i (omega arith) (class_name tree i) z (name_get i (omega arith)) (linked i x z at up) in
          omega arith
