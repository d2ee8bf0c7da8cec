-- The list of the names of classes has each known class once.
use Rattle.std.proofs.Common.{◌≡◌, ℕ, zero, suc, ◌≤◌, inl, inr, Bool, true, false, not, ◌&&◌, List, [], ◌∷◌, length, Option, Some, option_map, unwrap_or, bytes_eq, refl, sym, ◌∙◌, ap, subst, arith, map-id}
use Rattle.std.specs.Prelude.{flat_map}
use Rattle.std.specs.List.{list_any}
use Rattle.dart_syntax.specs.declared.tree.Name.{Name}
use Rattle.dart_syntax.specs.Syntax.{ClassDecl, Tree}
use Rattle.dart_values.specs.Values.{Text}
use Rattle.dart_meaning.specs.Classes.{classes, class_count, class_names, built_in_names, object, parent, parent_of, children, preorder, chain, if_so}
use Rattle.accepted_trees.proofs.classes.Lists.{In, NoTwice, same_text, text_self, in_front, in_back, in_either, in_map, from_map, in_flat, from_flat, in_kept, from_kept, twice_both, twice_flat, twice_kept, no_more, any_in}
use Rattle.accepted_trees.proofs.classes.ClassRules.{KeepsClasses, name_of, user_names}
use Rattle.accepted_trees.proofs.classes.WaysEnd.{Known, known_names, known_count, user_class, user_known, built_in_known}
use Rattle.accepted_trees.proofs.classes.Chains.{depth, depth_few, parent_open, in_self, in_further, deeper, depth_le, same_depth, by_parents}

abbrev is_child : Tree → Text → ClassDecl → Option Text
is_child tree x c = if_so (bytes_eq (unwrap_or (parent tree c.name.text) []) x) c.name.text

so_if : (b : Bool) (x y : Text) → if_so b x ≡ Some y → (b ≡ true) × (x ≡ y)
so_if true x y e = (refl, cc)
so_if false x y e = absurd cc

abbrev all_apart : List Text → Bool
all_apart [] = true
all_apart (x ∷ xs) = not (list_any (bytes_eq x) xs) && all_apart xs

twice_tested : (xs : List Text) → all_apart xs ≡ true → NoTwice xs
twice_tested [] h = tt
twice_tested (x ∷ xs) h = elim (list_any (bytes_eq x) xs) as (λ b. list_any (bytes_eq x) xs ≡ b → (not b && all_apart xs) ≡ true → NoTwice (x ∷ xs)) [
  | true ↦ λ e k. absurd cc
  | false ↦ λ e k. (λ m. (let no : true ≡ false = sym (any_in xs x m) ∙ e in absurd cc), twice_tested xs k)
] refl h

pub built_in_twice : NoTwice built_in_names
built_in_twice = twice_tested built_in_names refl

module _ (tree : Tree) (keeps : KeepsClasses tree) where
  -- each class of the user's has one above it
  pub user_parent : (x : Text) → In x (user_names tree) → (z : Text) × (parent tree x ≡ Some z)
  user_parent x m =
      let r = from_map name_of x (classes tree) m in
      (unwrap_or (option_map (λ (n : Name). n.text) r.0.parent) object, sym (ap (parent tree) r.2) ∙ ap (λ o. parent_of o r.0.name.text) (user_class tree keeps r.0 r.1))

  pub child_of : (x y : Text) → In y (children tree x) → In y (user_names tree) × (parent tree y ≡ Some x)
  child_of x y h =
      let r = from_kept (is_child tree x) y (classes tree) h in
      let s = so_if (bytes_eq (unwrap_or (parent tree r.0.name.text) []) x) r.0.name.text y r.2 in
      let user : In y (user_names tree) = subst (λ z. In z (user_names tree)) s.1 (in_map name_of r.0 (classes tree) r.1) in
      let up = user_parent y user in
      let at : unwrap_or (parent tree y) [] ≡ x = ap (λ z. unwrap_or (parent tree z) []) (sym s.1) ∙ same_text (unwrap_or (parent tree r.0.name.text) []) x s.0 in
      (user, up.1 ∙ ap Some (sym (ap (λ o. unwrap_or o []) up.1) ∙ at))

  child_in : (x y : Text) → In y (user_names tree) → parent tree y ≡ Some x → In y (children tree x)
  child_in x y user up =
      let r = from_map name_of y (classes tree) user in
      let at : unwrap_or (parent tree r.0.name.text) [] ≡ x = ap (λ z. unwrap_or (parent tree z) []) r.2 ∙ ap (λ o. unwrap_or o []) up in
      in_kept (is_child tree x) y r.0 (classes tree) r.1
      (ap (λ b. if_so b r.0.name.text) (ap (λ z. bytes_eq z x) at ∙ text_self x) ∙ ap Some r.2)

  children_twice : (x : Text) → NoTwice (children tree x)
  children_twice x =
      subst NoTwice (map-id (children tree x))
      (twice_kept (is_child tree x) name_of (λ y. y) (classes tree) keeps.differ (λ c y e. (so_if (bytes_eq (unwrap_or (parent tree c.name.text) []) x) c.name.text y e).1))

  pub child_known : (x y : Text) → In y (children tree x) → Known tree y
  child_known x y h = user_known tree keeps y (child_of x y h).0

  child_deep : (x y : Text) → In y (children tree x) → depth tree y ≡ suc (depth tree x)
  child_deep x y h = deeper tree keeps y x (child_known x y h) (child_of x y h).1

  -- what stands in the order below a class has that class above it
  pub order_above : (n : ℕ) (x y : Text) → Known tree x → In y (preorder n tree x) → Known tree y × In x (chain tree y)
  order_above zero x y known h = absurd h
  order_above (suc n) x y known (inl e) = (subst (Known tree) e known, subst (λ z. In x (chain tree z)) e (in_self tree keeps x known))
  order_above (suc n) x y known (inr h) =
      let r = from_flat (preorder n tree) y (children tree x) h in
      let s = order_above n r.0 y (child_known x r.0 r.1) r.2 in
      (s.0, in_further tree keeps y r.0 x s.0 s.1 (child_of x r.0 r.1).1)

  order_user : (n : ℕ) (x y : Text) → In x (user_names tree) → In y (preorder n tree x) → In y (user_names tree)
  order_user zero x y user h = absurd h
  order_user (suc n) x y user (inl e) = subst (λ z. In z (user_names tree)) e user
  order_user (suc n) x y user (inr h) = let r = from_flat (preorder n tree) y (children tree x) h in order_user n r.0 y (child_of x r.0 r.1).0 r.2

  order_twice : (n : ℕ) (x : Text) → Known tree x → NoTwice (preorder n tree x)
  order_twice zero x known = tt
  order_twice (suc n) x known = (
    λ h.
        let r = from_flat (preorder n tree) x (children tree x) h in
        let s = order_above n r.0 x (child_known x r.0 r.1) r.2 in
        let le = depth_le tree keeps x r.0 known s.1 in
        let more = child_deep x r.0 r.1 in
        absurd (omega arith),
    twice_flat (preorder n tree) (children tree x) (children_twice x) (λ z m. order_twice n z (child_known x z m))
        (λ a c b m k ha hc.
        let s = order_above n a b (child_known x a m) ha in
        let t = order_above n c b (child_known x c k) hc in
        same_depth tree keeps b a c s.0 s.1 t.1 (child_deep x a m ∙ sym (child_deep x c k))),
  )

  -- the classes below Object that are the user's
  abbrev user_order : List Text
  user_order = flat_map (preorder (class_count tree) tree) (children tree object)

  order_child : (n : ℕ) (x y w : Text) → In y (preorder n tree x) → In w (children tree y) → In w (preorder (suc n) tree x)
  order_child zero x y w h k = absurd h
  order_child (suc n) x y w (inl e) k = inr (in_flat (preorder (suc n) tree) w w (children tree x) (subst (λ z. In w (children tree z)) (sym e) k) (inl refl))
  order_child (suc n) x y w (inr h) k =
      let r = from_flat (preorder n tree) y (children tree x) h in
      inr (in_flat (preorder (suc n) tree) w r.0 (children tree x) r.1 (order_child n r.0 y w r.2 k))

  ordered : (x : Text) → Known tree x → In x (user_names tree) → (n : ℕ) → depth tree x ≤ n → In x (flat_map (preorder n tree) (children tree object))
  ordered =
      by_parents tree keeps (λ x. In x (user_names tree) → (n : ℕ) → depth tree x ≤ n → In x (flat_map (preorder n tree) (children tree object)))
      (λ x known up user n le. let p = user_parent x user in one x p.0 known user p.1 (deeper tree keeps x p.0 known p.1) (up p.0 p.1) n le)
    where
      one : (x z : Text) → Known tree x → In x (user_names tree) → parent tree x ≡ Some z → depth tree x ≡ suc (depth tree z)
          → (In z (user_names tree) → (n : ℕ) → depth tree z ≤ n → In z (flat_map (preorder n tree) (children tree object))) → (n : ℕ) → depth tree x ≤ n → In x (flat_map (preorder n tree) (children tree object))
      one x z known user p deep up zero le = absurd (omega arith)
      one x z known user p deep up (suc n) le = elim (parent_open tree keeps x z p) [
        | inl e ↦ in_flat (preorder (suc n) tree) x x (children tree object) (child_in object x user (p ∙ ap Some e)) (inl refl)
        | inr m ↦
            let r = from_flat (preorder n tree) z (children tree object) (up m n (omega arith)) in
            in_flat (preorder (suc n) tree) x r.0 (children tree object) r.1 (order_child n r.0 z x r.2 (child_in z x user p))
      ]

  pub in_names : (x : Text) → Known tree x → In x (class_names tree)
  in_names x known = elim (in_either x built_in_names (user_names tree) known) [
    | inl b ↦ in_front x built_in_names user_order b
    | inr u ↦ in_back x built_in_names user_order (ordered x known u (class_count tree) (depth_few tree x))
  ]

  order_is_user : (x : Text) → In x user_order → In x (user_names tree)
  order_is_user x h = let r = from_flat (preorder (class_count tree) tree) x (children tree object) h in order_user (class_count tree) r.0 x (child_of object r.0 r.1).0 r.2

  pub from_names : (x : Text) → In x (class_names tree) → Known tree x
  from_names x h = elim (in_either x built_in_names user_order h) [
    | inl b ↦ built_in_known tree keeps x b
    | inr u ↦ user_known tree keeps x (order_is_user x u)
  ]

  -- No class has two numbers.
  pub names_twice : NoTwice (class_names tree)
  names_twice = twice_both built_in_names user_order built_in_twice (order_twice (suc (class_count tree)) object (built_in_known tree keeps object (inl refl))).1 (λ x b u. keeps.apart x (order_is_user x u) b)

  -- There are as many numbers as classes.
  pub names_count : length (class_names tree) ≡ class_count tree
  names_count =
      let fewer = no_more (class_names tree) (known_names tree) names_twice from_names in
      let more = no_more (known_names tree) (class_names tree) (twice_both built_in_names (user_names tree) built_in_twice keeps.differ (λ x b u. keeps.apart x u b)) in_names in
      let total = known_count tree keeps in
      omega arith
