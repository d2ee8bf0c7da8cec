-- Ways up by `extends` and `implements`: each of them ends.
use Rattle.std.proofs.Common.{◌≡◌, ℕ, zero, suc, ◌+◌, ◌<◌, ◌⊎◌, inl, inr, Bool, true, false, not, ◌||◌, List, [], ◌∷◌, ◌++◌, length, map, Option, None, Some, option_map, unwrap_or, bytes_eq, refl, sym, ◌∙◌, ap, subst, arith, length-append}
use Rattle.std.specs.Option.{option_to_list}
use Rattle.std.specs.List.{list_any}
use Rattle.std.proofs.lemmas.List.{length-map}
use Rattle.dart_syntax.specs.declared.tree.Name.{Name}
use Rattle.dart_syntax.specs.Syntax.{ClassDecl, Tree}
use Rattle.dart_values.specs.Values.{Text}
use Rattle.dart_meaning.specs.Classes.{classes, class_count, class_named, built_in_names, object, parent, parent_of, interfaces_of, is_subtype_from, if_so}
use Rattle.static_rules.specs.Supers.{supers}
use Rattle.accepted_trees.proofs.classes.Lists.{In, NoTwice, text_self, in_front, in_back, in_map, from_map, no_more}
use Rattle.accepted_trees.proofs.classes.ClassRules.{KeepsClasses, name_of, user_names, named_is, named_first, named_none}

-- the names directly above a class
abbrev pub above_of : Tree → Text → List Text
above_of tree x = option_to_list (parent tree x) ++ interfaces_of tree x

abbrev pub known_names : Tree → List Text
known_names tree = built_in_names ++ user_names tree

abbrev pub Known : Tree → Text → Type 0
Known tree x = In x (known_names tree)

-- b is reached from a in so many steps up
abbrev pub Way : Tree → ℕ → Text → Text → Type 0
Way tree zero a b = a ≡ b
Way tree (suc n) a b = (c : Text) × In c (above_of tree a) × Way tree n c b

-- each way up from a name has fewer steps than this
abbrev pub Ends : Tree → ℕ → Text → Type 0
Ends tree zero x = ⊥
Ends tree (suc n) x = (y : Text) → In y (above_of tree x) → Ends tree n y

some_any : (q : Text → Bool) (xs : List Text) (a : Text) → In a xs → q a ≡ true → list_any q xs ≡ true
some_any q [] a h e = absurd h
some_any q (x ∷ xs) a (inl is) e = ap (λ b. b || list_any q xs) (ap q is ∙ e)
some_any q (x ∷ xs) a (inr m) e = elim (q x) as (λ b. (b || list_any q xs) ≡ true) [ true ↦ refl | false ↦ some_any q xs a m e ]

or_second : (a b : Bool) → b ≡ true → (a || b) ≡ true
or_second true b e = refl
or_second false b e = e

-- a way of few steps is one that the definition walks
reached : (tree : Tree) (n m : ℕ) (a b : Text) → Way tree n a b → n < m → is_subtype_from m tree a b ≡ true
reached tree n zero a b w lt = absurd (omega arith)
reached tree zero (suc m) a b w lt = ap (λ t. t || list_any (λ c. is_subtype_from m tree c b) (above_of tree a)) (ap (λ x. bytes_eq x b) w ∙ text_self b)
reached tree (suc n) (suc m) a b w lt =
    or_second (bytes_eq a b) _ (some_any (λ c. is_subtype_from m tree c b) (above_of tree a) w.0 w.1 (reached tree n m w.0 b w.2 (omega arith)))

one_more : (tree : Tree) (n : ℕ) (a b c : Text) → Way tree n a b → In c (above_of tree b) → Way tree (suc n) a c
one_more tree zero a b c w h = (c, subst (λ x. In c (above_of tree x)) (sym w) h, refl)
one_more tree (suc n) a b c w h = (w.0, w.1, one_more tree n w.0 b c w.2 h)

abbrev above_by : Option ClassDecl → Text → List Text
above_by o x = option_to_list (parent_of o x) ++ unwrap_or (option_map (λ (c : ClassDecl). map (λ (n : Name). n.text) c.interfaces) o) []

-- a class that is none of the user's has only Object above it
other_above : (x y : Text) → In y (above_by None x) → y ≡ object
other_above x y h = elim (not (bytes_eq x object)) as (λ b. In y (option_to_list (if_so b object) ++ []) → y ≡ object) [
  | true ↦ λ k. elim k [ inl e ↦ sym e | inr n ↦ absurd n ]
  | false ↦ λ k. absurd k
] h

-- one of the user's has Object or a class that it names
user_above : (c : ClassDecl) (x y : Text) → In y (above_by (Some c) x) → (y ≡ object) ⊎ ((n : Name) × In n (supers c) × (n.text ≡ y))
user_above c x y h = elim c.parent as (λ (o : Option Name). c.parent ≡ o → In y (unwrap_or (option_map (λ (n : Name). n.text) o) object ∷ map (λ (n : Name). n.text) c.interfaces) → (y ≡ object) ⊎ ((n : Name) × In n (option_to_list o ++ c.interfaces) × (n.text ≡ y))) [
  | None ↦ λ e k. elim k [ inl is ↦ inl (sym is) | inr m ↦ let r = from_map (λ (n : Name). n.text) y c.interfaces m in inr (r.0, r.1, r.2) ]
  | Some p ↦ λ e k. elim k [ inl is ↦ inr (p, inl refl, is) | inr m ↦ let r = from_map (λ (n : Name). n.text) y c.interfaces m in inr (r.0, inr r.1, r.2) ]
] refl h

module _ (tree : Tree) (keeps : KeepsClasses tree) where
  pub object_named : class_named tree object ≡ None
  object_named = named_none (classes tree) object (λ m. keeps.apart object m (inl refl))

  pub parent_object : parent tree object ≡ None
  parent_object = ap (λ o. parent_of o object) object_named

  pub above_object : above_of tree object ≡ []
  above_object = ap (λ o. above_by o object) object_named

  pub user_class : (c : ClassDecl) → In c (classes tree) → class_named tree c.name.text ≡ Some c
  user_class c among = named_first (classes tree) c keeps.differ among

  pub is_user : (x : Text) (c : ClassDecl) → class_named tree x ≡ Some c → In c (classes tree) × (c.name.text ≡ x) × In x (user_names tree)
  is_user x c e = let r = named_is (classes tree) x c e in (r.0, r.1, subst (λ z. In z (user_names tree)) r.1 (in_map name_of c (classes tree) r.0))

  pub no_object : In object (user_names tree) → ⊥
  no_object m = keeps.apart object m (inl refl)

  -- what is above a class is Object or one of the user's
  pub above_is : (x y : Text) → In y (above_of tree x) → (y ≡ object) ⊎ In y (user_names tree)
  above_is x y h = elim (class_named tree x) as (λ o. class_named tree x ≡ o → In y (above_by o x) → (y ≡ object) ⊎ In y (user_names tree)) [
    | None ↦ λ e k. inl (other_above x y k)
    | Some c ↦ λ e k. elim (user_above c x y k) [
      | inl is ↦ inl is
      | inr r ↦ elim (keeps.known c r.0 (is_user x c e).0 r.1) [
        | inl is ↦ inl (sym r.2 ∙ is)
        | inr m ↦ inr (subst (λ z. In z (user_names tree)) r.2 m)
      ]
    ]
  ] refl h

  pub user_known : (x : Text) → In x (user_names tree) → Known tree x
  user_known x m = in_back x built_in_names (user_names tree) m

  pub built_in_known : (x : Text) → In x built_in_names → Known tree x
  built_in_known x m = in_front x built_in_names (user_names tree) m

  pub above_known : (x y : Text) → In y (above_of tree x) → Known tree y
  above_known x y h = elim (above_is x y h) [
    | inl e ↦ built_in_known y (inl (sym e))
    | inr m ↦ user_known y m
  ]

  -- no way leads further from Object
  stays : (n : ℕ) (b : Text) → Way tree n object b → object ≡ b
  stays zero b w = w
  stays (suc n) b w = absurd (subst (λ xs. In w.0 xs) above_object w.1)

  -- no way of so few steps leads back
  no_way_back : (n : ℕ) (a : Text) → Way tree (suc n) a a → n < class_count tree → ⊥
  no_way_back n a w lt = elim (class_named tree a) as (λ o. class_named tree a ≡ o → In w.0 (above_by o a) → ⊥) [
    | None ↦ λ e k.
        let up : w.0 ≡ object = other_above a w.0 k in
        let at : object ≡ a = stays n a (subst (λ z. Way tree n z a) up w.2) in
        subst (λ xs. In w.0 xs) (sym (ap (above_of tree) at) ∙ above_object) w.1
    | Some c ↦ λ e k. let user = is_user a c e in elim (user_above c a w.0 k) [
      | inl up ↦ no_object (subst (λ z. In z (user_names tree)) (sym (stays n a (subst (λ z. Way tree n z a) up w.2))) user.2)
      | inr r ↦
          let none = keeps.no_cycle c r.0 user.0 r.1 in
          let some : is_subtype_from (class_count tree) tree r.0.text c.name.text ≡ true = reached tree n (class_count tree) r.0.text c.name.text (subst (λ z. Way tree n z c.name.text) (sym r.2) (subst (λ z. Way tree n w.0 z) (sym user.1) w.2)) lt in
          let no : true ≡ false = sym some ∙ none in
          absurd cc
    ]
  ] refl w.1

  pub known_count : length (known_names tree) ≡ class_count tree
  known_count = length-append built_in_names (user_names tree) ∙ ap (λ n. 7 + n) (length-map (classes tree) name_of)

  -- So many steps are left where these classes are behind, each once.
  ends_from : (m : ℕ) (behind : List Text) (y : Text) → length behind + m ≡ class_count tree → NoTwice behind → ((v : Text) → In v behind → Known tree v)
      → ((v : Text) → In v behind → (i : ℕ) × (i < length behind) × Way tree (suc i) v y) → Known tree y → Ends tree m y
  ends_from zero behind y count twice known ways is =
      let fresh : In y behind → ⊥ = (λ h. let r = ways y h in no_way_back r.0 y r.2 (omega arith)) in
      let le = no_more (y ∷ behind) (known_names tree) (fresh, twice) (λ a h. elim h [ inl e ↦ subst (Known tree) e is | inr m ↦ known a m ]) in
      let total = known_count in
      absurd (omega arith)
  ends_from (suc m) behind y count twice known ways is =
      let fresh : In y behind → ⊥ = (λ h. let r = ways y h in no_way_back r.0 y r.2 (omega arith)) in
      λ e up. ends_from m (y ∷ behind) e (omega arith) (fresh, twice) (λ a h. elim h [ inl same ↦ subst (Known tree) same is | inr k ↦ known a k ])
      (λ v h. elim h [
        | inl same ↦ (0, omega arith, (e, subst (λ z. In e (above_of tree z)) same up, refl))
        | inr k ↦ let r = ways v k in (suc r.0, (let low = r.1 in omega arith), one_more tree (suc r.0) v y e r.2 up)
      ])
      (above_known y e up)

  pub ends : (y : Text) → Known tree y → Ends tree (class_count tree) y
  ends y known = ends_from (class_count tree) [] y (omega arith) tt (λ v h. absurd h) (λ v h. absurd h) known
