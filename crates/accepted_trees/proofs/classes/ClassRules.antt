-- What the rules on classes say, where they are kept: names of classes that differ, and names of superclasses that are known.
use Rattle.std.proofs.Common.{◌≡◌, ◌⊎◌, inl, inr, Bool, true, false, not, ◌||◌, ◌&&◌, List, [], ◌∷◌, map, Option, None, Some, is_some, bytes_eq, refl, sym, ◌∙◌, ap, subst}
use Rattle.std.specs.Prelude.{filter_map}
use Rattle.std.specs.List.{list_any}
use Rattle.dart_syntax.specs.declared.token.Span.{Span}
use Rattle.dart_syntax.specs.declared.tree.Name.{Name}
use Rattle.dart_syntax.specs.Syntax as t
use Rattle.dart_syntax.specs.Syntax.{Top, ClassDecl, Tree}
use Rattle.dart_values.specs.Values.{Text}
use Rattle.dart_meaning.specs.Classes.{classes, class_at, class_named, built_in_names, object, is_subtype, first_some, if_so}
use Rattle.dart_meaning.specs.Means.{top_name, is_built_in, is_class, print_name}
use Rattle.static_rules.specs.Places.{Fault, at_if, ◌or_else◌, first_in}
use Rattle.static_rules.specs.Repeats.{Before, repeated, with_name}
use Rattle.static_rules.specs.DuplicateName.{duplicate_name, in_top}
use Rattle.static_rules.specs.Supers.{supers, unknown_super, is_above_itself, cycle_in_super, is_closed, super_is_builtin}
use Rattle.accepted_trees.proofs.classes.Lists.{In, NoTwice, same_text, texts_differ, other_text, in_map, from_map, from_kept, twice_kept, any_in}

-- ---- places

pub none_both : (a b : Fault) → (a or_else b) ≡ None → (a ≡ None) × (b ≡ None)
none_both None b e = (refl, e)
none_both (Some x) None e = absurd cc
none_both (Some x) (Some y) e = absurd cc

pub none_in : {A : Type 0} (f : A → Fault) (xs : List A) → first_in f xs ≡ None → (a : A) → In a xs → f a ≡ None
none_in f [] e a h = absurd h
none_in f (x ∷ xs) e a (inl is) = sym (ap f is) ∙ (none_both (f x) (first_in f xs) e).0
none_in f (x ∷ xs) e a (inr m) = none_in f xs (none_both (f x) (first_in f xs) e).1 a m

pub none_if : (wrong : Bool) (place : Span) → at_if wrong place ≡ None → wrong ≡ false
none_if true place e = absurd cc
none_if false place e = refl

neither : (a b : Bool) → (a || b) ≡ false → (a ≡ false) × (b ≡ false)
neither true b e = absurd cc
neither false b e = (refl, e)

-- names that are not there before, and of which none stands twice
pub none_twice : (seen : Before) (ns : List Name) → repeated seen ns ≡ None → ((q : Text) → In q (map (λ (n : Name). n.text) ns) → seen q ≡ false) × NoTwice (map (λ (n : Name). n.text) ns)
none_twice seen [] e = (λ q h. absurd h, tt)
none_twice seen (n ∷ more) e =
    let both = none_both (at_if (seen n.text) n.span) (repeated (with_name n.text seen) more) e in
    let rest = none_twice (with_name n.text seen) more both.1 in
    let first = none_if (seen n.text) n.span both.0 in (
      λ q h. elim h [
        | inl is ↦ ap seen (sym is) ∙ first
        | inr m ↦ (neither (bytes_eq n.text q) (seen q) (rest.0 q m)).1
      ],
      (λ m. texts_differ n.text n.text (neither (bytes_eq n.text n.text) (seen n.text) (rest.0 n.text m)).0 refl, rest.1),
    )

-- ---- classes by their names

abbrev pub name_of : ClassDecl → Text
name_of c = c.name.text

-- the names of the user's classes
abbrev pub user_names : Tree → List Text
user_names tree = map name_of (classes tree)

abbrev pub first_named : List ClassDecl → Text → Option ClassDecl
first_named cs q = first_some (map (λ (c : ClassDecl). if_so (bytes_eq c.name.text q) c) cs)

pub named_is : (cs : List ClassDecl) (q : Text) (c : ClassDecl) → first_named cs q ≡ Some c → In c cs × (c.name.text ≡ q)
named_is [] q c e = absurd cc
named_is (d ∷ cs) q c e = elim (bytes_eq d.name.text q) as (λ b. bytes_eq d.name.text q ≡ b → first_some (if_so b d ∷ map (λ (c : ClassDecl). if_so (bytes_eq c.name.text q) c) cs) ≡ Some c → In c (d ∷ cs) × (c.name.text ≡ q)) [
  | true ↦ λ t is. let same : d ≡ c = cc in (inl same, sym (ap name_of same) ∙ same_text d.name.text q t)
  | false ↦ λ f is. let r = named_is cs q c is in (inr r.0, r.1)
] refl e

pub named_first : (cs : List ClassDecl) (c : ClassDecl) → NoTwice (map name_of cs) → In c cs → first_named cs c.name.text ≡ Some c
named_first [] c n h = absurd h
named_first (d ∷ cs) c n h = elim (bytes_eq d.name.text c.name.text) as (λ b. bytes_eq d.name.text c.name.text ≡ b → first_some (if_so b d ∷ map (λ (k : ClassDecl). if_so (bytes_eq k.name.text c.name.text) k) cs) ≡ Some c) [
  | true ↦ λ t. elim h [
    | inl is ↦ ap Some is
    | inr m ↦ absurd (n.0 (subst (λ z. In z (map name_of cs)) (sym (same_text d.name.text c.name.text t)) (in_map name_of c cs m)))
  ]
  | false ↦ λ f. elim h [
    | inl is ↦ absurd (texts_differ d.name.text c.name.text f (ap name_of is))
    | inr m ↦ named_first cs c n.1 m
  ]
] refl

-- where no class has a name, none is found
pub named_none : (cs : List ClassDecl) (q : Text) → (In q (map name_of cs) → ⊥) → first_named cs q ≡ None
named_none [] q n = refl
named_none (d ∷ cs) q n =
    ap (λ b. first_some (if_so b d ∷ map (λ (c : ClassDecl). if_so (bytes_eq c.name.text q) c) cs)) (other_text d.name.text q (λ e. n (inl e)))
    ∙ named_none cs q (λ m. n (inr m))

-- ---- what is true of the classes of a tree that keeps the rules

pub record KeepsClasses (tree : Tree) : Type 0 where
  pub differ : NoTwice (user_names tree)
  pub apart : (x : Text) → In x (user_names tree) → In x built_in_names → ⊥
  -- only Object and the user's classes are named
  pub known : (c : ClassDecl) (n : Name) → In c (classes tree) → In n (supers c) → (n.text ≡ object) ⊎ In n.text (user_names tree)
  pub no_cycle : (c : ClassDecl) (n : Name) → In c (classes tree) → In n (supers c) → is_subtype tree n.text c.name.text ≡ false

pub map_twice : {A B C : Type 0} (f : A → B) (g : B → C) (xs : List A) → map g (map f xs) ≡ map (λ x. g (f x)) xs
map_twice f g [] = refl
map_twice f g (x ∷ xs) = ap (λ ys. g (f x) ∷ ys) (map_twice f g xs)

class_name_is : (top : Top) (c : ClassDecl) → class_at top ≡ Some c → (top_name top).text ≡ c.name.text
class_name_is (t.a_class d) c e = let is : d ≡ c = cc in ap name_of is
class_name_is (t.a_function f) c e = absurd cc
class_name_is (t.a_variable v) c e = absurd cc

pub class_is_top : (tops : List Top) (x : Text) → In x (map name_of (filter_map class_at tops)) → In x (map (λ (n : Name). n.text) (map top_name tops))
class_is_top tops x h =
    let r = from_map name_of x (filter_map class_at tops) h in
    let s = from_kept class_at r.0 tops r.1 in
    subst (λ z. In z (map (λ (n : Name). n.text) (map top_name tops))) (class_name_is s.0 r.0 s.2 ∙ r.2)
    (subst (λ (zs : List Text). In (top_name s.0).text zs) (sym (map_twice top_name (λ (n : Name). n.text) tops)) (in_map (λ (top : Top). (top_name top).text) s.0 tops s.1))

all_not : (a b : Bool) → (a && not b) ≡ false → a ≡ true → b ≡ true
all_not a true e h = refl
all_not true false e h = absurd cc
all_not false false e h = absurd cc

pub not_false : (b : Bool) → not b ≡ false → b ≡ true
not_false true e = refl
not_false false e = absurd cc

pub none_any : {A : Type 0} (q : A → Bool) (xs : List A) → list_any q xs ≡ false → (a : A) → In a xs → q a ≡ false
none_any q [] e a h = absurd h
none_any q (x ∷ xs) e a (inl is) = ap q (sym is) ∙ (neither (q x) (list_any q xs) e).0
none_any q (x ∷ xs) e a (inr m) = none_any q xs (neither (q x) (list_any q xs) e).1 a m

pub keeps_classes : (tree : Tree) → duplicate_name tree ≡ None → unknown_super tree ≡ None → cycle_in_super tree ≡ None → super_is_builtin tree ≡ None → KeepsClasses tree
unfolding duplicate_name unknown_super cycle_in_super super_is_builtin
keeps_classes tree names supers_known none_above free =
    let both = none_both (repeated is_built_in (map top_name tree.tops)) (first_in in_top tree.tops) names in
    let told = none_twice is_built_in (map top_name tree.tops) both.0 in
    record {
      differ = twice_kept class_at (λ (top : Top). (top_name top).text) name_of tree.tops (subst NoTwice (map_twice top_name (λ (n : Name). n.text) tree.tops) told.1) class_name_is;
      apart = λ x user built.
          let no_built = (neither (list_any (bytes_eq x) built_in_names) (bytes_eq print_name x) (told.0 x (class_is_top tree.tops x user))).0 in
          let yes_built = any_in built_in_names x built in
          let no_way : true ≡ false = sym yes_built ∙ no_built in absurd cc;
      known = λ c n among named.
          let is_known = not_false (is_class tree n.text) (none_if (not (is_class tree n.text)) n.span (none_in (λ (n : Name). at_if (not (is_class tree n.text)) n.span) (supers c) (none_in (λ (c : ClassDecl). first_in (λ (n : Name). at_if (not (is_class tree n.text)) n.span) (supers c)) (classes tree) supers_known c among) n named)) in
          let not_closed = none_if (is_closed n) n.span (none_in (λ (n : Name). at_if (is_closed n) n.span) (supers c) (none_in (λ (c : ClassDecl). first_in (λ (n : Name). at_if (is_closed n) n.span) (supers c)) (classes tree) free c among) n named) in
          elim (class_named tree n.text) as (λ o. class_named tree n.text ≡ o → (is_some o || list_any (bytes_eq n.text) built_in_names) ≡ true → (n.text ≡ object) ⊎ In n.text (user_names tree)) [
            | None ↦ λ e h. inl (same_text n.text object (all_not (list_any (bytes_eq n.text) built_in_names) (bytes_eq n.text object) not_closed h))
            | Some d ↦ λ e h. let r = named_is (classes tree) n.text d e in inr (subst (λ z. In z (user_names tree)) r.1 (in_map name_of d (classes tree) r.0))
          ] refl is_known;
      no_cycle = λ c n among named.
          none_any (λ (n : Name). is_subtype tree n.text c.name.text) (supers c) (none_if (is_above_itself tree c) c.name.span (none_in (λ (c : ClassDecl). at_if (is_above_itself tree c) c.name.span) (classes tree) none_above c among)) n named;
    }
