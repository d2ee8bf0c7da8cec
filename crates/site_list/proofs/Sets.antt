-- What `==` of selectors computes, and what a set of them holds.
use Rattle.std.proofs.Common.{◌≡◌, ℕ, suc, ◌+◌, true, false, not, ◌||◌, cond, List, [], ◌∷◌, ◌++◌, length, map, refl, sym, ◌∙◌, ap}
use Rattle.std.specs.Borrow.{Bor}
use Rattle.std.specs.List.{list_any, position_or_len}
use Rattle.indexmap.specs.IndexSet.{insert_key}
use Rattle.program.specs.declared.numbered.SelectorKind.{SelectorKind}
use Rattle.program.specs.declared.numbered.SelectorKind.TheVariants.{Call, Get, Set}
use Rattle.dart_syntax.specs.Syntax.{Tree}
use Rattle.dart_meaning.specs.Program.{to_string}
use Rattle.dart_meaning.specs.Sites.{Site, same_selector, also_used, each_once, text_sites, prelude_sites, selectors}
use Rattle.accepted_trees.proofs.sites.Selectors.{used_append, used_twice}
use Rattle.site_list.specs.declared.site.SourceSelector.{SourceSelector}
use Rattle.site_list.specs.declared.site.SourceSite.{SourceSite}
use Rattle.site_list.specs.contracts.site.SourceSelectorPartialEq.TheImpl as the
use Rattle.site_list.specs.SourceSites.{selector_of, listed, asked}

abbrev of : SelectorKind → Bor (List ℕ) → ℕ → SourceSelector
of kind name count = record { kind = kind; name = name; count = count }

by_kind : (a b : SelectorKind) (m n : Bor (List ℕ)) (j k : ℕ) → the.eq-value.it (of a m j) (of b n k) ≡ same_selector (selector_of (of a m j)) (selector_of (of b n k))
by_kind Call Call m n j k = refl
by_kind Call Get m n j k = refl
by_kind Call Set m n j k = refl
by_kind Get Call m n j k = refl
by_kind Get Get m n j k = refl
by_kind Get Set m n j k = refl
by_kind Set Call m n j k = refl
by_kind Set Get m n j k = refl
by_kind Set Set m n j k = refl

derived_is : (x y : SourceSelector) → the.eq-value.it x y ≡ same_selector (selector_of x) (selector_of y)
derived_is x y = by_kind x.kind y.kind x.name y.name x.count y.count

any_is : (x : SourceSelector) (xs : List SourceSelector) → list_any (the.eq-value.it x) xs ≡ list_any (same_selector (selector_of x)) (map selector_of xs)
any_is x [] = refl
any_is x (y ∷ ys) = ap (λ b. b || list_any (the.eq-value.it x) ys) (derived_is x y) ∙ ap (λ b. same_selector (selector_of x) (selector_of y) || b) (any_is x ys)

pub place_is : (x : SourceSelector) (xs : List SourceSelector) → position_or_len (the.eq-value.it x) xs ≡ position_or_len (same_selector (selector_of x)) (map selector_of xs)
place_is x [] = refl
place_is x (y ∷ ys) =
    ap (λ b. cond (not b) (1 + position_or_len (the.eq-value.it x) ys) 0) (derived_is x y)
    ∙ ap (λ n. cond (not (same_selector (selector_of x) (selector_of y))) (1 + n) 0) (place_is x ys)

map_last : {A B : Type 0} (f : A → B) (xs : List A) (x : A) → map f (xs ++ x ∷ []) ≡ map f xs ++ f x ∷ []
map_last f [] x = refl
map_last f (y ∷ ys) x = ap (λ zs. f y ∷ zs) (map_last f ys x)

-- the selectors that a set holds after one is put into it
pub held_insert : (xs : List SourceSelector) (x : SourceSelector) → map selector_of (insert_key the.eq-value.it xs x) ≡ also_used (map selector_of xs) (selector_of x ∷ [])
held_insert xs x =
    (elim (list_any (the.eq-value.it x) xs) as (λ b. map selector_of (cond b xs (xs ++ x ∷ [])) ≡ cond b (map selector_of xs) (map selector_of xs ++ selector_of x ∷ [])) [
      | true ↦ refl
      | false ↦ map_last selector_of xs x
    ])
    ∙ ap (λ b. cond b (map selector_of xs) (map selector_of xs ++ selector_of x ∷ [])) (any_is x xs)

pub asked_is : (all : List SourceSite) → asked all ≡ map (λ (s : Site). s.selector) (listed all)
asked_is [] = refl
asked_is (s ∷ more) = ap (λ ys. selector_of s.selector ∷ ys) (asked_is more)

pub map_append : {A B : Type 0} (f : A → B) (xs ys : List A) → map f (xs ++ ys) ≡ map f xs ++ map f ys
map_append f [] ys = refl
map_append f (x ∷ xs) ys = ap (λ zs. f x ∷ zs) (map_append f xs ys)

pub length_map : {A B : Type 0} (f : A → B) (xs : List A) → length (map f xs) ≡ length xs
length_map f [] = refl
length_map f (x ∷ xs) = ap suc (length_map f xs)

-- those of all sites, with `toString` last, are as many as the tree has
pub counted : (tree : Tree) (all : List SourceSite) (keys : List SourceSelector) → listed all ≡ text_sites tree → map selector_of keys ≡ also_used (also_used [] (asked all)) (to_string ∷ []) → length keys ≡ length (selectors tree)
counted tree all keys e h =
    let told : map (λ (s : Site). s.selector) (text_sites tree ++ prelude_sites) ≡ asked all ++ to_string ∷ to_string ∷ []
    = map_append (λ (s : Site). s.selector) (text_sites tree) prelude_sites ∙ ap (λ ys. ys ++ to_string ∷ to_string ∷ []) (sym (asked_is all ∙ ap (map (λ (s : Site). s.selector)) e)) in
    let uses : map selector_of keys ≡ each_once (asked all ++ to_string ∷ to_string ∷ [])
    = h ∙ sym (used_twice (also_used [] (asked all)) to_string) ∙ used_append [] (asked all) (to_string ∷ to_string ∷ []) in
    sym (length_map selector_of keys) ∙ ap length uses ∙ ap (λ ys. length (each_once ys)) (sym told)
