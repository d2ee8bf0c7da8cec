-- The tables of sites and selectors of the numbered program of a tree.
use Rattle.std.proofs.Common.{◌≡◌, ℕ, zero, suc, ◌+◌, ◌-◌, ◌<◌, ◌≤◌, Bool, true, false, ◌||◌, cond, nat_lt, List, [], ◌∷◌, ◌++◌, length, map, Some, None, slice_get, option_and_then, inl, inr, refl, sym, ◌∙◌, ap, subst, arith}
use Rattle.std.specs.Prelude.{IsAscii, codes}
use Rattle.std.specs.List.{AllByRecursion, list_any}
use Rattle.std.specs.List.Sorted.{IsPermutation}
use Rattle.std.proofs.lemmas.Bool.Decides.{nat_tests}
use Rattle.std.proofs.lemmas.Bool.{cases_lt, cases_eq}
use Rattle.std.proofs.lemmas.Option.{slice_get_within, slice_get_past}
use Rattle.std.proofs.lemmas.List.Sorted.{IsPermutation-map, IsPermutation-append_left, length_permutation, list_any-IsPermutation}
use Rattle.program.specs.declared.numbered.Selector.{Selector}
use Rattle.program.specs.declared.numbered.SelectorKind.TheVariants.{Call}
use Rattle.program.specs.declared.numbered.Site as numbered
use Rattle.program.specs.Parts.{Parts, selector_at}
use Rattle.program.specs.Sound.{Is}
use Rattle.program.specs.Whole.{CountsByKind, IsSelector, IsSite, IsPlaced}
use Rattle.program.proofs.Each.{ascii}
use Rattle.dart_syntax.specs.Syntax.{Tree}
use Rattle.dart_values.specs.Values.{Text}
use Rattle.dart_meaning.specs.Place.{Place, reading, writing, in_print, in_list}
use Rattle.dart_meaning.specs.Program.{to_string}
use Rattle.dart_meaning.specs.Sites.{Site, site, same_selector, also_used, sites, selectors, text_sites, prelude_sites, site_of}
use Rattle.static_rules.specs.Accepted.{Counts, counts, exceeded, first_over, most}
use Rattle.static_rules.specs.declared.rule.Limit.{Limit}
use Rattle.static_rules.specs.declared.rule.Limit.TheVariants as limit
use Rattle.dart_meaning.specs.Forms.{Form}
use Rattle.dart_meaning.specs.NumberedForm.{in_order, ordered_sites, numbered_selectors, selector_number, numbered_site, shown_place, IsNumberedOf}
use Rattle.accepted_trees.proofs.sites.Selectors.{is_in, with_one, in_used, as_many, selector_self, selector_there}
use Rattle.accepted_trees.proofs.sites.TextSites.{InText, OfText, of_text, PlacesDiffer, all_at, all_from, all_append, all_map, get_front, get_behind, get_map, order_moves, site_there, all_in_order}

-- ---- lists

or_true : (b : Bool) → (b || true) ≡ true
or_true true = refl
or_true false = refl

item_at : {A : Type 0} (xs : List A) (k : ℕ) → k < length xs → (x : A) × (slice_get xs k ≡ Some x)
item_at [] k lt = absurd (omega arith)
item_at (x ∷ xs) zero lt = (x, refl)
item_at (x ∷ xs) (suc k) lt = item_at xs k (omega arith)

pub any_from : {A : Type 0} (t : A → Bool) (xs : List A) (i : ℕ) (a : A) → slice_get xs i ≡ Some a → t a ≡ true → list_any t xs ≡ true
any_from t [] i a e h = absurd (cc)
any_from t (x ∷ xs) zero a e h = let is : x ≡ a = cc in ap (λ y. t y || list_any t xs) is ∙ ap (λ b. b || list_any t xs) h
any_from t (x ∷ xs) (suc i) a e h = let more = any_from t xs i a e h in ap (λ b. t x || b) more ∙ or_true (t x)

length_append : {A : Type 0} (xs ys : List A) → length (xs ++ ys) ≡ length xs + length ys
length_append [] ys = omega arith
length_append (x ∷ xs) ys = let h = length_append xs ys in omega (arith, h)

length_map : {A B : Type 0} (f : A → B) (xs : List A) → length (map f xs) ≡ length xs
length_map f [] = refl
length_map f (x ∷ xs) = ap suc (length_map f xs)

-- ---- how many

pub as_many_sites : (tree : Tree) → length (ordered_sites tree) ≡ length (text_sites tree) + 2
unfolding ordered_sites
as_many_sites tree = length_append (in_order (text_sites tree)) prelude_sites ∙ ap (λ n. n + 2) (length_permutation (text_sites tree) (in_order (text_sites tree)) (order_moves (text_sites tree)))

pub as_many_all : (tree : Tree) → length (sites tree) ≡ length (text_sites tree) + 2
as_many_all tree = length_append (text_sites tree) prelude_sites

pub as_many_selectors : (tree : Tree) → length (numbered_selectors tree) ≡ length (selectors tree)
unfolding numbered_selectors ordered_sites
as_many_selectors tree =
    let asked = λ (s : Site). s.selector in
    let moves : IsPermutation (text_sites tree ++ prelude_sites) (in_order (text_sites tree) ++ prelude_sites) = IsPermutation-append_left prelude_sites (text_sites tree) (in_order (text_sites tree)) (order_moves (text_sites tree)) in
    let mapped = IsPermutation-map asked (text_sites tree ++ prelude_sites) (in_order (text_sites tree) ++ prelude_sites) moves in
    as_many (map asked (in_order (text_sites tree) ++ prelude_sites)) (map asked (text_sites tree ++ prelude_sites))
    (λ x. sym (list_any-IsPermutation (same_selector x) (map asked (text_sites tree ++ prelude_sites)) (map asked (in_order (text_sites tree) ++ prelude_sites)) mapped))

-- each selector of a site is among the numbered ones
used_there : (tree : Tree) (k : ℕ) (s : Site) → slice_get (ordered_sites tree) k ≡ Some s → is_in s.selector (numbered_selectors tree) ≡ true
unfolding numbered_selectors
used_there tree k s e =
    let asked = λ (s : Site). s.selector in
    in_used s.selector [] (map asked (ordered_sites tree))
    ∙ any_from (same_selector s.selector) (map asked (ordered_sites tree)) k s.selector (get_map asked (ordered_sites tree) k s e) (selector_self s.selector)

pub has_number : (tree : Tree) (k : ℕ) (s : Site) → slice_get (ordered_sites tree) k ≡ Some s → slice_get (numbered_selectors tree) (selector_number tree s.selector) ≡ Some s.selector
has_number tree k s e = selector_there (numbered_selectors tree) s.selector (used_there tree k s e)

-- where the sites of `print` and of a list's text stand
print_there : (tree : Tree) → slice_get (ordered_sites tree) (length (text_sites tree)) ≡ Some (site in_print to_string)
unfolding ordered_sites
print_there tree =
    let l : length (text_sites tree) ≡ length (in_order (text_sites tree)) + 0 = (let h = length_permutation (text_sites tree) (in_order (text_sites tree)) (order_moves (text_sites tree)) in omega (arith, h)) in
    ap (slice_get (in_order (text_sites tree) ++ prelude_sites)) l ∙ get_behind (in_order (text_sites tree)) prelude_sites 0

list_there : (tree : Tree) → slice_get (ordered_sites tree) (length (text_sites tree) + 1) ≡ Some (site in_list to_string)
unfolding ordered_sites
list_there tree =
    let l : length (text_sites tree) + 1 ≡ length (in_order (text_sites tree)) + 1 = (let h = length_permutation (text_sites tree) (in_order (text_sites tree)) (order_moves (text_sites tree)) in omega (arith, h)) in
    ap (slice_get (in_order (text_sites tree) ++ prelude_sites)) l ∙ get_behind (in_order (text_sites tree)) prelude_sites 1

-- what is true of each site of the text is true of each number below how many there are
text_at : (tree : Tree) (P : Site → Type 0) → AllByRecursion P (text_sites tree) → (k : ℕ) → k < length (text_sites tree) → (s : Site) × (slice_get (ordered_sites tree) k ≡ Some s) × P s
unfolding ordered_sites
text_at tree P h k lt =
    let all = all_in_order P (text_sites tree) h in
    let l : k < length (in_order (text_sites tree)) = (let e = length_permutation (text_sites tree) (in_order (text_sites tree)) (order_moves (text_sites tree)) in omega (arith, e)) in
    let f = item_at (in_order (text_sites tree)) k l in
    (f.0, get_front (in_order (text_sites tree)) prelude_sites k f.0 f.1, all_at P (in_order (text_sites tree)) all k f.0 f.1)

-- ---- what is true of selectors

-- the names of what the text calls are ASCII
abbrev pub AsciiCalls : Tree → Type 0
AsciiCalls tree = (i : ℕ) (s : Site) → slice_get (text_sites tree) i ≡ Some s → IsAscii s.selector.name

abbrev Asks : Selector → Type 0
Asks sel = IsAscii sel.name × CountsByKind sel.kind sel.count

asks_each : (tree : Tree) → AsciiCalls tree → AllByRecursion (λ (s : Site). Asks s.selector) (text_sites tree)
asks_each tree names = all_from (λ (s : Site). Asks s.selector) (text_sites tree) (λ i s e. (names i s e, (all_at OfText (text_sites tree) (of_text tree) i s e).1))

pub all_used : (P : Selector → Type 0) (known uses : List Selector) → AllByRecursion P known → AllByRecursion P uses → AllByRecursion P (also_used known uses)
all_used P known [] h k = h
all_used P known (sel ∷ more) h k = all_used P (with_one known sel) more
    (elim (is_in sel known) as (λ b. AllByRecursion P (cond b known (known ++ sel ∷ []))) [
      | true ↦ h
      | false ↦ all_append P known (sel ∷ []) h (k.0, tt)
    ]) k.1

each_numbered : (tree : Tree) → AsciiCalls tree → AllByRecursion Asks (numbered_selectors tree)
unfolding numbered_selectors ordered_sites
each_numbered tree names =
    let asked = λ (s : Site). s.selector in
    let last : Asks to_string = (ascii (codes "toString") refl, tt) in
    all_used Asks [] (map asked (in_order (text_sites tree) ++ prelude_sites)) tt
    (all_map asked Asks (in_order (text_sites tree) ++ prelude_sites)
    (all_append (λ (s : Site). Asks s.selector) (in_order (text_sites tree)) prelude_sites
    (all_in_order (λ (s : Site). Asks s.selector) (text_sites tree) (asks_each tree names))
    (last, (last, tt))))

selector_each : (xs : List Selector) → AllByRecursion Asks xs → (k : ℕ) → IsSelector (slice_get xs k)
selector_each [] h k = tt
selector_each (x ∷ xs) h zero = h.0
selector_each (x ∷ xs) h (suc k) = selector_each xs h.1 k

-- ---- what keeps its limits

within : (what : Limit) (count : ℕ) (more : List (Limit × ℕ)) → first_over ((what, count) ∷ more) ≡ None → (count ≤ most what) × (first_over more ≡ None)
within what count more h = (elim (nat_lt (most what) count) as (λ b. nat_lt (most what) count ≡ b → cond b (Some (what, count)) (first_over more) ≡ None → (count ≤ most what) × (first_over more ≡ None)) [
  | true ↦ λ is e. absurd (cc)
  | false ↦ λ is e. (let le : count ≤ most what = grind (arith, nat_tests) in (le, e))
]) refl h

pub counts_within : (c : Counts) → exceeded c ≡ None → (c.selectors ≤ 2048) × (c.sites ≤ 65536)
counts_within c h =
    let last : List (Limit × ℕ) = (limit.Sites, c.sites) ∷ [] in
    let fourth : List (Limit × ℕ) = (limit.Selectors, c.selectors) ∷ last in
    let third : List (Limit × ℕ) = (limit.Functions, c.functions) ∷ fourth in
    let second : List (Limit × ℕ) = (limit.Methods, c.methods) ∷ third in
    let x = within limit.Functions c.functions fourth (within limit.Methods c.methods third (within limit.Classes c.classes second h).1).1 in
    let y = within limit.Selectors c.selectors last x.1 in
    (y.0, (within limit.Sites c.sites [] y.1).0)

-- ---- the tables of a program

module _ (text : Text) (tree : Tree) (p : Parts) (is : IsNumberedOf text tree p) where
  pub sites_are : p.sites ≡ map (numbered_site text tree) (ordered_sites tree)
  sites_are = ap (λ (f : Form). f.sites) is.form

  pub selectors_are : p.selectors ≡ numbered_selectors tree
  selectors_are = ap (λ (f : Form). f.selectors) is.form

  pub sites_length : length p.sites ≡ length (text_sites tree) + 2
  sites_length = ap length sites_are ∙ length_map (numbered_site text tree) (ordered_sites tree) ∙ as_many_sites tree

  pub selectors_length : length p.selectors ≡ length (selectors tree)
  selectors_length = ap length selectors_are ∙ as_many_selectors tree

  site_row : (k : ℕ) (s : Site) → slice_get (ordered_sites tree) k ≡ Some s → slice_get p.sites k ≡ Some (numbered_site text tree s)
  site_row k s e = ap (λ xs. slice_get xs k) sites_are ∙ get_map (numbered_site text tree) (ordered_sites tree) k s e

  selector_row : (k : ℕ) (s : Site) → slice_get (ordered_sites tree) k ≡ Some s → slice_get p.selectors (selector_number tree s.selector) ≡ Some s.selector
  selector_row k s e = ap (λ xs. slice_get xs (selector_number tree s.selector)) selectors_are ∙ has_number tree k s e

  asks : (k : ℕ) (s : Site) → slice_get (ordered_sites tree) k ≡ Some s → selector_at p k ≡ Some s.selector
  asks k s e = ap (λ o. option_and_then (λ (row : numbered.Site). slice_get p.selectors row.selector.0) o) (site_row k s e) ∙ selector_row k s e

  -- A site of the text calls its selector, at its number.
  pub calls_at : PlacesDiffer tree → (i : ℕ) (s : Site) → slice_get (text_sites tree) i ≡ Some s → selector_at p (site_of tree s.place) ≡ Some s.selector
  calls_at differ i s e = asks (site_of tree s.place) s (site_there tree differ i s e)

  pub print_site : length p.sites - 2 ≡ site_of tree in_print
  print_site = let h = sites_length in omega (arith, h)

  pub list_site : length p.sites - 1 ≡ site_of tree in_list
  list_site = let h = sites_length in omega (arith, h)

  -- ---- what is sound in them

  pub sound_selectors : AsciiCalls tree → (k : ℕ) → IsSelector (slice_get p.selectors k)
  sound_selectors names k = subst (λ xs. IsSelector (slice_get xs k)) (sym selectors_are) (selector_each (numbered_selectors tree) (each_numbered tree names) k)

  pub sound_prelude : 2 ≤ length p.sites
  sound_prelude = let h = sites_length in omega (arith, h)

  row_sound : (k : ℕ) (s : Site) → slice_get (ordered_sites tree) k ≡ Some s → IsPlaced p k (numbered_site text tree s).place → IsSite p k (slice_get p.sites k)
  row_sound k s e placed =
      subst (IsSite p k) (sym (site_row k s e)) (slice_get_within p.selectors (selector_number tree s.selector) s.selector (selector_row k s e), placed)

  to_string_at : (k : ℕ) (w : Place) → slice_get (ordered_sites tree) k ≡ Some (site w to_string) → Is Call (codes "toString") 0 (selector_at p k)
  to_string_at k w e = subst (Is Call (codes "toString") 0) (sym (asks k (site w to_string) e)) (refl, refl, refl)

  placed_at : (k : ℕ) (w : Place) → InText w → k + 2 < length p.sites → IsPlaced p k (shown_place text w)
  placed_at k (reading byte) h lt = lt
  placed_at k (writing byte) h lt = lt
  placed_at k in_print h lt = absurd h
  placed_at k in_list h lt = absurd h

  in_text_placed : (k : ℕ) (s : Site) → InText s.place → k < length (text_sites tree) → IsPlaced p k (numbered_site text tree s).place
  in_text_placed k s h lt = placed_at k s.place h (let l = sites_length in omega (arith, l))

  pub sound_sites : (k : ℕ) → IsSite p k (slice_get p.sites k)
  sound_sites k = elim (cases_lt k (length (text_sites tree))) [
    | inl lt ↦ (let f = text_at tree OfText (of_text tree) k lt in row_sound k f.0 f.1 (in_text_placed k f.0 f.2.0 lt))
    | inr ge ↦ elim (cases_eq k (length (text_sites tree))) [
      | inl e ↦ (let there = ap (slice_get (ordered_sites tree)) e ∙ print_there tree in
          row_sound k (site in_print to_string) there ((let l = sites_length in omega (arith, l)), to_string_at k in_print there))
      | inr ne ↦ elim (cases_eq k (length (text_sites tree) + 1)) [
        | inl e ↦ (let there = ap (slice_get (ordered_sites tree)) e ∙ list_there tree in
            row_sound k (site in_list to_string) there ((let l = sites_length in omega (arith, l)), to_string_at k in_list there))
        | inr more ↦ (let none = slice_get_past p.sites k (let l = sites_length in omega (arith, l)) in subst (IsSite p k) (sym none) tt)
      ]
    ]
  ]

  pub few_selectors : exceeded (counts tree) ≡ None → length p.selectors ≤ 2048
  few_selectors h = let l = selectors_length in let w = counts_within (counts tree) h in omega (arith, l, w.0)

  pub few_sites : exceeded (counts tree) ≡ None → length p.sites ≤ 65536
  few_sites h =
      let l = sites_length in
      let k = as_many_all tree in
      let w = counts_within (counts tree) h in omega (arith, l, k, w.1)
