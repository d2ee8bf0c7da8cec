-- The selectors and the sites of a small program, and its statements.
use Rattle.std.proofs.Common.{◌≡◌, ℕ, zero, suc, ◌+◌, ◌*◌, ◌<◌, ◌≤◌, Bool, true, false, not, ◌||◌, cond, if◌then◌else◌, List, [], ◌∷◌, ◌++◌, length, map, None, Some, IsTrue, nat_eq, nat_le, slice_get, option_and_then, unwrap_or, refl, sym, ◌∙◌, ap, subst, arith, codes}
use Rattle.std.proofs.lemmas.Bool.Decides.{nat_tests}
use Rattle.std.proofs.lemmas.List.{length-append, length-map}
use Rattle.std.proofs.lemmas.List.Folds.{list_any-append}
use Rattle.std.proofs.lemmas.Option.{slice_get_within}
use Rattle.std.specs.List.{AllByRecursion, list_any, position_from}
use Rattle.std.specs.Str.{IsAscii, bytes_eq}
use Rattle.program.specs.declared.numbered.Selector.{Selector}
use Rattle.program.specs.declared.numbered.SelectorKind.TheVariants.{Call, Set}
use Rattle.program.specs.declared.numbered.Site.{Site}
use Rattle.program.specs.declared.numbered.SitePlace.{SitePlace}
use Rattle.program.specs.declared.numbered.SitePlace.TheVariants as place
use Rattle.program.specs.Bodies as c
use Rattle.program.specs.Lookup.{same_kind}
use Rattle.program.specs.Parts.{Parts, selector_at}
use Rattle.program.specs.Sizes.{stas_size}
use Rattle.program.specs.Sound.{Is, Asks, MakeAccepts, SoundStas}
use Rattle.program.specs.Whole.{IsSelector, CountsByKind, IsSite}
use Rattle.program.proofs.BuiltInSound.{bytes_same, same_bytes}
use Rattle.program.proofs.Each.{ascii}
use Rattle.program.proofs.Entries.{position_is}
use Rattle.small_program.specs.declared.small.SmallPrint.{SmallPrint}
use Rattle.small_program.specs.Small.{IsSmallPrint}
use Rattle.small_program.specs.Numbering.{call_selector, has_name, noted, noted_all, names_called, number_in, site_of, print_site, sites_with, statements_from}
use Rattle.small_program.proofs.Lists.{in_front, behind, place_in, all_append, all_at, each_place, came_from, get_behind, get_front, get_map}
use Rattle.small_program.proofs.Views.{statement_is}

-- Selectors.

-- a call without arguments
pub record IsCall (sel : Selector) : Type 0 where
  pub kind : sel.kind ≡ Call
  pub count : sel.count ≡ 0
  pub text : IsAscii sel.name

call_is : (name : List ℕ) → IsAscii name → IsCall (call_selector name)
call_is name text = record { kind = refl; count = refl; text = text }

-- whether a list of selectors has the name
abbrev pub Has : List Selector → List ℕ → Type 0
Has all name = list_any (has_name name) all ≡ true

noted_calls : (all : List Selector) (name : List ℕ) → AllByRecursion IsCall all → IsAscii name → AllByRecursion IsCall (noted all name)
noted_calls all name h text = elim (list_any (has_name name) all) as (λ b. AllByRecursion IsCall (if b then all else all ++ call_selector name ∷ [])) [
  | true ↦ h
  | false ↦ all_append IsCall all (call_selector name ∷ []) h (call_is name text, tt)
]

pub all_calls : (all : List Selector) (names : List (List ℕ)) → AllByRecursion IsCall all → AllByRecursion IsAscii names → AllByRecursion IsCall (noted_all all names)
all_calls all [] h texts = h
all_calls all (name ∷ more) h texts = all_calls (noted all name) more (noted_calls all name h texts.0) texts.1

noted_few : (all : List Selector) (name : List ℕ) → length (noted all name) ≤ length all + 1
noted_few all name = elim (list_any (has_name name) all) as (λ b. length (if b then all else all ++ call_selector name ∷ []) ≤ length all + 1) [
  | true ↦ omega arith
  | false ↦ omega (arith, length-append all (call_selector name ∷ []))
]

pub few_noted : (all : List Selector) (names : List (List ℕ)) → length (noted_all all names) ≤ length all + length names
few_noted all [] = omega arith
few_noted all (name ∷ more) = omega (arith, few_noted (noted all name) more, noted_few all name)

or_left : (a b : Bool) → a ≡ true → (a || b) ≡ true
or_left true b h = refl
or_left false b h = absurd cc

or_right : (a b : Bool) → b ≡ true → (a || b) ≡ true
or_right true b h = refl
or_right false b h = h

noted_keeps : (all : List Selector) (name other : List ℕ) → Has all other → Has (noted all name) other
noted_keeps all name other h = elim (list_any (has_name name) all) as (λ b. Has (if b then all else all ++ call_selector name ∷ []) other) [
  | true ↦ h
  | false ↦ list_any-append (has_name other) all (call_selector name ∷ []) ∙ or_left _ _ h
]

noted_has : (all : List Selector) (name : List ℕ) → Has (noted all name) name
noted_has all name = (elim (list_any (has_name name) all) as (λ b. list_any (has_name name) all ≡ b → Has (if b then all else all ++ call_selector name ∷ []) name) [
  | true ↦ λ e. e
  | false ↦ λ e. list_any-append (has_name name) all (call_selector name ∷ []) ∙ or_right (list_any (has_name name) all) _ (or_left (bytes_eq name name) false (same_bytes name name refl))
]) refl

keeps : (all : List Selector) (names : List (List ℕ)) (other : List ℕ) → Has all other → Has (noted_all all names) other
keeps all [] other h = h
keeps all (name ∷ more) other h = keeps (noted all name) more other (noted_keeps all name other h)

-- each name that was noted is there
pub has_each : (all : List Selector) (names : List (List ℕ)) → AllByRecursion (Has (noted_all all names)) names
has_each all [] = tt
has_each all (name ∷ more) = (keeps (noted all name) more name (noted_has all name), has_each (noted all name) more)

-- where a test finds an item
record Found {A : Type 0} (q : A → Bool) (n : ℕ) (xs : List A) : Type 0 where
  at : ℕ
  item : A
  place : position_from q n xs ≡ Some (n + at)
  there : slice_get xs at ≡ Some item
  passes : q item ≡ true

found : {A : Type 0} (q : A → Bool) (n : ℕ) (xs : List A) → list_any q xs ≡ true → Found q n xs
found q n [] h = absurd cc
found q n (x ∷ xs) h =
    (elim (q x) as (λ b. q x ≡ b → (b || list_any q xs) ≡ true → Found q n (x ∷ xs)) [
      | true ↦ λ is some. record { at = 0; item = x; place = subst (λ b. cond b (Some n) (position_from q (n + 1) xs) ≡ Some (n + 0)) (sym is) (let e : n ≡ n + 0 = omega arith in ap Some e); there = refl; passes = is }
      | false ↦ λ is some.
          let rest = found q (n + 1) xs some in
          let further : n + 1 + rest.at ≡ n + suc rest.at = omega arith in
          record {
            at = suc rest.at;
            item = rest.item;
            place = subst (λ b. cond b (Some n) (position_from q (n + 1) xs) ≡ Some (n + suc rest.at)) (sym is) (rest.place ∙ ap Some further);
            there = rest.there;
            passes = rest.passes;
          }
    ]) refl h

-- the number of a name is that of a selector which has it
pub record Numbered (all : List Selector) (name : List ℕ) : Type 0 where
  pub sel : Selector
  pub there : slice_get all (number_in all name) ≡ Some sel
  pub named : sel.name ≡ name

pub numbered : (all : List Selector) (name : List ℕ) → Has all name → Numbered all name
numbered all name h =
    let f = found (has_name name) 0 all h in
    let at : number_in all name ≡ f.at = ap (λ o. unwrap_or o 0) (position_is (has_name name) all ∙ f.place) ∙ omega arith in
    record { sel = f.item; there = ap (slice_get all) at ∙ f.there; named = bytes_same f.item.name name f.passes }

pub calls_named : (all : List Selector) (name : List ℕ) → AllByRecursion IsCall all → Has all name → Is Call name 0 (slice_get all (number_in all name))
calls_named all name h has =
    let n = numbered all name has in
    let is = all_at IsCall all h (number_in all name) n.sel n.there in
    subst (Is Call name 0) (sym n.there) (is.kind, n.named, is.count)

pub number_low : (all : List Selector) (name : List ℕ) → Has all name → number_in all name < length all
number_low all name has = let n = numbered all name has in slice_get_within all (number_in all name) n.sel n.there

pub selectors_sound : (all : List Selector) → AllByRecursion IsCall all → (s : ℕ) → IsSelector (slice_get all s)
selectors_sound all h s = each_place IsCall (λ o. IsSelector o) tt (λ sel is. (is.text, subst (λ k. CountsByKind k sel.count) (sym is.kind) tt)) all h s

-- The names that are called.

pub length-names : (prints : List SmallPrint) → length (names_called prints) ≡ length prints + 1
length-names prints = length-append (map (λ (p : SmallPrint). p.method) prints) (codes "toString" ∷ []) ∙ ap (λ n. n + 1) (length-map prints (λ (p : SmallPrint). p.method))

pub names_ascii : (classes : ℕ) (prints : List SmallPrint) → AllByRecursion (IsSmallPrint classes) prints → AllByRecursion IsAscii (names_called prints)
names_ascii classes [] h = (ascii (codes "toString") refl, tt)
names_ascii classes (p ∷ more) h = (h.0.text, names_ascii classes more h.1)

pub has_methods : (all : List Selector) (prints : List SmallPrint) → AllByRecursion (Has all) (names_called prints) → AllByRecursion (λ (p : SmallPrint). Has all p.method) prints
has_methods all [] h = tt
has_methods all (p ∷ more) h = (h.0, has_methods all more h.1)

pub has_last : (all : List Selector) (prints : List SmallPrint) → AllByRecursion (Has all) (names_called prints) → Has all (codes "toString")
has_last all [] h = h.0
has_last all (p ∷ more) h = has_last all more h.1

-- Sites.

pub length-sites : (all : List Selector) (prints : List SmallPrint) → length (sites_with all prints) ≡ length prints + 2
length-sites all prints = length-append (map (print_site all) prints) _ ∙ ap (λ n. n + 2) (length-map prints (print_site all))

module _ (p : Parts) (prints : List SmallPrint) (sites_are : p.sites ≡ sites_with p.selectors prints) (calls : AllByRecursion IsCall p.selectors) (has : AllByRecursion (Has p.selectors) (names_called prints)) where
  long : length p.sites ≡ length prints + 2
  long = ap (λ (ss : List Site). length ss) sites_are ∙ length-sites p.selectors prints

  pub site_print : (j : ℕ) (q : SmallPrint) → slice_get prints j ≡ Some q → slice_get p.sites j ≡ Some (print_site p.selectors q)
  site_print j q e = ap (λ (ss : List Site). slice_get ss j) sites_are ∙ get_front (map (print_site p.selectors) prints) _ j _ (get_map (print_site p.selectors) prints j q e)

  behind_prints : (k : ℕ) → slice_get p.sites (length prints + k) ≡ slice_get (site_of p.selectors place.Print (codes "toString") ∷ site_of p.selectors place.List (codes "toString") ∷ []) k
  behind_prints k =
      ap (λ (ss : List Site). slice_get ss (length prints + k)) sites_are
      ∙ ap (λ n. slice_get (sites_with p.selectors prints) (n + k)) (sym (length-map prints (print_site p.selectors)))
      ∙ get_behind (map (print_site p.selectors) prints) _ k

  -- the selector of a site whose place in the list is known
  selector_is : (s : ℕ) (at : SitePlace) (name : List ℕ) → slice_get p.sites s ≡ Some (site_of p.selectors at name) → selector_at p s ≡ slice_get p.selectors (number_in p.selectors name)
  selector_is s at name e = ap (option_and_then (λ (site : Site). slice_get p.selectors site.selector.0)) e

  -- a call at the site of a statement
  pub asks_print : (j : ℕ) (q : SmallPrint) → slice_get prints j ≡ Some q → Asks 0 (selector_at p j)
  asks_print j q e =
      let name_there = all_at (λ (r : SmallPrint). Has p.selectors r.method) prints (has_methods p.selectors prints has) j q e in
      let n = numbered p.selectors q.method name_there in
      let is = all_at IsCall p.selectors calls (number_in p.selectors q.method) n.sel n.there in
      subst (Asks 0) (sym (selector_is j (place.At q.line q.column) q.method (site_print j q e) ∙ n.there)) (subst (λ k. IsTrue (not (same_kind k Set))) (sym is.kind) refl, is.count)

  to_string_there : Has p.selectors (codes "toString")
  to_string_there = has_last p.selectors prints has

  calls_to_string : (s : ℕ) (at : SitePlace) → slice_get p.sites s ≡ Some (site_of p.selectors at (codes "toString")) → Is Call (codes "toString") 0 (selector_at p s)
  calls_to_string s at e = subst (Is Call (codes "toString") 0) (sym (selector_is s at (codes "toString") e)) (calls_named p.selectors (codes "toString") calls to_string_there)

  last_site : (k : ℕ) (site : Site) → slice_get (site_of p.selectors place.Print (codes "toString") ∷ site_of p.selectors place.List (codes "toString") ∷ []) k ≡ Some site → IsSite p (length prints + k) (Some site)
  last_site zero site e =
      let is : site_of p.selectors place.Print (codes "toString") ≡ site = cc in
      subst (λ (x : Site). IsSite p (length prints + 0) (Some x)) is (number_low p.selectors (codes "toString") to_string_there, (omega (arith, long), calls_to_string (length prints + 0) place.Print (behind_prints 0)))
  last_site (suc zero) site e =
      let is : site_of p.selectors place.List (codes "toString") ≡ site = cc in
      subst (λ (x : Site). IsSite p (length prints + 1) (Some x)) is (number_low p.selectors (codes "toString") to_string_there, (omega (arith, long), calls_to_string (length prints + 1) place.List (behind_prints 1)))
  last_site (suc (suc k)) site e = absurd cc

  site_sound : (s : ℕ) (site : Site) → slice_get (sites_with p.selectors prints) s ≡ Some site → IsSite p s (Some site)
  site_sound s site e = elim (place_in (map (print_site p.selectors) prints) _ s site e) [
    | in_front lt at ↦
        let from = came_from (print_site p.selectors) prints s site at in
        let name_there = all_at (λ (r : SmallPrint). Has p.selectors r.method) prints (has_methods p.selectors prints has) s from.0 from.1 in
        let low : s < length prints = slice_get_within prints s from.0 from.1 in
        subst (λ (x : Site). IsSite p s (Some x)) from.2 (number_low p.selectors from.0.method name_there, omega (arith, long))
    | behind k is at ↦
        let e2 : s ≡ length prints + k = is ∙ ap (λ n. n + k) (length-map prints (print_site p.selectors)) in
        subst (λ (n : ℕ). IsSite p n (Some site)) (sym e2) (last_site k site at)
  ]

  pub sites_sound : (s : ℕ) → IsSite p s (slice_get p.sites s)
  sites_sound s =
      (elim (slice_get p.sites s) as (λ o. slice_get p.sites s ≡ o → IsSite p s o) [
        | None ↦ λ e. tt
        | Some site ↦ λ e. site_sound s site (ap (λ (ss : List Site). slice_get ss s) (sym sites_are) ∙ e)
      ]) refl

  -- The statements of `main`.

  sound_from : (j : ℕ) (more : List SmallPrint) → ((i : ℕ) (q : SmallPrint) → slice_get more i ≡ Some q → slice_get prints (j + i) ≡ Some q) → ((q : ℕ) → q < length p.classes → MakeAccepts 0 (slice_get p.classes q))
      → (n : ℕ) → 7 + n ≤ length p.classes → AllByRecursion (IsSmallPrint n) more → SoundStas p None true 0 false (c.stas (map c.sta (statements_from j more)))
  sound_from j [] here makes n fits h = tt
  sound_from j (q ∷ more) here makes n fits h =
      let first : slice_get prints j ≡ Some q = (let e : j + 0 ≡ j = omega arith in subst (λ i. slice_get prints i ≡ Some q) e (here 0 q refl)) in
      let low : q.class < n = h.0.class in
      let user : nat_eq (7 + q.class) 0 || nat_le 7 (7 + q.class) ≡ true = grind (arith, nat_tests) in
      let rest = sound_from (suc j) more (λ i r e. let f : suc j + i ≡ j + suc i = omega arith in subst (λ k. slice_get prints k ≡ Some r) (sym f) (here (suc i) r e)) makes n fits h.1 in
      subst (λ s. SoundStas p None true 0 false (c.next s (c.stas (map c.sta (statements_from (suc j) more))))) (sym (statement_is j q)) (((user, makes (7 + q.class) (omega arith), tt), (asks_print j q first, tt, tt)), rest)

  pub main_sound : ((q : ℕ) → q < length p.classes → MakeAccepts 0 (slice_get p.classes q)) → (n : ℕ) → 7 + n ≤ length p.classes → AllByRecursion (IsSmallPrint n) prints
      → SoundStas p None true 0 false (c.stas (map c.sta (statements_from 0 prints)))
  main_sound makes n fits h = sound_from 0 prints (λ i q e. let f : i ≡ 0 + i = omega arith in subst (λ k. slice_get prints k ≡ Some q) f e) makes n fits h

pub size-statements : (j : ℕ) (prints : List SmallPrint) → stas_size (c.stas (map c.sta (statements_from j prints))) ≡ 4 * length prints
size-statements j [] = refl
size-statements j (q ∷ more) =
    ap (λ s. stas_size (c.next s (c.stas (map c.sta (statements_from (suc j) more))))) (statement_is j q) ∙ omega (arith, size-statements (suc j) more)
