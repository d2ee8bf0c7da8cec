-- The rows of the tables are those of the numbered program.
use Rattle.std.proofs.Common.{◌≡◌, ℕ, zero, suc, ◌+◌, ◌<◌, ◌≤◌, ◌^◌, Bool, true, false, not, ◌||◌, List, [], ◌∷◌, ◌++◌, length, map, drop, get_or, unwrap_or, position, refl, sym, ◌∙◌, ap, subst, arith, append_assoc, add-one, drop-cons}
use Rattle.std.specs.List.{AllByRecursion, position_or_len}
use Rattle.std.proofs.lemmas.List.Sums.{prefix_len-le-length}
use Rattle.program.specs.declared.numbered.Selector.{Selector}
use Rattle.program.specs.declared.numbered.Site as program
use Rattle.program.specs.declared.numbered.SitePlace as program_place
use Rattle.dart_syntax.specs.Syntax.{Tree}
use Rattle.dart_values.specs.Values.{Text}
use Rattle.dart_meaning.specs.Program.{to_string}
use Rattle.dart_meaning.specs.Sites.{Site, same_selector, also_used, each_once, selectors, text_sites, prelude_sites}
use Rattle.dart_meaning.specs.NumberedForm.{in_order, ordered_sites, numbered_selectors, numbered_site, shown_place}
use Rattle.accepted_trees.proofs.sites.Selectors.{is_in, in_used, selector_self, position_there, used_append, used_twice, used_place, used_longer, used_kept}
use Rattle.accepted_trees.proofs.sites.TextSites.{all_from, all_append, all_map, all_in_order, get_map}
use Rattle.accepted_trees.proofs.sites.Tables.{any_from, all_used, as_many_selectors}
use Rattle.site_list.specs.declared.site.SourceSelector.{SourceSelector}
use Rattle.site_list.specs.declared.site.SourceSite.{SourceSite}
use Rattle.site_list.specs.SourceSites.{selector_of, site_of_source, listed, asked}
use Rattle.site_list.specs.Rows.{row_in, all_asked, AreLimited}
use Rattle.site_list.proofs.Sets.{asked_is, map_append}

abbrev place_in : Selector → List Selector → ℕ
place_in sel known = position_or_len (same_selector sel) known

abbrev with_number : program_place.SitePlace → ℕ → program.Site
with_number place n = record { selector = record { 0 = n }; place = place }

pub place_most : (sel : Selector) (known : List Selector) → place_in sel known ≤ length known
place_most sel known = prefix_len-le-length (λ x. not (same_selector sel x)) known

-- ---- one more site

here : (sites : List SourceSite) (i : ℕ) (d : SourceSite) → i < length sites → drop i sites ≡ get_or sites i d ∷ drop (i + 1) sites
here sites i d lt = rw (add-one, drop-cons sites i d)

pub known_more : (sites : List SourceSite) (i : ℕ) (d : SourceSite) (known new all : List Selector) → i < length sites → new ≡ also_used known (selector_of (get_or sites i d).selector ∷ []) → also_used known (asked (drop i sites)) ≡ all → also_used new (asked (drop (i + 1) sites)) ≡ all
known_more sites i d known new all lt put before =
    ap (λ k. also_used k (asked (drop (i + 1) sites))) put ∙ sym (ap (λ xs. also_used known (asked xs)) (here sites i d lt)) ∙ before

pub rows_more : (text : Text) (sites : List SourceSite) (i : ℕ) (d : SourceSite) (known all : List Selector) (row : program.Site) (old new rows : List program.Site)
    → i < length sites → also_used known (asked (drop i sites)) ≡ all → row ≡ row_in text known (site_of_source (get_or sites i d)) → new ≡ old ++ row ∷ []
    → old ++ map (row_in text all) (listed (drop i sites)) ≡ rows → new ++ map (row_in text all) (listed (drop (i + 1) sites)) ≡ rows
rows_more text sites i d known all row old new rows lt uses one put before =
    let x = get_or sites i d in
    let sel = selector_of x.selector in
    let cut = here sites i d lt in
    let number : place_in sel known ≡ place_in sel all = sym (used_place known sel (asked (drop (i + 1) sites))) ∙ ap (place_in sel) (sym (ap (λ xs. also_used known (asked xs)) cut) ∙ uses) in
    let same : row ≡ row_in text all (site_of_source x) = one ∙ ap (with_number (shown_place text (site_of_source x).place)) number in
    let rest = map (row_in text all) (listed (drop (i + 1) sites)) in
    ap (λ ys. ys ++ rest) put ∙ rw append_assoc (ap (λ r. old ++ r ∷ rest) same ∙ sym (ap (λ xs. old ++ map (row_in text all) (listed xs)) cut) ∙ before)

pub few_more : (known uses all : List Selector) → also_used known uses ≡ all → length all ≤ 2048 → length known ≤ 2048
few_more known uses all e le = let h = used_longer known uses in let f = ap length e in omega (arith, h, f, le)

-- ---- all of them

-- the selectors that the sites of a tree ask for, in their order
all_asked_is : (tree : Tree) (sites : List SourceSite) → listed sites ≡ in_order (text_sites tree) → all_asked sites ≡ map (λ (s : Site). s.selector) (ordered_sites tree)
unfolding ordered_sites
all_asked_is tree sites e =
    let asks = λ (s : Site). s.selector in
    ap (λ xs. xs ++ to_string ∷ to_string ∷ []) (asked_is sites ∙ ap (map asks) e) ∙ sym (map_append asks (in_order (text_sites tree)) prelude_sites)

pub selectors_is : (tree : Tree) (sites : List SourceSite) → listed sites ≡ in_order (text_sites tree) → also_used (also_used [] (asked sites)) (to_string ∷ to_string ∷ []) ≡ numbered_selectors tree
unfolding numbered_selectors
selectors_is tree sites e = used_append [] (asked sites) (to_string ∷ to_string ∷ []) ∙ ap each_once (all_asked_is tree sites e)

pub few_last : (tree : Tree) (sites : List SourceSite) → AreLimited tree sites → length (also_used (also_used [] (asked sites)) (to_string ∷ [])) ≤ 2048
few_last tree sites limited =
    let e : length (also_used (also_used [] (asked sites)) (to_string ∷ [])) ≡ length (selectors tree) =
    ap length (sym (used_twice (also_used [] (asked sites)) to_string) ∙ selectors_is tree sites limited.sites) ∙ as_many_selectors tree in
    let h = limited.few_selectors in
    omega (arith, e, h)

pub few_first : (tree : Tree) (sites : List SourceSite) → AreLimited tree sites → length (also_used [] (asked sites)) ≤ 2048
few_first tree sites limited =
    let h = few_last tree sites limited in
    let k = used_longer (also_used [] (asked sites)) (to_string ∷ []) in
    omega (arith, h, k)

-- ---- how many arguments

abbrev Fitting : Selector → Type 0
Fitting sel = sel.count < 2 ^ 32

fitting_all : (tree : Tree) (sites : List SourceSite) → AreLimited tree sites → AllByRecursion Fitting (numbered_selectors tree)
unfolding numbered_selectors ordered_sites
fitting_all tree sites limited =
    let asks = λ (s : Site). s.selector in
    let last : Fitting to_string = omega arith in
    all_used Fitting [] (map asks (in_order (text_sites tree) ++ prelude_sites)) tt
    (all_map asks Fitting (in_order (text_sites tree) ++ prelude_sites)
    (all_append (λ (s : Site). Fitting s.selector) (in_order (text_sites tree)) prelude_sites
    (all_in_order (λ (s : Site). Fitting s.selector) (text_sites tree) (all_from (λ (s : Site). Fitting s.selector) (text_sites tree) limited.few_arguments))
    (last, (last, tt))))

fitting_keys : (keys : List SourceSelector) → AllByRecursion Fitting (map selector_of keys) → (k : ℕ) (d : SourceSelector) → k < length keys → (get_or keys k d).count < 2 ^ 32
fitting_keys [] h k d lt = absurd (omega arith)
fitting_keys (x ∷ xs) h zero d lt = h.0
fitting_keys (x ∷ xs) h (suc k) d lt = fitting_keys xs h.1 k d (omega arith)

pub fitting : (tree : Tree) (sites : List SourceSite) (keys : List SourceSelector) → AreLimited tree sites → map selector_of keys ≡ also_used (also_used [] (asked sites)) (to_string ∷ to_string ∷ []) → (k : ℕ) (d : SourceSelector) → k < length keys → (get_or keys k d).count < 2 ^ 32
fitting tree sites keys limited e = fitting_keys keys (subst (AllByRecursion Fitting) (sym (e ∙ selectors_is tree sites limited.sites)) (fitting_all tree sites limited))

-- ---- the rows of a tree

each_in : (xs : List Site) → AllByRecursion (λ (s : Site). is_in s.selector (also_used [] (map (λ (s : Site). s.selector) xs)) ≡ true) xs
each_in xs =
    let asks = λ (s : Site). s.selector in
    all_from (λ (s : Site). is_in s.selector (also_used [] (map asks xs)) ≡ true) xs (λ i s e.
    in_used s.selector [] (map asks xs) ∙ any_from (same_selector s.selector) (map asks xs) i s.selector (get_map asks xs i s e) (selector_self s.selector))

row_is : (text : Text) (tree : Tree) (known uses : List Selector) (s : Site) → also_used known uses ≡ numbered_selectors tree → is_in s.selector known ≡ true → row_in text known s ≡ numbered_site text tree s
row_is text tree known uses s e h =
    let there : is_in s.selector (numbered_selectors tree) ≡ true = ap (is_in s.selector) (sym e) ∙ in_used s.selector known uses ∙ ap (λ b. b || is_in s.selector uses) h in
    let number : place_in s.selector known ≡ unwrap_or (position (same_selector s.selector) (numbered_selectors tree)) 0 =
    sym (used_kept s.selector known uses h) ∙ ap (place_in s.selector) e ∙ sym (ap (λ o. unwrap_or o 0) (position_there (same_selector s.selector) (numbered_selectors tree) there)) in
    ap (with_number (shown_place text s.place)) number

rows_are : (text : Text) (tree : Tree) (known uses : List Selector) (xs : List Site) → also_used known uses ≡ numbered_selectors tree → AllByRecursion (λ (s : Site). is_in s.selector known ≡ true) xs → map (row_in text known) xs ≡ map (numbered_site text tree) xs
rows_are text tree known uses [] e h = refl
rows_are text tree known uses (x ∷ xs) e h = ap (λ r. r ∷ map (row_in text known) xs) (row_is text tree known uses x e h.0) ∙ ap (λ rs. numbered_site text tree x ∷ rs) (rows_are text tree known uses xs e h.1)

or_true : (b : Bool) → (b || true) ≡ true
or_true true = refl
or_true false = refl

last_in : (known : List Selector) → AllByRecursion (λ (s : Site). is_in s.selector (also_used known (to_string ∷ to_string ∷ [])) ≡ true) prelude_sites
last_in known =
    let h : is_in to_string (also_used known (to_string ∷ to_string ∷ [])) ≡ true = in_used to_string known (to_string ∷ to_string ∷ []) ∙ ap (λ b. is_in to_string known || (b || (b || false))) (selector_self to_string) ∙ or_true (is_in to_string known) in
    (h, (h, tt))

pub all_rows : (text : Text) (tree : Tree) (sites : List SourceSite) → listed sites ≡ in_order (text_sites tree)
    → map (row_in text (also_used [] (asked sites))) (listed sites) ++ map (row_in text (also_used (also_used [] (asked sites)) (to_string ∷ to_string ∷ []))) prelude_sites ≡ map (numbered_site text tree) (ordered_sites tree)
unfolding ordered_sites
all_rows text tree sites e =
    let known = also_used [] (asked sites) in
    let whole = selectors_is tree sites e in
    let each : AllByRecursion (λ (s : Site). is_in s.selector known ≡ true) (listed sites) = subst (λ uses. AllByRecursion (λ (s : Site). is_in s.selector (also_used [] uses) ≡ true) (listed sites)) (sym (asked_is sites)) (each_in (listed sites)) in
    let front = rows_are text tree known (to_string ∷ to_string ∷ []) (listed sites) whole each in
    let back = rows_are text tree (also_used known (to_string ∷ to_string ∷ [])) [] prelude_sites whole (last_in known) in
    ap (λ xs. xs ++ map (row_in text (also_used known (to_string ∷ to_string ∷ []))) prelude_sites) front
    ∙ ap (λ xs. map (numbered_site text tree) (listed sites) ++ xs) back
    ∙ ap (λ xs. map (numbered_site text tree) xs ++ map (numbered_site text tree) prelude_sites) e
    ∙ sym (map_append (numbered_site text tree) (in_order (text_sites tree)) prelude_sites)
