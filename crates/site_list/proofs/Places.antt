-- Sites in the order of their places, and how many stand before a place.
use Rattle.std.proofs.Common.{◌≡◌, ℕ, zero, suc, ◌+◌, ◌<◌, ◌≤◌, Bool, true, false, not, ◌&&◌, cond, nat_eq, nat_lt, List, [], ◌∷◌, length, map, get_or, refl, sym, ◌∙◌, ap, subst, arith}
use Rattle.std.specs.Prelude.{count_by, filter}
use Rattle.std.specs.Borrow.{Bor}
use Rattle.std.specs.Fn.{Called}
use Rattle.std.specs.Ordering.{is_lt, nat_cmp}
use Rattle.std.specs.List.Sorted.{IsNonDecreasingBy, IsPartitionPoint, IsPartitionedBy, IsSortedByKey, IsSortedByKeyClosure, IsStableByKey, IsStableByKeyClosure, ties}
use Rattle.std.proofs.lemmas.Bool.Decides.{nat_tests}
use Rattle.std.proofs.lemmas.Fn.{always_returns_same}
use Rattle.std.proofs.lemmas.List.Sums.{sum_by-cons}
use Rattle.std.proofs.lemmas.List.Sorted.{IsNonDecreasingBy-from_sort, IsPartitionedBy-ltb, sum_by-IsPermutation}
use denote.Param.Members.{Mut}
use Rattle.dart_syntax.specs.Syntax.{Tree}
use Rattle.dart_meaning.specs.Sites.{Site, key, text_sites, site_of}
use Rattle.dart_meaning.specs.NumberedForm.{in_order}
use Rattle.accepted_trees.proofs.sites.Order.{Least, Ordered, ordered_from, ordered_line, line_is, map_line}
use Rattle.accepted_trees.proofs.sites.TextSites.{InText, by_place, order_is, order_moves, number_is}
use Rattle.site_list.specs.declared.site.TextPlace.{TextPlace}
use Rattle.site_list.specs.declared.site.TextPlace.TheVariants as v
use Rattle.site_list.specs.declared.site.SourceSite.{SourceSite}
use Rattle.site_list.specs.SourceSites.{place_of, site_of_source, listed}

abbrev pub by : SourceSite → ℕ
by s = key (place_of s.place)

-- ---- a sort

ties_is : (a b : ℕ) → (not (is_lt (nat_cmp a b)) && not (is_lt (nat_cmp b a))) ≡ nat_eq a b
ties_is a b = grind (arith, nat_tests)

sorted_is : (xs ys : List SourceSite) → IsSortedByKey by nat_cmp ys → IsStableByKey by nat_cmp xs ys → listed ys ≡ in_order (listed xs)
sorted_is xs ys sorted stable =
    let one : ys ≡ _ = line_is by xs ys (ordered_from by ys (IsNonDecreasingBy-from_sort by ys sorted)) (λ z.
    let t : ties (λ x y. is_lt (nat_cmp (by x) (by y))) z ≡ (λ y. nat_eq (by z) (by y)) = (λ i y. ties_is (by z) (by y) i) in
    ap (λ q. filter q ys) (sym t) ∙ stable z ∙ ap (λ q. filter q xs) t) in
    ap (map site_of_source) one ∙ map_line by_place site_of_source xs ∙ sym (order_is (listed xs))

pub sorted_by_closure : {F : Type 0} {g : Mut F (Bor SourceSite × Unit {0}) ℕ} {f : F} (xs ys : List SourceSite) → IsSortedByKeyClosure g nat_cmp f ys → IsStableByKeyClosure g nat_cmp f xs ys → ((a : Bor SourceSite × Unit {0}) (r : ℕ) (f' : F) → Called g f a r f' → (r ≡ by a.0.now) × (f' ≡ f)) → listed ys ≡ in_order (listed xs)
sorted_by_closure {g = g} {f = f} xs ys up stable h = let k = always_returns_same g (λ a r. r ≡ by a.0.now) f h in sorted_is xs ys (up by k) (stable by k)

-- ---- how many stand before a place

least_at : (m : ℕ) (xs : List SourceSite) (j : ℕ) (d : SourceSite) → Least by m xs → j < length xs → m ≤ by (get_or xs j d)
least_at m [] j d h lt = absurd (omega arith)
least_at m (x ∷ xs) zero d h lt = h.0
least_at m (x ∷ xs) (suc j) d h lt = least_at m xs j d h.1 (omega arith)

non_decreasing : (xs : List SourceSite) → Ordered by xs → IsNonDecreasingBy by xs
non_decreasing [] o i j d le lt = absurd (omega arith)
non_decreasing (x ∷ xs) o zero zero d le lt = omega arith
non_decreasing (x ∷ xs) o zero (suc j) d le lt = least_at (by x) xs j d o.0 (omega arith)
non_decreasing (x ∷ xs) o (suc i) zero d le lt = absurd (omega arith)
non_decreasing (x ∷ xs) o (suc i) (suc j) d le lt = non_decreasing xs o.1 i j d (omega arith) (omega arith)

least_listed : (m : ℕ) (xs : List SourceSite) → Least by_place m (listed xs) → Least by m xs
least_listed m [] h = tt
least_listed m (x ∷ xs) h = (h.0, least_listed m xs h.1)

ordered_listed : (xs : List SourceSite) → Ordered by_place (listed xs) → Ordered by xs
ordered_listed [] o = tt
ordered_listed (x ∷ xs) o = (least_listed (by x) xs o.0, ordered_listed xs o.1)

pub rise : (xs : List SourceSite) (sites : List Site) → listed xs ≡ in_order sites → IsNonDecreasingBy by xs
rise xs sites e = non_decreasing xs (ordered_listed xs (subst (Ordered by_place) (sym (e ∙ order_is sites)) (ordered_line by_place sites)))

abbrev bit : Bool → ℕ
bit b = cond b 1 0

count_one : {A : Type 0} (p : A → Bool) (x : A) (xs : List A) → count_by p (x ∷ xs) ≡ bit (p x) + count_by p xs
count_one p x xs = sum_by-cons (λ y. bit (p y)) x xs

-- those that pass are as many as stand before the point
split_count : (p : SourceSite → Bool) (xs : List SourceSite) (i : ℕ) → i ≤ length xs → ((k : ℕ) (d : SourceSite) → k < i → p (get_or xs k d) ≡ true) → ((k : ℕ) (d : SourceSite) → i ≤ k → k < length xs → p (get_or xs k d) ≡ false) → count_by p xs ≡ i
split_count p [] i le front back = omega arith
split_count p (x ∷ xs) zero le front back =
    let here : bit (p x) ≡ 0 = ap bit (back 0 x (omega arith) (omega arith)) in
    let one = count_one p x xs in
    let rest = split_count p xs 0 (omega arith) (λ k d lt. absurd (omega arith)) (λ k d ge lt. back (suc k) d (omega arith) (omega arith)) in
    omega (arith, here, one, rest)
split_count p (x ∷ xs) (suc i) le front back =
    let here : bit (p x) ≡ 1 = ap bit (front 0 x (omega arith)) in
    let one = count_one p x xs in
    let rest = split_count p xs i (omega arith) (λ k d lt. front (suc k) d (omega arith)) (λ k d ge lt. back (suc k) d (omega arith) (omega arith)) in
    omega (arith, here, one, rest)

count_listed : (m : ℕ) (xs : List SourceSite) → count_by (λ s. nat_lt (by s) m) xs ≡ count_by (λ (s : Site). nat_lt (key s.place) m) (listed xs)
count_listed m [] = refl
count_listed m (x ∷ xs) =
    count_one (λ s. nat_lt (by s) m) x xs ∙ ap (λ n. bit (nat_lt (by x) m) + n) (count_listed m xs) ∙ sym (count_one (λ (s : Site). nat_lt (key s.place) m) (site_of_source x) (listed xs))

in_text : (place : TextPlace) → InText (place_of place)
in_text (v.Reading byte) = tt
in_text (v.Writing byte) = tt

pub number_at : (tree : Tree) (place : TextPlace) (m : ℕ) (xs : List SourceSite) (i : ℕ) → m ≡ key (place_of place) → i ≤ length xs → IsPartitionPoint (λ s. nat_lt (by s) m ≡ true) (λ s. nat_lt (by s) m ≡ false) xs i → listed xs ≡ in_order (text_sites tree) → i ≡ site_of tree (place_of place)
number_at tree place m xs i is le point e =
    let split = split_count (λ s. nat_lt (by s) m) xs i le (λ k d lt. point.0 k d (omega arith) lt) (λ k d ge lt. point.1 k d ge lt) in
    let there : count_by (λ (s : Site). nat_lt (key s.place) m) (in_order (text_sites tree)) ≡ count_by (λ (s : Site). nat_lt (key s.place) m) (text_sites tree) = sum_by-IsPermutation (λ (s : Site). bit (nat_lt (key s.place) m)) (text_sites tree) (in_order (text_sites tree)) (order_moves (text_sites tree)) in
    sym split ∙ count_listed m xs ∙ ap (count_by (λ (s : Site). nat_lt (key s.place) m)) e ∙ there
    ∙ ap (λ n. count_by (λ (s : Site). nat_lt (key s.place) n) (text_sites tree)) is ∙ sym (number_is tree (place_of place) (in_text place))

pub parted : (m : ℕ) (xs : List SourceSite) (sites : List Site) → listed xs ≡ in_order sites → IsPartitionedBy (λ s. nat_lt (by s) m) xs
parted m xs sites e = IsPartitionedBy-ltb by xs m (rise xs sites e)
