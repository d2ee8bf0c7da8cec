-- What the loops over entries, checks, sites and classes come to.
use Rattle.std.proofs.Common.{◌≡◌, ◌≢◌, ℕ, zero, suc, ◌+◌, ◌-◌, ◌<◌, ◌≤◌, Bool, true, false, if◌then◌else◌, inl, inr, List, [], ◌∷◌, ◌++◌, length, map, drop, get_or, slice_get, Option, None, Some, IsTrue, String, Global, refl, sym, ◌∙◌, ap, subst, arith, codes}
use Rattle.std.specs.Prelude.{string_bytes, All}
use Rattle.std.specs.List.{flat_map, enumerate_from}
use Rattle.std.proofs.lemmas.List.{drop_more, drop_all, append_assoc, append-nil}
use Rattle.std.proofs.lemmas.Option.{slice_get_cases, slice_get-get_or}
use Rattle.program.specs.Hierarchy.{Parents, IsLast, is_above}
use Rattle.program.specs.declared.numbered.Numbered.{Numbered}
use Rattle.program.specs.declared.numbered.Site.{Site}
use Rattle.program.specs.Parts.{Parts}
use Rattle.program.specs.Program.{parts_of}
use Rattle.program.proofs.Facts.{selector_there, few_sites}
use Rattle.miss_handler.specs.declared.row.Check.{Check}
use Rattle.isolate_run.specs.declared.ended.Ended.{Ended}
use Rattle.site_report.specs.Report.{Told, told, told_by, AreCounted, check_part, check_of, next_check, row_text, greatest, last_below}

-- the items from place i on begin with the one there
pub next_of : {X : Type 0} (xs : List X) (i : ℕ) (x : X) → i < length xs → x ≡ get_or xs i x → drop i xs ≡ x ∷ drop (i + 1) xs
next_of xs i x lt is = drop_more xs i x lt ∙ ap (λ y. y ∷ drop (i + 1) xs) (sym is)

-- the same of entries
pub told_at : (names : List (String Global)) (ended : List Ended) (i : ℕ) (name : String Global) (e : Ended) → i < length names → i < length ended → name ≡ get_or names i name → e ≡ get_or ended i e →
    told_by (map string_bytes (drop i names)) (drop i ended) ≡ told (string_bytes name, e) ∷ told_by (map string_bytes (drop (i + 1) names)) (drop (i + 1) ended)
unfolding told_by
told_at names ended i name e lt_n lt_e is_n is_e = rw (next_of names i name lt_n is_n, next_of ended i e lt_e is_e) refl

-- one more of numbered items is written
pub written : {X : Type 0} (f : ℕ × X → List ℕ) (i : ℕ) (x : X) (xs rest : List X) (old new : List ℕ) → xs ≡ x ∷ rest → new ≡ old ++ f (i, x) →
    new ++ flat_map f (enumerate_from (i + 1) rest) ≡ old ++ flat_map f (enumerate_from i xs)
written f i x xs rest old new is e = rw (is, e) (append_assoc old (f (i, x)) (flat_map f (enumerate_from (i + 1) rest)))

-- all entries are written
pub told_all : (f : ℕ × Told → List ℕ) (names : List (String Global)) (ended : List Ended) (i : ℕ) (old all : List ℕ) → length names ≤ i →
    old ++ flat_map f (enumerate_from i (told_by (map string_bytes (drop i names)) (drop i ended))) ≡ all → old ≡ all
unfolding told_by
told_all f names ended i old all le is =
    sym (append-nil old) ∙ ap (λ (ns : List (String Global)). old ++ flat_map f (enumerate_from i (told_by (map string_bytes ns) (drop i ended)))) (sym (drop_all i names le)) ∙ is

-- the selector of a site is one of the program's
pub selector_in : (program : Numbered) (sites : List Site) (number : ℕ) (d : Site) → sites ≡ program.sites → number < length sites → (get_or sites number d).selector.0 < length program.selectors
selector_in program sites number d is lt =
    selector_there (parts_of program) program.sound number (get_or sites number d) (ap (λ (l : List Site). slice_get l number) (sym is) ∙ slice_get-get_or sites number d lt)

-- no entry has more counts than there may be sites
pub counts_small : (program : Numbered) (ended : List Ended) → AreCounted (parts_of program) ended → All (λ (e : Ended). length e.calls.items ≤ 65536) ended
counts_small program ended counted = λ k d lt. subst (λ n. n ≤ 65536) (sym (counted k d lt)) (few_sites (parts_of program) program.sound)

check_written : (p : Parts) (k : Check) (old rest : List ℕ) → ((old ++ codes ", ") ++ check_part p k) ++ rest ≡ old ++ (next_check p k ++ rest)
check_written p k old rest = append_assoc (old ++ codes ", ") (check_part p k) rest ∙ append_assoc old (codes ", ") (check_part p k ++ rest)

check_next : (p : Parts) (row : List Check) (i : ℕ) (k : Check) (old new : List ℕ) → drop i row ≡ k ∷ drop (i + 1) row → slice_get row i ≡ Some k → new ≡ (old ++ codes ", ") ++ check_of p (slice_get row i) →
    new ++ flat_map (next_check p) (drop (i + 1) row) ≡ old ++ flat_map (next_check p) (drop i row)
check_next p row i k old new is at e = rw (is) (rw (e ∙ ap (λ o. (old ++ codes ", ") ++ check_of p o) at) (check_written p k old (flat_map (next_check p) (drop (i + 1) row))))

-- one more check of a row is written
pub row_on : (p : Parts) (row : List Check) (i : ℕ) (old new : List ℕ) → i < length row → new ≡ (old ++ codes ", ") ++ check_of p (slice_get row i) →
    new ++ flat_map (next_check p) (drop (i + 1) row) ≡ old ++ flat_map (next_check p) (drop i row)
row_on p row i old new lt e = elim (slice_get_cases row i).1 [
  | inl (k, within, at, is) ↦ check_next p row i k old new (next_of row i k lt (sym is)) at e
  | inr (le, none) ↦ absurd (omega arith)
]

-- the first check, and then the others
pub row_whole : (p : Parts) (row : List Check) (old new : List ℕ) → 0 < length row → new ≡ (old ++ codes " ") ++ check_of p (slice_get row 0) →
    new ++ flat_map (next_check p) (drop 1 row) ≡ old ++ row_text p row
row_whole p [] old new lt e = absurd (omega arith)
row_whole p (k ∷ more) old new lt e =
    rw (e) (append_assoc (old ++ codes " ") (check_part p k) (flat_map (next_check p) more) ∙ append_assoc old (codes " ") (check_part p k ++ flat_map (next_check p) more))

pick : (b : Bool) (n last rest : ℕ) → last < suc n → (b ≡ true → n ≤ last) → (b ≡ false → n ≢ last) → (last < n → rest ≡ last) → (if b then n else rest) ≡ last
pick true n last rest lt low other more = let le = low refl in omega (arith, le, lt)
pick false n last rest lt low other more = let ne = other refl in more (omega (arith, ne, lt))

-- the greatest number that passes is found
pub greatest_is : (test : ℕ → Bool) (n last : ℕ) → test last ≡ true → last < n → ((d : ℕ) → d < n → test d ≡ true → d ≤ last) → greatest test n ≡ last
greatest_is test zero last passes lt all = absurd (omega arith)
greatest_is test (suc n) last passes lt all =
    pick (test n) n last (greatest test n) lt (λ e. all n (omega arith) e) (λ e is. absurd (cc)) (λ less. greatest_is test n last passes less (λ d below t. all d (omega arith) t))

pub last_below_is : (up : Parents) (c last : ℕ) → IsLast up c last → last_below up c ≡ last
unfolding last_below
last_below_is up c last is = greatest_is (is_above up c) (length up) last is.below is.there (λ d lt t. is.greatest d lt t)
