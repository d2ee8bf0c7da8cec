-- How many call sites are at one place: as a weight, and of lists of sites.
use Rattle.std.proofs.Common.{◌≡◌, ℕ, zero, suc, ◌+◌, ◌*◌, ◌<◌, ◌≤◌, Bool, true, false, if◌then◌else◌, nat_eq, nat_lt, List, [], ◌∷◌, ◌++◌, map, flat_map, slice_get, Option, Some, refl, ap, arith}
use Rattle.std.proofs.lemmas.Bool.{ltb-true, ltb-false}
use Rattle.std.proofs.lemmas.Bool.Decides.{nat_tests}
use Rattle.dart_syntax.specs.declared.token.Span.{Span}
use Rattle.dart_syntax.specs.declared.token.TokenKind.{TokenKind}
use Rattle.dart_syntax.specs.declared.token.TokenKind.TheVariants as tk
use Rattle.dart_syntax.specs.Words.{Tokens}
use Rattle.dart_syntax.specs.Syntax.{Tree}
use Rattle.dart_meaning.specs.Uses as u
use Rattle.dart_meaning.specs.Uses.{Use, Part, parts}
use Rattle.dart_meaning.specs.Means.{means, is_of_this}
use Rattle.dart_meaning.specs.Sites.{Site, key, if_of_this, sites_of_use, text_sites}
use Rattle.text_trees.proofs.Weights.{Weight, split, use_weight, weigh, weigh_parts, kind_weight, tokens}
use Rattle.text_trees.proofs.Starts.{Rises}

-- 1 where both are the same
abbrev pub hit : ℕ → ℕ → ℕ
hit k j = if nat_eq k j then 1 else 0

-- the weight that counts the sites at place k
abbrev pub at : ℕ → Weight
at k j name = hit k j

module _ (k : ℕ) where
  hits_one : (start : ℕ) → hit k (2 * start) + hit k (2 * start + 1) ≤ 1
  hits_one start = grind (arith, nat_tests)

  hits_none : (start : ℕ) → k < 2 * start → hit k (2 * start) + hit k (2 * start + 1) ≡ 0
  hits_none start h = grind (arith, nat_tests, h)

  hits_past : (start : ℕ) → 2 * start + 2 ≤ k → hit k (2 * start) + hit k (2 * start + 1) ≡ 0
  hits_past start h = grind (arith, nat_tests, h)

  kind_hits : (c : TokenKind) (span : Span) → kind_weight (at k) c span ≤ hit k (2 * span.start) + hit k (2 * span.start + 1)
  kind_hits tk.End span = omega arith
  kind_hits (tk.Name n) span = omega arith
  kind_hits _ span = omega arith

  -- of tokens that rise, at most one is at a place, and none outside of their bytes
  pub record Once (lo : ℕ) (ts : Tokens) (hi : ℕ) : Type 0 where
    pub once : tokens (at k) ts ≤ 1
    pub none_before : k < 2 * lo → tokens (at k) ts ≡ 0
    pub none_behind : 2 * hi ≤ k → tokens (at k) ts ≡ 0
    pub forward : lo ≤ hi

  pub rises_once : (lo : ℕ) (ts : Tokens) (hi : ℕ) → Rises lo ts hi → Once lo ts hi
  rises_once lo [] hi r = record { once = omega arith; none_before = λ h. refl; none_behind = λ h. refl; forward = r }
  rises_once lo (t ∷ ts) hi r =
      let start = t.span.start in
      let more = rises_once (suc start) ts hi r.1 in
      let own = kind_hits t.kind t.span in
      record {
        once = split (nat_lt k (2 * start + 2))
            (λ e. omega (arith, own, hits_one start, more.none_before (let h = ltb-true k (2 * start + 2) e in omega (arith, h))))
            (λ e. omega (arith, own, hits_past start (ltb-false k (2 * start + 2) e), more.once));
        none_before = λ h. let low : k < 2 * start = omega (arith, r.0) in omega (arith, own, hits_none start low, more.none_before (omega arith));
        none_behind = λ h. let far : 2 * start + 2 ≤ k = omega (arith, more.forward) in omega (arith, own, hits_past start far, more.none_behind h);
        forward = omega (arith, r.0, more.forward);
      }

  -- ---- lists of sites

  abbrev pub sites_at : List Site → ℕ
  sites_at [] = 0
  sites_at (x ∷ more) = hit k (key x.place) + sites_at more

  join_sites : (xs ys : List Site) → sites_at (xs ++ ys) ≡ sites_at xs + sites_at ys
  join_sites [] ys = omega arith
  join_sites (x ∷ xs) ys = omega (arith, join_sites xs ys)

  if_hits : (b : Bool) (x : Site) → sites_at (if_of_this b x) ≤ hit k (key x.place)
  if_hits true x = omega arith
  if_hits false x = omega arith

  use_hits : (tree : Tree) (part : Part) (x : Use) → sites_at (sites_of_use tree part x) ≤ use_weight (at k) x
  use_hits tree part (u.reads n seen) = if_hits (is_of_this (means tree part n seen)) _
  use_hits tree part (u.writes n seen) = if_hits (is_of_this (means tree part n seen)) _
  use_hits tree part (u.calls n seen c) = if_hits (is_of_this (means tree part n seen)) _
  use_hits tree part _ = omega arith

  uses_hits : (tree : Tree) (part : Part) (uses : List Use) → sites_at (flat_map (sites_of_use tree part) uses) ≤ weigh (at k) uses
  uses_hits tree part [] = omega arith
  uses_hits tree part (x ∷ xs) = omega (arith, use_hits tree part x, uses_hits tree part xs, join_sites (sites_of_use tree part x) (flat_map (sites_of_use tree part) xs))

  parts_hits : (tree : Tree) (ps : List Part) → sites_at (flat_map (λ part. flat_map (sites_of_use tree part) part.uses) ps) ≤ weigh_parts (at k) ps
  parts_hits tree [] = omega arith
  parts_hits tree (x ∷ xs) =
      omega (arith, uses_hits tree x x.uses, parts_hits tree xs, join_sites (flat_map (sites_of_use tree x) x.uses) (flat_map (λ part. flat_map (sites_of_use tree part) part.uses) xs))

  pub text_hits : (tree : Tree) → sites_at (text_sites tree) ≤ weigh_parts (at k) (parts tree)
  unfolding text_sites
  text_hits tree = parts_hits tree (parts tree)

  -- ---- places in lists

  some_is : {a b : ℕ} → ◌≡◌ {A = Option ℕ} (Some a) (Some b) → a ≡ b
  some_is e = cc

  hit_same : (j : ℕ) → j ≡ k → hit k j ≡ 1
  hit_same j e = grind (arith, nat_tests, e)

  pub found_hits : (xs : List Site) (i : ℕ) → slice_get (map (λ (x : Site). key x.place) xs) i ≡ Some k → 1 ≤ sites_at xs
  found_hits [] i e = cc
  found_hits (x ∷ xs) zero e = omega (arith, hit_same (key x.place) (some_is e))
  found_hits (x ∷ xs) (suc i) e = omega (arith, found_hits xs i e)

  pub once_same : (xs : List Site) (i j : ℕ) → sites_at xs ≤ 1 → slice_get (map (λ (x : Site). key x.place) xs) i ≡ Some k → slice_get (map (λ (x : Site). key x.place) xs) j ≡ Some k → i ≡ j
  once_same [] i j few e f = cc
  once_same (x ∷ xs) zero zero few e f = refl
  once_same (x ∷ xs) zero (suc j) few e f = absurd (omega (arith, hit_same (key x.place) (some_is e), found_hits xs j f))
  once_same (x ∷ xs) (suc i) zero few e f = absurd (omega (arith, hit_same (key x.place) (some_is f), found_hits xs i e))
  once_same (x ∷ xs) (suc i) (suc j) few e f = ap suc (once_same xs i j (omega arith) e f)

pub site_hits : (xs : List Site) (i : ℕ) (x : Site) → slice_get xs i ≡ Some x → 1 ≤ sites_at (key x.place) xs
site_hits [] i x e = cc
site_hits (y ∷ xs) zero x e = let same : y ≡ x = cc in omega (arith, hit_same (key x.place) (key y.place) (ap (λ (z : Site). key z.place) same))
site_hits (y ∷ xs) (suc i) x e = omega (arith, site_hits xs i x e)
