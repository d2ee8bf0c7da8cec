-- Classes and selectors of a program are there, and what a lookup visits.
use Rattle.std.proofs.Common.{◌≡◌, ℕ, zero, suc, ◌+◌, ◌*◌, ◌-◌, ◌<◌, ◌≤◌, List, [], ◌∷◌, length, map, IsTrue, Bool, true, not, slice_get, get_or, Option, None, Some, option_map, unwrap_or, sym, refl, ◌∙◌, ap, subst, arith}
use Rattle.std.proofs.lemmas.List.{length-map}
use Rattle.std.proofs.lemmas.Option.{slice_get-get_or}
use Rattle.std.proofs.Math.Nat.{suc-mul, mul_comm, mul-le-mul_left}
use Rattle.program.specs.declared.numbered.Class.{Class}
use Rattle.program.specs.declared.numbered.Site.{Site}
use Rattle.program.specs.declared.numbered.Numbered.{Numbered}
use Rattle.program.specs.Hierarchy.{Parents, parent_in, chain_from, chain}
use Rattle.program.specs.Lookup.{resolve}
use Rattle.program.specs.Parts.{Parts, is_concrete, parents}
use Rattle.program.specs.Program.{parts_of}
use Rattle.program.proofs.Facts.{selector_there}
use Rattle.miss_handler.specs.Sites.{selector_of, receivers}

pub concrete_there : (cs : List Class) (c : ℕ) → IsTrue (is_concrete cs c) → c < length cs
concrete_there [] c h = absurd cc
concrete_there (k ∷ cs) zero h = omega arith
concrete_there (k ∷ cs) (suc c) h = omega (arith, concrete_there cs c h)

-- the selector of a site, read off a list of the sites
pub selector_is : (p : Numbered) (sites : List Site) (s : ℕ) (d : Site) → sites ≡ p.sites → s < length p.sites → selector_of p.sites s ≡ (get_or sites s d).selector.0
selector_is p sites s d same lt =
    ap (λ o. unwrap_or (option_map (λ (site : Site). site.selector.0) o) 0) (slice_get-get_or p.sites s d lt) ∙ ap (λ (all : List Site). (get_or all s d).selector.0) (sym same)

pub selector_low : (p : Numbered) (sites : List Site) (s : ℕ) (d : Site) → sites ≡ p.sites → s < length p.sites → (get_or sites s d).selector.0 < length p.selectors
selector_low p sites s d same lt =
    subst (λ (all : List Site). (get_or all s d).selector.0 < length p.selectors) (sym same) (selector_there (parts_of p) p.sound s (get_or p.sites s d) (slice_get-get_or p.sites s d lt))

pub classes_at : (p : Parts) (s : ℕ) → (receivers p s).classes ≡ length p.classes
unfolding receivers
classes_at p s = refl

pub concrete_at : (p : Parts) (s c : ℕ) → (receivers p s).concrete c ≡ is_concrete p.classes c
unfolding receivers
concrete_at p s c = refl

pub resolve_at : (p : Parts) (s c : ℕ) → (receivers p s).resolve c ≡ resolve p c (selector_of p.sites s)
unfolding receivers
resolve_at p s c = refl

-- each concrete class is one of the classes
pub concrete_within : (p : Parts) (s c : ℕ) → IsTrue ((receivers p s).concrete c) → c < (receivers p s).classes
unfolding receivers
concrete_within p s c h = concrete_there p.classes c h

length-chain_from : (n : ℕ) (up : Parents) (o : Option ℕ) → length (chain_from n up o) ≤ n
length-chain_from n up None = omega arith
length-chain_from zero up (Some c) = omega arith
length-chain_from (suc n) up (Some c) = omega (arith, length-chain_from n up (parent_in up c))

-- a chain has no more classes than there are
pub length-chain : (up : Parents) (c k : ℕ) → c < k → length (chain up c) ≤ k
unfolding chain
length-chain up c k small = omega (arith, length-chain_from (suc c) up (Some c))

-- whether a class is abstract, as a class table tells it
pub concrete_is : (cs : List Class) (c : ℕ) (b : Bool) → slice_get (map (λ (k : Class). k.is_abstract) cs) c ≡ Some b → is_concrete cs c ≡ not b
concrete_is [] c b h = absurd cc
concrete_is (k ∷ cs) zero b h = ap (λ o. not (unwrap_or o true)) h
concrete_is (k ∷ cs) (suc c) b h = concrete_is cs c b h

-- the visits of one more lookup
pub walk_more : (lo n m : ℕ) → lo ≤ n → ((n + 1) - lo) * m ≡ (n - lo) * m + m
walk_more lo n m h = let e : (n + 1) - lo ≡ suc (n - lo) = omega arith in ap (λ k. k * m) e ∙ suc-mul (n - lo) m

-- fewer lookups visit no more
pub walk_within : (a b m : ℕ) → a ≤ b → a * m ≤ b * m
walk_within a b m h = let e = mul-le-mul_left m h in let p = mul_comm m a in let q = mul_comm m b in omega arith

-- a class table has an entry for each class
pub count_is : (cs : List Class) → length (parents cs) ≡ length cs
count_is cs = length-map cs (λ (k : Class). option_map (λ p. p.0) k.parent)
