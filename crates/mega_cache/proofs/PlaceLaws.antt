-- Laws of places, generations and words.
use Rattle.std.proofs.Common.{◌≡◌, ℕ, zero, suc, ◌+◌, ◌-◌, ◌*◌, ◌/◌, ◌%◌, ◌<◌, ◌≤◌, sym, refl, ap, ◌∙◌, subst, arith}
use Rattle.std.proofs.lemmas.Nat.{div-mul-add, mod-mul-add, mod_below}
use Rattle.std.proofs.Math.Nat.{mul-le-mul_right}
use native.Mathlib.Decide.{dec_le}
use Rattle.program.specs.declared.numbered.Target.{Target}
use Rattle.program.specs.declared.numbered.Target.TheVariants.{Method, Nsm}
use Rattle.mega_cache.specs.Entries.{packed, field_of, method_of}
use Rattle.mega_cache.specs.Places.{capacity, window_place, InGeneration}
use Rattle.mega_cache.specs.Region.{About, width_of, word_at, Sound}
use Rattle.mega_cache.proofs.Homes.{homes_differ}

pub cap_low : (g : ℕ) → 16 ≤ capacity g
cap_low zero = omega arith
cap_low (suc g) = let r = cap_low g in omega arith

cap_more : (g d h : ℕ) → h ≡ d + suc g → 2 * capacity g ≤ capacity h
cap_more g zero h e = subst (λ (z : ℕ). 2 * capacity g ≤ capacity z) (let z : suc g ≡ h = omega arith in z) (omega arith)
cap_more g (suc d) h e = let r = cap_more g d (d + suc g) refl in subst (λ (z : ℕ). 2 * capacity g ≤ capacity z) (let z : suc (d + suc g) ≡ h = omega arith in z) (omega arith)

pub cap_below : (g h : ℕ) → g < h → 2 * capacity g ≤ capacity h
cap_below g h l = cap_more g (h - suc g) h (omega arith)

pub cap_up : (g h : ℕ) → g ≤ h → capacity g ≤ capacity h
cap_up g h l = by_order (dec_le h g)
  where
    by_order : Dec (h ≤ g) → capacity g ≤ capacity h
    by_order (yes m) = let e : g ≡ h = omega arith in let f = ap capacity e in omega arith
    by_order (no n) = let m = cap_below g h (omega arith) in omega arith

-- a place is in one generation
pub one_gen : (g h f : ℕ) → InGeneration g f → InGeneration h f → g ≡ h
one_gen g h f a b = by_order (dec_le g h) (dec_le h g)
  where
    by_order : Dec (g ≤ h) → Dec (h ≤ g) → g ≡ h
    by_order (yes l) (yes m) = omega arith
    by_order (no n) m = let c = cap_below h g (omega arith) in let x = a.0 in let y = b.1 in absurd (omega arith)
    by_order (yes l) (no n) = let c = cap_below g h (omega arith) in let x = b.0 in let y = a.1 in absurd (omega arith)

pub spot_in : (c g d : ℕ) → InGeneration g (window_place c g d)
unfolding window_place
spot_in c g d = let low = cap_low g in let m = mod_below (7 * c + d) (capacity g) (omega arith) in (omega arith, omega arith)

pub spot_some : (c g d : ℕ) → 0 < window_place c g d
spot_some c g d = let low = cap_low g in let a = (spot_in c g d).0 in omega arith

pub spot_inside : (p : About) (c g d : ℕ) → g ≤ p.last → window_place c g d < width_of p
spot_inside p c g d l = let low = cap_low g in let up = cap_up g p.last l in let a = (spot_in c g d).1 in omega arith

-- in the last generation all homes differ
pub homes : (p : About) (c c' : ℕ) → Sound p → c < p.classes → c' < p.classes → window_place c p.last 0 ≡ window_place c' p.last 0 → c ≡ c'
unfolding window_place
homes p c c' s l l' e = let few = s.few_classes in let same : (7 * c + 0) % capacity p.last ≡ (7 * c' + 0) % capacity p.last = omega arith in
    let a : 7 * c + 0 ≡ 7 * c = omega arith in let b : 7 * c' + 0 ≡ 7 * c' = omega arith in
    homes_differ s.rest (capacity p.last) c c' s.whole (omega arith) (omega arith) (ap (λ (z : ℕ). z % capacity p.last) (sym a) ∙ (same ∙ ap (λ (z : ℕ). z % capacity p.last) b))

pub pack_some : (c : ℕ) (t : Target) → ¬ (packed c t ≡ 0)
unfolding packed
pack_some c t e = omega arith

digit : (w a b a' b' : ℕ) → b < w → b' < w → a * w + b ≡ a' * w + b' → (a ≡ a') × (b ≡ b')
digit w a b a' b' h h' e = (sym (div-mul-add a w b h) ∙ (ap (λ (n : ℕ). n / w) e ∙ div-mul-add a' w b' h'), sym (mod-mul-add a w b h) ∙ (ap (λ (n : ℕ). n % w) e ∙ mod-mul-add a' w b' h'))

pub field_small : (t : Target) → method_of t < 32768 → field_of t < 65536
field_small (Method m) h = omega arith
field_small (Nsm m) h = omega arith

field_inj : (t u : Target) → method_of t < 32768 → method_of u < 32768 → field_of t ≡ field_of u → t ≡ u
field_inj (Method m) (Method n) h k e = ap (λ (z : ℕ). Method (record { 0 = z })) e
field_inj (Method m) (Nsm n) h k e = absurd (omega arith)
field_inj (Nsm m) (Method n) h k e = absurd (omega arith)
field_inj (Nsm m) (Nsm n) h k e = let is : m.0 ≡ n.0 = omega arith in ap (λ (z : ℕ). Nsm (record { 0 = z })) is

-- a word tells its class and its target
pub pack_inj : (c : ℕ) (t : Target) (c' : ℕ) (t' : Target) → method_of t < 32768 → method_of t' < 32768 → packed c t ≡ packed c' t' → (c ≡ c') × (t ≡ t')
unfolding packed
pack_inj c t c' t' h h' e = let d = digit 65536 (65536 + c) (field_of t) (65536 + c') (field_of t') (field_small t h) (field_small t' h') e in let a = d.0 in (omega arith, field_inj t t' h h' d.1)

module _ (p : About) where
  pub at_inj : (e f e' f' : ℕ) → f < width_of p → f' < width_of p → word_at p e f ≡ word_at p e' f' → (e ≡ e') × (f ≡ f')
  unfolding word_at
  at_inj e f e' f' h h' is = let less : e * width_of p + f ≡ e' * width_of p + f' = omega arith in digit (width_of p) e f e' f' h h' less

  pub at_inside : (e f : ℕ) → e < p.selectors → f < width_of p → word_at p e f < 1 + p.selectors * width_of p
  unfolding word_at
  at_inside e f l h = let w : ℕ = width_of p in let m : suc e * w ≤ p.selectors * w = mul-le-mul_right w l in let u : suc e * w ≡ e * w + w = grind arith in omega arith

  pub place_back : (e f : ℕ) → word_at p e f - (1 + e * width_of p) ≡ f
  unfolding word_at
  place_back e f = omega arith

  pub some_places : 0 < width_of p
  some_places = let l = cap_low p.last in omega arith

  pub at_root : (e s w : ℕ) → e ≡ s → width_of p ≡ w → word_at p e 0 ≡ 1 + s * w
  unfolding word_at
  at_root e s w a b = (λ j. 1 + (a j * b j + 0)) ∙ (let z : 1 + (s * w + 0) ≡ 1 + s * w = omega arith in z)

  pub at_place : (e f s w q : ℕ) → e ≡ s → width_of p ≡ w → f ≡ q → word_at p e f ≡ 1 + s * w + q
  unfolding word_at
  at_place e f s w q a b c = (λ j. 1 + (a j * b j + c j)) ∙ (let z : 1 + (s * w + q) ≡ 1 + s * w + q = omega arith in z)
