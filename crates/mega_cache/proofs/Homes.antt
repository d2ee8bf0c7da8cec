-- In the last generation all homes differ: 7 has an inverse modulo each power of two up to 2048.
use Rattle.std.proofs.Common.{◌≡◌, ℕ, ◌+◌, ◌*◌, ◌%◌, ◌<◌, sym, ap, ◌∙◌, arith}
use Rattle.std.proofs.lemmas.Nat.{mod-mul-add, mul-mod_second}

turned : (r capacity a : ℕ) → capacity * r ≡ 2048 → 1463 * (7 * a) ≡ 5 * r * a * capacity + a
turned r capacity a e = let f : a * (capacity * r) ≡ a * 2048 = ap (λ (z : ℕ). a * z) e in let g : 5 * r * a * capacity ≡ 5 * (a * (capacity * r)) = grind arith in omega arith

home_of : (r capacity a : ℕ) → capacity * r ≡ 2048 → a < capacity → 1463 * ((7 * a) % capacity) % capacity ≡ a
home_of r capacity a e lt = mul-mod_second 1463 (7 * a) capacity ∙ (ap (λ (z : ℕ). z % capacity) (turned r capacity a e) ∙ mod-mul-add (5 * r * a) capacity a lt)

pub homes_differ : (r capacity a b : ℕ) → capacity * r ≡ 2048 → a < capacity → b < capacity → (7 * a) % capacity ≡ (7 * b) % capacity → a ≡ b
homes_differ r capacity a b e la lb same = sym (home_of r capacity a e la) ∙ (ap (λ (z : ℕ). 1463 * z % capacity) same ∙ home_of r capacity b e lb)
