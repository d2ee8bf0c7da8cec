-- Sums over a list that is read element by element.
use Rattle.std.proofs.Common.{◌≡◌, ℕ, ◌+◌, ◌<◌, List, Option, Some, None, is_some, length, map, drop, get_or, sym, ◌∙◌, ap, arith}
use Rattle.std.specs.Prelude.{filter_map, fold}
use Rattle.std.specs.List.{cons_option}
use Rattle.static_rules.specs.Accepted.{one_if}
use Rattle.declaration_rules.proofs.Firsts.{cut}

regrouped : (n k m r whole : ℕ) → m ≡ n + k → n + (k + r) ≡ whole → m + r ≡ whole
regrouped n k m r whole is was = omega arith

-- one more to a sum so far
pub next_sum : {A B : Type 0} (f : B → ℕ) (v : A → B) (xs : List A) (i : ℕ) (x : A) (n m whole : ℕ) → i < length xs → x ≡ get_or xs i x
    → m ≡ n + f (v x) → fold (λ a y. a + f y) n (map v (drop i xs)) ≡ whole → fold (λ a y. a + f y) m (map v (drop (i + 1) xs)) ≡ whole
next_sum f v xs i x n m whole lt is step was =
    ap (λ k. fold (λ a y. a + f y) k (map v (drop (i + 1) xs))) step
    ∙ sym (ap (λ ys. fold (λ a y. a + f y) n (map v ys)) (cut xs i x lt is)) ∙ was

kept : {A : Type 0} (o : Option A) (xs : List A) → length (cons_option o xs) ≡ one_if (is_some o) + length xs
kept None xs = omega arith
kept (Some x) xs = omega arith

pub next_kept : {A B C : Type 0} (f : B → Option C) (v : A → B) (xs : List A) (i : ℕ) (x : A) (n m whole : ℕ) → i < length xs → x ≡ get_or xs i x
    → m ≡ n + one_if (is_some (f (v x))) → n + length (filter_map f (map v (drop i xs))) ≡ whole → m + length (filter_map f (map v (drop (i + 1) xs))) ≡ whole
next_kept f v xs i x n m whole lt is step was =
    let rest = filter_map f (map v (drop (i + 1) xs)) in
    regrouped n (one_if (is_some (f (v x)))) m (length rest) whole step
    (sym (ap (λ k. n + k) (kept (f (v x)) rest)) ∙ sym (ap (λ ys. n + length (filter_map f (map v ys))) (cut xs i x lt is)) ∙ was)
