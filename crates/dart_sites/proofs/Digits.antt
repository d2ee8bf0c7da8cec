-- A number that is too great stays at the greatest.
use Rattle.std.proofs.Common.{◌≡◌, ℕ, ◌+◌, ◌*◌, ◌-◌, ◌^◌, ◌<◌, min, List, length, take, get_or, arith, sym, ◌∙◌, ap}
use Rattle.std.proofs.lemmas.List.Sums.{fold_more}
use Rattle.dart_sites.specs.Words.{digits_value}

capped_digit : (n d top : ℕ) → min (min (min n top * 10) top + d) top ≡ min (10 * n + d) top
capped_digit n d top = omega arith

pub capped_more : (text : List ℕ) (i value : ℕ) → i < length text → value ≡ min (digits_value (take i text)) (2 ^ 64 - 1) →
    min (min (value * 10) (2 ^ 64 - 1) + (get_or text i 0 - 48)) (2 ^ 64 - 1) ≡ min (digits_value (take (i + 1) text)) (2 ^ 64 - 1)
capped_more text i value h e =
    let more = fold_more (λ n b. 10 * n + (b - 48)) 0 text i 0 h in
    ap (λ v. min (min (v * 10) (2 ^ 64 - 1) + (get_or text i 0 - 48)) (2 ^ 64 - 1)) e
    ∙ capped_digit (digits_value (take i text)) (get_or text i 0 - 48) (2 ^ 64 - 1)
    ∙ ap (λ v. min v (2 ^ 64 - 1)) (sym more)
