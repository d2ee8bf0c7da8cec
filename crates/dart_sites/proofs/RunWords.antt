-- One word and four or more, and what they ask for.
use Rattle.std.proofs.Common.{◌≡◌, ℕ, ◌≤◌, ◌<◌, List, [], ◌∷◌, length, drop, get_or, refl, sym, ap, ◌∙◌, arith}
use Rattle.std.specs.Prelude.{String, string_bytes}
use Rattle.std.specs.declared.alloc.Global.{Global}
use Rattle.std.proofs.lemmas.List.{length-map}
use Rattle.dart_sites.specs.Words.{Asks, AsksRun, IsWithin, entries, texts}
use Rattle.dart_sites.specs.declared.words.Request.{Request}
use Rattle.dart_sites.specs.declared.words.Request.TheVariants as request

-- words that ask for a run begin with four words or more
long : (words : List (List ℕ)) (n : ℕ) (names : List (List ℕ)) → AsksRun words n names → 4 ≤ length words
long words n names run = omega (arith, ap length run.words_are, run.named)

pub asks_within : (words : List (List ℕ)) (r : Request) → Asks words r → IsWithin r
asks_within words request.Check asks = tt
asks_within words request.List asks = tt
asks_within words (request.Run turns names) asks = (asks.most, omega (arith, asks.few, length-map names.now string_bytes))

-- Requests that the same words ask for name the same entries.
pub same_entries : (words : List (List ℕ)) (r s : Request) → Asks words r → Asks words s → entries r ≡ entries s
same_entries words request.Check request.Check p q = refl
same_entries words request.Check request.List p q = refl
same_entries words request.Check (request.Run turns names) p q = absurd (omega (arith, ap length p, long words turns (texts names.now) q))
same_entries words request.List request.Check p q = refl
same_entries words request.List request.List p q = refl
same_entries words request.List (request.Run turns names) p q = absurd (omega (arith, ap length p, long words turns (texts names.now) q))
same_entries words (request.Run turns names) request.Check p q = absurd (omega (arith, ap length q, long words turns (texts names.now) p))
same_entries words (request.Run turns names) request.List p q = absurd (omega (arith, ap length q, long words turns (texts names.now) p))
same_entries words (request.Run turns names) (request.Run also more) p q = ap (λ l. drop 3 l) (sym p.words_are ∙ q.words_are)

pub one : (xs : List (String Global)) (a : String Global) → 1 ≤ length xs → length xs < 2 → a ≡ get_or xs 0 a → xs ≡ a ∷ []
one [] a low high pa = absurd (omega arith)
one (w ∷ []) a low high pa = cc
one (w ∷ x ∷ rest) a low high pa = absurd (omega arith)

pub three_and_more : (xs : List (String Global)) (a b c : String Global) → 3 ≤ length xs →
    a ≡ get_or xs 0 a → b ≡ get_or xs 1 b → c ≡ get_or xs 2 c → xs ≡ a ∷ b ∷ c ∷ drop 3 xs
three_and_more [] a b c low pa pb pc = absurd (omega arith)
three_and_more (w ∷ []) a b c low pa pb pc = absurd (omega arith)
three_and_more (w ∷ x ∷ []) a b c low pa pb pc = absurd (omega arith)
three_and_more (w ∷ x ∷ y ∷ rest) a b c low pa pb pc = cc

-- No words, and two, ask for nothing.
pub other_number : (words : List (List ℕ)) → (length words ≡ 1 → ⊥) → length words < 4 → (r : Request) → Asks words r → ⊥
other_number words not_one few request.Check asks = not_one (ap length asks)
other_number words not_one few request.List asks = not_one (ap length asks)
other_number words not_one few (request.Run turns names) asks = omega (arith, few, long words turns (texts names.now) asks)
