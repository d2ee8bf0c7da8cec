-- The definition of a character reads back what UTF-8 writes.
use Rattle.std.proofs.Common.{◌≡◌, ℕ, zero, suc, ◌+◌, ◌-◌, ◌*◌, [], ◌∷◌, ◌++◌, ap, sym, ◌∙◌, arith}
use Rattle.std.specs.Char.{IsScalar, encode_utf8}
use Rattle.std.specs.Str.{continuation_len, lead_bits}
use Rattle.std.proofs.str.Laws as laws
use lib.Utf8.{scalar_cases}
use Rattle.dart_syntax.specs.Bytes.{Text}
use Rattle.dart_syntax.specs.Strings.{with_bytes, character}

-- the character that begins a text of at least one byte
abbrev front : Text → ℕ × Text
front [] = (0, [])
front (b ∷ bs) = character b bs

led : (a n v : ℕ) (bs : Text) → n ≡ continuation_len a → v ≡ lead_bits a → character a bs ≡ with_bytes n v bs
unfolding character
led a n v bs p q = λ i. with_bytes (sym p i) (sym q i) bs

reads : (c : ℕ) (rest : Text) → laws.Shape c → front (encode_utf8 c ++ rest) ≡ (c, rest)
reads c rest (laws.of1 h e) = ap (λ p. front (p ++ rest)) e ∙ led c zero c rest (grind arith) (grind arith)
reads c rest (laws.of2 a b l h f s e) =
    let is : 64 * (a - 192) + (b - 128) ≡ c = omega (arith, f.0) in
    ap (λ p. front (p ++ rest)) e ∙ led a (suc zero) (a - 192) (b ∷ rest) (grind arith) (grind arith) ∙ ap (λ v. (v, rest)) is
reads c rest (laws.of3 a b d l h f g s e) =
    let is : 64 * (64 * (a - 224) + (b - 128)) + (d - 128) ≡ c = omega (arith, f.0, g.0) in
    ap (λ p. front (p ++ rest)) e ∙ led a (suc (suc zero)) (a - 224) (b ∷ d ∷ rest) (grind arith) (grind arith) ∙ ap (λ v. (v, rest)) is
reads c rest (laws.of4 a b d x l h f g k s e) =
    let is : 64 * (64 * (64 * (a - 240) + (b - 128)) + (d - 128)) + (x - 128) ≡ c = omega (arith, f.0, g.0, k.0) in
    ap (λ p. front (p ++ rest)) e ∙ led a (suc (suc (suc zero))) (a - 240) (b ∷ d ∷ x ∷ rest) (grind arith) (grind arith) ∙ ap (λ v. (v, rest)) is

pub character_is : (c b : ℕ) (bs rest : Text) → IsScalar c → encode_utf8 c ++ rest ≡ b ∷ bs → character b bs ≡ (c, rest)
character_is c b bs rest scalar e = sym (ap front e) ∙ reads c rest (laws.shape c (scalar_cases c scalar))
