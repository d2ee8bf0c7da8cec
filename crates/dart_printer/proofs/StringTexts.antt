-- The texts of strings and of their pieces.
use Rattle.std.proofs.Common.{◌≡◌, ℕ, zero, suc, ◌/◌, ◌%◌, ◌^◌, ◌<◌, Bool, true, false, List, [], ◌∷◌, ◌++◌, refl, sym, ◌∙◌, subst, arith, codes, append_assoc, append-nil}
use Rattle.std.specs.Str.{IsAscii}
use Rattle.std.specs.Char.Escape.{encode_utf16}
use Rattle.std.proofs.lemmas.Bool.{lt-ltb}
use Rattle.std.proofs.lemmas.Bool.Decides.{nat_tests}
use Rattle.std.proofs.lemmas.Str.{IsAscii-append}
use Rattle.dart_syntax.specs.declared.token.TokenKind.TheVariants as tk
use Rattle.dart_syntax.specs.declared.byte_kind.ByteKind.TheVariants as byte
use Rattle.dart_syntax.specs.declared.open.Open.{Open}
use Rattle.dart_syntax.specs.declared.open.Open.TheVariants as open_
use Rattle.dart_syntax.specs.Bytes.{Text, is_in}
use Rattle.dart_syntax.specs.Numbers.{hex_value, value}
use Rattle.dart_syntax.specs.Strings.{character, with_bytes, Digits, Escape, Character, Raw, Segment}
use Rattle.dart_syntax.specs.Strings as st
use Rattle.dart_syntax.specs.Tokens.{inside, is_blank}
use Rattle.dart_syntax.specs.Tokens as to
use Rattle.dart_syntax.specs.Text.{word, digit, unit_text, units_text}
use Rattle.dart_syntax.specs.Text as tx
use Rattle.dart_printer.specs.ReadsBack.{AreUnits}
use Rattle.dart_printer.proofs.Lists.{Kinds, one, both}
use Rattle.dart_printer.proofs.Cuts.{Cut, cut_one, cut_two, cut_then, Cuts, Closed}
use Rattle.dart_printer.proofs.Marks.{closed_word, ascii_is}

split : {G : Type 0} (b : Bool) → (b ≡ true → G) → (b ≡ false → G) → G
split true f g = f refl
split false f g = g refl

-- ---- units

digit_is : (d : ℕ) → d < 16 → (is_in byte.Hex (digit d) ≡ true) × (hex_value (digit d) ≡ d) × (digit d < 128)
digit_is d h = (grind (arith, nat_tests), grind (arith, nat_tests), grind (arith, nat_tests))

ascii_character : (u : ℕ) (bs : Text) → u < 128 → character u bs ≡ (u, bs)
unfolding character
ascii_character u bs h = rw (lt-ltb u 128 h)

one_unit : (u : ℕ) → u < 2 ^ 16 → encode_utf16 u ≡ u ∷ []
one_unit u h = rw (lt-ltb u 65536 h)

plain_small : (u : ℕ) → tx.is_plain u ≡ true → u < 128
plain_small u h = grind (arith, nat_tests, h)

plain_is : (u : ℕ) → tx.is_plain u ≡ true → st.is_plain 39 u ≡ true
plain_is u h = grind (arith, nat_tests, h)

plain_unit : (u : ℕ) (rest : Text) → u < 2 ^ 16 → tx.is_plain u ≡ true → Character 39 (u ∷ rest) u rest
plain_unit u rest small h = subst (λ (p : ℕ × Text). Character 39 (u ∷ rest) p.0 p.1) (ascii_character u rest (plain_small u h)) (st.Character.plain (plain_is u h))

sixteen : (n : ℕ) → n % 16 < 16
sixteen n = omega arith

four_value : (u : ℕ) → u < 2 ^ 16 → value 16 (digit (u / 4096 % 16) ∷ digit (u / 256 % 16) ∷ digit (u / 16 % 16) ∷ digit (u % 16) ∷ []) ≡ u
four_value u h =
    let a = (digit_is (u / 4096 % 16) (sixteen (u / 4096))).1 in
    let b = (digit_is (u / 256 % 16) (sixteen (u / 256))).1 in
    let c = (digit_is (u / 16 % 16) (sixteen (u / 16))).1 in
    let d = (digit_is (u % 16) (sixteen u)).1 in
    rw (a, b, c, d) (omega arith)

escaped_unit : (u : ℕ) (rest : Text) → u < 2 ^ 16 → Character 39 (92 ∷ 117 ∷ digit (u / 4096 % 16) ∷ digit (u / 256 % 16) ∷ digit (u / 16 % 16) ∷ digit (u % 16) ∷ rest) u rest
escaped_unit u rest h = st.Character.escape (subst (λ c. Escape (117 ∷ digit (u / 4096 % 16) ∷ digit (u / 256 % 16) ∷ digit (u / 16 % 16) ∷ digit (u % 16) ∷ rest) c rest) (four_value u h)
    (st.Escape.four (st.Digits.more (digit_is (u / 4096 % 16) (sixteen (u / 4096))).0 (st.Digits.more (digit_is (u / 256 % 16) (sixteen (u / 256))).0
    (st.Digits.more (digit_is (u / 16 % 16) (sixteen (u / 16))).0 (st.Digits.more (digit_is (u % 16) (sixteen u)).0 st.Digits.none))))))

unit_character : (u : ℕ) (rest : Text) → u < 2 ^ 16 → Character 39 (unit_text u ++ rest) u rest
unit_character u rest h = split (tx.is_plain u) (λ e. rw e (plain_unit u rest h e)) (λ e. rw e (escaped_unit u rest h))

raw_units : (us rest : Text) → AreUnits us → Raw 39 (units_text us ++ rest) us rest
raw_units [] rest h = st.Raw.none
raw_units (u ∷ us) rest h = subst (λ t. Raw 39 t (u ∷ us) rest) (sym (append_assoc (unit_text u) (units_text us) rest))
    (subst (λ vs. Raw 39 (unit_text u ++ (units_text us ++ rest)) (vs ++ us) rest) (one_unit u h.0) (st.Raw.more (unit_character u (units_text us ++ rest) h.0) (raw_units us rest h.1)))

unit_ascii : (u : ℕ) → IsAscii (unit_text u)
unit_ascii u = split (tx.is_plain u) (λ e. rw e (one_ascii u (plain_small u e))) (λ e. rw e (six_ascii _ _ _ _ (digit_is (u / 4096 % 16) (sixteen (u / 4096))).2 (digit_is (u / 256 % 16) (sixteen (u / 256))).2 (digit_is (u / 16 % 16) (sixteen (u / 16))).2 (digit_is (u % 16) (sixteen u)).2))
  where
    one_ascii : (a : ℕ) → a < 128 → IsAscii (a ∷ [])
    one_ascii a h zero = h
    one_ascii a h (suc i) = omega arith

    six_ascii : (a b c d : ℕ) → a < 128 → b < 128 → c < 128 → d < 128 → IsAscii (92 ∷ 117 ∷ a ∷ b ∷ c ∷ d ∷ [])
    six_ascii a b c d ha hb hc hd zero = omega arith
    six_ascii a b c d ha hb hc hd (suc zero) = omega arith
    six_ascii a b c d ha hb hc hd (suc (suc zero)) = ha
    six_ascii a b c d ha hb hc hd (suc (suc (suc zero))) = hb
    six_ascii a b c d ha hb hc hd (suc (suc (suc (suc zero)))) = hc
    six_ascii a b c d ha hb hc hd (suc (suc (suc (suc (suc zero))))) = hd
    six_ascii a b c d ha hb hc hd (suc (suc (suc (suc (suc (suc i)))))) = omega arith

units_ascii : (us : Text) → IsAscii (units_text us)
units_ascii [] i = omega arith
units_ascii (u ∷ us) i = IsAscii-append (unit_text u) (units_text us) (unit_ascii u) (units_ascii us) i

-- ---- strings

piece_ascii : (before us after : Text) → IsAscii before → IsAscii after → IsAscii (before ++ (units_text us ++ after))
piece_ascii before us after h g = IsAscii-append before (units_text us ++ after) h (IsAscii-append (units_text us) after (units_ascii us) g)

pub string_word : (us : Text) → AreUnits us → Closed (word (codes "'" ++ (units_text us ++ codes "'"))) (one (tk.Str us))
string_word us h = closed_word (codes "'" ++ (units_text us ++ codes "'")) (tk.Str us) (piece_ascii (codes "'") us (codes "'") (ascii_is (codes "'") refl) (ascii_is (codes "'") refl)) (λ n o b rest blank.
    subst (λ t. Cut n o (39 ∷ t) (one (tk.Str us)) o (b ∷ rest)) (sym (append_assoc (units_text us) (codes "'") (b ∷ rest)))
    (cut_one (tk.Str us) _ (to.Takes.string refl (st.Segment.closed (raw_units us (39 ∷ b ∷ rest) h)))))

-- the text of a piece before others
spaced : (t e rest : Text) → ((t ++ e) ++ 32 ∷ []) ++ rest ≡ t ++ (e ++ 32 ∷ rest)
spaced t e rest = append_assoc (t ++ e) (32 ∷ []) rest ∙ append_assoc t e (32 ∷ rest)

-- what stands behind a piece of a string, up to its end
pub record PieceCuts (text : Text) (kinds : Kinds) : Type 0 where
  pub ascii : IsAscii text
  pub cut : (n : ℕ) (o : List Open) (l : ℕ) (rest : Text) → Cut n (open_.Text 39 l ∷ o) (text ++ rest) kinds o rest

close_cut : (n : ℕ) (o : List Open) (l : ℕ) (us rest : Text) → AreUnits us → Cut n (open_.Text 39 l ∷ o) (word (codes "}" ++ (units_text us ++ codes "'")) ++ rest) (one (tk.StrClose us)) o rest
close_cut n o l us rest h = subst (λ t. Cut n (open_.Text 39 l ∷ o) (125 ∷ t) (one (tk.StrClose us)) o rest) (sym (spaced (units_text us) (codes "'") rest))
    (cut_two (cut_one (tk.StrClose us) _ (to.Takes.ends (st.Segment.closed (raw_units us (39 ∷ 32 ∷ rest) h)))) (to.Takes.blank refl))

mid_cut : (n : ℕ) (o : List Open) (l : ℕ) (us rest : Text) → AreUnits us → Cut n (open_.Text 39 l ∷ o) (word (codes "}" ++ (units_text us ++ codes "${")) ++ rest) (one (tk.StrMid us)) (open_.Text 39 l ∷ o) rest
mid_cut n o l us rest h = subst (λ t. Cut n (open_.Text 39 l ∷ o) (125 ∷ t) (one (tk.StrMid us)) (open_.Text 39 l ∷ o) rest) (sym (spaced (units_text us) (codes "${") rest))
    (cut_two (cut_one (tk.StrMid us) _ (to.Takes.goes_on (st.Segment.entered (raw_units us (36 ∷ 123 ∷ 32 ∷ rest) h)))) (to.Takes.blank refl))

piece_word_ascii : (before us after : Text) → IsAscii before → IsAscii after → IsAscii (word (before ++ (units_text us ++ after)))
piece_word_ascii before us after h g = IsAscii-append (before ++ (units_text us ++ after)) (32 ∷ []) (piece_ascii before us after h g) (ascii_is (32 ∷ []) refl)

pub pieces_close : {a : Text} {ks : Kinds} (us : Text) → Cuts a ks → AreUnits us → PieceCuts (a ++ (word (codes "}" ++ (units_text us ++ codes "'")) ++ [])) (both ks (one (tk.StrClose us)))
pieces_close {a = a} {ks = ks} us x h =
    let w = word (codes "}" ++ (units_text us ++ codes "'")) in
    subst (λ t. PieceCuts (a ++ t) (both ks (one (tk.StrClose us)))) (sym (append-nil w)) (record {
      ascii = IsAscii-append a w x.ascii (piece_word_ascii (codes "}") us (codes "'") (ascii_is (codes "}") refl) (ascii_is (codes "'") refl));
      cut = λ n o l rest. subst (λ t. Cut n (open_.Text 39 l ∷ o) t (both ks (one (tk.StrClose us))) o rest) (sym (append_assoc a w rest)) (cut_then (x.cut n (open_.Text 39 l ∷ o) (w ++ rest)) (close_cut n o l us rest h));
    })

pub pieces_mid : {a b : Text} {ks ls : Kinds} (us : Text) → Cuts a ks → AreUnits us → PieceCuts b ls → PieceCuts (a ++ (word (codes "}" ++ (units_text us ++ codes "${")) ++ b)) (both ks (both (one (tk.StrMid us)) ls))
pieces_mid {a = a} {b = b} {ks = ks} {ls = ls} us x h y =
    let w = word (codes "}" ++ (units_text us ++ codes "${")) in
    record {
      ascii = IsAscii-append a (w ++ b) x.ascii (IsAscii-append w b (piece_word_ascii (codes "}") us (codes "${") (ascii_is (codes "}") refl) (ascii_is (codes "${") refl)) y.ascii);
      cut = λ n o l rest. subst (λ t. Cut n (open_.Text 39 l ∷ o) t (both ks (both (one (tk.StrMid us)) ls)) o rest) (sym (append_assoc a (w ++ b) rest)) (cut_then (x.cut n (open_.Text 39 l ∷ o) ((w ++ b) ++ rest))
          (subst (λ t. Cut n (open_.Text 39 l ∷ o) t (both (one (tk.StrMid us)) ls) o rest) (sym (append_assoc w b rest)) (cut_then (mid_cut n o l us (b ++ rest) h) (y.cut n o l rest))));
    }

pub joined_cuts : {b : Text} {ls : Kinds} (us : Text) → AreUnits us → PieceCuts b ls → Cuts (word (codes "'" ++ (units_text us ++ codes "${")) ++ b) (both (one (tk.StrOpen us)) ls)
joined_cuts {b = b} {ls = ls} us h y =
    let w = word (codes "'" ++ (units_text us ++ codes "${")) in
    record {
      ascii = IsAscii-append w b (piece_word_ascii (codes "'") us (codes "${") (ascii_is (codes "'") refl) (ascii_is (codes "${") refl)) y.ascii;
      cut = λ n o rest. subst (λ t. Cut n o t (both (one (tk.StrOpen us)) ls) o rest) (sym (append_assoc w b rest))
          (subst (λ t. Cut n o (39 ∷ t) (both (one (tk.StrOpen us)) ls) o rest) (sym (spaced (units_text us) (codes "${") (b ++ rest)))
          (cut_then (cut_two (cut_one (tk.StrOpen us) _ (to.Takes.enters refl (st.Segment.entered (raw_units us (36 ∷ 123 ∷ 32 ∷ (b ++ rest)) h)))) (to.Takes.blank refl)) (y.cut n o _ rest)));
    }
