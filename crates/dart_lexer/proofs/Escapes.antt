-- Escapes: the functions and the cases agree.
use Rattle.std.proofs.Common.{◌≡◌, ℕ, zero, suc, ◌+◌, ◌*◌, Bool, true, false, not, ◌&&◌, ◌||◌, ◌==◌, [], ◌∷◌, Some, None, refl, ap, sym, subst, ◌∙◌}
use Rattle.std.proofs.lemmas.Bool.{eqb-true}
use Rattle.dart_syntax.specs.declared.byte_kind.ByteKind.TheVariants as byte
use Rattle.dart_syntax.specs.Bytes.{Text, is_in, next}
use Rattle.dart_syntax.specs.Numbers.{hex_value, value_from}
use Rattle.dart_syntax.specs.Strings as st
use Rattle.dart_syntax.specs.Strings.{Digits, Escape, is_escape, is_code, escaped, six_bits, with_bytes, character}
use Rattle.dart_lexer.specs.FirstFault.{ends_line}
use Rattle.dart_lexer.specs.Model.{Found, digits_from, braced, unicode, escape, run, past_run, is_first}
use Rattle.dart_lexer.proofs.Facts.{split, which, first_is, and_true, run_is, run_of}

-- ---- what is found

same_found : (R : ℕ → Text → Type 0) {x y : ℕ} {ts us : Text} → ◌≡◌ {A = Found} (Some (x, ts)) (Some (y, us)) → R x ts → R y us
same_found R {x} {y} {ts} {us} e r = let p : ◌≡◌ {A = ℕ × Text} (x, ts) (y, us) = cc in subst (λ (q : ℕ × Text). R q.0 q.1) p r

nothing : {y : ℕ × Text} → ◌≡◌ {A = Found} None (Some y) → ⊥
nothing e = cc

-- ---- digits

digits_complete : {n : ℕ} {bs ds rest : Text} → Digits n bs ds rest → (v : ℕ) → digits_from n v bs ≡ Some (value_from 16 v ds, rest)
digits_complete st.Digits.none v = refl
digits_complete (st.Digits.more {a = a} h x) v = rw h (digits_complete x (16 * v + hex_value a))

record Spelled (n v : ℕ) (bs : Text) (c : ℕ) (rest : Text) : Type 0 where
  ds : Text
  reads : Digits n bs ds rest
  is : c ≡ value_from 16 v ds

digits_sound : (n v : ℕ) (bs : Text) {c : ℕ} {rest : Text} → digits_from n v bs ≡ Some (c, rest) → Spelled n v bs c rest
digits_sound zero v bs e = same_found (λ c rest. Spelled 0 v bs c rest) e (record { ds = []; reads = st.Digits.none; is = refl })
digits_sound (suc n) v [] e = absurd (nothing e)
digits_sound (suc n) v (a ∷ bs) {c} {rest} e = split (is_in byte.Hex a)
    (λ h. longer h (digits_sound n (16 * v + hex_value a) bs (rw h at e)))
    (λ h. absurd (nothing (rw h at e)))
  where
    longer : is_in byte.Hex a ≡ true → Spelled n (16 * v + hex_value a) bs c rest → Spelled (suc n) v (a ∷ bs) c rest
    longer h x = record { ds = a ∷ x.ds; reads = st.Digits.more h x.reads; is = x.is }

-- ---- escapes

none_of_three : (a b c : Bool) → not ((a || b) || c) ≡ true → (a ≡ false) × (b ≡ false) × (c ≡ false)
none_of_three true b c e = cc
none_of_three false true c e = cc
none_of_three false false true e = cc
none_of_three false false false e = (refl, refl, refl)

escape_is : (b : ℕ) → is_escape b ≡ true → ((b == 120) ≡ false) × ((b == 117) ≡ false) × (is_in byte.LineEnd b ≡ false)
escape_is b h = none_of_three (b == 120) (b == 117) (is_in byte.LineEnd b) h

hex_no_brace : (a : ℕ) → is_in byte.Hex a ≡ true → (a == 123) ≡ false
hex_no_brace a h = split (a == 123) (λ e. let f : true ≡ false = sym h ∙ ap (is_in byte.Hex) (eqb-true a 123 e) in cc) (λ e. e)

digits_no_brace : {n : ℕ} {bs ds rest : Text} → Digits (suc n) bs ds rest → is_first 123 bs ≡ false
digits_no_brace (st.Digits.more {a = a} h x) = hex_no_brace a h

pub escape_complete : {bs rest : Text} {c : ℕ} → Escape bs c rest → escape bs ≡ Some (c, rest)
unfolding escape unicode braced
escape_complete (st.Escape.plain {b} {bs} h) = let p = escape_is b h in rw (p.0, p.1)
escape_complete (st.Escape.two x) = digits_complete x 0
escape_complete (st.Escape.four {bs} {ds} {rest} x) = rw (digits_no_brace x) (digits_complete x 0)
escape_complete (st.Escape.braced {bs} {ds} {rest} r h) = let i = run_is byte.Hex r in rw (i.0, i.1, h)

pub escape_no_end : {bs rest : Text} {c : ℕ} → Escape bs c rest → ends_line bs ≡ false
escape_no_end (st.Escape.plain {b} {bs} h) = (escape_is b h).2
escape_no_end (st.Escape.two x) = refl
escape_no_end (st.Escape.four x) = refl
escape_no_end (st.Escape.braced r h) = refl

braced_sound : (bs : Text) {c : ℕ} {rest : Text} → braced bs ≡ Some (c, rest) → Escape (117 ∷ 123 ∷ bs) c rest
unfolding braced
braced_sound bs e = split (is_first 125 (past_run byte.Hex bs) && is_code (run byte.Hex bs))
    (λ h. let p = and_true _ _ h in same_found (λ c rest. Escape (117 ∷ 123 ∷ bs) c rest) (rw h at e)
    (st.Escape.braced (rw (first_is 125 (past_run byte.Hex bs) p.0) at (run_of byte.Hex bs)) p.1))
    (λ h. absurd (nothing (rw h at e)))

unicode_sound : (bs : Text) {c : ℕ} {rest : Text} → unicode bs ≡ Some (c, rest) → Escape (117 ∷ bs) c rest
unfolding unicode
unicode_sound bs {c} {rest} e = split (is_first 123 bs)
    (λ h. rw (first_is 123 bs h) (braced_sound (next bs) (rw h at e)))
    (λ h. spelled (digits_sound 4 0 bs (rw h at e)))
  where
    spelled : Spelled 4 0 bs c rest → Escape (117 ∷ bs) c rest
    spelled x = rw x.is (st.Escape.four x.reads)

pub escape_sound : (bs : Text) {c : ℕ} {rest : Text} → ends_line bs ≡ false → escape bs ≡ Some (c, rest) → Escape bs c rest
unfolding escape
escape_sound [] h e = absurd (nothing e)
escape_sound (b ∷ bs) {c} {rest} h e = split (b == 120)
    (λ x. rw (eqb-true b 120 x) (spelled (digits_sound 2 0 bs (rw x at e))))
    (λ no_x. split (b == 117)
    (λ u. rw (eqb-true b 117 u) (unicode_sound bs (rw (no_x, u) at e)))
    (λ no_u. let f : is_escape b ≡ true = rw (no_x, no_u, h) in same_found (λ c rest. Escape (b ∷ bs) c rest) (rw (no_x, no_u) at e) (st.Escape.plain f)))
  where
    spelled : Spelled 2 0 bs c rest → Escape (120 ∷ bs) c rest
    spelled x = rw x.is (st.Escape.two x.reads)

-- no escape stands there exactly where the function finds none
pub escape_none : (bs : Text) → ends_line bs ≡ false → ((c : ℕ) (rest : Text) → ¬ Escape bs c rest) → escape bs ≡ None
escape_none bs h refuted = which (escape bs)
    (λ none. none)
    (λ p some. absurd (refuted p.0 p.1 (escape_sound bs h some)))

pub no_escape : (bs : Text) → escape bs ≡ None → (c : ℕ) (rest : Text) → ¬ Escape bs c rest
no_escape bs none c rest x = nothing (sym none ∙ escape_complete x)
