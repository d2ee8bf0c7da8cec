-- The inside of strings: the functions and the cases agree.
use Rattle.std.proofs.Common.{◌≡◌, ℕ, zero, suc, ◌<◌, ◌≤◌, Bool, true, false, not, ◌||◌, ◌==◌, [], ◌∷◌, ◌++◌, length, Option, Some, None, Ok, Err, refl, ap, sym, inl, inr, ◌⊎◌, ◌∙◌, arith, append-nil, append_assoc}
use Rattle.std.specs.Char.Escape.{encode_utf16}
use Rattle.std.proofs.lemmas.Bool.{eqb-true, eq-eqb}
use Rattle.dart_lexer.specs.declared.fault.Fault.{Fault}
use Rattle.dart_lexer.specs.declared.fault.Fault.TheVariants.{UnclosedString}
use Rattle.dart_syntax.specs.declared.byte_kind.ByteKind.TheVariants as byte
use Rattle.dart_syntax.specs.Bytes.{Text, is_in}
use Rattle.dart_lexer.specs.Input.{Outcome}
use Rattle.dart_syntax.specs.Strings as st
use Rattle.dart_syntax.specs.Strings.{Character, Raw, Escape, is_plain, character}
use Rattle.dart_syntax.specs.Tokens.{is_quote}
use Rattle.dart_lexer.specs.FirstFault as ff
use Rattle.dart_lexer.specs.FirstFault.{BadCharacter, ends_line}
use Rattle.dart_lexer.specs.Model.{escape, escaped_one, one, went_on, raw_from, raw}
use Rattle.dart_syntax.proofs.Lengths.{one_shorter, raw_shorter}
use Rattle.dart_lexer.proofs.Facts.{split, which, via, via_err, same_ok, same_err, ok_not_err}
use Rattle.dart_lexer.proofs.Escapes.{escape_complete, escape_sound, escape_no_end, escape_none, no_escape}

-- a quote is none of the bytes with a meaning of their own
pub quote_other : (q a : ℕ) → is_quote q ≡ true → is_quote a ≡ false → (a == q) ≡ false
quote_other q a h other = split (a == q) (λ e. let f : true ≡ false = sym h ∙ ap is_quote (sym (eqb-true a q e)) ∙ other in cc) (λ e. e)

none_of_four : (a b c d : Bool) → not (((a || b) || c) || d) ≡ true → (a ≡ false) × (b ≡ false) × (c ≡ false) × (d ≡ false)
none_of_four true b c d e = cc
none_of_four false true c d e = cc
none_of_four false false true d e = cc
none_of_four false false false true e = cc
none_of_four false false false false e = (refl, refl, refl, refl)

plain_is : (q b : ℕ) → is_plain q b ≡ true → ((b == q) ≡ false) × ((b == 36) ≡ false) × ((b == 92) ≡ false) × (is_in byte.LineEnd b ≡ false)
plain_is q b h = none_of_four (b == q) (b == 36) (b == 92) (is_in byte.LineEnd b) h

line_end_is : (b : ℕ) → is_in byte.LineEnd b ≡ true → (b ≡ 10) ⊎ (b ≡ 13)
line_end_is b h = split (b == 10) (λ e. inl (eqb-true b 10 e)) (λ e. split (b == 13) (λ f. inr (eqb-true b 13 f)) (λ f. let g = rw (e, f) at h in cc))

pub one_complete : (q l : ℕ) {bs rest : Text} {c : ℕ} → is_quote q ≡ true → Character q bs c rest → one q l bs ≡ Ok (Some c, rest)
unfolding one escaped_one
one_complete q l quote (st.Character.plain {b} {bs} h) = let p = plain_is q b h in rw (p.0, p.1, p.2, p.3)
one_complete q l quote (st.Character.escape {c} {bs} {rest} x) = rw (quote_other q 92 quote refl, escape_no_end x, escape_complete x)

pub one_quote : (q l : ℕ) (rest : Text) → one q l (q ∷ rest) ≡ Ok (None, q ∷ rest)
unfolding one
one_quote q l rest = rw (eq-eqb q q refl)

pub one_dollar : (q l : ℕ) (rest : Text) → is_quote q ≡ true → one q l (36 ∷ rest) ≡ Ok (None, 36 ∷ rest)
unfolding one
one_dollar q l rest quote = rw (quote_other q 36 quote refl)

-- what a character that was read says
abbrev Read : ℕ → Text → Option ℕ → Text → Type 0
Read q bs (Some c) rest = Character q bs c rest
Read q bs None rest = (rest ≡ bs) × ((b : ℕ) × (us : Text) × (bs ≡ b ∷ us) × ((b ≡ q) ⊎ (b ≡ 36)))

no_read : {r : Fault} {y : Option ℕ × Text} → ◌≡◌ {A = Outcome (Option ℕ)} (Err r) (Ok y) → ⊥
no_read e = cc

escaped_sound : (q l at : ℕ) (bs : Text) {o : Option ℕ} {rest : Text} → escaped_one l at bs ≡ Ok (o, rest) → Read q (92 ∷ bs) o rest
unfolding escaped_one
escaped_sound q l at bs e = split (ends_line bs)
    (λ ends. absurd (no_read (rw ends at e)))
    (λ goes_on. which (escape bs)
    (λ none. absurd (no_read (rw (goes_on, none) at e)))
    (λ p some. same_ok (λ o rest. Read q (92 ∷ bs) o rest) (rw (goes_on, some) at e) (st.Character.escape (escape_sound bs goes_on some))))

pub one_sound : (q l : ℕ) (bs : Text) {o : Option ℕ} {rest : Text} → one q l bs ≡ Ok (o, rest) → Read q bs o rest
unfolding one
one_sound q l [] e = absurd (no_read e)
one_sound q l (b ∷ bs) e = split (b == q)
    (λ h. same_ok (λ o rest. Read q (b ∷ bs) o rest) (rw h at e) (refl, (b, bs, refl, inl (eqb-true b q h))))
    (λ no_q. split (b == 36)
    (λ h. same_ok (λ o rest. Read q (b ∷ bs) o rest) (rw (no_q, h) at e) (refl, (b, bs, refl, inr (eqb-true b 36 h))))
    (λ no_dollar. split (b == 92)
    (λ h. rw (eqb-true b 92 h) (escaped_sound q l (length (b ∷ bs)) bs (rw (no_q, no_dollar, h) at e)))
    (λ no_slash. split (is_in byte.LineEnd b)
    (λ ends. absurd (no_read (rw (no_q, no_dollar, no_slash, ends) at e)))
    (λ ends. let f : is_plain q b ≡ true = rw (no_q, no_dollar, no_slash, ends) in
    same_ok (λ o rest. Read q (b ∷ bs) o rest) (rw (no_q, no_dollar, no_slash, ends) at e) (st.Character.plain f)))))

-- ---- faults

bad_line_end : (q l : ℕ) (bs : Text) → is_quote q ≡ true → ends_line bs ≡ true → one q l bs ≡ Err (UnclosedString l)
unfolding one
bad_line_end q l [] quote h = refl
bad_line_end q l (b ∷ bs) quote h = elim (line_end_is b h) [
  | inl is ↦ rw (is, quote_other q 10 quote refl)
  | inr is ↦ rw (is, quote_other q 13 quote refl)
]

pub bad_one : (q l : ℕ) {bs : Text} {e : Fault} → is_quote q ≡ true → BadCharacter l bs e → one q l bs ≡ Err e
unfolding one escaped_one
bad_one q l quote (ff.BadCharacter.line_end {bs} h) = bad_line_end q l bs quote h
bad_one q l quote (ff.BadCharacter.cut_off {bs} h) = rw (quote_other q 92 quote refl, h)
bad_one q l quote (ff.BadCharacter.escape {bs} h none) = rw (quote_other q 92 quote refl, h, escape_none bs h none)

-- and back

bad_escaped_is : (l : ℕ) (bs : Text) {e : Fault} → escaped_one l (length (92 ∷ bs)) bs ≡ Err e → BadCharacter l (92 ∷ bs) e
unfolding escaped_one
bad_escaped_is l bs e = split (ends_line bs)
    (λ ends. same_err (λ e. BadCharacter l (92 ∷ bs) e) (rw ends at e) (ff.BadCharacter.cut_off ends))
    (λ goes_on. which (escape bs)
    (λ none. same_err (λ e. BadCharacter l (92 ∷ bs) e) (rw (goes_on, none) at e) (ff.BadCharacter.escape goes_on (no_escape bs none)))
    (λ p some. absurd (ok_not_err (rw (goes_on, some) at e))))

pub bad_one_is : (q l : ℕ) (bs : Text) {e : Fault} → one q l bs ≡ Err e → BadCharacter l bs e
unfolding one
bad_one_is q l [] e = same_err (λ e. BadCharacter l [] e) e (ff.BadCharacter.line_end refl)
bad_one_is q l (b ∷ bs) e = split (b == q)
    (λ h. absurd (ok_not_err (rw h at e)))
    (λ no_q. split (b == 36)
    (λ h. absurd (ok_not_err (rw (no_q, h) at e)))
    (λ no_dollar. split (b == 92)
    (λ h. rw (eqb-true b 92 h) (bad_escaped_is l bs (rw (no_q, no_dollar, h) at e)))
    (λ no_slash. split (is_in byte.LineEnd b)
    (λ ends. same_err (λ e. BadCharacter l (b ∷ bs) e) (rw (no_q, no_dollar, no_slash, ends) at e) (ff.BadCharacter.line_end ends))
    (λ ends. absurd (ok_not_err (rw (no_q, no_dollar, no_slash, ends) at e))))))

-- ---- all characters up to a quote or a `$`

raw_complete_from : (q l : ℕ) → is_quote q ≡ true → (n : ℕ) (found : Text) {bs us rest : Text} → Raw q bs us rest → length bs ≤ n → 0 < length rest → one q l rest ≡ Ok (None, rest)
    → raw_from q l n found bs ≡ Ok (found ++ us, rest)
raw_complete_from q l quote zero found r h some stops = absurd (omega (arith, raw_shorter q r))
raw_complete_from q l quote (suc n) found st.Raw.none h some stops = rw (stops, append-nil found)
raw_complete_from q l quote (suc n) found (st.Raw.more {c} {us} x xs) h some stops =
    rw (one_complete q l quote x, raw_complete_from q l quote n (found ++ encode_utf16 c) xs (omega (arith, one_shorter q x)) some stops, append_assoc found (encode_utf16 c) us)

pub raw_complete : (q l : ℕ) → is_quote q ≡ true → {bs us rest : Text} → Raw q bs us rest → one q l rest ≡ Ok (None, rest) → 0 < length rest → raw q l bs ≡ Ok (us, rest)
unfolding raw
raw_complete q l quote {bs} r stops some = raw_complete_from q l quote (length bs) [] r (omega arith) some stops

pub text_end_is : (l : ℕ) {bs : Text} {e : Fault} → BadCharacter l bs e → length bs ≤ 0 → e ≡ UnclosedString l
text_end_is l (ff.BadCharacter.line_end x) h = refl
text_end_is l (ff.BadCharacter.cut_off x) h = absurd (omega arith)
text_end_is l (ff.BadCharacter.escape x none) h = absurd (omega arith)

raw_err_from : (q l : ℕ) → is_quote q ≡ true → (n : ℕ) (found : Text) {bs us rest : Text} {e : Fault} → Raw q bs us rest → length bs ≤ n → BadCharacter l rest e → raw_from q l n found bs ≡ Err e
raw_err_from q l quote zero found st.Raw.none h bad = rw (text_end_is l bad (omega arith))
raw_err_from q l quote zero found (st.Raw.more x xs) h bad = absurd (omega (arith, one_shorter q x))
raw_err_from q l quote (suc n) found st.Raw.none h bad = rw (bad_one q l quote bad)
raw_err_from q l quote (suc n) found (st.Raw.more {c} x xs) h bad = rw (one_complete q l quote x) (raw_err_from q l quote n (found ++ encode_utf16 c) xs (omega (arith, one_shorter q x)) bad)

pub raw_err : (q l : ℕ) → is_quote q ≡ true → {bs us rest : Text} {e : Fault} → Raw q bs us rest → BadCharacter l rest e → raw q l bs ≡ Err e
unfolding raw
raw_err q l quote {bs} r bad = raw_err_from q l quote (length bs) [] r (omega arith) bad

-- what all the characters that were read say
pub record ReadsRaw (q : ℕ) (found bs ys rest : Text) : Type 0 where
  pub us : Text
  pub is : ys ≡ found ++ us
  pub reads : Raw q bs us rest
  pub b : ℕ
  pub more : Text
  pub stops : rest ≡ b ∷ more
  pub at : (b ≡ q) ⊎ (b ≡ 36)

raw_sound_from : (q l n : ℕ) (found bs : Text) {ys rest : Text} → raw_from q l n found bs ≡ Ok (ys, rest) → ReadsRaw q found bs ys rest
raw_sound_from q l zero found bs e = cc
raw_sound_from q l (suc n) found bs {ys} {rest} e = via (one q l bs) _ e (λ o mid e1 e2. go o mid (one_sound q l bs e1) e2 (λ c mid e. raw_sound_from q l n (found ++ encode_utf16 c) mid e))
  where
    go : (o : Option ℕ) (mid : Text) → Read q bs o mid → went_on o found (raw_from q l n) mid ≡ Ok (ys, rest)
        → ((c : ℕ) (mid : Text) → raw_from q l n (found ++ encode_utf16 c) mid ≡ Ok (ys, rest) → ReadsRaw q (found ++ encode_utf16 c) mid ys rest) → ReadsRaw q found bs ys rest
    go None mid (same, (b, more, is, at)) e next_sound = same_ok (λ ys rest. ReadsRaw q found bs ys rest) e (record { us = []; is = sym (append-nil found); reads = rw same st.Raw.none; b = b; more = more; stops = same ∙ is; at = at })
    go (Some c) mid x e next_sound = let f = next_sound c mid e in
        record { us = encode_utf16 c ++ f.us; is = f.is ∙ append_assoc found (encode_utf16 c) f.us; reads = st.Raw.more x f.reads; b = f.b; more = f.more; stops = f.stops; at = f.at }

pub raw_via : {G : Type 0} (q l : ℕ) (bs : Text) {ys rest : Text} → raw q l bs ≡ Ok (ys, rest)
    → ((us : Text) (b : ℕ) (more : Text) → ys ≡ us → rest ≡ b ∷ more → (b ≡ q) ⊎ (b ≡ 36) → Raw q bs us rest → G) → G
unfolding raw
raw_via q l bs e go = let f = raw_sound_from q l (length bs) [] bs e in go f.us f.b f.more f.is f.stops f.at f.reads

pub record FailsRaw (q l : ℕ) (bs : Text) (e : Fault) : Type 0 where
  pub us : Text
  pub rest : Text
  pub reads : Raw q bs us rest
  pub bad : BadCharacter l rest e

raw_fails_from : (q l n : ℕ) (found bs : Text) {e : Fault} → raw_from q l n found bs ≡ Err e → length bs ≤ n → FailsRaw q l bs e
raw_fails_from q l zero found [] e h = same_err (λ e. FailsRaw q l [] e) e (record { us = []; rest = []; reads = st.Raw.none; bad = (ff.BadCharacter.line_end refl) })
raw_fails_from q l zero found (b ∷ bs) e h = absurd (omega arith)
raw_fails_from q l (suc n) found bs {e = r} e h = via_err (one q l bs) _ e
    (λ e1. record { us = []; rest = bs; reads = st.Raw.none; bad = bad_one_is q l bs e1 })
    (λ o mid e1 e2. go o mid (one_sound q l bs e1) e2 (λ c mid e h. raw_fails_from q l n (found ++ encode_utf16 c) mid e h))
  where
    go : (o : Option ℕ) (mid : Text) → Read q bs o mid → went_on o found (raw_from q l n) mid ≡ Err r
        → ((c : ℕ) (mid : Text) → raw_from q l n (found ++ encode_utf16 c) mid ≡ Err r → length mid ≤ n → FailsRaw q l mid r) → FailsRaw q l bs r
    go None mid x e next_fails = absurd (ok_not_err e)
    go (Some c) mid x e next_fails = let f = next_fails c mid e (omega (arith, one_shorter q x)) in
        record { us = encode_utf16 c ++ f.us; rest = f.rest; reads = st.Raw.more x f.reads; bad = f.bad }

pub raw_fails : (q l : ℕ) (bs : Text) {e : Fault} → raw q l bs ≡ Err e → FailsRaw q l bs e
unfolding raw
raw_fails q l bs e = raw_fails_from q l (length bs) [] bs e (omega arith)
