-- Pieces of strings: the functions and the cases agree.
use Rattle.std.proofs.Common.{◌≡◌, ℕ, zero, suc, ◌<◌, ◌≤◌, Bool, true, false, ◌==◌, List, [], ◌∷◌, ◌++◌, length, Some, Ok, Err, refl, ap, sym, inl, inr, ◌⊎◌, ◌∙◌, arith, append_assoc}
use Rattle.std.proofs.lemmas.Bool.{eqb-true, eq-eqb}
use Rattle.dart_syntax.specs.declared.token.Token.{Token}
use Rattle.dart_syntax.specs.declared.token.TokenKind.{TokenKind}
use Rattle.dart_syntax.specs.Words.{token}
use Rattle.dart_lexer.specs.declared.fault.Fault.{Fault}
use Rattle.dart_lexer.specs.declared.fault.Fault.TheVariants.{BadChar, UnclosedString, ReservedWord}
use Rattle.dart_syntax.specs.declared.byte_kind.ByteKind.TheVariants as byte
use Rattle.dart_syntax.specs.Bytes.{Text, is_in, next, Run, span}
use Rattle.dart_lexer.specs.Input.{Outcome}
use Rattle.dart_syntax.specs.Strings as st
use Rattle.dart_lexer.specs.FirstFault as ff
use Rattle.dart_syntax.specs.Strings.{Raw, Segment, piece}
use Rattle.dart_syntax.specs.Tokens.{is_quote}
use Rattle.dart_syntax.specs.Names.{simple_kind, keyword_of, is_reserved}
use Rattle.dart_lexer.specs.FirstFault.{BadSegment, BadCharacter, NoName}
use Rattle.dart_lexer.specs.Model.{run, past_run, simple, segment_from, segment, raw, is_first}
use Rattle.dart_syntax.proofs.Lengths.{run_shorter, raw_shorter}
use Rattle.dart_lexer.proofs.Facts.{split, which, via, via_err, same_ok, same_err, ok_not_err, first_is, run_is, run_of}
use Rattle.dart_lexer.proofs.Strings.{quote_other, one_quote, one_dollar, raw_complete, raw_via, raw_err, raw_fails, text_end_is}

-- ---- names behind a `$`

simple_complete : (at b : ℕ) {mid name after : Text} {k : TokenKind} → is_in byte.Initial b ≡ true → Run (is_in byte.Simple) mid name after → is_reserved (b ∷ name) ≡ false
    → simple_kind (keyword_of (b ∷ name)) (b ∷ name) ≡ Some k → simple at (b ∷ mid) ≡ Ok (k, after)
unfolding simple
simple_complete at b h r free is = let i = run_is byte.Simple r in rw (h, i.0, i.1, free, is)

reserved_name : (at b : ℕ) {mid name after : Text} → is_in byte.Initial b ≡ true → Run (is_in byte.Simple) mid name after → is_reserved (b ∷ name) ≡ true → simple at (b ∷ mid) ≡ Err (ReservedWord (length (b ∷ mid)))
unfolding simple
reserved_name at b h r reserved = let i = run_is byte.Simple r in rw (h, i.0, reserved)

record ReadsName (bs : Text) (k : TokenKind) (after : Text) : Type 0 where
  b : ℕ
  mid : Text
  name : Text
  is : bs ≡ b ∷ mid
  initial : is_in byte.Initial b ≡ true
  reads : Run (is_in byte.Simple) mid name after
  free : is_reserved (b ∷ name) ≡ false
  kind : simple_kind (keyword_of (b ∷ name)) (b ∷ name) ≡ Some k

no_kind : {r : Fault} {y : TokenKind × Text} → ◌≡◌ {A = Outcome TokenKind} (Err r) (Ok y) → ⊥
no_kind e = cc

simple_sound : (at : ℕ) (bs : Text) {k : TokenKind} {after : Text} → simple at bs ≡ Ok (k, after) → ReadsName bs k after
unfolding simple
simple_sound at [] e = absurd (no_kind e)
simple_sound at (b ∷ mid) e = split (is_in byte.Initial b)
    (λ h. split (is_reserved (b ∷ run byte.Simple mid))
    (λ reserved. absurd (no_kind (rw (h, reserved) at e)))
    (λ free. which (simple_kind (keyword_of (b ∷ run byte.Simple mid)) (b ∷ run byte.Simple mid))
    (λ none. absurd (no_kind (rw (h, free, none) at e)))
    (λ k is. same_ok (λ k after. ReadsName (b ∷ mid) k after) (rw (h, free, is) at e)
    (record { b = b; mid = mid; name = run byte.Simple mid; is = refl; initial = h; reads = run_of byte.Simple mid; free = free; kind = is }))))
    (λ h. absurd (no_kind (rw h at e)))

named_via : {G : Type 0} (at : ℕ) (bs : Text) {k : TokenKind} {after : Text} → simple at bs ≡ Ok (k, after)
    → ((b : ℕ) (mid name : Text) → bs ≡ b ∷ mid → is_in byte.Initial b ≡ true → Run (is_in byte.Simple) mid name after → is_reserved (b ∷ name) ≡ false → simple_kind (keyword_of (b ∷ name)) (b ∷ name) ≡ Some k → G) → G
named_via at bs e go = let x = simple_sound at bs e in go x.b x.mid x.name x.is x.initial x.reads x.free x.kind

not_brace : (b : ℕ) → is_in byte.Initial b ≡ true → (b == 123) ≡ false
not_brace b h = split (b == 123) (λ e. let f : true ≡ false = sym h ∙ ap (is_in byte.Initial) (eqb-true b 123 e) in cc) (λ e. e)

same_fault : {r s : Fault} → ◌≡◌ {A = Outcome TokenKind} (Err r) (Err s) → s ≡ r
same_fault e = cc

-- both ways that a name may be refused
simple_err : {G : Type 0} (at : ℕ) (bs : Text) {e : Fault} → is_first 123 bs ≡ false → simple at bs ≡ Err e → (e ≡ BadChar at → NoName bs → G)
    → ((b : ℕ) (mid name after : Text) → bs ≡ b ∷ mid → is_in byte.Initial b ≡ true → Run (is_in byte.Simple) mid name after → is_reserved (b ∷ name) ≡ true → e ≡ ReservedWord (length bs) → G) → G
unfolding simple
simple_err at [] plain e bad reserved = bad (same_fault e) ff.NoName.none
simple_err at (b ∷ mid) plain e bad reserved = split (is_in byte.Initial b)
    (λ h. split (is_reserved (b ∷ run byte.Simple mid))
    (λ is. reserved b mid (run byte.Simple mid) (past_run byte.Simple mid) refl h (run_of byte.Simple mid) is (same_fault (rw (h, is) at e)))
    (λ free. which (simple_kind (keyword_of (b ∷ run byte.Simple mid)) (b ∷ run byte.Simple mid))
    (λ none. bad (same_fault (rw (h, free, none) at e)) (ff.NoName.keyword h (run_of byte.Simple mid) free none))
    (λ k is. absurd (ok_not_err (rw (h, free, is) at e)))))
    (λ h. bad (same_fault (rw h at e)) (ff.NoName.other plain h))

no_name : (at : ℕ) {bs : Text} → NoName bs → (simple at bs ≡ Err (BadChar at)) × (is_first 123 bs ≡ false)
unfolding simple
no_name at ff.NoName.none = (refl, refl)
no_name at (ff.NoName.other x h) = (rw h, x)
no_name at (ff.NoName.keyword {b} h r free none) = let i = run_is byte.Simple r in (rw (h, i.0, free, none), not_brace b h)

-- ---- pieces

module _ (n q l : ℕ) (quote : is_quote q ≡ true) where
  pub segment_shorter : {f last : Bool} {from : ℕ} {bs rest : Text} {ts : List Token} → Segment n q f from bs ts last rest → length rest < length bs
  segment_shorter (st.Segment.closed r) = omega (arith, raw_shorter q r)
  segment_shorter (st.Segment.entered r) = omega (arith, raw_shorter q r)
  segment_shorter (st.Segment.simple r h name free is more) = omega (arith, raw_shorter q r, run_shorter _ name, segment_shorter more)

  dollar_no_quote : (36 == q) ≡ false
  dollar_no_quote = quote_other q 36 quote refl

  complete_from : (m : ℕ) (found : List Token) {f last : Bool} {from : ℕ} {bs rest : Text} {ts : List Token} → Segment n q f from bs ts last rest → length bs ≤ m
      → segment_from n q l m f from found bs ≡ Ok ((found ++ ts, last), rest)
  complete_from zero found s h = absurd (omega (arith, segment_shorter s))
  complete_from (suc m) found (st.Segment.closed {rest = rest} r) h = rw (raw_complete q l quote r (one_quote q l rest) (omega arith), eq-eqb q q refl)
  complete_from (suc m) found (st.Segment.entered {rest = rest} r) h = rw (raw_complete q l quote r (one_dollar q l (123 ∷ rest) quote) (omega arith), dollar_no_quote)
  complete_from (suc m) found (st.Segment.simple {f = f} {from = from} {b = b} {u = u} {mid = mid} {after = after} {k = k} {ts = ts} r h name free is more) room =
      rw (
        raw_complete q l quote r (one_dollar q l (b ∷ mid) quote) (omega arith),
        dollar_no_quote,
        not_brace b h,
        simple_complete (length (36 ∷ b ∷ mid)) b h name free is,
        complete_from m ((found ++ token (piece f false u) (span n from (length (b ∷ mid))) ∷ []) ++ token k (span n (length (b ∷ mid)) (length after)) ∷ []) more (omega (arith, raw_shorter q r, run_shorter _ name)),
        append_assoc (found ++ token (piece f false u) (span n from (length (b ∷ mid))) ∷ []) (token k (span n (length (b ∷ mid)) (length after)) ∷ []) ts,
        append_assoc found (token (piece f false u) (span n from (length (b ∷ mid))) ∷ []) (token k (span n (length (b ∷ mid)) (length after)) ∷ ts),
      )

  pub segment_complete : (found : List Token) {f last : Bool} {from : ℕ} {bs rest : Text} {ts : List Token} → Segment n q f from bs ts last rest → segment n q l f from found bs ≡ Ok ((found ++ ts, last), rest)
  unfolding segment
  segment_complete found {bs = bs} s = complete_from (length bs) found s (omega arith)

  bad_from : (m : ℕ) (f : Bool) (from : ℕ) (found : List Token) {bs : Text} {e : Fault} → BadSegment q l bs e → length bs ≤ m → segment_from n q l m f from found bs ≡ Err e
  bad_from zero f from found (ff.BadSegment.character {mid = mid} r bad) h = rw (no_text r bad h)
    where
      no_text : {bs u mid : Text} {e : Fault} → Raw q bs u mid → BadCharacter l mid e → length bs ≤ 0 → UnclosedString l ≡ e
      no_text r bad h = sym (text_end_is l bad (omega (arith, raw_shorter q r)))
  bad_from zero f from found (ff.BadSegment.name r x) h = absurd (omega (arith, raw_shorter q r))
  bad_from zero f from found (ff.BadSegment.reserved r x name is) h = absurd (omega (arith, raw_shorter q r))
  bad_from zero f from found (ff.BadSegment.later r x name free is more) h = absurd (omega (arith, raw_shorter q r))
  bad_from (suc m) f from found (ff.BadSegment.character r bad) h = rw (raw_err q l quote r bad)
  bad_from (suc m) f from found (ff.BadSegment.name {rest = rest} r x) h =
      let i = no_name (length (36 ∷ rest)) x in rw (raw_complete q l quote r (one_dollar q l rest quote) (omega arith), dollar_no_quote, i.1, i.0)
  bad_from (suc m) f from found (ff.BadSegment.reserved {mid = mid} {b = b} r x name is) h =
      rw (raw_complete q l quote r (one_dollar q l (b ∷ mid) quote) (omega arith), dollar_no_quote, not_brace b x, reserved_name (length (36 ∷ b ∷ mid)) b x name is)
  bad_from (suc m) f from found (ff.BadSegment.later {u = u} {mid = mid} {after = after} {b = b} {k = k} r x name free is more) h =
      rw (raw_complete q l quote r (one_dollar q l (b ∷ mid) quote) (omega arith), dollar_no_quote, not_brace b x, simple_complete (length (36 ∷ b ∷ mid)) b x name free is)
      (bad_from m false (length after) ((found ++ token (piece f false u) (span n from (length (b ∷ mid))) ∷ []) ++ token k (span n (length (b ∷ mid)) (length after)) ∷ []) more (omega (arith, raw_shorter q r, run_shorter _ name)))

  pub bad_segment : (f : Bool) (from : ℕ) (found : List Token) {bs : Text} {e : Fault} → BadSegment q l bs e → segment n q l f from found bs ≡ Err e
  unfolding segment
  bad_segment f from found {bs = bs} x = bad_from (length bs) f from found x (omega arith)

  -- ---- and back

  pub record Finds (f : Bool) (from : ℕ) (found : List Token) (bs : Text) (p : List Token × Bool) (rest : Text) : Type 0 where
    pub ts : List Token
    pub is : p.0 ≡ found ++ ts
    pub reads : Segment n q f from bs ts p.1 rest

  found_via : {G : Type 0} {f : Bool} {from : ℕ} {found : List Token} {bs : Text} {p : List Token × Bool} {rest : Text} → Finds f from found bs p rest
      → ((ts : List Token) → p.0 ≡ found ++ ts → Segment n q f from bs ts p.1 rest → G) → G
  found_via x go = go x.ts x.is x.reads

  no_tokens : {r : Fault} {y : (List Token × Bool) × Text} → ◌≡◌ {A = Outcome (List Token × Bool)} (Err r) (Ok y) → ⊥
  no_tokens e = cc

  is_dollar : (b : ℕ) → (b ≡ q) ⊎ (b ≡ 36) → (b == q) ≡ false → b ≡ 36
  is_dollar b (inl e) h = let f = eq-eqb b q e in let g : true ≡ false = sym f ∙ h in cc
  is_dollar b (inr e) h = e

  sound_from : (m : ℕ) (f : Bool) (from : ℕ) (found : List Token) (bs : Text) {p : List Token × Bool} {rest : Text} → segment_from n q l m f from found bs ≡ Ok (p, rest) → Finds f from found bs p rest
  sound_from zero f from found bs e = absurd (no_tokens e)
  sound_from (suc m) f from found bs {p} {rest} e = via (raw q l bs) _ e (λ ys mid e1 e2. raw_via q l bs e1 (λ us b more is_us is_mid at reads. split (b == q)
      (λ closes. same_ok (λ p rest. Finds f from found bs p rest) (rw (is_us, is_mid, closes) at e2)
      (record { ts = token (piece f true us) (span n from (length more)) ∷ []; is = refl; reads = st.Segment.closed (rw (is_mid, eqb-true b q closes) at reads) }))
      (λ stays. let dollar = is_dollar b at stays in split (is_first 123 more)
      (λ enters. let brace = first_is 123 more enters in same_ok (λ p rest. Finds f from found bs p rest) (rw (is_us, is_mid, stays, enters) at e2)
      (record { ts = token (piece f false us) (span n from (length (next more))) ∷ []; is = refl; reads = st.Segment.entered (rw (is_mid, dollar, brace) at reads) }))
      (λ plain. via (simple (length (b ∷ more)) more) _ (rw (is_us, is_mid, stays, plain) at e2) (λ k after e3 e4.
      named_via (length (b ∷ more)) more e3 (λ c rest_mid name is initial run_reads free kind_is.
      found_via (sound_from m false (length after) ((found ++ token (piece f false us) (span n from (length more)) ∷ []) ++ token k (span n (length more) (length after)) ∷ []) after e4) (λ gs g_is g_reads.
      record {
        ts = token (piece f false us) (span n from (length more)) ∷ token k (span n (length more) (length after)) ∷ gs;
        is = g_is ∙ append_assoc (found ++ token (piece f false us) (span n from (length more)) ∷ []) (token k (span n (length more) (length after)) ∷ []) gs
            ∙ append_assoc found (token (piece f false us) (span n from (length more)) ∷ []) (token k (span n (length more) (length after)) ∷ gs);
        reads = rw is (st.Segment.simple (rw (is_mid, dollar, is) at reads) initial run_reads free kind_is g_reads);
      })))))))

  pub segment_sound : (f : Bool) (from : ℕ) (found : List Token) (bs : Text) {p : List Token × Bool} {rest : Text} → segment n q l f from found bs ≡ Ok (p, rest) → Finds f from found bs p rest
  unfolding segment
  segment_sound f from found bs e = sound_from (length bs) f from found bs e

  fails_from : (m : ℕ) (f : Bool) (from : ℕ) (found : List Token) (bs : Text) {e : Fault} → segment_from n q l m f from found bs ≡ Err e → length bs ≤ m → BadSegment q l bs e
  fails_from zero f from found [] e h = same_err (λ e. BadSegment q l [] e) e (ff.BadSegment.character st.Raw.none (ff.BadCharacter.line_end refl))
  fails_from zero f from found (b ∷ bs) e h = absurd (omega arith)
  fails_from (suc m) f from found bs {e = r} e h = via_err (raw q l bs) _ e
      (λ e1. let x = raw_fails q l bs e1 in ff.BadSegment.character x.reads x.bad)
      (λ ys mid e1 e2. raw_via q l bs e1 (λ us b more is_us is_mid at reads. split (b == q)
      (λ closes. absurd (ok_not_err (rw (is_us, is_mid, closes) at e2)))
      (λ stays. let dollar = is_dollar b at stays in split (is_first 123 more)
      (λ enters. absurd (ok_not_err (rw (is_us, is_mid, stays, enters) at e2)))
      (λ plain. via_err (simple (length (b ∷ more)) more) _ (rw (is_us, is_mid, stays, plain) at e2)
      (λ e3. simple_err (length (b ∷ more)) more plain e3
      (λ place x. rw place (ff.BadSegment.name (rw (is_mid, dollar) at reads) x))
      (λ c rest_mid name after is initial run_reads reserved place. rw (place, is) (ff.BadSegment.reserved (rw (is_mid, dollar, is) at reads) initial run_reads reserved)))
      (λ k after e3 e4. named_via (length (b ∷ more)) more e3 (λ c rest_mid name is initial run_reads free kind_is.
      ff.BadSegment.later (rw (is_mid, dollar, is) at reads) initial run_reads free kind_is
      (fails_from m false (length after) ((found ++ token (piece f false us) (span n from (length more)) ∷ []) ++ token k (span n (length more) (length after)) ∷ []) after e4
      (omega (arith, raw_shorter q reads, run_shorter _ run_reads, ap length is_mid, ap length is)))))))))

  pub segment_fails : (f : Bool) (from : ℕ) (found : List Token) (bs : Text) {e : Fault} → segment n q l f from found bs ≡ Err e → BadSegment q l bs e
  unfolding segment
  segment_fails f from found bs e = fails_from (length bs) f from found bs e (omega arith)
