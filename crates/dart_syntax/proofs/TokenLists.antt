-- What every token list has: tokens within the text, names that are names, one end token, and not more tokens than the text has bytes.
use Rattle.std.proofs.Common.{◌≡◌, ℕ, suc, ◌+◌, ◌^◌, ◌<◌, ◌≤◌, Bool, true, false, ◌&&◌, ◌==◌, nat_lt, List, [], ◌∷◌, ◌++◌, length, Option, Some, None, refl, ap, inl, inr, arith, length-append}
use Rattle.std.specs.List.{All, list_all}
use Rattle.std.proofs.lemmas.List.Elements.{All-nil, All-cons, All-append}
use Rattle.dart_syntax.specs.declared.token.Token.{Token}
use Rattle.dart_syntax.specs.declared.token.TokenKind.{TokenKind}
use Rattle.dart_syntax.specs.declared.token.TokenKind.TheVariants as tk
use Rattle.dart_syntax.specs.declared.token.Sign.{Sign}
use Rattle.dart_syntax.specs.declared.token.Keyword.{Keyword}
use Rattle.dart_syntax.specs.declared.token.Keyword.TheVariants as k
use Rattle.dart_syntax.specs.declared.byte_kind.ByteKind.TheVariants as byte
use Rattle.dart_syntax.specs.declared.open.Open.{Open}
use Rattle.dart_syntax.specs.Words.{token}
use Rattle.dart_syntax.specs.Bytes.{Text, is_in, Run, span}
use Rattle.dart_syntax.specs.Bytes as by
use Rattle.dart_syntax.specs.Names.{keyword_of, is_reserved, word_kind, simple_kind, is_name}
use Rattle.dart_syntax.specs.Numbers.{decimal_kind, hex_kind}
use Rattle.dart_syntax.specs.Signs.{Table, signs, Spells}
use Rattle.dart_syntax.specs.Strings.{Segment, piece}
use Rattle.dart_syntax.specs.Strings as st
use Rattle.dart_syntax.specs.Tokens.{Takes, Runs, TokenList}
use Rattle.dart_syntax.specs.ProperTokens.{IsProperKind, IsProper, ProperTokens}
use Rattle.dart_syntax.specs.Tokens as to
use Rattle.dart_syntax.proofs.Lengths.{run_shorter, comment_shorter, raw_shorter}

split : {G : Type 0} (b : Bool) → (b ≡ true → G) → (b ≡ false → G) → G
split true f g = f refl
split false f g = g refl

which : {A G : Type 0} (o : Option A) → (o ≡ None → G) → ((x : A) → o ≡ Some x → G) → G
which None f g = f refl
which (Some x) f g = g x refl

-- ---- kinds

some_is : {k l : TokenKind} → ◌≡◌ {A = Option TokenKind} (Some k) (Some l) → k ≡ l
some_is e = cc

no_kind : {k : TokenKind} → ◌≡◌ {A = Option TokenKind} None (Some k) → ⊥
no_kind e = cc

piece_proper : (f last : Bool) (u : Text) → IsProperKind (piece f last u)
piece_proper true true u = tt
piece_proper true false u = tt
piece_proper false true u = tt
piece_proper false false u = tt

run_all : (p r : ℕ → Bool) → ((b : ℕ) → p b ≡ true → r b ≡ true) → {bs xs rest : Text} → Run p bs xs rest → list_all r xs ≡ true
run_all p r f (by.Run.stop ends) = refl
run_all p r f (by.Run.step {b} h x) = rw (f b h, run_all p r f x)

name_is : (b : ℕ) (name : Text) → is_in byte.Start b ≡ true → list_all (is_in byte.Part) name ≡ true → keyword_of (b ∷ name) ≡ None → is_reserved (b ∷ name) ≡ false → is_name (b ∷ name) ≡ true
name_is b name start parts none free = rw (start, parts, none, free)

word_proper : (b : ℕ) {bs text rest : Text} → is_in byte.Start b ≡ true → Run (is_in byte.Part) bs text rest → is_reserved (b ∷ text) ≡ false → IsProperKind (word_kind (keyword_of (b ∷ text)) (b ∷ text))
word_proper b {text = text} h r free = which (keyword_of (b ∷ text))
    (λ none. rw none (name_is b text h (run_all (is_in byte.Part) (is_in byte.Part) (λ b h. h) r) none free))
    (λ k some. rw some tt)

initial_start : (b : ℕ) → is_in byte.Initial b ≡ true → is_in byte.Start b ≡ true
initial_start b h = rw h

simple_part : (b : ℕ) → is_in byte.Simple b ≡ true → is_in byte.Part b ≡ true
simple_part b h = rw h

keyword_proper : (k : Keyword) (text : Text) {c : TokenKind} → simple_kind (Some k) text ≡ Some c → IsProperKind c
keyword_proper k.This text e = rw (← some_is e) tt
keyword_proper _ text e = absurd (no_kind e)

simple_proper : (b : ℕ) {mid name after : Text} {k : TokenKind} → is_in byte.Initial b ≡ true → Run (is_in byte.Simple) mid name after → is_reserved (b ∷ name) ≡ false
    → simple_kind (keyword_of (b ∷ name)) (b ∷ name) ≡ Some k → IsProperKind k
simple_proper b {name = name} {k = k} h r free e = which (keyword_of (b ∷ name))
    (λ none. let same : tk.Name (b ∷ name) ≡ k = some_is (rw none at e) in
    rw (← same) (name_is b name (initial_start b h) (run_all (is_in byte.Simple) (is_in byte.Part) simple_part r) none free))
    (λ c some. keyword_proper c (b ∷ name) (rw some at e))

decimal_proper : (v : ℕ) {k : TokenKind} → decimal_kind v ≡ Some k → IsProperKind k
unfolding decimal_kind
decimal_proper v e = split (nat_lt v (2 ^ 63))
    (λ h. rw (← some_is (rw h at e)) tt)
    (λ h. split (v == 2 ^ 63)
    (λ g. rw (← some_is (rw (h, g) at e)) tt)
    (λ g. absurd (no_kind (rw (h, g) at e))))

hex_proper : (v : ℕ) {k : TokenKind} → hex_kind v ≡ Some k → IsProperKind k
unfolding hex_kind
hex_proper v e = split (nat_lt v (2 ^ 63))
    (λ h. rw (← some_is (rw h at e)) tt)
    (λ h. split (nat_lt v (2 ^ 64))
    (λ g. rw (← some_is (rw (h, g) at e)) tt)
    (λ g. absurd (no_kind (rw (h, g) at e))))

-- ---- tokens

proper : (n from to : ℕ) (k : TokenKind) → to ≤ from → IsProperKind k → IsProper n (token k (span n from to))
proper n from to k h is = record { ordered = omega arith; within = omega arith; kind = is }

single : (n from to : ℕ) (k : TokenKind) → to ≤ from → IsProperKind k → All (IsProper n) (token k (span n from to) ∷ [])
single n from to k h is = All-cons (IsProper n) (token k (span n from to)) [] (proper n from to k h is) (All-nil (IsProper n))

-- ---- pieces of strings

segment_proper : (n q : ℕ) {f last : Bool} {from : ℕ} {bs rest : Text} {ts : List Token} → length bs ≤ from → Segment n q f from bs ts last rest → All (IsProper n) ts
segment_proper n q {f = f} {from = from} h (st.Segment.closed {u = u} {rest = rest} r) = single n from (length rest) (piece f true u) (omega (arith, raw_shorter q r)) (piece_proper f true u)
segment_proper n q {f = f} {from = from} h (st.Segment.entered {u = u} {rest = rest} r) = single n from (length rest) (piece f false u) (omega (arith, raw_shorter q r)) (piece_proper f false u)
segment_proper n q {f = f} {from = from} h (st.Segment.simple {b = b} {u = u} {mid = mid} {after = after} {k = k} {ts = ts} r x name free is more) =
    All-cons (IsProper n) (token (piece f false u) (span n from (length (b ∷ mid)))) (token k (span n (length (b ∷ mid)) (length after)) ∷ ts) (proper n from (length (b ∷ mid)) (piece f false u) (omega (arith, raw_shorter q r)) (piece_proper f false u))
    (All-cons (IsProper n) (token k (span n (length (b ∷ mid)) (length after))) ts (proper n (length (b ∷ mid)) (length after) k (omega (arith, run_shorter _ name)) (simple_proper b x name free is))
    (segment_proper n q (omega arith) more))

segment_count : (n q : ℕ) {f last : Bool} {from : ℕ} {bs rest : Text} {ts : List Token} → Segment n q f from bs ts last rest → length ts + length rest ≤ length bs
segment_count n q (st.Segment.closed r) = omega (arith, raw_shorter q r)
segment_count n q (st.Segment.entered r) = omega (arith, raw_shorter q r)
segment_count n q (st.Segment.simple r x name free is more) = omega (arith, raw_shorter q r, run_shorter _ name, segment_count n q more)

-- ---- signs

abbrev some_text : Text → Bool
some_text [] = false
some_text (b ∷ bs) = true

abbrev some_texts : Table → Bool
some_texts [] = true
some_texts (e ∷ es) = some_text e.0 && some_texts es

both : (a b : Bool) → (a && b) ≡ true → (a ≡ true) × (b ≡ true)
both true b e = (refl, e)
both false b e = cc

some_length : (text : Text) → some_text text ≡ true → 0 < length text
some_length [] h = cc
some_length (b ∷ bs) h = omega arith

spelled_length : (table : Table) (text : Text) (c : Sign) → some_texts table ≡ true → Spells table text c → 0 < length text
spelled_length [] text c h s = absurd s
spelled_length (e ∷ es) text c h (inl (is, d)) = some_length text (rw is at (both (some_text e.0) (some_texts es) h).0)
spelled_length (e ∷ es) text c h (inr s) = spelled_length es text c (both (some_text e.0) (some_texts es) h).1 s

sign_length : (text : Text) (c : Sign) → Spells signs text c → 0 < length text
unfolding signs
sign_length text c s = spelled_length signs text c refl s

-- ---- pieces of a text

takes_count : (n : ℕ) {o p : List Open} {bs rest : Text} {ts : List Token} → Takes n o bs ts p rest → length ts + length rest ≤ length bs
takes_count n (to.Takes.blank h) = omega arith
takes_count n (to.Takes.line r) = omega (arith, run_shorter _ r)
takes_count n (to.Takes.comment c) = omega (arith, comment_shorter _ c)
takes_count n (to.Takes.word h r free) = omega (arith, run_shorter _ r)
takes_count n (to.Takes.decimal h no_x r is) = omega (arith, run_shorter _ r)
takes_count n (to.Takes.hexadecimal h r some is) = omega (arith, run_shorter _ r)
takes_count n {bs = bs} {rest = rest} (to.Takes.sign {c = c} x) =
    let f : length bs ≡ length (x.text ++ rest) = ap length x.is in let g = sign_length x.text c x.spells in omega (arith, length-append x.text rest)
takes_count n to.Takes.opens = omega arith
takes_count n to.Takes.closes = omega arith
takes_count n to.Takes.stray = omega arith
takes_count n (to.Takes.string {q = q} h x) = omega (arith, segment_count n q x)
takes_count n (to.Takes.enters {q = q} h x) = omega (arith, segment_count n q x)
takes_count n (to.Takes.ends {q = q} x) = omega (arith, segment_count n q x)
takes_count n (to.Takes.goes_on {q = q} x) = omega (arith, segment_count n q x)

takes_proper : (n : ℕ) {o p : List Open} {bs rest : Text} {ts : List Token} → Takes n o bs ts p rest → All (IsProper n) ts
takes_proper n (to.Takes.blank h) = All-nil (IsProper n)
takes_proper n (to.Takes.line r) = All-nil (IsProper n)
takes_proper n (to.Takes.comment c) = All-nil (IsProper n)
takes_proper n (to.Takes.word {b = b} {bs = bs} {text = text} {rest = rest} h r free) = single n (length (b ∷ bs)) (length rest) (word_kind (keyword_of (b ∷ text)) (b ∷ text)) (omega (arith, run_shorter _ r)) (word_proper b h r free)
takes_proper n (to.Takes.decimal {b = b} {bs = bs} {ds = ds} {rest = rest} {k = k} h no_x r is) = single n (length (b ∷ bs)) (length rest) k (omega (arith, run_shorter _ r)) (decimal_proper _ is)
takes_proper n (to.Takes.hexadecimal {x = x} {bs = bs} {rest = rest} {k = k} h r some is) = single n (length (48 ∷ x ∷ bs)) (length rest) k (omega (arith, run_shorter _ r)) (hex_proper _ is)
takes_proper n (to.Takes.sign {c = c} {bs = bs} {rest = rest} x) =
    let f : length bs ≡ length (x.text ++ rest) = ap length x.is in single n (length bs) (length rest) (tk.Sign c) (omega (arith, length-append x.text rest)) tt
takes_proper n (to.Takes.opens {rest = rest}) = single n (suc (length rest)) (length rest) _ (omega arith) tt
takes_proper n (to.Takes.closes {rest = rest}) = single n (suc (length rest)) (length rest) _ (omega arith) tt
takes_proper n (to.Takes.stray {rest = rest}) = single n (suc (length rest)) (length rest) _ (omega arith) tt
takes_proper n (to.Takes.string {q = q} h x) = segment_proper n q (omega arith) x
takes_proper n (to.Takes.enters {q = q} h x) = segment_proper n q (omega arith) x
takes_proper n (to.Takes.ends {q = q} x) = segment_proper n q (omega arith) x
takes_proper n (to.Takes.goes_on {q = q} x) = segment_proper n q (omega arith) x

-- ---- whole texts

runs_count : (n : ℕ) {o p : List Open} {bs rest : Text} {ts : List Token} → Runs n o bs ts p rest → length ts + length rest ≤ length bs
runs_count n to.Runs.here = omega arith
runs_count n (to.Runs.step {ts = ts} {us = us} t r) = omega (arith, takes_count n t, runs_count n r, length-append ts us)

runs_proper : (n : ℕ) {o p : List Open} {bs rest : Text} {ts : List Token} → Runs n o bs ts p rest → All (IsProper n) ts
runs_proper n to.Runs.here = All-nil (IsProper n)
runs_proper n (to.Runs.step {ts = ts} {us = us} t r) = All-append (IsProper n) ts us (takes_proper n t) (runs_proper n r)

pub proper_tokens : (text : Text) (ts : List Token) → TokenList text ts → ProperTokens (length text) ts
proper_tokens text ts x = record { found = x.found; at = span (length text) 0 0; is = x.is; short = count; all = runs_proper (length text) x.runs }
  where
    count : length ts ≤ length text + 1
    count = let e : length ts ≡ length (x.found ++ token tk.End (span (length text) 0 0) ∷ []) = ap length x.is in
        omega (arith, runs_count (length text) x.runs, length-append x.found (token tk.End (span (length text) 0 0) ∷ []))
