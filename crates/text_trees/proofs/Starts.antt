-- The tokens of a text start at bytes that rise.
use Rattle.std.proofs.Common.{◌≡◌, ℕ, suc, ◌-◌, ◌<◌, ◌≤◌, Bool, true, false, ◌&&◌, List, [], ◌∷◌, ◌++◌, length, refl, ap, subst, inl, inr, arith, length-append}
use Rattle.dart_syntax.specs.declared.token.Sign.{Sign}
use Rattle.dart_syntax.specs.declared.open.Open.{Open}
use Rattle.dart_syntax.specs.Words.{Tokens}
use Rattle.dart_syntax.specs.Bytes.{Text}
use Rattle.dart_syntax.specs.Signs.{Table, signs, Spells}
use Rattle.dart_syntax.specs.Strings.{Segment}
use Rattle.dart_syntax.specs.Strings as st
use Rattle.dart_syntax.specs.Tokens.{Takes, Runs, TokenList}
use Rattle.dart_syntax.specs.Tokens as to
use Rattle.dart_syntax.proofs.Lengths.{run_shorter, comment_shorter, raw_shorter}
use Rattle.dart_printer.proofs.Marks.{both_true}

-- They start at lo or behind, each behind the one before, and all before hi.
abbrev pub Rises : ℕ → Tokens → ℕ → Type 0
Rises lo [] hi = lo ≤ hi
Rises lo (t ∷ ts) hi = (lo ≤ t.span.start) × Rises (suc t.span.start) ts hi

rises_from : (a b : ℕ) (ts : Tokens) (c : ℕ) → a ≤ b → Rises b ts c → Rises a ts c
rises_from a b [] c h r = omega (arith, r)
rises_from a b (t ∷ ts) c h r = (omega (arith, r.0), r.1)

rises_join : (a : ℕ) (ts : Tokens) (b : ℕ) (us : Tokens) (c : ℕ) → Rises a ts b → Rises b us c → Rises a (ts ++ us) c
rises_join a [] b us c r q = rises_from a b us c r q
rises_join a (t ∷ ts) b us c r q = (r.0, rises_join (suc t.span.start) ts b us c r.1 q)

-- ---- signs are no empty texts

abbrev some_text : Text → Bool
some_text [] = false
some_text (b ∷ bs) = true

abbrev some_texts : Table → Bool
some_texts [] = true
some_texts (e ∷ es) = some_text e.0 && some_texts es

some_length : (text : Text) → some_text text ≡ true → 0 < length text
some_length [] h = cc
some_length (b ∷ bs) h = omega arith

spelled_length : (table : Table) (text : Text) (c : Sign) → some_texts table ≡ true → Spells table text c → 0 < length text
spelled_length [] text c h x = absurd x
spelled_length (e ∷ es) text c h (inl (is, d)) = some_length text (rw is at (both_true (some_text e.0) (some_texts es) h).0)
spelled_length (e ∷ es) text c h (inr x) = spelled_length es text c (both_true (some_text e.0) (some_texts es) h).1 x

sign_length : (text : Text) (c : Sign) → Spells signs text c → 0 < length text
unfolding signs
sign_length text c x = spelled_length signs text c refl x

-- ---- pieces of a text of n bytes

segment_shorter : (n q : ℕ) {f last : Bool} {from : ℕ} {bs rest : Text} {ts : Tokens} → Segment n q f from bs ts last rest → length rest ≤ length bs
segment_shorter n q (st.Segment.closed r) = omega (arith, raw_shorter q r)
segment_shorter n q (st.Segment.entered r) = omega (arith, raw_shorter q r)
segment_shorter n q (st.Segment.simple r x name free is more) = omega (arith, raw_shorter q r, run_shorter _ name, segment_shorter n q more)

segment_rises : (n q : ℕ) {f last : Bool} {from : ℕ} {bs rest : Text} {ts : Tokens} → length bs ≤ from → from ≤ n → Segment n q f from bs ts last rest → Rises (n - from) ts (n - length rest)
segment_rises n q h g (st.Segment.closed r) = (omega arith, omega (arith, raw_shorter q r))
segment_rises n q h g (st.Segment.entered r) = (omega arith, omega (arith, raw_shorter q r))
segment_rises n q {rest = rest} h g (st.Segment.simple {b = b} {mid = mid} {after = after} {ts = ts} r x name free is more) =
    (omega arith, (omega (arith, raw_shorter q r), rises_from (suc (n - length (b ∷ mid))) (n - length after) ts (n - length rest) (omega (arith, raw_shorter q r, run_shorter _ name)) (segment_rises n q (omega arith) (omega (arith, raw_shorter q r, run_shorter _ name)) more)))

takes_rises : (n : ℕ) {o p : List Open} {bs rest : Text} {ts : Tokens} → length bs ≤ n → Takes n o bs ts p rest → Rises (n - length bs) ts (n - length rest) × (length rest ≤ n)
takes_rises n h (to.Takes.blank is) = (omega arith, omega arith)
takes_rises n h (to.Takes.line r) = (omega (arith, run_shorter _ r), omega (arith, run_shorter _ r))
takes_rises n h (to.Takes.comment c) = (omega (arith, comment_shorter _ c), omega (arith, comment_shorter _ c))
takes_rises n h (to.Takes.word is r free) = ((omega arith, omega (arith, run_shorter _ r)), omega (arith, run_shorter _ r))
takes_rises n h (to.Takes.decimal is no_x r e) = ((omega arith, omega (arith, run_shorter _ r)), omega (arith, run_shorter _ r))
takes_rises n h (to.Takes.hexadecimal is r some e) = ((omega arith, omega (arith, run_shorter _ r)), omega (arith, run_shorter _ r))
takes_rises n {bs = bs} {rest = rest} h (to.Takes.sign {c = c} x) =
    let f : length bs ≡ length (x.text ++ rest) = ap length x.is in
    let g = sign_length x.text c x.spells in
    ((omega arith, omega (arith, length-append x.text rest)), omega (arith, length-append x.text rest))
takes_rises n h to.Takes.opens = ((omega arith, omega arith), omega arith)
takes_rises n h to.Takes.closes = ((omega arith, omega arith), omega arith)
takes_rises n h to.Takes.stray = ((omega arith, omega arith), omega arith)
takes_rises n h (to.Takes.string {q = q} is x) = (segment_rises n q (omega arith) h x, omega (arith, segment_shorter n q x))
takes_rises n h (to.Takes.enters {q = q} is x) = (segment_rises n q (omega arith) h x, omega (arith, segment_shorter n q x))
takes_rises n h (to.Takes.ends {q = q} x) = (segment_rises n q (omega arith) h x, omega (arith, segment_shorter n q x))
takes_rises n h (to.Takes.goes_on {q = q} x) = (segment_rises n q (omega arith) h x, omega (arith, segment_shorter n q x))

runs_rise : (n : ℕ) {o p : List Open} {bs rest : Text} {ts : Tokens} → length bs ≤ n → Runs n o bs ts p rest → Rises (n - length bs) ts (n - length rest)
runs_rise n h to.Runs.here = omega arith
runs_rise n {bs = bs} {rest = rest} h (to.Runs.step {mid = mid} {ts = ts} {us = us} t r) =
    let a = takes_rises n h t in rises_join (n - length bs) ts (n - length mid) us (n - length rest) a.0 (runs_rise n a.1 r)

-- those before the end token
pub tokens_rise : (source : Text) (list : Tokens) (x : TokenList source list) → Rises 0 x.found (length source)
tokens_rise source list x =
    let n = length source in
    let low : n - n ≡ 0 = omega arith in
    let high : n - 0 ≡ n = omega arith in
    subst (λ i. Rises i x.found n) low (subst (λ i. Rises (n - n) x.found i) high (runs_rise n (omega arith) x.runs))
