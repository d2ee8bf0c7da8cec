-- What the tokens of a text have: strings have units of 16 bits, and integers have 64 bits.
use Rattle.std.proofs.Common.{◌≡◌, ℕ, zero, suc, ◌+◌, ◌-◌, ◌*◌, ◌^◌, ◌<◌, ◌≤◌, Bool, true, false, ◌&&◌, ◌==◌, nat_lt, nat_le, List, [], ◌∷◌, ◌++◌, length, Option, Some, None, refl, sym, subst, arith}
use Rattle.std.specs.List.{AllByRecursion}
use Rattle.std.specs.Char.Escape.{encode_utf16}
use Rattle.std.specs.Str.{continuation_len, lead_bits, encode_utf8_all, all_scalars}
use Rattle.std.proofs.str.Laws as laws
use lib.Utf8.{encode, scalar, scalar_cases}
use Rattle.std.proofs.lemmas.Bool.{ltb-true}
use Rattle.std.proofs.lemmas.Bool.Decides.{nat_tests}
use Rattle.std.proofs.lemmas.List.Elements.{recursion_from_All}
use Rattle.dart_syntax.specs.declared.token.Span.{Span}
use Rattle.dart_syntax.specs.declared.token.TokenKind.{TokenKind}
use Rattle.dart_syntax.specs.declared.token.TokenKind.TheVariants as tk
use Rattle.dart_syntax.specs.declared.token.Keyword.{Keyword}
use Rattle.dart_syntax.specs.declared.token.Keyword.TheVariants as k
use Rattle.dart_syntax.specs.declared.byte_kind.ByteKind.TheVariants as byte
use Rattle.dart_syntax.specs.declared.open.Open.{Open}
use Rattle.dart_syntax.specs.Words.{Tokens, token}
use Rattle.dart_syntax.specs.Bytes.{Text, is_in, first, next, Run, span}
use Rattle.dart_syntax.specs.Bytes as by
use Rattle.dart_syntax.specs.Comments.{Comment}
use Rattle.dart_syntax.specs.Comments as co
use Rattle.dart_syntax.specs.Names.{keyword_of, word_kind, simple_kind}
use Rattle.dart_syntax.specs.Numbers.{hex_value, value_from, value, decimal_kind, hex_kind}
use Rattle.dart_syntax.specs.Strings.{six_bits, with_bytes, character, escaped, Digits, is_code, Escape, Character, Raw, Segment, piece}
use Rattle.dart_syntax.specs.Strings as st
use Rattle.dart_syntax.specs.Tokens.{Takes, Runs, TokenList}
use Rattle.dart_syntax.specs.Tokens as to
use Rattle.dart_syntax.specs.ProperTokens.{IsProperKind, IsProper}
use Rattle.dart_syntax.proofs.TokenLists.{proper_tokens}
use Rattle.dart_printer.specs.ReadsBack.{AreUnits, IsPossible, ArePossible}
use Rattle.dart_printer.proofs.Marks.{both_true}

split : {G : Type 0} (b : Bool) → (b ≡ true → G) → (b ≡ false → G) → G
split true f g = f refl
split false f g = g refl

which : {A G : Type 0} (o : Option A) → (o ≡ None → G) → ((x : A) → o ≡ Some x → G) → G
which None f g = f refl
which (Some x) f g = g x refl

some_is : {j l : TokenKind} → ◌≡◌ {A = Option TokenKind} (Some j) (Some l) → j ≡ l
some_is e = cc

no_kind : {l : TokenKind} → ◌≡◌ {A = Option TokenKind} None (Some l) → ⊥
no_kind e = cc

-- ---- bytes

abbrev Bytes : Text → Type 0
Bytes = AllByRecursion (λ b. b < 256)

bytes_behind : (xs ys : Text) → Bytes (xs ++ ys) → Bytes ys
bytes_behind [] ys h = h
bytes_behind (x ∷ xs) ys h = bytes_behind xs ys h.1

bytes_join : (xs ys : Text) → Bytes xs → Bytes ys → Bytes (xs ++ ys)
bytes_join [] ys h g = g
bytes_join (x ∷ xs) ys h g = (h.0, bytes_join xs ys h.1 g)

shape_bytes : (c : ℕ) (rest : Text) → laws.Shape c → Bytes rest → Bytes (encode c ++ rest)
shape_bytes c rest (laws.of1 h e) g = subst (λ t. Bytes (t ++ rest)) (sym e) (omega arith, g)
shape_bytes c rest (laws.of2 a b l h f s e) g = let f1 = f.1 in subst (λ t. Bytes (t ++ rest)) (sym e) (omega arith, (omega arith, g))
shape_bytes c rest (laws.of3 a b d l h f k s e) g = let f1 = f.1 in let k1 = k.1 in subst (λ t. Bytes (t ++ rest)) (sym e) (omega arith, (omega arith, (omega arith, g)))
shape_bytes c rest (laws.of4 a b d x l h f k m s e) g = let f1 = f.1 in let k1 = k.1 in let m1 = m.1 in subst (λ t. Bytes (t ++ rest)) (sym e) (omega arith, (omega arith, (omega arith, (omega arith, g))))

utf8_bytes : (cs : List ℕ) → all_scalars cs ≡ true → Bytes (encode_utf8_all cs)
utf8_bytes [] h = tt
utf8_bytes (c ∷ cs) h = let p = both_true (scalar c) (all_scalars cs) h in shape_bytes c (encode_utf8_all cs) (laws.shape c (scalar_cases c p.0)) (utf8_bytes cs p.1)

-- ---- what stands behind

run_bytes : (p : ℕ → Bool) {bs xs rest : Text} → Run p bs xs rest → Bytes bs → Bytes rest
run_bytes p (by.Run.stop ends) h = h
run_bytes p (by.Run.step is r) h = run_bytes p r h.1

comment_bytes : (ok : ℕ → Bool) {bs rest : Text} → Comment ok bs rest → Bytes bs → Bytes rest
comment_bytes ok co.Comment.close h = h.1.1
comment_bytes ok (co.Comment.nested c d) h = comment_bytes ok d (comment_bytes ok c h.1.1)
comment_bytes ok (co.Comment.other is no_end no_start c) h = comment_bytes ok c h.1

-- ---- characters

abbrev most : ℕ → ℕ → ℕ
most zero m = m
most (suc n) m = most n (64 * m + 127)

with_bytes_most : (n c m : ℕ) (bs : Text) → c ≤ m → Bytes bs → ((with_bytes n c bs).0 ≤ most n m) × Bytes (with_bytes n c bs).1
with_bytes_most zero c m bs low h = (low, h)
with_bytes_most (suc n) c m [] low h = with_bytes_most n (six_bits c None) (64 * m + 127) [] (omega arith) h
with_bytes_most (suc n) c m (b ∷ bs) low h = let g : b < 256 = h.0 in with_bytes_most n (six_bits c (Some b)) (64 * m + 127) bs (omega arith) h.1

character_by : (n c m : ℕ) (b : ℕ) (bs : Text) → n ≡ continuation_len b → c ≡ lead_bits b → c ≤ m → most n m ≤ 4460607 → Bytes bs → ((character b bs).0 ≤ 4460607) × Bytes (character b bs).1
unfolding character
character_by n c m b bs is_n is_c low top h =
    let g = with_bytes_most n c m bs low h in
    subst (λ (p : ℕ × Text). (p.0 ≤ 4460607) × Bytes p.1) (λ i. with_bytes (is_n i) (is_c i) bs) (omega (arith, g.0), g.1)

character_small : (b : ℕ) (bs : Text) → b < 256 → Bytes bs → ((character b bs).0 ≤ 4460607) × Bytes (character b bs).1
character_small b bs low h = split (nat_lt b 128)
    (λ e1. character_by 0 b 127 b bs (rw e1) (rw e1) (let g = ltb-true b 128 e1 in omega arith) (omega arith) h)
    (λ e1. split (nat_lt b 224)
    (λ e2. character_by 1 (b - 192) 31 b bs (rw (e1, e2)) (rw (e1, e2)) (let g = ltb-true b 224 e2 in omega arith) (omega arith) h)
    (λ e2. split (nat_lt b 240)
    (λ e3. character_by 2 (b - 224) 15 b bs (rw (e1, e2, e3)) (rw (e1, e2, e3)) (let g = ltb-true b 240 e3 in omega arith) (omega arith) h)
    (λ e3. character_by 3 (b - 240) 15 b bs (rw (e1, e2, e3)) (rw (e1, e2, e3)) (omega arith) (omega arith) h)))

escaped_small : (c : ℕ) → c ≤ 4460607 → escaped c ≤ 4460607
escaped_small c h = grind (arith, nat_tests)

-- ---- digits

abbrev most_digits : ℕ → ℕ → ℕ
most_digits zero m = m
most_digits (suc n) m = most_digits n (16 * m + 15)

hex_small : (a : ℕ) → is_in byte.Hex a ≡ true → hex_value a ≤ 15
hex_small a h = grind (arith, nat_tests, h)

digits_most : {n : ℕ} {bs ds rest : Text} (v m : ℕ) → Digits n bs ds rest → v ≤ m → Bytes bs → (value_from 16 v ds ≤ most_digits n m) × Bytes rest
digits_most v m st.Digits.none low h = (low, h)
digits_most v m (st.Digits.more {a = a} is d) low h = let g = hex_small a is in digits_most (16 * v + hex_value a) (16 * m + 15) d (omega arith) h.1

code_small : (ds : Text) → is_code ds ≡ true → value 16 ds ≤ 0x10_FFFF
code_small ds h = let p = (both_true (nat_le 1 (length ds) && nat_le (length ds) 6) (nat_le (value 16 ds) 0x10_FFFF) h).1 in grind (arith, nat_tests, p)

escape_small : {bs rest : Text} {c : ℕ} → Escape bs c rest → Bytes bs → (c ≤ 4460607) × Bytes rest
escape_small (st.Escape.plain {b} {bs} is) h = let g = character_small b bs h.0 h.1 in (escaped_small (character b bs).0 g.0, g.1)
escape_small (st.Escape.two d) h = let g = digits_most 0 0 d (omega arith) h.1 in (omega (arith, g.0), g.1)
escape_small (st.Escape.four d) h = let g = digits_most 0 0 d (omega arith) h.1 in (omega (arith, g.0), g.1)
escape_small (st.Escape.braced {ds = ds} r is) h = let g = code_small ds is in (omega arith, (run_bytes _ r h.1.1).1)

-- ---- units

utf16_units : (c : ℕ) → c ≤ 4460607 → AreUnits (encode_utf16 c)
utf16_units c h = split (nat_lt c 65536)
    (λ e. rw e (ltb-true c 65536 e, tt))
    (λ e. rw e (omega arith, (omega arith, tt)))

units_join : (us vs : List ℕ) → AreUnits us → AreUnits vs → AreUnits (us ++ vs)
units_join [] vs h g = g
units_join (u ∷ us) vs h g = (h.0, units_join us vs h.1 g)

one_small : (q : ℕ) {bs rest : Text} {c : ℕ} → Character q bs c rest → Bytes bs → (c ≤ 4460607) × Bytes rest
one_small q (st.Character.plain {b} {bs} is) h = character_small b bs h.0 h.1
one_small q (st.Character.escape e) h = escape_small e h.1

raw_small : (q : ℕ) {bs us rest : Text} → Raw q bs us rest → Bytes bs → AreUnits us × Bytes rest
raw_small q st.Raw.none h = (tt, h)
raw_small q (st.Raw.more {c = c} {us = us} x xs) h = let a = one_small q x h in let b = raw_small q xs a.1 in (units_join (encode_utf16 c) us (utf16_units c a.0) b.0, b.1)

-- ---- kinds

-- as IsPossible, of all but names
abbrev IsRanged : TokenKind → Type 0
IsRanged (tk.Name text) = Unit {0}
IsRanged k = IsPossible k

abbrev AreRanged : Tokens → Type 0
AreRanged = AllByRecursion (λ t. IsRanged t.kind)

piece_ranged : (f last : Bool) (u : List ℕ) → AreUnits u → IsRanged (piece f last u)
piece_ranged true true u h = h
piece_ranged true false u h = h
piece_ranged false true u h = h
piece_ranged false false u h = h

word_ranged : (o : Option Keyword) (text : Text) → IsRanged (word_kind o text)
word_ranged None text = tt
word_ranged (Some k) text = tt

simple_ranged : (o : Option Keyword) (text : Text) {c : TokenKind} → simple_kind o text ≡ Some c → IsRanged c
simple_ranged None text e = subst IsRanged (some_is e) tt
simple_ranged (Some k.This) text e = subst IsRanged (some_is e) tt
simple_ranged (Some _) text e = absurd (no_kind e)

decimal_ranged : (v : ℕ) {k : TokenKind} → decimal_kind v ≡ Some k → IsRanged k
unfolding decimal_kind
decimal_ranged v e = split (nat_lt v (2 ^ 63))
    (λ h. subst IsRanged (some_is (rw h at e)) (ltb-true v (2 ^ 63) h))
    (λ h. split (v == 2 ^ 63)
    (λ g. subst IsRanged (some_is (rw (h, g) at e)) tt)
    (λ g. absurd (no_kind (rw (h, g) at e))))

hex_ranged : (v : ℕ) {k : TokenKind} → hex_kind v ≡ Some k → IsRanged k
unfolding hex_kind
hex_ranged v e = split (nat_lt v (2 ^ 63))
    (λ h. subst IsRanged (some_is (rw h at e)) (ltb-true v (2 ^ 63) h))
    (λ h. split (nat_lt v (2 ^ 64))
    (λ g. subst IsRanged (some_is (rw (h, g) at e)) (let l : 2 ^ 63 ≤ v = grind (arith, nat_tests, h) in omega arith))
    (λ g. absurd (no_kind (rw (h, g) at e))))

segment_ranged : (n q : ℕ) {f last : Bool} {from : ℕ} {bs rest : Text} {ts : Tokens} → Segment n q f from bs ts last rest → Bytes bs → AreRanged ts × Bytes rest
segment_ranged n q {f = f} (st.Segment.closed {u = u} r) h = let a = raw_small q r h in ((piece_ranged f true u a.0, tt), a.1.1)
segment_ranged n q {f = f} (st.Segment.entered {u = u} r) h = let a = raw_small q r h in ((piece_ranged f false u a.0, tt), a.1.1.1)
segment_ranged n q {f = f} (st.Segment.simple {b = b} {u = u} {name = name} r x run free is more) h =
    let a = raw_small q r h in
    let c = segment_ranged n q more (run_bytes _ run a.1.1.1) in
    ((piece_ranged f false u a.0, (simple_ranged (keyword_of (b ∷ name)) (b ∷ name) is, c.0)), c.1)

takes_ranged : (n : ℕ) {o p : List Open} {bs rest : Text} {ts : Tokens} → Takes n o bs ts p rest → Bytes bs → AreRanged ts × Bytes rest
takes_ranged n (to.Takes.blank is) h = (tt, h.1)
takes_ranged n (to.Takes.line r) h = (tt, run_bytes _ r h.1.1)
takes_ranged n (to.Takes.comment c) h = (tt, comment_bytes _ c h.1.1)
takes_ranged n (to.Takes.word {b = b} {text = text} is r free) h = ((word_ranged (keyword_of (b ∷ text)) (b ∷ text), tt), run_bytes _ r h.1)
takes_ranged n (to.Takes.decimal is no_x r e) h = ((decimal_ranged _ e, tt), run_bytes _ r h.1)
takes_ranged n (to.Takes.hexadecimal is r some e) h = ((hex_ranged _ e, tt), run_bytes _ r h.1.1)
takes_ranged n (to.Takes.sign {rest = rest} x) h = ((tt, tt), bytes_behind x.text rest (subst Bytes x.is h))
takes_ranged n to.Takes.opens h = ((tt, tt), h.1)
takes_ranged n to.Takes.closes h = ((tt, tt), h.1)
takes_ranged n to.Takes.stray h = ((tt, tt), h.1)
takes_ranged n (to.Takes.string {q = q} is x) h = segment_ranged n q x h.1
takes_ranged n (to.Takes.enters {q = q} is x) h = segment_ranged n q x h.1
takes_ranged n (to.Takes.ends {q = q} x) h = segment_ranged n q x h.1
takes_ranged n (to.Takes.goes_on {q = q} x) h = segment_ranged n q x h.1

ranged_join : (ts us : Tokens) → AreRanged ts → AreRanged us → AreRanged (ts ++ us)
ranged_join [] us h g = g
ranged_join (t ∷ ts) us h g = (h.0, ranged_join ts us h.1 g)

runs_ranged : (n : ℕ) {o p : List Open} {bs rest : Text} {ts : Tokens} → Runs n o bs ts p rest → Bytes bs → AreRanged ts
runs_ranged n to.Runs.here h = tt
runs_ranged n (to.Runs.step {ts = ts} {us = us} t r) h = let a = takes_ranged n t h in ranged_join ts us a.0 (runs_ranged n r a.1)

-- ---- whole texts

possible_kind : (k : TokenKind) → IsProperKind k → IsRanged k → IsPossible k
possible_kind (tk.Name text) h g = h
possible_kind (tk.Keyword k) h g = g
possible_kind (tk.Sign c) h g = g
possible_kind (tk.Int n) h g = g
possible_kind tk.MinInt h g = g
possible_kind (tk.Str u) h g = g
possible_kind (tk.StrOpen u) h g = g
possible_kind (tk.StrMid u) h g = g
possible_kind (tk.StrClose u) h g = g
possible_kind tk.End h g = g

possible_join : (n : ℕ) (found : Tokens) (at : Span) → AllByRecursion (IsProper n) found → AreRanged (found ++ token tk.End at ∷ []) → ArePossible (found ++ token tk.End at ∷ [])
possible_join n [] at h g = (tt, tt)
possible_join n (t ∷ found) at h g = (possible_kind t.kind h.0.kind g.0, possible_join n found at h.1 g.1)

pub are_possible : (source : Text) (list : Tokens) → TokenList source list → ArePossible list
are_possible source list x =
    let p = proper_tokens source list x in
    let bytes : Bytes source = subst Bytes x.utf8.1.1 (utf8_bytes x.utf8.0 x.utf8.1.0) in
    let ranged : AreRanged list = subst AreRanged (sym x.is) (ranged_join x.found (token tk.End (span (length source) 0 0) ∷ []) (runs_ranged (length source) x.runs bytes) (tt, tt)) in
    subst ArePossible (sym p.is) (possible_join (length source) p.found p.at (recursion_from_All (IsProper (length source)) p.found p.all) (subst AreRanged p.is ranged))
