-- What is read is no longer than the text that it is read from.
use Rattle.std.proofs.Common.{ℕ, zero, suc, ◌<◌, ◌≤◌, Bool, [], ◌∷◌, length, Some, None, arith}
use Rattle.std.specs.Str.{continuation_len, lead_bits}
use Rattle.dart_syntax.specs.Bytes.{Text, first, next, Run}
use Rattle.dart_syntax.specs.Bytes as by
use Rattle.dart_syntax.specs.Comments.{Comment}
use Rattle.dart_syntax.specs.Comments as co
use Rattle.dart_syntax.specs.Strings.{Digits, Escape, Character, Raw, six_bits, with_bytes, character}
use Rattle.dart_syntax.specs.Strings as st

pub run_shorter : (p : ℕ → Bool) {bs xs rest : Text} → Run p bs xs rest → length rest ≤ length bs
run_shorter p (by.Run.stop ends) = omega arith
run_shorter p (by.Run.step h r) = omega (arith, run_shorter p r)

pub comment_shorter : (ok : ℕ → Bool) {bs rest : Text} → Comment ok bs rest → length rest < length bs
comment_shorter ok co.Comment.close = omega arith
comment_shorter ok (co.Comment.nested c1 c2) = omega (arith, comment_shorter ok c1, comment_shorter ok c2)
comment_shorter ok (co.Comment.other h no_end no_start c) = omega (arith, comment_shorter ok c)

with_bytes_shorter : (n c : ℕ) (bs : Text) → length (with_bytes n c bs).1 ≤ length bs
with_bytes_shorter zero c bs = omega arith
with_bytes_shorter (suc n) c [] = with_bytes_shorter n (six_bits c None) []
with_bytes_shorter (suc n) c (b ∷ bs) = let h = with_bytes_shorter n (six_bits c (Some b)) bs in omega (arith, h)

pub character_shorter : (b : ℕ) (bs : Text) → length (character b bs).1 ≤ length bs
unfolding character
character_shorter b bs = with_bytes_shorter (continuation_len b) (lead_bits b) bs

digits_shorter : {n : ℕ} {bs ds rest : Text} → Digits n bs ds rest → length rest ≤ length bs
digits_shorter st.Digits.none = omega arith
digits_shorter (st.Digits.more h x) = omega (arith, digits_shorter x)

pub escape_shorter : {bs rest : Text} {c : ℕ} → Escape bs c rest → length rest < length bs
escape_shorter (st.Escape.plain {b} {bs} h) = omega (arith, character_shorter b bs)
escape_shorter (st.Escape.two x) = omega (arith, digits_shorter x)
escape_shorter (st.Escape.four x) = omega (arith, digits_shorter x)
escape_shorter (st.Escape.braced r h) = omega (arith, run_shorter _ r)

pub one_shorter : (q : ℕ) {bs rest : Text} {c : ℕ} → Character q bs c rest → length rest < length bs
one_shorter q (st.Character.plain {b} {bs} h) = omega (arith, character_shorter b bs)
one_shorter q (st.Character.escape x) = omega (arith, escape_shorter x)

pub raw_shorter : (q : ℕ) {bs us rest : Text} → Raw q bs us rest → length rest ≤ length bs
raw_shorter q st.Raw.none = omega arith
raw_shorter q (st.Raw.more x xs) = omega (arith, one_shorter q x, raw_shorter q xs)
