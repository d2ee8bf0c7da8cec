-- The texts of signs, keywords and names.
use Rattle.std.proofs.Common.{◌≡◌, ℕ, zero, suc, ◌≤◌, Bool, true, false, not, ◌||◌, ◌&&◌, ◌==◌, nat_lt, List, [], ◌∷◌, ◌++◌, length, Option, Some, None, is_none, refl, ap, sym, subst, inl, inr, arith}
use Rattle.std.specs.List.{list_all}
use Rattle.std.specs.Str.{IsAscii}
use Rattle.std.proofs.lemmas.Bool.{ltb-true}
use Rattle.std.proofs.lemmas.Str.{IsAscii-append}
use Rattle.dart_syntax.specs.declared.token.TokenKind.{TokenKind}
use Rattle.dart_syntax.specs.declared.token.TokenKind.TheVariants as tk
use Rattle.dart_syntax.specs.declared.token.Sign.{Sign}
use Rattle.dart_syntax.specs.declared.token.Keyword.{Keyword}
use Rattle.dart_syntax.specs.declared.byte_kind.ByteKind.TheVariants as byte
use Rattle.dart_syntax.specs.declared.open.Open.{Open}
use Rattle.dart_syntax.specs.Bytes.{Text, is_in, first, Run}
use Rattle.dart_syntax.specs.Bytes as by
use Rattle.dart_syntax.specs.Names.{keyword_of, is_reserved, word_kind, is_name}
use Rattle.dart_syntax.specs.Signs.{Table, signs, Spells}
use Rattle.dart_syntax.specs.Tokens.{Takes, inside, is_blank}
use Rattle.dart_syntax.specs.Tokens as to
use Rattle.dart_syntax.specs.Text.{word}
use Rattle.dart_printer.proofs.Lists.{one}
use Rattle.dart_printer.proofs.Cuts.{Cut, cut_one, Closed, blank_is}

-- ---- ASCII

abbrev pub in_ascii : Text → Bool
in_ascii = list_all (λ b. nat_lt b 128)

pub both_true : (a b : Bool) → (a && b) ≡ true → (a ≡ true) × (b ≡ true)
both_true true b e = (refl, e)
both_true false b e = cc

pub ascii_is : (bs : Text) → in_ascii bs ≡ true → IsAscii bs
ascii_is [] h i = omega arith
ascii_is (b ∷ bs) h zero = let f = ltb-true b 128 (both_true (nat_lt b 128) (in_ascii bs) h).0 in omega arith
ascii_is (b ∷ bs) h (suc i) = ascii_is bs (both_true (nat_lt b 128) (in_ascii bs) h).1 i

-- a token's text with a space behind it
pub closed_word : (w : Text) (k : TokenKind) → IsAscii w → ((n : ℕ) (o : List Open) (b : ℕ) (rest : Text) → is_blank (inside o) b ≡ true → Cut n o (w ++ b ∷ rest) (one k) o (b ∷ rest)) → Closed (word w) (one k)
closed_word w k h f = record { core = w; is = refl; ascii = IsAscii-append w (32 ∷ []) h (ascii_is (32 ∷ []) refl); cut = f }

-- ---- signs

-- no byte of the text is a blank
abbrev no_blank : Text → Bool
no_blank = list_all (λ b. not (b == 32 || b == 9 || b == 10 || b == 13))

abbrev no_blanks : Table → Bool
no_blanks [] = true
no_blanks (e ∷ es) = no_blank e.0 && no_blanks es

signs_no_blank : (table : Table) (text : Text) (c : Sign) → no_blanks table ≡ true → Spells table text c → no_blank text ≡ true
signs_no_blank [] text c h x = absurd x
signs_no_blank (e ∷ es) text c h (inl (is, d)) = subst (λ t. no_blank t ≡ true) is (both_true (no_blank e.0) (no_blanks es) h).0
signs_no_blank (e ∷ es) text c h (inr x) = signs_no_blank es text c (both_true (no_blank e.0) (no_blanks es) h).1 x

sign_no_blank : (text : Text) (c : Sign) → Spells signs text c → no_blank text ≡ true
unfolding signs
sign_no_blank text c x = signs_no_blank signs text c refl x

-- what holds no blank ends at the first blank
no_longer : (o : Option ℕ) (b : ℕ) → is_blank o b ≡ true → (text other rest us : Text) → no_blank other ≡ true → text ++ b ∷ rest ≡ other ++ us → length other ≤ length text
no_longer o b blank text [] rest us h e = omega arith
no_longer o b blank [] (a ∷ other) rest us h e =
    let same : b ≡ a = cc in
    absurd (blank_is (λ c. (not (c == 32 || c == 9 || c == 10 || c == 13)) ≡ true → ⊥) o b blank (λ h. cc) (λ h. cc) (λ h. cc) (λ h. cc)
    (subst (λ c. (not (c == 32 || c == 9 || c == 10 || c == 13)) ≡ true) (sym same) (both_true (not (a == 32 || a == 9 || a == 10 || a == 13)) (no_blank other) h).0))
no_longer o b blank (t ∷ text) (a ∷ other) rest us h e =
    let more : text ++ b ∷ rest ≡ other ++ us = cc in
    omega (arith, no_longer o b blank text other rest us (both_true (not (a == 32 || a == 9 || a == 10 || a == 13)) (no_blank other) h).1 more)

-- the entry of the table at this place
abbrev entry : Table → ℕ → Option (Text × Sign)
entry [] i = None
entry (e ∷ es) zero = Some e
entry (e ∷ es) (suc i) = entry es i

entry_is : {x y : Text × Sign} → ◌≡◌ {A = Option (Text × Sign)} (Some x) (Some y) → x ≡ y
entry_is e = cc

entry_spells : (table : Table) (i : ℕ) (text : Text) (c : Sign) → entry table i ≡ Some (text, c) → Spells table text c
entry_spells [] i text c e = cc
entry_spells (x ∷ xs) zero text c e = let p = entry_is e in inl (ap (λ q. q.0) p, ap (λ q. q.1) p)
entry_spells (x ∷ xs) (suc i) text c e = inr (entry_spells xs i text c e)

pub sign_word : (i : ℕ) (text : Text) (c : Sign) → entry signs i ≡ Some (text, c) → in_ascii text ≡ true → Closed (word text) (one (tk.Sign c))
sign_word i text c e h = let spelled = entry_spells signs i text c e in
    closed_word text (tk.Sign c) (ascii_is text h) (λ n o b rest blank. cut_one (tk.Sign c) _ (to.Takes.sign (record {
      text = text;
      spells = spelled;
      is = refl;
      longest = λ other d us x eq. no_longer (inside o) b blank text other rest us (sign_no_blank other d x) eq;
    })))

-- ---- words

part_run : (o : Option ℕ) (b : ℕ) → is_blank o b ≡ true → (text rest : Text) → list_all (is_in byte.Part) text ≡ true → Run (is_in byte.Part) (text ++ b ∷ rest) text (b ∷ rest)
part_run o b blank [] rest h = by.Run.stop (λ a e. let same : b ≡ a = some_is e in subst (λ c. is_in byte.Part c ≡ false) same (blank_is (λ c. is_in byte.Part c ≡ false) o b blank refl refl refl refl))
  where
    some_is : {x y : ℕ} → ◌≡◌ {A = Option ℕ} (Some x) (Some y) → x ≡ y
    some_is e = cc
part_run o b blank (a ∷ text) rest h = let p = both_true (is_in byte.Part a) (list_all (is_in byte.Part) text) h in by.Run.step p.0 (part_run o b blank text rest p.1)

abbrev is_word : Text → Bool
is_word [] = false
is_word (b ∷ bs) = is_in byte.Start b && list_all (is_in byte.Part) bs

part_ascii : (bs : Text) → list_all (is_in byte.Part) bs ≡ true → IsAscii bs
part_ascii [] h i = omega arith
part_ascii (b ∷ bs) h zero = let f = (both_true (is_in byte.Part b) (list_all (is_in byte.Part) bs) h).0 in grind (arith, f)
part_ascii (b ∷ bs) h (suc i) = part_ascii bs (both_true (is_in byte.Part b) (list_all (is_in byte.Part) bs) h).1 i

start_part : (b : ℕ) → is_in byte.Start b ≡ true → is_in byte.Part b ≡ true
start_part b h = grind (arith, h)

word_closed : (b : ℕ) (text : Text) (k : TokenKind) → is_in byte.Start b ≡ true → list_all (is_in byte.Part) text ≡ true → is_reserved (b ∷ text) ≡ false → word_kind (keyword_of (b ∷ text)) (b ∷ text) ≡ k → Closed (word (b ∷ text)) (one k)
word_closed b text k start parts free is = closed_word (b ∷ text) k (part_ascii (b ∷ text) (rw (start_part b start) parts)) (λ n o c rest blank.
    subst (λ k. Cut n o (b ∷ text ++ c ∷ rest) (one k) o (c ∷ rest)) is (cut_one _ _ (to.Takes.word start (part_run (inside o) c blank text rest parts) free)))

pub keyword_word : (w : Text) (k : Keyword) → is_word w ≡ true → is_reserved w ≡ false → keyword_of w ≡ Some k → Closed (word w) (one (tk.Keyword k))
keyword_word [] k h free is = cc
keyword_word (b ∷ text) k h free is = let p = both_true (is_in byte.Start b) (list_all (is_in byte.Part) text) h in
    word_closed b text (tk.Keyword k) p.0 p.1 free (ap (λ k. word_kind k (b ∷ text)) is)

pub name_word : (w : Text) → is_name w ≡ true → Closed (word w) (one (tk.Name w))
name_word [] h = cc
name_word (b ∷ text) h =
    let p = both_true (is_in byte.Start b && list_all (is_in byte.Part) text && is_none (keyword_of (b ∷ text))) (not (is_reserved (b ∷ text))) h in
    let q = both_true (is_in byte.Start b && list_all (is_in byte.Part) text) (is_none (keyword_of (b ∷ text))) p.0 in
    let r = both_true (is_in byte.Start b) (list_all (is_in byte.Part) text) q.0 in
    word_closed b text (tk.Name (b ∷ text)) r.0 r.1 (not_true (is_reserved (b ∷ text)) p.1) (ap (λ k. word_kind k (b ∷ text)) (none_is (keyword_of (b ∷ text)) q.1))
  where
    not_true : (a : Bool) → not a ≡ true → a ≡ false
    not_true true e = cc
    not_true false e = refl

    none_is : (k : Option Keyword) → is_none k ≡ true → k ≡ None
    none_is None e = refl
    none_is (Some k) e = cc
