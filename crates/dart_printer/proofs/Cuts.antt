-- Texts whose tokens have these kinds, whatever stands behind them.
use Rattle.std.proofs.Common.{◌≡◌, ℕ, Bool, true, false, ◌==◌, List, [], ◌∷◌, ◌++◌, map, Option, refl, ap, sym, ◌∙◌, subst, append_assoc, append-nil, arith}
use Rattle.std.specs.Str.{IsAscii}
use Rattle.std.proofs.lemmas.Bool.{eqb-true}
use Rattle.std.proofs.lemmas.Str.{IsAscii-append}
use Rattle.std.proofs.lemmas.List.{map-append}
use Rattle.dart_syntax.specs.declared.token.Span.{Span}
use Rattle.dart_syntax.specs.declared.token.TokenKind.{TokenKind}
use Rattle.dart_syntax.specs.declared.open.Open.{Open}
use Rattle.dart_syntax.specs.Words.{Tokens, token}
use Rattle.dart_syntax.specs.Bytes.{Text}
use Rattle.dart_syntax.specs.Tokens.{Takes, Runs, inside, is_blank}
use Rattle.dart_syntax.specs.Tokens as to
use Rattle.dart_printer.proofs.Lists.{Kinds, nothing, one, both, flat, kind_of}

-- tokens of these kinds, from one text to another, and from what is open before them to what is open behind them
pub record Cut (n : ℕ) (o : List Open) (bs : Text) (kinds : Kinds) (p : List Open) (rest : Text) : Type 0 where
  pub tokens : Tokens
  pub runs : Runs n o bs tokens p rest
  pub are : map kind_of tokens ≡ flat kinds

runs_then : {n : ℕ} {o p r : List Open} {bs mid rest : Text} {ts us : Tokens} → Runs n o bs ts p mid → Runs n p mid us r rest → Runs n o bs (ts ++ us) r rest
runs_then to.Runs.here x = x
runs_then {n = n} {o = o} {r = q} {bs = bs} {rest = rest} {us = vs} (to.Runs.step {ts = ts} {us = us} t r) x =
    subst (λ ws. Runs n o bs ws q rest) (sym (append_assoc ts us vs)) (to.Runs.step t (runs_then r x))

pub cut_then : {n : ℕ} {o p r : List Open} {bs mid rest : Text} {a b : Kinds} → Cut n o bs a p mid → Cut n p mid b r rest → Cut n o bs (both a b) r rest
cut_then {a = a} {b = b} x y = record {
  tokens = x.tokens ++ y.tokens;
  runs = runs_then x.runs y.runs;
  are = map-append kind_of x.tokens y.tokens ∙ ap (λ ks. ks ++ map kind_of y.tokens) x.are ∙ ap (λ ks. flat a ++ ks) y.are;
}

pub cut_one : {n : ℕ} {o p : List Open} {bs rest : Text} (k : TokenKind) (at : Span) → Takes n o bs (token k at ∷ []) p rest → Cut n o bs (one k) p rest
cut_one k at t = record { tokens = token k at ∷ []; runs = to.Runs.step t to.Runs.here; are = refl }

pub cut_two : {n : ℕ} {o p : List Open} {bs mid rest : Text} {kinds : Kinds} → Cut n o bs kinds p mid → Takes n p mid [] p rest → Cut n o bs kinds p rest
cut_two {n = n} {o = o} {p = p} {bs = bs} {rest = rest} {kinds = kinds} x t = record {
  tokens = x.tokens;
  runs = subst (λ ts. Runs n o bs ts p rest) (append-nil x.tokens) (runs_then x.runs (to.Runs.step t to.Runs.here));
  are = x.are;
}

pub cut_nothing : {n : ℕ} {o : List Open} {rest : Text} → Cut n o rest nothing o rest
cut_nothing = record { tokens = []; runs = to.Runs.here; are = refl }

-- ---- texts

-- a text as it stands before others
pub record Cuts (text : Text) (kinds : Kinds) : Type 0 where
  pub ascii : IsAscii text
  pub cut : (n : ℕ) (o : List Open) (rest : Text) → Cut n o (text ++ rest) kinds o rest

-- the same, where the text ends in a space, and another blank may stand in its place
pub record Closed (text : Text) (kinds : Kinds) : Type 0 where
  pub core : Text
  pub is : text ≡ core ++ 32 ∷ []
  pub ascii : IsAscii text
  pub cut : (n : ℕ) (o : List Open) (b : ℕ) (rest : Text) → is_blank (inside o) b ≡ true → Cut n o (core ++ b ∷ rest) kinds o (b ∷ rest)

pub cuts_of : {text : Text} {kinds : Kinds} → Closed text kinds → Cuts text kinds
cuts_of {text = text} {kinds = kinds} x = record {
  ascii = x.ascii;
  cut = λ n o rest.
      subst (λ t. Cut n o t kinds o rest) (sym (ap (λ t. t ++ rest) x.is ∙ append_assoc x.core (32 ∷ []) rest)) (cut_two (x.cut n o 32 rest refl) (to.Takes.blank refl));
}

pub cuts_none : Cuts [] nothing
cuts_none = record { ascii = λ i. omega arith; cut = λ n o rest. cut_nothing }

pub cuts_then : {a b : Text} {ks ls : Kinds} → Cuts a ks → Cuts b ls → Cuts (a ++ b) (both ks ls)
cuts_then {a = a} {b = b} {ks = ks} {ls = ls} x y = record {
  ascii = IsAscii-append a b x.ascii y.ascii;
  cut = λ n o rest.
      subst (λ t. Cut n o t (both ks ls) o rest) (sym (append_assoc a b rest)) (cut_then (x.cut n o (b ++ rest)) (y.cut n o rest));
}

pub closed_then : {a b : Text} {ks ls : Kinds} → Cuts a ks → Closed b ls → Closed (a ++ b) (both ks ls)
closed_then {a = a} {b = b} {ks = ks} {ls = ls} x y = record {
  core = a ++ y.core;
  is = ap (λ t. a ++ t) y.is ∙ sym (append_assoc a y.core (32 ∷ []));
  ascii = IsAscii-append a b x.ascii y.ascii;
  cut = λ n o c rest blank. subst (λ t. Cut n o t (both ks ls) o (c ∷ rest)) (sym (append_assoc a y.core (c ∷ rest))) (cut_then (x.cut n o (y.core ++ c ∷ rest)) (y.cut n o c rest blank));
}

-- parts that are joined the other way
pub cuts_left : (a b c : Text) {ks : Kinds} → Cuts (a ++ (b ++ c)) ks → Cuts ((a ++ b) ++ c) ks
cuts_left a b c {ks} x = subst (λ t. Cuts t ks) (sym (append_assoc a b c)) x

pub cuts_right : (a b c : Text) {ks : Kinds} → Cuts ((a ++ b) ++ c) ks → Cuts (a ++ (b ++ c)) ks
cuts_right a b c {ks} x = subst (λ t. Cuts t ks) (append_assoc a b c) x

pub closed_left : (a b c : Text) {ks : Kinds} → Closed (a ++ (b ++ c)) ks → Closed ((a ++ b) ++ c) ks
closed_left a b c {ks} x = subst (λ t. Closed t ks) (sym (append_assoc a b c)) x

-- ---- blanks

split : {G : Type 0} (b : Bool) → (b ≡ true → G) → (b ≡ false → G) → G
split true f g = f refl
split false f g = g refl

-- a blank is a space, a tab, a line feed or a carriage return
pub blank_is : (P : ℕ → Type 0) (o : Option ℕ) (b : ℕ) → is_blank o b ≡ true → P 32 → P 9 → P 10 → P 13 → P b
blank_is P o b h p32 p9 p10 p13 = split (b == 32)
    (λ e. subst P (sym (eqb-true b 32 e)) p32)
    (λ e32. split (b == 9)
    (λ e. subst P (sym (eqb-true b 9 e)) p9)
    (λ e9. split (b == 10)
    (λ e. subst P (sym (eqb-true b 10 e)) p10)
    (λ e10. split (b == 13)
    (λ e. subst P (sym (eqb-true b 13 e)) p13)
    (λ e13. let f = rw (e32, e9, e10, e13) at h in cc))))
