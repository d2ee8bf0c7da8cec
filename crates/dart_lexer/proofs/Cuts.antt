-- Whole texts.
use Rattle.std.proofs.Common.{◌≡◌, ℕ, zero, suc, ◌<◌, ◌≤◌, false, ◌==◌, List, [], ◌∷◌, ◌++◌, length, None, Result, Ok, Err, refl, ap, sym, ◌∙◌, arith, append-nil, append_assoc}
use Rattle.std.specs.Str.{IsUtf8}
use Rattle.std.proofs.lemmas.Bool.{eqb-true}
use Rattle.dart_syntax.specs.declared.token.Token.{Token}
use Rattle.dart_syntax.specs.declared.token.TokenKind.TheVariants as tk
use Rattle.dart_syntax.specs.Words.{token}
use Rattle.dart_lexer.specs.declared.fault.Fault.{Fault}
use Rattle.dart_lexer.specs.declared.fault.Fault.TheVariants.{UnclosedString}
use Rattle.dart_syntax.specs.declared.open.Open.{Open}
use Rattle.dart_syntax.specs.Bytes.{Text, span}
use Rattle.dart_lexer.specs.Input.{Outcome}
use Rattle.dart_syntax.specs.Tokens as to
use Rattle.dart_lexer.specs.FirstFault as ff
use Rattle.dart_syntax.specs.Tokens.{Takes, Runs, TokenList, inside}
use Rattle.dart_lexer.specs.FirstFault.{Stuck, FaultOf}
use Rattle.dart_lexer.specs.Model.{step, go_on, finish_by, lex_from, lex}
use Rattle.dart_lexer.proofs.Facts.{split, which}
use Rattle.dart_lexer.proofs.Steps.{AllQuotes, takes_complete, takes_shorter, takes_quotes, stuck_complete, step_sound, step_stuck, Took}

some_left : (b : ℕ) (bs : Text) → (length (b ∷ bs) == 0) ≡ false
some_left b bs = split (length (b ∷ bs) == 0) (λ e. let f = eqb-true (length (b ∷ bs)) 0 e in absurd (omega arith)) (λ e. e)

left_of : (bs : Text) → 0 < length bs → (length bs == 0) ≡ false
left_of [] h = absurd (omega arith)
left_of (b ∷ bs) h = some_left b bs

-- with enough turns it doesn't matter how many
record Reaches (n m : ℕ) (o : List Open) (found : List Token) (bs : Text) (p : List Open) (ys : List Token) (rest : Text) : Type 0 where
  left : ℕ
  room : length rest ≤ left
  is : lex_from n m o found bs ≡ lex_from n left p ys rest
  quotes : AllQuotes p

runs_reach : (n m : ℕ) (found : List Token) {o p : List Open} {bs rest : Text} {ts : List Token} → AllQuotes o → Runs n o bs ts p rest → length bs ≤ m → Reaches n m o found bs p (found ++ ts) rest
runs_reach n m found {o = o} qs (to.Runs.here {rest = rest}) h = record { left = m; room = h; is = ap (λ ys. lex_from n m o ys rest) (sym (append-nil found)); quotes = qs }
runs_reach n zero found qs (to.Runs.step t r) h = absurd (omega (arith, takes_shorter n qs t))
runs_reach n (suc m) found {o = o} {bs = bs} qs (to.Runs.step {p = p} {r = last} {mid = mid} {rest = rest} {ts = ts} {us = us} t r) h =
    let f = runs_reach n m (found ++ ts) (takes_quotes n qs t) r (omega (arith, takes_shorter n qs t)) in
    record {
      left = f.left;
      room = f.room;
      is = rw (left_of bs (omega (arith, takes_shorter n qs t)), takes_complete n found qs t) (f.is ∙ ap (λ ys. lex_from n f.left last ys rest) (append_assoc found ts us));
      quotes = f.quotes;
    }

finished : (n m : ℕ) (o : List Open) (found : List Token) → lex_from n m o found [] ≡ finish_by (inside o) n found
finished n zero o found = refl
finished n (suc m) o found = refl

pub lex_complete : (text : Text) (ts : List Token) → TokenList text ts → lex text ≡ Ok ts
unfolding lex
lex_complete text ts c = let f = runs_reach (length text) (length text) [] tt c.runs (omega arith) in
    f.is ∙ finished (length text) f.left c.still_open c.found ∙ rw (c.no_string, c.is)

pub lex_first : (text : Text) (e : Fault) → FaultOf text e → lex text ≡ Err e
unfolding lex
lex_first text e x = let f = runs_reach (length text) (length text) [] tt x.runs (omega arith) in f.is ∙ stops f.left x.still_open x.found x.rest e f.quotes f.room x.stuck
  where
    stops : (m : ℕ) (o : List Open) (found : List Token) (rest : Text) (e : Fault) → AllQuotes o → length rest ≤ m → Stuck o rest e → lex_from (length text) m o found rest ≡ Err e
    stops m o found [] e qs h (ff.Stuck.text_end is) = finished (length text) m o found ∙ rw is
    stops zero o found (b ∷ bs) e qs h x = absurd (omega arith)
    stops (suc m) o found (b ∷ bs) e qs h x = rw (some_left b bs, stuck_complete (length text) found qs (omega arith) x)

-- ---- and back

record Cut (n : ℕ) (o : List Open) (found : List Token) (bs : Text) (ys : List Token) : Type 0 where
  us : List Token
  p : List Open
  runs : Runs n o bs us p []
  no_string : inside p ≡ None
  is : ys ≡ (found ++ us) ++ token tk.End (span n 0 0) ∷ []

no_list : {r : Fault} {y : List Token} → ◌≡◌ {A = Result (List Token) Fault} (Err r) (Ok y) → ⊥
no_list e = cc

no_err : {r : Fault} {y : List Token} → ◌≡◌ {A = Result (List Token) Fault} (Ok y) (Err r) → ⊥
no_err e = cc

same_list : {x y : List Token} → ◌≡◌ {A = Result (List Token) Fault} (Ok x) (Ok y) → x ≡ y
same_list e = cc

same_fault : {x y : Fault} → ◌≡◌ {A = Result (List Token) Fault} (Err x) (Err y) → x ≡ y
same_fault e = cc

end_sound : (n : ℕ) (o : List Open) (found : List Token) {ys : List Token} → finish_by (inside o) n found ≡ Ok ys → Cut n o found [] ys
end_sound n o found {ys} e = which (inside o)
    (λ none. let f : found ++ token tk.End (span n 0 0) ∷ [] ≡ ys = same_list (rw none at e) in
    record { us = []; p = o; runs = to.Runs.here; no_string = none; is = rw (append-nil found) (sym f) })
    (λ l some. absurd (no_list (rw some at e)))

go_ok : {A B : Type 0} {G : Type 0} (r : Outcome A) (f : A → Text → Result B Fault) {y : B} → go_on r f ≡ Ok y → ((x : A) (mid : Text) → r ≡ Ok (x, mid) → f x mid ≡ Ok y → G) → G
go_ok (Ok p) f e go = go p.0 p.1 refl e
go_ok (Err x) f e go = cc

go_err : {A B : Type 0} {G : Type 0} (r : Outcome A) (f : A → Text → Result B Fault) {x : Fault} → go_on r f ≡ Err x → (r ≡ Err x → G) → ((y : A) (mid : Text) → r ≡ Ok (y, mid) → f y mid ≡ Err x → G) → G
go_err (Ok p) f e failed go = go p.0 p.1 refl e
go_err {A} {B} (Err y) f {x = x} e failed go = let same : y ≡ x = same_in e in failed (err_is same)
  where
    same_in : {r s : Fault} → ◌≡◌ {A = Result B Fault} (Err r) (Err s) → r ≡ s
    same_in e = cc

    err_is : {r s : Fault} → r ≡ s → ◌≡◌ {A = Outcome A} (Err r) (Err s)
    err_is e = rw e

cut_sound : (n m : ℕ) (o : List Open) (found : List Token) (bs : Text) {ys : List Token} → AllQuotes o → length bs ≤ m → lex_from n m o found bs ≡ Ok ys → Cut n o found bs ys
cut_sound n zero o found [] qs h e = end_sound n o found e
cut_sound n zero o found (b ∷ bs) qs h e = absurd (omega arith)
cut_sound n (suc m) o found [] qs h e = end_sound n o found e
cut_sound n (suc m) o found (b ∷ bs) {ys} qs h e = go_ok (step n o found (b ∷ bs)) (λ p rest. lex_from n m p.0 p.1 rest) (rw (some_left b bs) at e) (λ p mid e1 e2.
    next_cut p.0 p.1 mid (step_sound n o found b bs qs e1) e2 (λ o found bs qs h e. cut_sound n m o found bs qs h e))
  where
    next_cut : (p : List Open) (zs : List Token) (mid : Text) → Took n o found (b ∷ bs) (p, zs) mid → lex_from n m p zs mid ≡ Ok ys
        → ((o : List Open) (found : List Token) (bs : Text) → AllQuotes o → length bs ≤ m → lex_from n m o found bs ≡ Ok ys → Cut n o found bs ys) → Cut n o found (b ∷ bs) ys
    next_cut p zs mid t e more =
        let f = more p zs mid (takes_quotes n qs t.reads) (omega (arith, takes_shorter n qs t.reads)) e in
        record {
          us = t.ts ++ f.us;
          p = f.p;
          runs = to.Runs.step t.reads f.runs;
          no_string = f.no_string;
          is = f.is ∙ ap (λ xs. (xs ++ f.us) ++ token tk.End (span n 0 0) ∷ []) t.is ∙ ap (λ xs. xs ++ token tk.End (span n 0 0) ∷ []) (append_assoc found t.ts f.us);
        }

pub lex_sound : (text : Text) (ts : List Token) → IsUtf8 text → lex text ≡ Ok ts → TokenList text ts
unfolding lex
lex_sound text ts utf8 e = let f = cut_sound (length text) (length text) [] [] text tt (omega arith) e in
    record { utf8 = utf8; found = f.us; still_open = f.p; runs = f.runs; no_string = f.no_string; is = f.is }

record Faulty (n : ℕ) (o : List Open) (bs : Text) (e : Fault) : Type 0 where
  us : List Token
  p : List Open
  rest : Text
  runs : Runs n o bs us p rest
  stuck : Stuck p rest e

end_fault : (n : ℕ) (o : List Open) (found : List Token) {e : Fault} → finish_by (inside o) n found ≡ Err e → Faulty n o [] e
end_fault n o found {e = r} e = which (inside o)
    (λ none. absurd (no_err (rw none at e)))
    (λ l some. let f : UnclosedString l ≡ r = same_fault (rw some at e) in record { us = []; p = o; rest = []; runs = to.Runs.here; stuck = rw (← f) (ff.Stuck.text_end some) })

fault_sound : (n m : ℕ) (o : List Open) (found : List Token) (bs : Text) {e : Fault} → AllQuotes o → length bs ≤ m → lex_from n m o found bs ≡ Err e → Faulty n o bs e
fault_sound n zero o found [] qs h e = end_fault n o found e
fault_sound n zero o found (b ∷ bs) qs h e = absurd (omega arith)
fault_sound n (suc m) o found [] qs h e = end_fault n o found e
fault_sound n (suc m) o found (b ∷ bs) {e = r} qs h e = go_err (step n o found (b ∷ bs)) (λ p rest. lex_from n m p.0 p.1 rest) (rw (some_left b bs) at e)
    (λ e1. record { us = []; p = o; rest = b ∷ bs; runs = to.Runs.here; stuck = step_stuck n o found b bs qs e1 })
    (λ p mid e1 e2. next_fault p.0 p.1 mid (step_sound n o found b bs qs e1) e2 (λ o found bs qs h e. fault_sound n m o found bs qs h e))
  where
    next_fault : (p : List Open) (zs : List Token) (mid : Text) → Took n o found (b ∷ bs) (p, zs) mid → lex_from n m p zs mid ≡ Err r
        → ((o : List Open) (found : List Token) (bs : Text) → AllQuotes o → length bs ≤ m → lex_from n m o found bs ≡ Err r → Faulty n o bs r) → Faulty n o (b ∷ bs) r
    next_fault p zs mid t e more =
        let f = more p zs mid (takes_quotes n qs t.reads) (omega (arith, takes_shorter n qs t.reads)) e in
        record { us = t.ts ++ f.us; p = f.p; rest = f.rest; runs = to.Runs.step t.reads f.runs; stuck = f.stuck }

pub lex_fault : (text : Text) (e : Fault) → lex text ≡ Err e → FaultOf text e
unfolding lex
lex_fault text e h = let f = fault_sound (length text) (length text) [] [] text tt (omega arith) h in
    record { found = f.us; still_open = f.p; rest = f.rest; runs = f.runs; stuck = f.stuck }
