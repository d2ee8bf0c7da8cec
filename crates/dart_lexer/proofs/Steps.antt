-- One piece of a text: the function and the cases agree.
use Rattle.std.proofs.Common.{◌≡◌, ℕ, suc, ◌<◌, Bool, true, false, ◌||◌, ◌==◌, if◌then◌else◌, List, [], ◌∷◌, ◌++◌, length, Option, Some, None, Result, Ok, Err, refl, ap, sym, inl, inr, ◌⊎◌, ◌∙◌, arith, append-nil, length-append}
use Rattle.std.proofs.lemmas.Bool.{eqb-true, eqb-false}
use Rattle.dart_syntax.specs.declared.token.Token.{Token}
use Rattle.dart_lexer.specs.declared.fault.Fault.{Fault}
use Rattle.dart_lexer.specs.declared.fault.Fault.TheVariants.{UnclosedComment}
use Rattle.dart_syntax.specs.declared.byte_kind.ByteKind.TheVariants as byte
use Rattle.dart_syntax.specs.declared.open.Open.{Open}
use Rattle.dart_syntax.specs.declared.open.Open.TheVariants as op
use Rattle.dart_syntax.specs.Bytes.{Text, is_in, first, next}
use Rattle.dart_lexer.specs.Input.{Outcome}
use Rattle.dart_syntax.specs.Tokens as to
use Rattle.dart_lexer.specs.FirstFault as ff
use Rattle.dart_syntax.specs.Strings.{Segment}
use Rattle.dart_syntax.specs.Tokens.{Takes, is_quote, is_blank, inside, fits_line, is_hex, is_x, starts_x, brace}
use Rattle.dart_syntax.specs.Names.{is_reserved}
use Rattle.dart_lexer.specs.FirstFault.{BadSegment, Stuck, begins, is_comment_opening}
use Rattle.dart_syntax.specs.Numbers.{value, decimal_kind, hex_kind}
use Rattle.std.proofs.lemmas.Bool.Decides.{nat_tests}
use Rattle.dart_lexer.specs.Model.{State, run, past_run, segment, slash, word, string, closing, line_end_by, comment_by, fault_of, past, step, piece_by, sign_by, number, hex_number, is_first}
use Rattle.dart_syntax.specs.Signs.{signs}
use Rattle.dart_lexer.specs.Signs.{sign_in}
use Rattle.dart_lexer.proofs.Signs.{sign_begins, is_sign_in, longest_in, no_sign_in, none_is, signs_ordered}
use Rattle.dart_syntax.proofs.Lengths.{run_shorter, comment_shorter}
use Rattle.dart_lexer.proofs.Facts.{split, which, via, via_err, same_ok, same_err, ok_not_err, first_is, or_false, and_true, run_is, run_of}
use Rattle.dart_lexer.proofs.Comments.{comment_is, endless_is, is_comment, is_endless}
use Rattle.dart_lexer.proofs.Segments.{segment_complete, segment_sound, segment_fails, bad_segment, segment_shorter}

-- the strings that are open have quotes
abbrev pub AllQuotes : List Open → Type 0
AllQuotes [] = Unit {0}
AllQuotes (op.Brace outer ∷ o) = AllQuotes o
AllQuotes (op.Text q l ∷ o) = (is_quote q ≡ true) × AllQuotes o

apart_from : (p : ℕ → Bool) (b a : ℕ) → p b ≡ true → p a ≡ false → (b == a) ≡ false
apart_from p b a has lacks = split (b == a) (λ e. let f : true ≡ false = sym has ∙ ap p (eqb-true b a e) ∙ lacks in cc) (λ e. e)

either : (a b : Bool) → (a || b) ≡ true → (a ≡ true) ⊎ (b ≡ true)
either true b e = inl refl
either false b e = inr e

quote_is : (q : ℕ) → is_quote q ≡ true → (q ≡ 39) ⊎ (q ≡ 34)
quote_is q h = elim (either (q == 39) (q == 34) h) [ inl e ↦ inl (eqb-true q 39 e) | inr e ↦ inr (eqb-true q 34 e) ]

quote_facts : (q : ℕ) → is_quote q ≡ true → (is_in byte.Space q ≡ false) × (is_in byte.LineEnd q ≡ false) × ((q == 47) ≡ false) × (is_in byte.Start q ≡ false)
quote_facts q h = elim (quote_is q h) [ inl is ↦ rw is (refl, refl, refl, refl) | inr is ↦ rw is (refl, refl, refl, refl) ]

start_facts : (b : ℕ) → is_in byte.Start b ≡ true → (is_in byte.Space b ≡ false) × (is_in byte.LineEnd b ≡ false) × ((b == 47) ≡ false)
start_facts b h = let p : ℕ → Bool = is_in byte.Start in
    (rw (apart_from p b 32 h refl, apart_from p b 9 h refl), rw (apart_from p b 10 h refl, apart_from p b 13 h refl), apart_from p b 47 h refl)

digit_no_start : (b : ℕ) → is_in byte.Digit b ≡ true → is_in byte.Start b ≡ false
digit_no_start b h = grind (arith, nat_tests)

digit_facts : (b : ℕ) → is_in byte.Digit b ≡ true → (is_in byte.Space b ≡ false) × (is_in byte.LineEnd b ≡ false) × ((b == 47) ≡ false) × (is_in byte.Start b ≡ false) × (is_quote b ≡ false)
digit_facts b h = let p : ℕ → Bool = is_in byte.Digit in
    (rw (apart_from p b 32 h refl, apart_from p b 9 h refl), rw (apart_from p b 10 h refl, apart_from p b 13 h refl), apart_from p b 47 h refl, digit_no_start b h, rw (apart_from p b 39 h refl, apart_from p b 34 h refl))

not_empty : (ds : Text) → 0 < length ds → (length ds == 0) ≡ false
not_empty ds h = split (length ds == 0) (λ e. let f = eqb-true (length ds) 0 e in absurd (omega arith)) (λ e. e)

line_end_facts : (b : ℕ) → is_in byte.LineEnd b ≡ true → (is_in byte.Space b ≡ false) × (is_in byte.InLine b ≡ false)
line_end_facts b h = let p : ℕ → Bool = is_in byte.LineEnd in (rw (apart_from p b 32 h refl, apart_from p b 9 h refl), rw h)

fits_star : (o : Option ℕ) → fits_line o 42 ≡ true
fits_star None = refl
fits_star (Some l) = refl

fits_slash : (o : Option ℕ) → fits_line o 47 ≡ true
fits_slash None = refl
fits_slash (Some l) = refl

pub takes_shorter : (n : ℕ) {o p : List Open} {bs rest : Text} {ts : List Token} → AllQuotes o → Takes n o bs ts p rest → length rest < length bs
takes_shorter n qs (to.Takes.blank h) = omega arith
takes_shorter n qs (to.Takes.line r) = omega (arith, run_shorter _ r)
takes_shorter n {o} qs (to.Takes.comment c) = omega (arith, comment_shorter _ c)
takes_shorter n qs (to.Takes.word h r free) = omega (arith, run_shorter _ r)
takes_shorter n qs (to.Takes.decimal h no_x r is) = omega (arith, run_shorter _ r)
takes_shorter n qs (to.Takes.hexadecimal h r some is) = omega (arith, run_shorter _ r)
takes_shorter n {bs = bs} {rest = rest} qs (to.Takes.sign {c = c} x) =
    let (b, us, is, other) = sign_begins x.text c x.spells in let f : length bs ≡ length (x.text ++ rest) = ap length x.is in let g : length x.text ≡ suc (length us) = ap length is in
    omega (arith, length-append x.text rest)
takes_shorter n qs to.Takes.opens = omega arith
takes_shorter n qs to.Takes.closes = omega arith
takes_shorter n qs to.Takes.stray = omega arith
takes_shorter n qs (to.Takes.string {q = q} h x) = omega (arith, segment_shorter n q 0 h x)
takes_shorter n qs (to.Takes.enters {q = q} h x) = omega (arith, segment_shorter n q 0 h x)
takes_shorter n qs (to.Takes.ends {q = q} x) = omega (arith, segment_shorter n q 0 qs.0 x)
takes_shorter n qs (to.Takes.goes_on {q = q} x) = omega (arith, segment_shorter n q 0 qs.0 x)

pub takes_quotes : (n : ℕ) {o p : List Open} {bs rest : Text} {ts : List Token} → AllQuotes o → Takes n o bs ts p rest → AllQuotes p
takes_quotes n qs (to.Takes.blank h) = qs
takes_quotes n qs (to.Takes.line r) = qs
takes_quotes n qs (to.Takes.comment c) = qs
takes_quotes n qs (to.Takes.word h r free) = qs
takes_quotes n qs (to.Takes.decimal h no_x r is) = qs
takes_quotes n qs (to.Takes.hexadecimal h r some is) = qs
takes_quotes n qs (to.Takes.sign x) = qs
takes_quotes n qs to.Takes.opens = qs
takes_quotes n qs to.Takes.closes = qs
takes_quotes n qs to.Takes.stray = qs
takes_quotes n qs (to.Takes.string h x) = qs
takes_quotes n qs (to.Takes.enters h x) = (h, qs)
takes_quotes n qs (to.Takes.ends x) = qs.1
takes_quotes n qs (to.Takes.goes_on x) = qs

blank_line : (o : List Open) (b : ℕ) (found : List Token) (rest : Text) → is_in byte.LineEnd b ≡ true → fits_line (inside o) b ≡ true → line_end_by (inside o) o found rest ≡ Ok ((o, found), rest)
blank_line o b found rest h fits = which (inside o)
    (λ none. rw none)
    (λ l some. let f = rw some at fits in let g = (line_end_facts b h).1 in cc)

pub takes_complete : (n : ℕ) (found : List Token) {o p : List Open} {bs rest : Text} {ts : List Token} → AllQuotes o → Takes n o bs ts p rest → step n o found bs ≡ Ok ((p, found ++ ts), rest)
unfolding step slash word string closing number hex_number
takes_complete n found qs (to.Takes.blank {o} {b} {rest} h) = split (is_in byte.Space b)
    (λ space. rw (space, append-nil found))
    (λ other. let f = rw other at h in split (is_in byte.LineEnd b)
    (λ ends. let fits = rw ends at f in rw (other, ends, blank_line o b found rest ends fits, append-nil found))
    (λ no_end. let g = rw no_end at f in cc))
takes_complete n found qs (to.Takes.line {o} {bs} {text} {rest} r) = rw ((run_is byte.InLine r).1, append-nil found)
takes_complete n found qs (to.Takes.comment {o} {bs} {rest} c) = rw (comment_is (fits_line (inside o)) (fits_star (inside o)) (fits_slash (inside o)) c, append-nil found)
takes_complete n found qs (to.Takes.word {o} {b} {bs} {text} {rest} h r free) =
    let f = start_facts b h in let i = run_is byte.Part r in rw (f.0, f.1, f.2, h, i.0, free, i.1)
takes_complete n found qs (to.Takes.decimal {o} {b} {bs} {ds} {rest} {k} h no_x r is) =
    let f = digit_facts b h in let i = run_is byte.Digit r in rw (f.0, f.1, f.2, f.3, f.4, h, no_x, i.0, is, i.1)
takes_complete n found qs (to.Takes.hexadecimal {o} {x} {bs} {ds} {rest} {k} h r some is) =
    let i = run_is byte.Hex r in rw (h, i.0, not_empty ds some, is, i.1)
takes_complete n found qs (to.Takes.sign {o} {c} {bs} {rest} x) =
    let (b, us, is, other) = sign_begins x.text c x.spells in let f : first bs ≡ Some b = ap first (x.is ∙ ap (λ t. t ++ rest) is) in
    rw (f, other, is_sign_in signs bs c rest signs_ordered x)
takes_complete n found qs to.Takes.opens = refl
takes_complete n found qs to.Takes.closes = refl
takes_complete n found qs to.Takes.stray = refl
takes_complete n found qs (to.Takes.string {o} {q} {bs} {rest} {ts} h x) =
    let f = quote_facts q h in rw (f.0, f.1, f.2, f.3, h, segment_complete n q (suc (length bs)) h found x)
takes_complete n found qs (to.Takes.enters {o} {q} {bs} {rest} {ts} h x) =
    let f = quote_facts q h in rw (f.0, f.1, f.2, f.3, h, segment_complete n q (suc (length bs)) h found x)
takes_complete n found qs (to.Takes.ends {o} {q} {l} {bs} x) = rw (segment_complete n q l qs.0 found x)
takes_complete n found qs (to.Takes.goes_on {o} {q} {l} {bs} x) = rw (segment_complete n q l qs.0 found x)

opening_facts : (bs : Text) → is_comment_opening bs ≡ false → (is_first 47 bs ≡ false) × (is_first 42 bs ≡ false)
opening_facts [] h = (refl, refl)
opening_facts (b ∷ bs) h = or_false (b == 47) (b == 42) h

pub stuck_complete : (n : ℕ) (found : List Token) {o : List Open} {bs : Text} {e : Fault} → AllQuotes o → 0 < length bs → Stuck o bs e → step n o found bs ≡ Err e
unfolding step slash word string closing number hex_number
stuck_complete n found qs h (ff.Stuck.text_end x) = absurd (omega arith)
stuck_complete n found qs h (ff.Stuck.line_end {o} {l} {b} {bs} x ends) = rw ((line_end_facts b ends).0, ends, x)
stuck_complete n found qs h (ff.Stuck.no_comment {o} {bs} x) = let f = opening_facts bs x in rw (f.0, f.1)
stuck_complete n found qs h (ff.Stuck.endless {o} {bs} x) = rw (endless_is (fits_line (inside o)) (fits_star (inside o)) (fits_slash (inside o)) x) (at_end (inside o))
  where
    at_end : (i : Option ℕ) → ◌≡◌ {A = Outcome State} (Err (fault_of i (suc (suc (length bs))) [])) (Err (UnclosedComment (suc (suc (length bs)))))
    at_end None = refl
    at_end (Some l) = refl
stuck_complete n found qs h (ff.Stuck.comment_line {o} {l} {b} {bs} {rest} is x) = rw (endless_is (fits_line (inside o)) (fits_star (inside o)) (fits_slash (inside o)) x, is)
stuck_complete n found qs h (ff.Stuck.reserved {o} {b} {bs} {text} {rest} is r x) =
    let f = start_facts b is in let i = run_is byte.Part r in rw (f.0, f.1, f.2, is, i.0, x)
stuck_complete n found qs h (ff.Stuck.string {o} {q} {bs} is x) =
    let f = quote_facts q is in rw (f.0, f.1, f.2, f.3, is, bad_segment n q (suc (length bs)) is true (suc (length bs)) found x)
stuck_complete n found qs h (ff.Stuck.goes_on {o} {q} {l} {bs} x) = rw (bad_segment n q l qs.0 false (suc (length bs)) found x)
stuck_complete n found qs h (ff.Stuck.wide_decimal {o} {b} {bs} {ds} {rest} x no_x r is) =
    let f = digit_facts b x in let i = run_is byte.Digit r in rw (f.0, f.1, f.2, f.3, f.4, x, no_x, i.0, is)
stuck_complete n found qs h (ff.Stuck.wide_hex {o} {x} {bs} {ds} {rest} y r some is) =
    let i = run_is byte.Hex r in rw (y, i.0, not_empty ds some, is)
stuck_complete n found qs h (ff.Stuck.no_hex {o} {x} {bs} {rest} y r) = let i = run_is byte.Hex r in rw (y, i.0)
stuck_complete n found qs h (ff.Stuck.other {o} {b} {bs} x y) = rw (x, none_is signs (b ∷ bs) y signs_ordered)

-- ---- and back

pub record Took (n : ℕ) (o : List Open) (found : List Token) (bs : Text) (p : State) (rest : Text) : Type 0 where
  pub ts : List Token
  pub is : p.1 ≡ found ++ ts
  pub reads : Takes n o bs ts p.0 rest

took : (n : ℕ) (o : List Open) (found ts : List Token) (bs : Text) (p : List Open) (rest : Text) → Takes n o bs ts p rest → Took n o found bs (p, found ++ ts) rest
took n o found ts bs p rest x = record { ts = ts; is = refl; reads = x }

took_none : (n : ℕ) (o : List Open) (found : List Token) (bs : Text) (p : List Open) (rest : Text) → Takes n o bs [] p rest → Took n o found bs (p, found) rest
took_none n o found bs p rest x = record { ts = []; is = sym (append-nil found); reads = x }

no_state : {r : Fault} {y : State × Text} → ◌≡◌ {A = Outcome State} (Err r) (Ok y) → ⊥
no_state e = cc

module _ (n : ℕ) (o : List Open) (found : List Token) where
  abbrev Says : Text → State → Text → Type 0
  Says bs p rest = Took n o found bs p rest

  slash_sound : (bs : Text) {p : State} {rest : Text} → slash o found bs ≡ Ok (p, rest) → Says (47 ∷ bs) p rest
  unfolding slash
  slash_sound bs {p} {rest} e = split (is_first 47 bs)
      (λ h. rw (first_is 47 bs h) (same_ok (λ p rest. Says (47 ∷ 47 ∷ next bs) p rest) (rw h at e) (took_none n o found (47 ∷ 47 ∷ next bs) o (past_run byte.InLine (next bs)) (to.Takes.line (run_of byte.InLine (next bs))))))
      (λ no_line. split (is_first 42 bs)
      (λ h. rw (first_is 42 bs h) (by (past (fits_line (inside o)) 0 false (next bs)) refl (rw (no_line, h) at e)))
      (λ h. absurd (no_state (rw (no_line, h) at e))))
    where
      by : (r : Result Text Text) → past (fits_line (inside o)) 0 false (next bs) ≡ r → comment_by o found (suc (length bs)) r ≡ Ok (p, rest) → Says (47 ∷ 42 ∷ next bs) p rest
      by (Ok mid) is e = same_ok (λ p rest. Says (47 ∷ 42 ∷ next bs) p rest) e
          (took_none n o found (47 ∷ 42 ∷ next bs) o mid (to.Takes.comment (is_comment (fits_line (inside o)) (fits_star (inside o)) (fits_slash (inside o)) (next bs) is)))
      by (Err mid) is e = absurd (no_state e)

  word_sound : (b : ℕ) (bs : Text) {p : State} {rest : Text} → is_in byte.Start b ≡ true → word n o found b bs ≡ Ok (p, rest) → Says (b ∷ bs) p rest
  unfolding word
  word_sound b bs h e = split (is_reserved (b ∷ run byte.Part bs))
      (λ x. absurd (no_state (rw x at e)))
      (λ free. same_ok (λ p rest. Says (b ∷ bs) p rest) (rw free at e) (took n o found _ (b ∷ bs) o (past_run byte.Part bs) (to.Takes.word h (run_of byte.Part bs) free)))

  string_sound : (q : ℕ) (bs : Text) {p : State} {rest : Text} → is_quote q ≡ true → string n o found q bs ≡ Ok (p, rest) → Says (q ∷ bs) p rest
  unfolding string
  string_sound q bs h e = via (segment n q (suc (length bs)) true (suc (length bs)) found bs) _ e (λ x mid e1 e2.
      let f = segment_sound n q (suc (length bs)) h true (suc (length bs)) found bs e1 in
      closed_or x.1 x.0 mid f.ts f.is f.reads e2)
    where
      closed_or : (last : Bool) (ys : List Token) (mid : Text) (ts : List Token) {p : State} {rest : Text} → ys ≡ found ++ ts → Segment n q true (suc (length bs)) bs ts last mid
          → ◌≡◌ {A = Outcome State} (Ok ((if last then o else op.Text q (suc (length bs)) ∷ o, ys), mid)) (Ok (p, rest)) → Says (q ∷ bs) p rest
      closed_or true ys mid ts is x e = same_ok (λ p rest. Says (q ∷ bs) p rest) e (rw is (took n o found ts (q ∷ bs) o mid (to.Takes.string h x)))
      closed_or false ys mid ts is x e = same_ok (λ p rest. Says (q ∷ bs) p rest) e (rw is (took n o found ts (q ∷ bs) (op.Text q (suc (length bs)) ∷ o) mid (to.Takes.enters h x)))

  line_end_sound : (b : ℕ) (bs : Text) {p : State} {rest : Text} → is_in byte.LineEnd b ≡ true → line_end_by (inside o) o found bs ≡ Ok (p, rest) → Says (b ∷ bs) p rest
  line_end_sound b bs h e = which (inside o)
      (λ none. let blank : is_blank (inside o) b ≡ true = rw ((line_end_facts b h).0, h, none) in
      same_ok (λ p rest. Says (b ∷ bs) p rest) (rw none at e) (took_none n o found (b ∷ bs) o bs (to.Takes.blank blank)))
      (λ l some. absurd (no_state (rw some at e)))

no_digits : (bs : Text) → (length (run byte.Hex bs) == 0) ≡ true → run byte.Hex bs ≡ []
no_digits bs h = empty (run byte.Hex bs) (eqb-true (length (run byte.Hex bs)) 0 h)
  where
    empty : (ds : Text) → length ds ≡ 0 → ds ≡ []
    empty [] e = refl
    empty (d ∷ ds) e = absurd (omega arith)

some_digits : (bs : Text) → (length (run byte.Hex bs) == 0) ≡ false → 0 < length (run byte.Hex bs)
some_digits bs h = let f = eqb-false (length (run byte.Hex bs)) 0 h in omega (arith, f)

hex_is : (b : ℕ) (bs : Text) → is_hex b bs ≡ true → (b ≡ 48) × (x : ℕ) × (bs ≡ x ∷ next bs) × (is_x x ≡ true)
hex_is b bs h = let p = and_true (b == 48) (starts_x bs) h in let (x, is, fits) = x_is bs p.1 in (eqb-true b 48 p.0, x, is, fits)
  where
    x_is : (bs : Text) → starts_x bs ≡ true → (x : ℕ) × (bs ≡ x ∷ next bs) × (is_x x ≡ true)
    x_is [] h = cc
    x_is (x ∷ bs) h = (x, refl, h)

hex_sound : (n : ℕ) (o : List Open) (found : List Token) (x : ℕ) (bs : Text) {p : State} {rest : Text} → is_x x ≡ true → hex_number n o found (length (48 ∷ x ∷ bs)) bs ≡ Ok (p, rest) → Took n o found (48 ∷ x ∷ bs) p rest
unfolding hex_number
hex_sound n o found x bs h e = split (length (run byte.Hex bs) == 0)
    (λ none. absurd (no_state (rw none at e)))
    (λ some. which (hex_kind (value 16 (run byte.Hex bs)))
    (λ wide. absurd (no_state (rw (some, wide) at e)))
    (λ k is. same_ok (λ p rest. Took n o found (48 ∷ x ∷ bs) p rest) (rw (some, is) at e)
    (took n o found _ (48 ∷ x ∷ bs) o (past_run byte.Hex bs) (to.Takes.hexadecimal h (run_of byte.Hex bs) (some_digits bs some) is))))

number_sound : (n : ℕ) (o : List Open) (found : List Token) (b : ℕ) (bs : Text) {p : State} {rest : Text} → is_in byte.Digit b ≡ true → number n o found b bs ≡ Ok (p, rest) → Took n o found (b ∷ bs) p rest
unfolding number
number_sound n o found b bs {p} {rest} h e = split (is_hex b bs)
    (λ hex. let (zero_is, x, is, x_is) = hex_is b bs hex in rw (zero_is, is) (hex_sound n o found x (next bs) x_is (rw (ap (λ t. suc (length t)) is) at (rw hex at e))))
    (λ no_hex. which (decimal_kind (value 10 (b ∷ run byte.Digit bs)))
    (λ wide. absurd (no_state (rw (no_hex, wide) at e)))
    (λ k is. same_ok (λ p rest. Took n o found (b ∷ bs) p rest) (rw (no_hex, is) at e)
    (took n o found _ (b ∷ bs) o (past_run byte.Digit bs) (to.Takes.decimal h no_hex (run_of byte.Digit bs) is))))

hex_stuck : (n : ℕ) (o : List Open) (found : List Token) (x : ℕ) (bs : Text) {e : Fault} → is_x x ≡ true → hex_number n o found (length (48 ∷ x ∷ bs)) bs ≡ Err e → Stuck o (48 ∷ x ∷ bs) e
unfolding hex_number
hex_stuck n o found x bs h e = split (length (run byte.Hex bs) == 0)
    (λ none. same_err (λ e. Stuck o (48 ∷ x ∷ bs) e) (rw none at e) (ff.Stuck.no_hex h (rw (no_digits bs none) at (run_of byte.Hex bs))))
    (λ some. which (hex_kind (value 16 (run byte.Hex bs)))
    (λ wide. same_err (λ e. Stuck o (48 ∷ x ∷ bs) e) (rw (some, wide) at e) (ff.Stuck.wide_hex h (run_of byte.Hex bs) (some_digits bs some) wide))
    (λ k is. absurd (ok_not_err (rw (some, is) at e))))

number_stuck : (n : ℕ) (o : List Open) (found : List Token) (b : ℕ) (bs : Text) {e : Fault} → is_in byte.Digit b ≡ true → number n o found b bs ≡ Err e → Stuck o (b ∷ bs) e
unfolding number
number_stuck n o found b bs h e = split (is_hex b bs)
    (λ hex. let (zero_is, x, is, x_is) = hex_is b bs hex in rw (zero_is, is) (hex_stuck n o found x (next bs) x_is (rw (ap (λ t. suc (length t)) is) at (rw hex at e))))
    (λ no_hex. which (decimal_kind (value 10 (b ∷ run byte.Digit bs)))
    (λ wide. same_err (λ e. Stuck o (b ∷ bs) e) (rw (no_hex, wide) at e) (ff.Stuck.wide_decimal h no_hex (run_of byte.Digit bs) wide))
    (λ k is. absurd (ok_not_err (rw (no_hex, is) at e))))

closing_sound : (n : ℕ) (o : List Open) (found : List Token) (bs : Text) {p : State} {rest : Text} → AllQuotes o → closing n o found bs ≡ Ok (p, rest) → Took n o found (125 ∷ bs) p rest
unfolding closing
closing_sound n [] found bs qs e = same_ok (λ p rest. Took n [] found (125 ∷ bs) p rest) e (took n [] found _ (125 ∷ bs) [] bs to.Takes.stray)
closing_sound n (op.Brace outer ∷ o) found bs qs e = same_ok (λ p rest. Took n (op.Brace outer ∷ o) found (125 ∷ bs) p rest) e (took n (op.Brace outer ∷ o) found _ (125 ∷ bs) o bs to.Takes.closes)
closing_sound n (op.Text q l ∷ o) found bs qs e = via (segment n q l false (suc (length bs)) found bs) _ e (λ x mid e1 e2.
    let f = segment_sound n q l qs.0 false (suc (length bs)) found bs e1 in
    closed_or x.1 x.0 mid f.ts f.is f.reads e2)
  where
    closed_or : (last : Bool) (ys : List Token) (mid : Text) (ts : List Token) {p : State} {rest : Text} → ys ≡ found ++ ts → Segment n q false (suc (length bs)) bs ts last mid
        → ◌≡◌ {A = Outcome State} (Ok ((if last then o else op.Text q l ∷ o, ys), mid)) (Ok (p, rest)) → Took n (op.Text q l ∷ o) found (125 ∷ bs) p rest
    closed_or true ys mid ts is x e = same_ok (λ p rest. Took n (op.Text q l ∷ o) found (125 ∷ bs) p rest) e (rw is (took n (op.Text q l ∷ o) found ts (125 ∷ bs) o mid (to.Takes.ends x)))
    closed_or false ys mid ts is x e = same_ok (λ p rest. Took n (op.Text q l ∷ o) found (125 ∷ bs) p rest) e (rw is (took n (op.Text q l ∷ o) found ts (125 ∷ bs) (op.Text q l ∷ o) mid (to.Takes.goes_on x)))

piece_sound : (n : ℕ) (o : List Open) (found : List Token) (b : ℕ) (bs : Text) {p : State} {rest : Text} → AllQuotes o → begins b ≡ true → piece_by n o found b bs ≡ Ok (p, rest) → Took n o found (b ∷ bs) p rest
piece_sound n o found b bs qs h0 e = split (is_in byte.Space b)
    (λ h. let blank : is_blank (inside o) b ≡ true = rw h in same_ok (λ p rest. Took n o found (b ∷ bs) p rest) (rw h at e) (took_none n o found (b ∷ bs) o bs (to.Takes.blank blank)))
    (λ h1. split (is_in byte.LineEnd b)
    (λ h. line_end_sound n o found b bs h (rw (h1, h) at e))
    (λ h2. split (b == 47)
    (λ h. rw (eqb-true b 47 h) (slash_sound n o found bs (rw (h1, h2, h) at e)))
    (λ h3. split (is_in byte.Start b)
    (λ h. word_sound n o found b bs h (rw (h1, h2, h3, h) at e))
    (λ h4. split (is_quote b)
    (λ h. string_sound n o found b bs h (rw (h1, h2, h3, h4, h) at e))
    (λ h5. split (is_in byte.Digit b)
    (λ h. number_sound n o found b bs h (rw (h1, h2, h3, h4, h5, h) at e))
    (λ h6. split (b == 123)
    (λ h. same_ok (λ p rest. Took n o found (b ∷ bs) p rest) (rw (h1, h2, h3, h4, h5, h6, h) at e) (rw (eqb-true b 123 h) (took n o found _ (123 ∷ bs) (op.Brace (inside o) ∷ o) bs to.Takes.opens)))
    (λ h7. let h = rw (h1, h2, h3, h4, h5, h6, h7) at h0 in rw (eqb-true b 125 h) (closing_sound n o found bs qs (rw (h1, h2, h3, h4, h5, h6, h7) at e)))))))))

sign_sound : (n : ℕ) (o : List Open) (found : List Token) (bs : Text) {p : State} {rest : Text} → sign_by n o found bs (sign_in signs bs) ≡ Ok (p, rest) → Took n o found bs p rest
sign_sound n o found bs e = which (sign_in signs bs)
    (λ none. absurd (no_state (rw none at e)))
    (λ q some. same_ok (λ p rest. Took n o found bs p rest) (rw some at e) (took n o found _ bs o q.1 (to.Takes.sign (longest_in signs bs signs_ordered some))))

pub step_sound : (n : ℕ) (o : List Open) (found : List Token) (b : ℕ) (bs : Text) {p : State} {rest : Text} → AllQuotes o → step n o found (b ∷ bs) ≡ Ok (p, rest) → Took n o found (b ∷ bs) p rest
unfolding step
step_sound n o found b bs qs e = split (begins b)
    (λ h. piece_sound n o found b bs qs h (rw h at e))
    (λ h. sign_sound n o found (b ∷ bs) (rw h at e))

-- a comment that does not end stops at the text's end, or in an interpolation at a line end
comment_fault : (o : List Open) (i : Option ℕ) → inside o ≡ i → (bs mid : Text) → ff.Endless (fits_line (inside o)) bs mid → Stuck o (47 ∷ 42 ∷ bs) (fault_of i (suc (suc (length bs))) mid)
comment_fault o None is bs [] x = ff.Stuck.endless x
comment_fault o None is bs (b ∷ mid) x = absurd (never is x)
  where
    stops_is : (ok : ℕ → Bool) {bs rest : Text} → ff.Endless ok bs rest → (b : ℕ) (us : Text) → rest ≡ b ∷ us → ok b ≡ false
    stops_is ok ff.Endless.ends b us e = cc
    stops_is ok (ff.Endless.stops {b = c} h) b us e = let same : c ≡ b = cc in rw same at h
    stops_is ok (ff.Endless.inner x) b us e = stops_is ok x b us e
    stops_is ok (ff.Endless.nested c x) b us e = stops_is ok x b us e
    stops_is ok (ff.Endless.other h no_end no_start x) b us e = stops_is ok x b us e

    never : inside o ≡ None → ff.Endless (fits_line (inside o)) bs (b ∷ mid) → ⊥
    never is x = let f = stops_is (fits_line (inside o)) x b mid refl in let g = rw is at f in cc
comment_fault o (Some l) is bs [] x = ff.Stuck.endless x
comment_fault o (Some l) is bs (b ∷ mid) x = ff.Stuck.comment_line is x

slash_stuck : (o : List Open) (found : List Token) (bs : Text) {e : Fault} → slash o found bs ≡ Err e → Stuck o (47 ∷ bs) e
unfolding slash
slash_stuck o found bs {e = r} e = split (is_first 47 bs)
    (λ h. absurd (ok_not_err (rw h at e)))
    (λ no_line. split (is_first 42 bs)
    (λ h. rw (first_is 42 bs h) (by (past (fits_line (inside o)) 0 false (next bs)) refl (ap suc (ap length (first_is 42 bs h))) (rw (no_line, h) at e)))
    (λ no_star. same_err (λ e. Stuck o (47 ∷ bs) e) (rw (no_line, no_star) at e) (ff.Stuck.no_comment (neither bs no_line no_star))))
  where
    neither : (bs : Text) → is_first 47 bs ≡ false → is_first 42 bs ≡ false → is_comment_opening bs ≡ false
    neither [] e f = refl
    neither (b ∷ bs) e f = rw (e, f)

    by : (x : Result Text Text) → past (fits_line (inside o)) 0 false (next bs) ≡ x → suc (length bs) ≡ suc (length (42 ∷ next bs)) → comment_by o found (suc (length bs)) x ≡ Err r → Stuck o (47 ∷ 42 ∷ next bs) r
    by (Ok mid) is len e = absurd (ok_not_err e)
    by (Err mid) is len e = same_err (λ e. Stuck o (47 ∷ 42 ∷ next bs) e) e
        (rw len (comment_fault o (inside o) refl (next bs) mid (is_endless (fits_line (inside o)) (fits_star (inside o)) (fits_slash (inside o)) (next bs) is)))

word_stuck : (n : ℕ) (o : List Open) (found : List Token) (b : ℕ) (bs : Text) {e : Fault} → is_in byte.Start b ≡ true → word n o found b bs ≡ Err e → Stuck o (b ∷ bs) e
unfolding word
word_stuck n o found b bs h e = split (is_reserved (b ∷ run byte.Part bs))
    (λ x. same_err (λ e. Stuck o (b ∷ bs) e) (rw x at e) (ff.Stuck.reserved h (run_of byte.Part bs) x))
    (λ free. absurd (ok_not_err (rw free at e)))

string_stuck : (n : ℕ) (o : List Open) (found : List Token) (q : ℕ) (bs : Text) {e : Fault} → is_quote q ≡ true → string n o found q bs ≡ Err e → Stuck o (q ∷ bs) e
unfolding string
string_stuck n o found q bs h e = via_err (segment n q (suc (length bs)) true (suc (length bs)) found bs) _ e
    (λ e1. ff.Stuck.string h (segment_fails n q (suc (length bs)) h true (suc (length bs)) found bs e1))
    (λ x mid e1 e2. absurd (ok_not_err e2))

closing_stuck : (n : ℕ) (o : List Open) (found : List Token) (bs : Text) {e : Fault} → AllQuotes o → closing n o found bs ≡ Err e → Stuck o (125 ∷ bs) e
unfolding closing
closing_stuck n [] found bs qs e = absurd (ok_not_err e)
closing_stuck n (op.Brace outer ∷ o) found bs qs e = absurd (ok_not_err e)
closing_stuck n (op.Text q l ∷ o) found bs qs e = via_err (segment n q l false (suc (length bs)) found bs) _ e
    (λ e1. ff.Stuck.goes_on (segment_fails n q l qs.0 false (suc (length bs)) found bs e1))
    (λ x mid e1 e2. absurd (ok_not_err e2))

piece_stuck : (n : ℕ) (o : List Open) (found : List Token) (b : ℕ) (bs : Text) {e : Fault} → AllQuotes o → begins b ≡ true → piece_by n o found b bs ≡ Err e → Stuck o (b ∷ bs) e
piece_stuck n o found b bs qs h0 e = split (is_in byte.Space b)
    (λ h. absurd (ok_not_err (rw h at e)))
    (λ h1. split (is_in byte.LineEnd b)
    (λ h. which (inside o)
    (λ none. absurd (ok_not_err (rw (h1, h, none) at e)))
    (λ l some. same_err (λ e. Stuck o (b ∷ bs) e) (rw (h1, h, some) at e) (ff.Stuck.line_end some h)))
    (λ h2. split (b == 47)
    (λ h. rw (eqb-true b 47 h) (slash_stuck o found bs (rw (h1, h2, h) at e)))
    (λ h3. split (is_in byte.Start b)
    (λ h. word_stuck n o found b bs h (rw (h1, h2, h3, h) at e))
    (λ h4. split (is_quote b)
    (λ h. string_stuck n o found b bs h (rw (h1, h2, h3, h4, h) at e))
    (λ h5. split (is_in byte.Digit b)
    (λ h. number_stuck n o found b bs h (rw (h1, h2, h3, h4, h5, h) at e))
    (λ h6. split (b == 123)
    (λ h. absurd (ok_not_err (rw (h1, h2, h3, h4, h5, h6, h) at e)))
    (λ h7. let h = rw (h1, h2, h3, h4, h5, h6, h7) at h0 in rw (eqb-true b 125 h) (closing_stuck n o found bs qs (rw (h1, h2, h3, h4, h5, h6, h7) at e)))))))))

pub step_stuck : (n : ℕ) (o : List Open) (found : List Token) (b : ℕ) (bs : Text) {e : Fault} → AllQuotes o → step n o found (b ∷ bs) ≡ Err e → Stuck o (b ∷ bs) e
unfolding step
step_stuck n o found b bs qs e = split (begins b)
    (λ h. piece_stuck n o found b bs qs h (rw h at e))
    (λ h. which (sign_in signs (b ∷ bs))
    (λ none. same_err (λ e. Stuck o (b ∷ bs) e) (rw (h, none) at e) (ff.Stuck.other h (no_sign_in signs (b ∷ bs) none)))
    (λ q some. absurd (ok_not_err (rw (h, some) at e))))
