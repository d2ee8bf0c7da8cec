-- The table of signs: the first that fits is the longest.
use Rattle.std.proofs.Common.{◌≡◌, ℕ, ◌≤◌, Bool, true, false, not, ◌&&◌, ◌==◌, nat_le, [], ◌∷◌, ◌++◌, length, Option, Some, None, refl, ap, sym, inl, inr, ◌∙◌, arith}
use Rattle.std.proofs.lemmas.Bool.{eqb-true, eq-eqb, leb-true}
use Rattle.std.specs.Str.{bytes_eq}
use Rattle.dart_syntax.specs.declared.token.Sign.{Sign}
use Rattle.dart_syntax.specs.Bytes.{Text}
use Rattle.dart_syntax.specs.Signs.{Table, signs, Spells, IsLongest, NoSign}
use Rattle.dart_lexer.specs.Signs.{strip, sign_in, no_longer, lacks, is_ordered}
use Rattle.dart_lexer.proofs.Facts.{split, which, and_true, not_true}
use Rattle.dart_lexer.specs.FirstFault.{begins}

strip_is : (text bs : Text) {us : Text} → strip text bs ≡ Some us → bs ≡ text ++ us
strip_is [] bs e = cc
strip_is (a ∷ text) [] e = cc
strip_is (a ∷ text) (b ∷ bs) {us} e = split (a == b)
    (λ h. let i = strip_is text bs (rw h at e) in let same : a ≡ b = eqb-true a b h in rw (same, i))
    (λ h. let f = rw h at e in cc)

strip_of : (text bs us : Text) → bs ≡ text ++ us → strip text bs ≡ Some us
strip_of [] bs us e = ap Some e
strip_of (a ∷ text) [] us e = cc
strip_of (a ∷ text) (b ∷ bs) us e = let same : a ≡ b = cc in let more : bs ≡ text ++ us = cc in rw (eq-eqb a b same) (strip_of text bs us more)

bytes_same : (text : Text) → bytes_eq text text ≡ true
bytes_same [] = refl
bytes_same (a ∷ text) = rw (eq-eqb a a refl, bytes_same text)

shorter_than : (n : ℕ) (table : Table) (text : Text) (c : Sign) → no_longer n table ≡ true → Spells table text c → length text ≤ n
shorter_than n [] text c h s = absurd s
shorter_than n (e ∷ es) text d h (inl (is, c)) = rw (← is) (leb-true (length e.0) n (and_true _ _ h).0)
shorter_than n (e ∷ es) text c h (inr s) = shorter_than n es text c (and_true (nat_le (length e.0) n) (no_longer n es) h).1 s

not_there : (text : Text) (table : Table) (c : Sign) → lacks text table ≡ true → Spells table text c → ⊥
not_there text [] c h s = s
not_there text (e ∷ es) d h (inl (is, c)) = let f = (and_true (not (bytes_eq text e.0)) (lacks text es) h).0 in let g = rw (is, bytes_same text) at f in cc
not_there text (e ∷ es) c h (inr s) = not_there text es c (and_true (not (bytes_eq text e.0)) (lacks text es) h).1 s

ordered_is : (e : Text × Sign) (es : Table) → is_ordered (e ∷ es) ≡ true → (no_longer (length e.0) es ≡ true) × (lacks e.0 es ≡ true) × (is_ordered es ≡ true)
ordered_is e es h = let p = and_true (no_longer (length e.0) es && lacks e.0 es) (is_ordered es) h in
    let q = and_true (no_longer (length e.0) es) (lacks e.0 es) p.0 in (q.0, q.1, p.1)

one_sign : (table : Table) (text : Text) (c d : Sign) → is_ordered table ≡ true → Spells table text c → Spells table text d → c ≡ d
one_sign [] text c d h s t = absurd s
one_sign (e ∷ es) text c d h (inl (is, c_is)) (inl (js, d_is)) = sym c_is ∙ d_is
one_sign (e ∷ es) text c d h (inl (is, c_is)) (inr t) = absurd (not_there text es d (rw is at (ordered_is e es h).1) t)
one_sign (e ∷ es) text c d h (inr s) (inl (js, d_is)) = absurd (not_there text es c (rw js at (ordered_is e es h).1) s)
one_sign (e ∷ es) text c d h (inr s) (inr t) = one_sign es text c d (ordered_is e es h).2 s t

pair_is : {c d : Sign} {us vs : Text} → ◌≡◌ {A = Option (Sign × Text)} (Some (c, us)) (Some (d, vs)) → (c ≡ d) × (us ≡ vs)
pair_is {c} {d} {us} {vs} e = let p : ◌≡◌ {A = Sign × Text} (c, us) (d, vs) = cc in (ap (λ q. q.0) p, ap (λ q. q.1) p)

pub longest_in : (table : Table) (bs : Text) {c : Sign} {rest : Text} → is_ordered table ≡ true → sign_in table bs ≡ Some (c, rest) → IsLongest table bs c rest
longest_in [] bs h e = cc
longest_in (x ∷ xs) bs {c} {rest} h e = which (strip x.0 bs)
    (λ none. let f = longest_in xs bs (ordered_is x xs h).2 (rw none at e) in
    record { text = f.text; spells = inr f.spells; is = f.is; longest = behind f.text f.longest none })
    (λ us some. let p = pair_is (rw some at e) in
    record { text = x.0; spells = inl (refl, p.0); is = strip_is x.0 bs (rw p.1 at some); longest = first_of_all })
  where
    behind : (text : Text) → ((other : Text) (d : Sign) (us : Text) → Spells xs other d → bs ≡ other ++ us → length other ≤ length text) → strip x.0 bs ≡ None
        → (other : Text) (d : Sign) (us : Text) → Spells (x ∷ xs) other d → bs ≡ other ++ us → length other ≤ length text
    behind text f none other d us (inl (is, d_is)) eq = let g = strip_of x.0 bs us (rw is eq) in cc
    behind text f none other d us (inr s) eq = f other d us s eq

    first_of_all : (other : Text) (d : Sign) (us : Text) → Spells (x ∷ xs) other d → bs ≡ other ++ us → length other ≤ length x.0
    first_of_all other d us (inl (is, d_is)) eq = rw is (omega arith)
    first_of_all other d us (inr s) eq = shorter_than (length x.0) xs other d (ordered_is x xs h).0 s

pub no_sign_in : (table : Table) (bs : Text) → sign_in table bs ≡ None → NoSign table bs
no_sign_in [] bs e other d us s eq = s
no_sign_in (x ∷ xs) bs e other d us s eq = which (strip x.0 bs)
    (λ none. here none s (λ t. no_sign_in xs bs (rw none at e) other d us t eq))
    (λ vs some. let f = rw some at e in cc)
  where
    here : strip x.0 bs ≡ None → Spells (x ∷ xs) other d → (Spells xs other d → ⊥) → ⊥
    here none (inl (is, d_is)) more = let g = strip_of x.0 bs us (rw is eq) in cc
    here none (inr t) more = more t

fronts : (s t us vs : Text) → length s ≡ length t → s ++ us ≡ t ++ vs → (s ≡ t) × (us ≡ vs)
fronts [] [] us vs h e = (refl, e)
fronts [] (b ∷ t) us vs h e = absurd (omega arith)
fronts (a ∷ s) [] us vs h e = absurd (omega arith)
fronts (a ∷ s) (b ∷ t) us vs h e = let same : a ≡ b = cc in let more : s ++ us ≡ t ++ vs = cc in let f = fronts s t us vs (omega arith) more in (rw (same, f.0), f.1)

pub is_sign_in : (table : Table) (bs : Text) (c : Sign) (rest : Text) → is_ordered table ≡ true → IsLongest table bs c rest → sign_in table bs ≡ Some (c, rest)
is_sign_in table bs c rest h x = which (sign_in table bs)
    (λ none. absurd (no_sign_in table bs none x.text c rest x.spells x.is))
    (λ p some. let y = longest_in table bs h some in
    let longer : length x.text ≤ length y.text = y.longest x.text c rest x.spells x.is in
    let shorter : length y.text ≤ length x.text = x.longest y.text p.0 p.1 y.spells y.is in
    let f = fronts x.text y.text rest p.1 (omega arith) (sym x.is ∙ y.is) in
    let same = one_sign table x.text c p.0 h x.spells (rw (← f.0) at y.spells) in
    some ∙ rw (← f.1, ← same))

pub none_is : (table : Table) (bs : Text) → NoSign table bs → is_ordered table ≡ true → sign_in table bs ≡ None
none_is table bs x h = which (sign_in table bs)
    (λ none. none)
    (λ p some. let y = longest_in table bs h some in absurd (x y.text p.0 p.1 y.spells y.is))

pub signs_ordered : is_ordered signs ≡ true
unfolding signs
signs_ordered = refl

-- each text begins with a byte that begins nothing else
abbrev is_sign_text : Text → Bool
is_sign_text [] = false
is_sign_text (b ∷ bs) = not (begins b)

abbrev sign_bytes : Table → Bool
sign_bytes [] = true
sign_bytes (e ∷ es) = is_sign_text e.0 && sign_bytes es

sign_text_is : (text : Text) → is_sign_text text ≡ true → (b : ℕ) × (us : Text) × (text ≡ b ∷ us) × (begins b ≡ false)
sign_text_is [] h = cc
sign_text_is (b ∷ us) h = (b, us, refl, not_true (begins b) h)

spelled_is : (table : Table) (text : Text) (c : Sign) → sign_bytes table ≡ true → Spells table text c → (b : ℕ) × (us : Text) × (text ≡ b ∷ us) × (begins b ≡ false)
spelled_is [] text c h s = absurd s
spelled_is (e ∷ es) text c h (inl (is, d)) = sign_text_is text (rw is at (and_true (is_sign_text e.0) (sign_bytes es) h).0)
spelled_is (e ∷ es) text c h (inr s) = spelled_is es text c (and_true (is_sign_text e.0) (sign_bytes es) h).1 s

pub sign_begins : (text : Text) (c : Sign) → Spells signs text c → (b : ℕ) × (us : Text) × (text ≡ b ∷ us) × (begins b ≡ false)
unfolding signs
sign_begins text c s = spelled_is signs text c refl s
