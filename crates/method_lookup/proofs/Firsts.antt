-- The first item that passes, as a map holds it for the items so far.
use Rattle.std.proofs.Common.{◌≡◌, ℕ, zero, suc, ◌+◌, ◌<◌, ◌≤◌, Bool, true, false, cond, is_some, List, [], ◌∷◌, length, drop, get_or, Option, None, Some, refl, sym, ◌∙◌, ap, arith}
use Rattle.std.proofs.lemmas.List.{drop_more}
use Rattle.std.specs.List.{position_from}
use Rattle.program.specs.Lookup.{or_above}
use Rattle.program.specs.declared.numbered.Method.{Method}
use Rattle.program.specs.declared.numbered.SelectorKind.{SelectorKind}
use Rattle.method_lookup.specs.Index.{if_so, is_keyed, is_keyed_by, name_number}

pub or_above_assoc : (a b c : Option ℕ) → or_above (or_above a b) c ≡ or_above a (or_above b c)
or_above_assoc (Some x) b c = refl
or_above_assoc None b c = refl

pub or_above_none : (a : Option ℕ) → or_above a None ≡ a
or_above_none (Some x) = refl
or_above_none None = refl

so_first : (b : Bool) (i : ℕ) (rest : Option ℕ) → or_above (if_so b i) rest ≡ cond b (Some i) rest
so_first true i rest = refl
so_first false i rest = refl

pub first_next : {A : Type 0} (t : A → Bool) (xs : List A) (i : ℕ) (x : A) (old new whole : Option ℕ) → i < length xs → x ≡ get_or xs i x → new ≡ or_above old (if_so (t x) i)
    → or_above old (position_from t i (drop i xs)) ≡ whole → or_above new (position_from t (i + 1) (drop (i + 1) xs)) ≡ whole
first_next t xs i x old new whole lt is step was =
    ap (λ o. or_above o (position_from t (i + 1) (drop (i + 1) xs))) step
    ∙ or_above_assoc old (if_so (t x) i) (position_from t (i + 1) (drop (i + 1) xs))
    ∙ ap (or_above old) (so_first (t x) i (position_from t (i + 1) (drop (i + 1) xs)))
    ∙ ap (λ ys. or_above old (position_from t i ys)) (sym (drop_more xs i x lt ∙ ap (λ y. y ∷ drop (i + 1) xs) (sym is)))
    ∙ was

drop_all : {A : Type 0} (xs : List A) (i : ℕ) → length xs ≤ i → drop i xs ≡ []
drop_all [] zero le = refl
drop_all [] (suc i) le = refl
drop_all (x ∷ xs) zero le = absurd (omega arith)
drop_all (x ∷ xs) (suc i) le = drop_all xs i (omega arith)

pub first_end : {A : Type 0} (t : A → Bool) (xs : List A) (i : ℕ) (old whole : Option ℕ) → length xs ≤ i → or_above old (position_from t i (drop i xs)) ≡ whole → old ≡ whole
first_end t xs i old whole le was = sym (or_above_none old) ∙ ap (λ ys. or_above old (position_from t i ys)) (sym (drop_all xs i le)) ∙ was

-- a key that was absent is put
pub put_absent : (b : Bool) (m : ℕ) (old new : Option ℕ) → new ≡ cond b (Some m) old → (b ≡ true → old ≡ None) → new ≡ or_above old (if_so b m)
put_absent true m old new e absent = e ∙ sym (ap (λ o. or_above o (Some m)) (absent refl))
put_absent false m old new e absent = e ∙ sym (or_above_none old)

-- a key that is there stays
pub put_none : (b : Bool) (m : ℕ) (old new : Option ℕ) → new ≡ old → (b ≡ true → is_some old ≡ true) → new ≡ or_above old (if_so b m)
put_none true m None new e there = let t = there refl in absurd (cc)
put_none true m (Some x) new e there = e
put_none false m old new e there = e ∙ sym (or_above_none old)

pub not_some : (o : Option ℕ) → is_some o ≡ false → o ≡ None
not_some None e = refl
not_some (Some x) e = absurd (cc)

-- the same step, with the numbers of names as a map has them
pub keyed_by : (methods : List Method) (number : List ℕ → Option ℕ) (c n i : ℕ) (role : SelectorKind) (m : Method) (old new : Option ℕ) → ((q : List ℕ) → number q ≡ name_number methods q)
    → new ≡ or_above old (if_so (is_keyed_by number c role n m) i) → new ≡ or_above old (if_so (is_keyed methods c role n m) i)
keyed_by methods number c n i role m old new same e = e ∙ ap (λ f. or_above old (if_so (is_keyed_by f c role n m) i)) (λ k q. same q k)
