use Rattle.std.proofs.Common.{◌≡◌, ℕ, zero, suc, ◌<◌, Bool, true, false, not, ◌&&◌, ◌||◌, [], ◌∷◌, length, get_or, Option, Some, None, Ok, Err, refl, ap, subst, arith, one-add}
use Rattle.std.proofs.lemmas.Bool.{eqb-true}
use Rattle.dart_lexer.specs.declared.fault.Fault.{Fault}
use Rattle.dart_syntax.specs.declared.byte_kind.ByteKind.{ByteKind}
use Rattle.dart_syntax.specs.Bytes.{Text, is_in, first, next, Run, stop, step}
use Rattle.dart_lexer.specs.Input.{Outcome, Reader, and_then}
use Rattle.dart_lexer.specs.Model.{run, past_run, is_first}

pub split : {G : Type 0} (b : Bool) → (b ≡ true → G) → (b ≡ false → G) → G
split true f g = f refl
split false f g = g refl

pub which : {A G : Type 0} (o : Option A) → (o ≡ None → G) → ((x : A) → o ≡ Some x → G) → G
which None f g = f refl
which (Some x) f g = g x refl

-- both ways that a step may end
pub via : {A B G : Type 0} (o : Outcome A) (f : A → Reader B) {y : B × Text} → and_then o f ≡ Ok y → ((x : A) (mid : Text) → o ≡ Ok (x, mid) → f x mid ≡ Ok y → G) → G
via (Ok p) f e go = go p.0 p.1 refl e
via (Err r) f e go = cc

pub via_err : {A B G : Type 0} (o : Outcome A) (f : A → Reader B) {r : Fault} → and_then o f ≡ Err r → (o ≡ Err r → G) → ((x : A) (mid : Text) → o ≡ Ok (x, mid) → f x mid ≡ Err r → G) → G
via_err (Ok p) f e failed go = go p.0 p.1 refl e
via_err {B = B} (Err r) f {r = s} e failed go = failed (same_err {B = B} e)
  where
    same_err : {A B : Type 0} {r s : Fault} → ◌≡◌ {A = Outcome B} (Err r) (Err s) → ◌≡◌ {A = Outcome A} (Err r) (Err s)
    same_err e = cc

pub same_ok : {A : Type 0} (R : A → Text → Type 0) {x y : A} {ts us : Text} → ◌≡◌ {A = Outcome A} (Ok (x, ts)) (Ok (y, us)) → R x ts → R y us
same_ok R {x} {y} {ts} {us} e r = let p : (x, ts) ≡ (y, us) = cc in subst (λ (q : _ × Text). R q.0 q.1) p r

pub same_err : {A : Type 0} (P : Fault → Type 0) {r s : Fault} → ◌≡◌ {A = Outcome A} (Err r) (Err s) → P r → P s
same_err P {r} {s} e p = let q : r ≡ s = cc in subst P q p

pub ok_not_err : {A : Type 0} {x : A × Text} {r : Fault} → ◌≡◌ {A = Outcome A} (Ok x) (Err r) → ⊥
ok_not_err e = cc

pub and_true : (a b : Bool) → (a && b) ≡ true → (a ≡ true) × (b ≡ true)
and_true true b e = (refl, e)
and_true false b e = cc

pub or_false : (a b : Bool) → (a || b) ≡ false → (a ≡ false) × (b ≡ false)
or_false true b e = cc
or_false false b e = (refl, e)

pub not_true : (a : Bool) → not a ≡ true → a ≡ false
not_true true e = cc
not_true false e = refl

pub first_is : (a : ℕ) (bs : Text) → is_first a bs ≡ true → bs ≡ a ∷ next bs
first_is a [] e = cc
first_is a (b ∷ bs) e = ap (λ c. c ∷ bs) (eqb-true b a e)

-- ---- runs

pub run_is : (c : ByteKind) {bs xs rest : Text} → Run (is_in c) bs xs rest → (run c bs ≡ xs) × (past_run c bs ≡ rest)
run_is c (stop {rest} ends) = go rest ends
  where
    go : (rest : Text) → ((b : ℕ) → first rest ≡ Some b → is_in c b ≡ false) → (run c rest ≡ []) × (past_run c rest ≡ rest)
    go [] ends = (refl, refl)
    go (b ∷ bs) ends = let h = ends b refl in (rw h, rw h)
run_is c (step {b} {bs} {xs} {rest} h r) = let i = run_is c r in (rw (h, one-add, i.0), rw (h, one-add, i.1))

some_is : {a b : ℕ} → Some b ≡ Some a → b ≡ a
some_is e = cc

ends_at : (c : ByteKind) (b : ℕ) (bs : Text) → is_in c b ≡ false → (a : ℕ) → first (b ∷ bs) ≡ Some a → is_in c a ≡ false
ends_at c b bs h a e = rw (some_is e) at h

pub run_of : (c : ByteKind) (bs : Text) → Run (is_in c) bs (run c bs) (past_run c bs)
run_of c [] = stop (λ (a : ℕ) (e : ◌≡◌ {A = Option ℕ} None (Some a)). cc)
run_of c (b ∷ bs) = split (is_in c b)
    (λ h. rw (h, one-add) (step h (run_of c bs)))
    (λ h. rw h (stop (ends_at c b bs h)))

pub run_all : (c : ByteKind) (bs ys : Text) → ys ≡ run c bs → (k : ℕ) → k < length ys → is_in c (get_or ys k 0) ≡ true
run_all c [] ys is k h = absurd (no_room (rw is at h))
  where
    no_room : k < 0 → ⊥
    no_room h = omega arith
run_all c (b ∷ bs) ys is k h = split (is_in c b)
    (λ in_it. here in_it k (rw (is, in_it, one-add) at h) (λ j g. run_all c bs (run c bs) refl j g))
    (λ other. absurd (none_left (rw (is, other) at h)))
  where
    none_left : k < 0 → ⊥
    none_left h = omega arith

    here : is_in c b ≡ true → (j : ℕ) → j < length (b ∷ run c bs) → ((i : ℕ) → i < length (run c bs) → is_in c (get_or (run c bs) i 0) ≡ true) → is_in c (get_or ys j 0) ≡ true
    here in_it zero g more = rw (is, in_it, one-add) in_it
    here in_it (suc j) g more = rw (is, in_it, one-add) (more j (omega arith))
