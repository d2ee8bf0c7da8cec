-- What the machine's combinators come to, over plain lists.
use Rattle.std.proofs.Common.{◌≡◌, ℕ, zero, suc, ◌+◌, ◌-◌, ◌<◌, ◌≤◌, Bool, true, false, ◌&&◌, nat_le, nat_lt, List, [], ◌∷◌, ◌++◌, length, map, take, drop, slice_get, slice_set, refl, sym, ◌∙◌, ap, subst, arith, length-append, append_assoc}
use Rattle.std.specs.Prelude.{Option, Some, None}
use Rattle.std.proofs.lemmas.Bool.Decides.{nat_tests}
use Rattle.std.proofs.Math.Seq.{take-append_seam, drop-append_seam}
use Rattle.dart_values.specs.Values.{Value}
use Rattle.code_unit.specs.declared.unit.Unit.{Unit}
use Rattle.dart_meaning.specs.Run.{choose}
use Rattle.code_pool.specs.Machine.{Lack, no_operand, State, Step, stuck, when, some, top, one, two, top_one, top_two, slot_count}
use Rattle.isolate_state.specs.State.{goes}

true_le : (n k : ℕ) → nat_le n k ≡ true → n ≤ k
true_le n k h = grind (arith, nat_tests)

-- what is tested holds where the machine goes on
pub when_holds : (lack : Lack) (b : Bool) (st : Step) → goes (when lack b st) ≡ true → b ≡ true
when_holds lack true st h = refl
when_holds lack false st h = absurd cc

-- what is looked for is there
pub some_is : {A : Type 0} (lack : Lack) (o : Option A) (go : A → Step) → goes (some lack o go) ≡ true → (a : A) × (o ≡ Some a)
some_is lack None go h = absurd cc
some_is lack (Some a) go h = (a, refl)

pub map_push : {A B : Type 0} (f : A → B) (xs : List A) (x : A) → map f (xs ++ x ∷ []) ≡ map f xs ++ f x ∷ []
map_push f [] x = refl
map_push f (y ∷ xs) x = ap (λ zs. f y ∷ zs) (map_push f xs x)

pub shown_push : {A B : Type 0} (f : A → B) (all xs : List A) (x : A) → all ≡ xs ++ x ∷ [] → map f all ≡ map f xs ++ f x ∷ []
shown_push f all xs x e = ap (map f) e ∙ map_push f xs x

pub operands : (n : ℕ) (unit : Unit) (s : State) (go : List Value → List Value → Step) → goes (top n unit s go) ≡ true → s.frame.base + slot_count unit + n ≤ length s.values
operands n unit s go h = true_le (s.frame.base + slot_count unit + n) (length s.values) (when_holds no_operand (nat_le (s.frame.base + slot_count unit + n) (length s.values)) _ h)

pub top_is : (n : ℕ) (unit : Unit) (s : State) (below vs : List Value) (go : List Value → List Value → Step)
    → s.values ≡ below ++ vs → length vs ≡ n → goes (top n unit s go) ≡ true → top n unit s go ≡ go below vs
top_is n unit s below vs go e size h =
    let holds = when_holds no_operand (nat_le (s.frame.base + slot_count unit + n) (length s.values)) _ h in
    let whole : length s.values ≡ length below + length vs = ap length e ∙ length-append below vs in
    let count : length s.values - n ≡ length below = omega (arith, whole, size) in
    rw holds (rw count (rw e (rw (take-append_seam below vs) (rw (drop-append_seam below vs) refl))))

pub top_one_is : (unit : Unit) (s : State) (below : List Value) (v : Value) (go : List Value → Value → Step)
    → s.values ≡ below ++ v ∷ [] → goes (top_one unit s go) ≡ true → top_one unit s go ≡ go below v
top_one_is unit s below v go e h = top_is 1 unit s below (v ∷ []) (λ below vs. one vs (go below)) e refl h

pub top_two_is : (unit : Unit) (s : State) (below : List Value) (v w : Value) (go : List Value → Value → Value → Step)
    → s.values ≡ (below ++ v ∷ []) ++ w ∷ [] → goes (top_two unit s go) ≡ true → top_two unit s go ≡ go below v w
top_two_is unit s below v w go e h = top_is 2 unit s below (v ∷ w ∷ []) (λ below vs. two vs (go below)) (e ∙ append_assoc below (v ∷ []) (w ∷ [])) refl h
