-- Each call that is counted is at a site, and on a class that may be called.
use Rattle.std.proofs.Common.{◌≡◌, ℕ, ◌<◌, List, [], ◌∷◌, ◌++◌, refl, sym, subst, zero, suc, arith}
use Rattle.std.specs.Prelude.{◌-◌, take, Bool, true, false, if◌then◌else◌, nat_eq, length, All, Option, Some, None, Result, Ok, Err, slice_get, slice_set, slice_index_or}
use Rattle.std.proofs.lemmas.List.{map-append}
use Rattle.std.proofs.lemmas.List.Elements.{All-push, All-head, All-tail}
use Rattle.dart_values.specs.declared.fault.Trap.{Trap}
use Rattle.dart_values.specs.declared.fault.Trap.TheVariants as trap
use Rattle.dart_values.specs.declared.member.Member.{Member}
use Rattle.dart_values.specs.declared.member.Member.TheVariants as of
use Rattle.dart_values.specs.declared.member.ObjectMember.{ObjectMember}
use Rattle.dart_values.specs.declared.member.ObjectMember.TheVariants as o
use Rattle.dart_values.specs.declared.member.ListMember.{ListMember}
use Rattle.dart_values.specs.declared.member.ListMember.TheVariants as l
use Rattle.dart_values.specs.Values.{Text, Value, null, bool, num, text, at, Heap, Thing, object, list, invocation, classes, thing_class, class_of_thing, class_of, Given, gives, traps, kept, given_from}
use Rattle.dart_values.specs.Natives.{native, native_by, member_gives, object_member, list_member, list_items, need_list, with_items, index_in, without_last}
use Rattle.dart_values.specs.Members.{members}
use Rattle.dart_meaning.specs.Run.{Run, Result as Outcome, went, ended, M, and_then, ◌>>=◌, ◌>>◌, stop, out_of_turns, spend, spend_from, Next, again, leaves, on_again, loop}
use Rattle.dart_meaning.specs.Calls.{given}
use Rattle.dart_meaning.proofs.Closed.{Closed, IsNew, classes-set}
use Rattle.dart_meaning.proofs.Steady.{state}

-- ---- built-in members leave the classes on the heap

abbrev pub LeavesClasses : Heap → Given → Type 0
LeavesClasses heap (gives new v) = classes new ≡ classes heap
LeavesClasses heap (traps t) = Unit {0}

kept_leaves : (heap : Heap) (r : Result Value Trap) → LeavesClasses heap (kept heap r)
kept_leaves heap (Ok v) = refl
kept_leaves heap (Err t) = tt

object_leaves : (names : ℕ → Text) (m : ObjectMember) (heap : Heap) (self v : Value) → LeavesClasses heap (object_member names m heap self v)
object_leaves names o.Equals heap self v = refl
object_leaves names o.ToString heap self v = refl
object_leaves names o.NoSuchMethod heap self v = tt

-- an error is no answer
IsError : {A : Type 0} → Result A Trap → Type 0
IsError (Ok a) = ⊥
IsError (Err t) = Unit {0}

no_answer : {A B : Type 0} (t : Trap) (a : A) → Err t ≡ Ok a → B
unfolding IsError
no_answer t a h = absurd (subst IsError h tt)

-- a list's items are other ones
items_at : (o : Option Thing) (heap : Heap) (a : ℕ) (old items : List Value) → slice_get heap a ≡ o → list_items o ≡ Ok old → classes (slice_set heap a (list items)) ≡ classes heap
items_at (Some (list xs)) heap a old items h e = classes-set heap a (list xs) (list items) h refl
items_at (Some (object c fields)) heap a old items h e = no_answer trap.TypeFault old e
items_at (Some (invocation name args kind)) heap a old items h e = no_answer trap.TypeFault old e
items_at None heap a old items h e = no_answer trap.TypeFault old e

items_leave : (heap : Heap) (self : Value) (old items : List Value) → need_list heap self ≡ Ok old → classes (with_items heap self items) ≡ classes heap
items_leave heap (at a) old items h = items_at (slice_get heap a) heap a old items refl h
items_leave heap null old items h = no_answer trap.TypeFault old h
items_leave heap (bool x) old items h = no_answer trap.TypeFault old h
items_leave heap (num x) old items h = no_answer trap.TypeFault old h
items_leave heap (text x) old items h = no_answer trap.TypeFault old h

found_leaves : {A : Type 0} (heap : Heap) (r : Result A Trap) (f : A → Given) → ((a : A) → LeavesClasses heap (f a)) → LeavesClasses heap (given_from r f)
found_leaves heap (Ok a) f h = h a
found_leaves heap (Err t) f h = tt

else_leaves : (heap : Heap) (b : Bool) (g : Given) (t : Trap) → LeavesClasses heap g → LeavesClasses heap (if b then traps t else g)
else_leaves heap true g t h = tt
else_leaves heap false g t h = h

last_leaves : (heap : Heap) (self : Value) (items : List Value) → need_list heap self ≡ Ok items → LeavesClasses heap (without_last heap self items)
last_leaves heap self items h = else_leaves heap (nat_eq (length items) 0) _ _ (items_leave heap self items (take (length items - 1) items) h)

list_leaves : (m : ListMember) (heap : Heap) (self : Value) (items : List Value) (v w : Value) → need_list heap self ≡ Ok items → LeavesClasses heap (list_member m heap self items v w)
list_leaves l.ElementAt heap self items v w h = found_leaves heap (index_in (length items) v) _ (λ k. refl)
list_leaves l.SetElement heap self items v w h = found_leaves heap (index_in (length items) v) _ (λ k. items_leave heap self items (slice_set items k w) h)
list_leaves l.Length heap self items v w h = refl
list_leaves l.IsEmpty heap self items v w h = refl
list_leaves l.Add heap self items v w h = items_leave heap self items (items ++ v ∷ []) h
list_leaves l.RemoveLast heap self items v w h = last_leaves heap self items h

on_list : (m : ListMember) (heap : Heap) (self v w : Value) (r : Result (List Value) Trap) → need_list heap self ≡ r → LeavesClasses heap (given_from r (λ items. list_member m heap self items v w))
on_list m heap self v w (Ok items) h = list_leaves m heap self items v w h
on_list m heap self v w (Err t) h = tt

member_leaves : (names : ℕ → Text) (m : Member) (heap : Heap) (self v w : Value) → LeavesClasses heap (member_gives names m heap self v w)
member_leaves names (of.Object m) heap self v w = object_leaves names m heap self v
member_leaves names of.NullToString heap self v w = refl
member_leaves names (of.BoolWith op) heap self v w = kept_leaves heap _
member_leaves names of.BoolToString heap self v w = kept_leaves heap _
member_leaves names (of.IntWith op) heap self v w = kept_leaves heap _
member_leaves names (of.Int m) heap self v w = kept_leaves heap _
member_leaves names of.IntToString heap self v w = kept_leaves heap _
member_leaves names (of.String m) heap self v w = kept_leaves heap _
member_leaves names (of.List m) heap self v w = on_list m heap self v w (need_list heap self) refl
member_leaves names of.ListToString heap self v w = tt
member_leaves names (of.Invocation m) heap self v w = kept_leaves heap _

if_leaves : (heap : Heap) (b : Bool) (g : Given) (t : Trap) → LeavesClasses heap g → LeavesClasses heap (if b then g else traps t)
if_leaves heap true g t h = h
if_leaves heap false g t h = tt

by_leaves : (names : ℕ → Text) (m : Option Member) (heap : Heap) (self : Value) (args : List Value) → LeavesClasses heap (native_by names m heap self args)
by_leaves names (Some m) heap self args = if_leaves heap _ _ _ (member_leaves names m heap self (slice_index_or args 0 null) (slice_index_or args 1 null))
by_leaves names None heap self args = tt

pub native_leaves : (names : ℕ → Text) (n : ℕ) (heap : Heap) (self : Value) (args : List Value) → LeavesClasses heap (native names n heap self args)
native_leaves names n heap self args = by_leaves names (slice_get members n) heap self args

-- ---- what is counted

module _ (IsSite IsClass : ℕ → Type 0) (built_in : (c : ℕ) → c < 7 → IsClass c) where
  abbrev pub IsCounted : ℕ × ℕ → Type 0
  IsCounted call = IsSite call.0 × IsClass call.1

  thing_fair : (heap : Heap) (a : ℕ) → All IsClass (classes heap) → IsClass (class_of_thing (slice_get heap a))
  thing_fair [] a h = built_in 0 (omega arith)
  thing_fair (t ∷ heap) zero h = All-head IsClass (thing_class t) (classes heap) h
  thing_fair (t ∷ heap) (suc a) h = thing_fair heap a (All-tail IsClass (thing_class t) (classes heap) h)

  pub class_fair : (heap : Heap) (v : Value) → All IsClass (classes heap) → IsClass (class_of heap v)
  class_fair heap null h = built_in 1 (omega arith)
  class_fair heap (bool x) h = built_in 2 (omega arith)
  class_fair heap (num x) h = built_in 3 (omega arith)
  class_fair heap (text x) h = built_in 4 (omega arith)
  class_fair heap (at a) h = thing_fair heap a h

  pub new_fair : (thing : Thing) → IsNew IsClass thing → IsClass (thing_class thing)
  new_fair (object c fields) h = h
  new_fair (list items) h = built_in 5 (omega arith)
  new_fair (invocation name args kind) h = built_in 6 (omega arith)

module _ {V : Type 0} (IsSite IsClass : ℕ → Type 0) (built_in : (c : ℕ) → c < 7 → IsClass c) where
  pub record Fair (r : Run V) : Type 0 where
    pub asked : All (IsCounted IsSite IsClass built_in) r.store.asked
    pub heap : All IsClass (classes r.store.heap)

  pub record Counted {A : Type 0} (m : M V A) : Type 0 where
    pub keeps : (r : Run V) → Fair r → Fair (state (m r))

  then_fair : {A B : Type 0} (x : Outcome V A) (f : A → M V B) → Fair (state x) → ((a : A) (r : Run V) → Fair r → Fair (state (f a r))) → Fair (state (and_then x f))
  then_fair (went a r) f h k = k a r h
  then_fair (ended e r) f h k = h

  spend_fair : (n : ℕ) (r : Run V) → Fair r → Fair (state (spend_from n r))
  spend_fair zero r h = h
  spend_fair (suc n) r h = record { asked = h.asked; heap = h.heap }

  given_fair : (r : Run V) (g : Given) → LeavesClasses r.store.heap g → Fair r → Fair (state (given g r))
  given_fair r (gives heap v) l h = record { asked = h.asked; heap = subst (All IsClass) (sym l) h.heap }
  given_fair r (traps t) l h = h

  module _ {S A : Type 0} (test turn : S → M V (Next S A)) (tests : (s : S) → Counted (test s)) (turns : (s : S) → Counted (turn s)) where
    stops_fair : (a : Next S A) (r : Run V) → Fair r → Fair (state (on_again (λ t. stop {A = A} out_of_turns) a r))
    stops_fair (again s) r h = h
    stops_fair (leaves a) r h = h

    next_fair : (rest : S → M V A) → ((s : S) (r : Run V) → Fair r → Fair (state (rest s r))) → (a : Next S A) (r : Run V) → Fair r → Fair (state (on_again rest a r))
    next_fair rest k (again s) r h = k s r h
    next_fair rest k (leaves a) r h = h

    turn_fair : (rest : S → M V A) → ((s : S) (r : Run V) → Fair r → Fair (state (rest s r))) → (s : S) (r : Run V) → Fair r → Fair (state ((spend >> (turn s >>= on_again rest)) r))
    turn_fair rest k s r h = then_fair (spend r) (λ _. turn s >>= on_again rest) (spend_fair r.store.turns r h) (λ _ u j. then_fair (turn s u) (on_again rest) ((turns s).keeps u j) (next_fair rest k))

    loop_fair : (n : ℕ) (s : S) (r : Run V) → Fair r → Fair (state (loop n test turn s r))
    loop_fair zero s r h = then_fair (test s r) (on_again (λ t. stop out_of_turns)) ((tests s).keeps r h) stops_fair
    loop_fair (suc n) s r h = then_fair (test s r) (on_again (λ t. spend >> (turn t >>= on_again (loop n test turn)))) ((tests s).keeps r h) (next_fair (λ t. spend >> (turn t >>= on_again (loop n test turn))) (turn_fair (loop n test turn) (loop_fair n)))

  pub counted : Closed V IsSite IsClass (λ A m. Counted m)
  counted = record {
    answers = λ a. record { keeps = λ r h. h };
    traps = λ t. record { keeps = λ r h. h };
    overflows = record { keeps = λ r h. h };
    binds = λ {A} {B} {m} {f} j k. record { keeps = λ r h. then_fair (m r) f (j.keeps r h) (λ a s i. (k a).keeps s i) };
    looks = λ f e. record { keeps = λ r h. h };
    changes = λ p. record { keeps = λ r h. record { asked = subst (All (IsCounted IsSite IsClass built_in)) (sym (p.asked r)) h.asked; heap = subst (All IsClass) (sym (p.classes r)) h.heap } };
    spends = record { keeps = λ r h. spend_fair r.store.turns r h };
    makes = λ thing n. record {
      keeps = λ r h. record {
        asked = h.asked;
        heap = subst (All IsClass) (sym (map-append thing_class r.store.heap (thing ∷ []))) (All-push IsClass (classes r.store.heap) (thing_class thing) h.heap (new_fair IsSite IsClass built_in thing n));
      };
    };
    asks = λ site v n. record { keeps = λ r h. record { asked = All-push (IsCounted IsSite IsClass built_in) r.store.asked (site, class_of r.store.heap v) h.asked (n, class_fair IsSite IsClass built_in r.store.heap v h.heap); heap = h.heap } };
    natives = λ names n v args. record { keeps = λ r h. given_fair r (native names n r.store.heap v args) (native_leaves names n r.store.heap v args) h };
    loops = λ {S} {A} {test} {turn} s j k. record { keeps = λ r h. loop_fair test turn j k r.store.turns s r h };
  }
