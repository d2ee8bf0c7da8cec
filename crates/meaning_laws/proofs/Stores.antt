-- A relation of a store and a later one that holds of each step holds of all that an entry does.
use Rattle.std.proofs.Common.{◌≡◌, ℕ, zero, suc, List, [], ◌∷◌, ◌++◌, refl}
use Rattle.std.specs.Prelude.{slice_set}
use Rattle.program.specs.Parts.{Parts}
use Rattle.program.specs.Whole.{IsSound}
use Rattle.dart_values.specs.Values.{Text, Value, Heap, Thing, Given, gives, traps, class_of}
use Rattle.dart_values.specs.Natives.{native}
use Rattle.dart_values.specs.Reads.{with_field}
use Rattle.dart_meaning.specs.Calls.{given}
use Rattle.dart_meaning.specs.Numbered.{Code, enter}
use Rattle.dart_meaning.specs.Program.{Entry}
use Rattle.dart_meaning.specs.Run.{Run, Store, Result, went, ended, M, and_then, spend_from}
use Rattle.meaning_laws.specs.Laws.{last}
use Rattle.meaning_laws.proofs.Closed.{Closed, ClosedFrames, IsNew}
use Rattle.meaning_laws.proofs.ClosedEntries.{enter_holds}

-- Q holds of each step of the store, and of steps one behind another.
pub record Steps (p : Parts) (Q : Store → Store → Type 0) : Type 0 where
  pub same : (s : Store) → Q s s
  pub on : (a b c : Store) → Q a b → Q b c → Q a c
  pub globals : (s : Store) (k : ℕ) (w : Value) → Q s (record s { globals = slice_set s.globals k w })
  pub fields : (s : Store) (v : Value) (k : ℕ) (w : Value) → Q s (record s { heap = with_field s.heap v k w })
  pub makes : (s : Store) (thing : Thing) → IsNew p thing → Q s (record s { heap = s.heap ++ thing ∷ [] })
  pub natives : (s : Store) (names : ℕ → Text) (n : ℕ) (v : Value) (args : List Value) (heap : Heap) (w : Value) → native names n s.heap v args ≡ gives heap w
      → Q s (record s { heap = heap })
  pub lines : (s : Store) (line : Text) → Q s (record s { lines = s.lines ++ line ∷ [] })
  pub asks : (s : Store) (site : ℕ) (v : Value) → Q s (record s { asked = s.asked ++ (site, class_of s.heap v) ∷ [] })
  pub tests : (s : Store) (class named : ℕ) → Q s (record s { tests = s.tests ++ (class, named) ∷ [] })
  pub turns : (s : Store) (n : ℕ) → s.turns ≡ suc n → Q s (record s { turns = n })

module _ {p : Parts} {Q : Store → Store → Type 0} (q : Steps p Q) where
  pub record Keeps {A : Type 0} (m : M Value A) : Type 0 where
    pub keeps : (r : Run Value) → Q r.store (last (m r)).store

  bind_keeps : {A B : Type 0} (s : Store) (x : Result Value A) (f : A → M Value B) → Q s (last x).store → ((a : A) (r : Run Value) → Q r.store (last (f a r)).store) → Q s (last (and_then x f)).store
  bind_keeps s (went a r) f h k = q.on s r.store (last (f a r)).store h (k a r)
  bind_keeps s (ended e r) f h k = h

  spend_keeps : (n : ℕ) (r : Run Value) → r.store.turns ≡ n → Q r.store (last (spend_from n r)).store
  spend_keeps zero r e = q.same r.store
  spend_keeps (suc n) r e = q.turns r.store n e

  given_keeps : (names : ℕ → Text) (n : ℕ) (v : Value) (args : List Value) (r : Run Value) (g : Given) → native names n r.store.heap v args ≡ g → Q r.store (last (given g r)).store
  given_keeps names n v args r (gives heap w) e = q.natives r.store names n v args heap w e
  given_keeps names n v args r (traps t) e = q.same r.store

  pub steps_keep : Closed p (λ A m. Keeps m)
  steps_keep = record {
    answers = λ a. record { keeps = λ r. q.same r.store };
    stops = λ e. record { keeps = λ r. q.same r.store };
    binds = λ {A} {B} {m} {f} h k. record { keeps = λ r. bind_keeps r.store (m r) f (h.keeps r) (λ a s. (k a).keeps s) };
    looks = λ f. record { keeps = λ r. q.same r.store };
    locals = λ slot w. record { keeps = λ r. q.same r.store };
    globals = λ k w. record { keeps = λ r. q.globals r.store k w };
    fields = λ v k w. record { keeps = λ r. q.fields r.store v k w };
    lines = λ line. record { keeps = λ r. q.lines r.store line };
    tests = λ class named. record { keeps = λ r. q.tests r.store class named };
    spends = record { keeps = λ r. spend_keeps r.store.turns r refl };
    makes = λ thing h. record { keeps = λ r. q.makes r.store thing h };
    asks = λ site v. record { keeps = λ r. q.asks r.store site v };
    natives = λ names n v args. record { keeps = λ r. given_keeps names n v args r (native names n r.store.heap v args) refl };
  }

  -- how the variables and `this` change says nothing of the store
  pub frames_keep : ClosedFrames p (λ A m. Keeps m)
  frames_keep = record {
    steps = steps_keep;
    varies = λ g. record { keeps = λ r. q.same r.store };
    frames = λ vars this. record { keeps = λ r. q.same r.store };
  }

  pub entry_keeps : IsSound p → (depth : ℕ) (x : Entry Code) (r : Run Value) → Q r.store (last (enter p depth x r)).store
  entry_keeps sound depth x r = (enter_holds frames_keep sound depth x).keeps r
