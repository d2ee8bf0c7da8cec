-- `this` stays an object of the class that holds the body, or of one below it.
use Rattle.std.proofs.Common.{◌≡◌, ℕ, zero, suc, ◌≤◌, List, [], ◌∷◌, ◌++◌, refl, sym, ap, ◌∙◌, subst, arith}
use Rattle.std.specs.Prelude.{slice_get, unwrap_or, Option, Some, None}
use Rattle.program.specs.Parts.{Parts, parents}
use Rattle.program.specs.Whole.{IsSound}
use Rattle.program.proofs.Intervals.{Above, above_le}
use Rattle.dart_values.specs.Values as v
use Rattle.dart_values.specs.Values.{Value, Heap, classes, class_of, class_of_thing}
use Rattle.dart_meaning.specs.Laws.{IsFront}
use Rattle.dart_meaning.specs.Numbered.{Code, enter}
use Rattle.dart_meaning.specs.Program.{Entry}
use Rattle.dart_meaning.specs.Run.{Run, Result, went, ended}
use Rattle.meaning_laws.specs.Laws.{last, IfWent}
use Rattle.meaning_laws.specs.BodyLaws.{SameCount, Opens}
use Rattle.meaning_laws.specs.ThisLaws.{IsOf, ExpressionsLeaveThis, StatementsLeaveThis}
use Rattle.meaning_laws.proofs.ClosedBodies.{value, doing}
use Rattle.meaning_laws.proofs.ClosedEntries.{calls_of, enter_holds}
use Rattle.meaning_laws.proofs.Stores.{Keeps, steps_keep, frames_keep}
use Rattle.meaning_laws.proofs.Heaps.{kinds}
use Rattle.meaning_laws.proofs.Slots.{expressions_open_none, statements_open}

class_by : (heap : Heap) (a : ℕ) → class_of_thing (slice_get heap a) ≡ unwrap_or (slice_get (classes heap) a) 0
class_by [] a = refl
class_by (t ∷ heap) zero = refl
class_by (t ∷ heap) (suc a) = class_by heap a

in_front : (xs ys : List ℕ) (a : ℕ) → 1 ≤ unwrap_or (slice_get xs a) 0 → unwrap_or (slice_get (xs ++ ys) a) 0 ≡ unwrap_or (slice_get xs a) 0
in_front [] ys a h = absurd (omega (arith, h))
in_front (x ∷ xs) ys zero h = refl
in_front (x ∷ xs) ys (suc a) h = in_front xs ys a h

-- What is of another class than Object keeps its class.
pub class_stays : (old new : Heap) (u : Value) → IsFront (classes old) (classes new) → 1 ≤ class_of old u → class_of new u ≡ class_of old u
class_stays old new (v.at a) front h =
    class_by new a ∙ ap (λ (ks : List ℕ). unwrap_or (slice_get ks a) 0) front.1 ∙ in_front (classes old) front.0 a (subst (λ k. 1 ≤ k) (class_by old a) h) ∙ sym (class_by old a)
class_stays old new v.null front h = refl
class_stays old new (v.bool b) front h = refl
class_stays old new (v.num z) front h = refl
class_stays old new (v.text s) front h = refl

module _ (p : Parts) (sound : IsSound p) where
  pub of_stays : (here : Option ℕ) (old new : Heap) (u : Value) → IsFront (classes old) (classes new) → IsOf p old here u → IsOf p new here u
  of_stays None old new u front h = tt
  of_stays (Some class) old new u front h =
      let least : class ≤ class_of old u = above_le (parents p.classes) sound.order class (class_of old u) h.1 in
      (h.0, subst (Above (parents p.classes) class) (sym (class_stays old new u front (omega (arith, h.0, least)))) h.1)

  stays : {A : Type 0} (here : Option ℕ) (r : Run Value) (x : Result Value A) → IfWent x (λ s. s.this ≡ r.this) → IsFront (classes r.store.heap) (classes (last x).store.heap) → IsOf p r.store.heap here r.this
      → IfWent x (λ s. IsOf p s.store.heap here s.this)
  stays here r (went a s) same front h = subst (IsOf p s.store.heap here) (sym same) (of_stays here r.store.heap s.store.heap r.this front h)
  stays here r (ended e s) same front h = tt

  pub grows : (depth : ℕ) (x : Entry Code) → Keeps (kinds p) (enter p depth x)
  grows depth x = enter_holds (frames_keep (kinds p)) sound depth x

this_of : {A : Type 0} (r : Run Value) (x : Result Value A) → IfWent x (SameCount r) → IfWent x (λ s. s.this ≡ r.this)
this_of r (went a s) h = h.this
this_of r (ended e s) h = tt

this_open : {A : Type 0} (count : ℕ) (r : Run Value) (x : Result Value A) → IfWent x (Opens count r) → IfWent x (λ s. s.this ≡ r.this)
this_open count r (went a s) h = h.this
this_open count r (ended e s) h = tt

pub expressions_leave_this : ExpressionsLeaveThis
expressions_leave_this p sound here slots e ok depth r h =
    stays p sound here r _ (this_of r _ (expressions_open_none p here slots e ok depth r))
    ((value (calls_of (steps_keep (kinds p)) (enter p depth) (grows p sound depth) here) e slots ok).keeps r) h

pub statements_leave_this : StatementsLeaveThis
statements_leave_this p sound here answers loops slots x ok depth r h =
    stays p sound here r _ (this_open _ r _ (statements_open p here answers loops slots x ok depth r))
    ((doing (calls_of (steps_keep (kinds p)) (enter p depth) (grows p sound depth) here) (frames_keep (kinds p)).varies answers x slots loops ok).keeps r) h
