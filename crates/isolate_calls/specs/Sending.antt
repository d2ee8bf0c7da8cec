-- What a call through a cell does: the cell is asked, and its target is called.
use Rattle.std.specs.Prelude.{◌≡◌, ◌≤◌, ◌+◌, ℕ, true, List, [], ◌∷◌, ◌++◌, length, slice_get, All}
use Rattle.program.specs.declared.numbered.Selector.{Selector}
use Rattle.program.specs.declared.numbered.Target.{Target}
use Rattle.program.specs.Parts.{Parts}
use Rattle.dart_values.specs.Values.{Value, at, list, invocation}
use Rattle.dart_values.specs.Store.{IsOf, Keeps, heap_of}
use Rattle.dart_meaning.specs.Calls.{told_name}
use Rattle.code_unit.specs.declared.instr.Instr.{Instr}
use Rattle.code_unit.specs.declared.unit.Unit.{Unit}
use Rattle.code_pool.specs.Pool.{Pool}
use Rattle.code_pool.specs.Machine.{State, Step, some, no_number, reach, send, act}
use Rattle.isolate_state.specs.declared.frame.Frame.{Frame}
use Rattle.isolate_state.specs.declared.frame.Flow.{Flow}
use Rattle.isolate_state.specs.declared.isolate.Isolate.{Isolate}
use Rattle.isolate_state.specs.State.{seen, goes, led, below, above, received, CanGo, Stays, IsHeld, Went}
use Rattle.isolate_calls.specs.Stepping.{counted}

-- what follows a cell's answer at a site: the target is called, by an Invocation where the class has no such member
abbrev pub follow : Parts → Pool → (ℕ → ℕ → Target) → Target → ℕ → ℕ → State → List Value → Value → List Value → Step
follow p pool answers target site c s below v args = some no_number (slice_get pool.sites site) (λ k. some no_number (slice_get p.selectors k.0) (λ sel. reach p pool answers target sel c s below v args))

-- The target of a site was called with the top n values, the receiver among them.
abbrev pub Followed : Parts → Pool → Target → ℕ → ℕ → Isolate → Frame → ℕ → Flow → Isolate → Frame → ℕ → Type 0
Followed p pool target site n old f turns flow new g left = (c : ℕ) → IsHeld p pool old
    → Went p pool (λ answers s. received n old (follow p pool answers target site c s)) old f turns flow new g left

-- The target of a site can be called so, for some class of the receiver.
abbrev pub CanFollow : Parts → Pool → Target → ℕ → ℕ → Isolate → Frame → ℕ → Type 0
CanFollow p pool target site n i f turns = (c : ℕ) × CanGo (λ answers s. received n i (follow p pool answers target site c s)) i f turns

-- In the place of all of the top n values but the receiver stands the Invocation of the call.
pub record Invoked (sel : Selector) (n : ℕ) (old new : Isolate) : Type 0 where
  pub receiver : Value
  pub args : List Value
  pub were : above n old ≡ receiver ∷ args
  pub lower : below 2 new ≡ below n old
  pub now : above 2 new ≡ receiver ∷ at (length (heap_of old.heap) + 1) ∷ []
  pub heap : heap_of new.heap ≡ heap_of old.heap ++ (list args ∷ invocation (told_name sel.kind sel.name) (at (length (heap_of old.heap))) sel.kind ∷ [])
  pub size : 2 ≤ length new.values.items
  pub all : All (IsOf new.heap) new.values.items
  pub keeps : Keeps old.heap new.heap
  pub rest : new ≡ record old { heap = new.heap; values = new.values }

-- Cells may have been asked: where the machine goes on by this, in any unit, the same was done, and these calls led the cells on.
pub record Asked {C : Type 0} (after_calls : List (ℕ × ℕ) → C → Type 0) (cells : C) (p : Parts) (pool : Pool) (go : Unit → State → Step)
    (old : Isolate) (f : Frame) (turns : ℕ) (flow : Flow) (new : Isolate) (g : Frame) (left : ℕ) : Type 0 where
  pub asks : List (ℕ × ℕ)
  pub after_asks : after_calls asks cells
  pub led : (unit : Unit) (asked tests : List (ℕ × ℕ)) → goes (go unit (seen old f turns asked tests)) ≡ true
      → go unit (seen old f turns asked tests) ≡ led flow new.trap (seen new g left (asked ++ asks) tests)
  pub held : IsHeld p pool new
  pub stays : Stays f.unit.0 flow g.unit.0
  pub calls : new.calls.items ≡ counted old.calls.items asks

-- The top n values were sent through the cell of a site.
abbrev pub Sent : {C : Type 0} → (List (ℕ × ℕ) → C → Type 0) → C → Parts → Pool → (ℕ → ℕ → Target) → ℕ → ℕ → Isolate → Frame → ℕ → Flow → Isolate → Frame → ℕ → Type 0
Sent after_calls cells p pool answers site n old = Asked after_calls cells p pool (λ unit s. received n old (send p pool answers site s)) old

-- An instruction that tests no class was done.
abbrev pub DidAsk : {C : Type 0} → (List (ℕ × ℕ) → C → Type 0) → C → Parts → Pool → (ℕ → ℕ → Target) → Instr → Isolate → Frame → ℕ → Flow → Isolate → Frame → ℕ → Type 0
DidAsk after_calls cells p pool answers i = Asked after_calls cells p pool (λ unit s. act p pool answers unit i s)

-- The top n values can be sent through the cell of a site.
abbrev pub CanSend : Parts → Pool → (ℕ → ℕ → Target) → ℕ → ℕ → Isolate → Frame → ℕ → Type 0
CanSend p pool answers site n i f turns = (asked : List (ℕ × ℕ)) × (tests : List (ℕ × ℕ)) × (goes (received n i (send p pool answers site (seen i f turns asked tests))) ≡ true)
