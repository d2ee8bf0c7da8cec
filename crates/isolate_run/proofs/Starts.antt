-- How the machine starts an entry.
use Rattle.std.proofs.Common.{◌≡◌, ℕ, suc, ◌<◌, Bool, true, false, nat_eq, List, [], length, map, slice_get, refl, sym, ◌∙◌, ap, subst, arith}
use Rattle.std.specs.Prelude.{Option, Some}
use Rattle.std.proofs.lemmas.Bool.Decides.{nat_tests}
use Rattle.std.proofs.lemmas.List.{length-replicate}
use Rattle.std.proofs.lemmas.Option.{slice_get_within}
use Rattle.program.specs.Parts.{Parts}
use Rattle.program.specs.declared.ids.UnitId.{UnitId}
use Rattle.program.specs.declared.numbered.Target.{Target}
use Rattle.dart_meaning.specs.Run.{out_of_turns, spend}
use Rattle.dart_meaning.specs.Literals.{literal}
use Rattle.dart_meaning.specs.Entry.{Meaning, first_store}
use Rattle.dart_meaning.specs.Entry as meaning
use Rattle.code_unit.specs.declared.unit.Unit.{Unit}
use Rattle.code_pool.specs.Pool.{Pool}
use Rattle.code_pool.specs.Machine.{State, Step, Outcome, to, ends, resume, some, when, by, no_number, wrong_count, opening, exec, most, machine}
use Rattle.isolate_state.specs.declared.frame.Flow.{Flow}
use Rattle.isolate_state.specs.declared.frame.Flow.TheVariants as flow
use Rattle.isolate_state.specs.declared.isolate.Isolate.{Isolate}
use Rattle.isolate_state.specs.State.{seen}
use Rattle.isolate_run.specs.Ran.{CanRun}
use Rattle.isolate_run.specs.Loop.{Ends, first_frame, TakesNone, BegunAt, CanLoop, Came}
use Rattle.isolate_run.proofs.Counts.{counted_none}
use Rattle.isolate_run.proofs.Runs.{there}

-- an entry has a unit that takes no values
pub record Opened (pool : Pool) (e : ℕ) : Type 0 where
  pub u : UnitId
  pub unit : Unit
  pub at : slice_get pool.entries e ≡ Some u
  pub here : slice_get pool.units u.0 ≡ Some unit
  pub none : unit.params ≡ 0

holds : (b : Bool) (st : Step) (rest : State → Outcome) → Ends (resume (when wrong_count b st) rest) → b ≡ true
holds true st rest h = refl
holds false st rest h = absurd h

same_entry : {A : Type 0} (o : Option A) (a b : A) → o ≡ Some a → o ≡ Some b → a ≡ b
same_entry o a b e f = let both : Some a ≡ Some b = sym e ∙ f in cc

module _ (p : Parts) (pool : Pool) (answers : ℕ → ℕ → Target) (e turns : ℕ) where
  abbrev first : UnitId → Unit → State
  first u unit = opening u.0 unit (first_store (map literal p.globals) turns)

  pub opened : Ends (machine p pool answers e turns) → Opened pool e
  opened h =
      let start : Unit → UnitId → Step = λ unit u. by spend (first u unit) (λ _ s. to s) in
      let u = there (slice_get pool.entries e) no_number (λ u. some no_number (slice_get pool.units u.0) (λ unit. when wrong_count (nat_eq unit.params 0) (start unit u))) (exec p pool answers (most p pool answers turns)) h in
      let unit = there (slice_get pool.units u.0.0) no_number (λ unit. when wrong_count (nat_eq unit.params 0) (start unit u.0)) (exec p pool answers (most p pool answers turns)) u.2 in
      let none = holds (nat_eq unit.0.params 0) (start unit.0 u.0) (exec p pool answers (most p pool answers turns)) unit.2 in
      record { u = u.0; unit = unit.0; at = u.1; here = unit.1; none = zero_of unit.0.params none }
    where
      zero_of : (n : ℕ) → nat_eq n 0 ≡ true → n ≡ 0
      zero_of n is = grind (arith, nat_tests)

  starts : (u : UnitId) (unit : Unit) → slice_get pool.entries e ≡ Some u → slice_get pool.units u.0 ≡ Some unit → unit.params ≡ 0
      → machine p pool answers e turns ≡ resume (by spend (first u unit) (λ _ s. to s)) (exec p pool answers (most p pool answers turns))
  starts u unit at here none = rw at (rw here (rw none refl))

-- what an entry without a turn comes to
no_turn : (p : Parts) (pool : Pool) (answers : ℕ → ℕ → Target) (e : ℕ) (o : Opened pool e)
    → machine p pool answers e 0 ≡ ends (meaning.told out_of_turns (first_store (map literal p.globals) 0))
no_turn p pool answers e o = starts p pool answers e 0 o.u o.unit o.at o.here o.none

-- what an entry with a turn runs
one_turn : (p : Parts) (pool : Pool) (answers : ℕ → ℕ → Target) (e t : ℕ) (o : Opened pool e)
    → machine p pool answers e (suc t) ≡ exec p pool answers (most p pool answers (suc t)) (opening o.u.0 o.unit (first_store (map literal p.globals) t))
one_turn p pool answers e t o = starts p pool answers e (suc t) o.u o.unit o.at o.here o.none

module _ (p : Parts) (pool : Pool) (answers : ℕ → ℕ → Target) (e turns : ℕ) (can : CanRun p pool answers e turns) where
  comes_to : Ends (machine p pool answers e turns)
  comes_to = subst Ends (sym can.comes) tt

  abbrev its : Opened pool e
  its = opened p pool answers e turns comes_to

  pub entry_there : e < length pool.entries
  entry_there = slice_get_within pool.entries e its.u its.at

  pub unit_there : (u : UnitId) → slice_get pool.entries e ≡ Some u → u.0 < length pool.units
  unit_there u at = subst (λ (v : UnitId). v.0 < length pool.units) (same_entry (slice_get pool.entries e) its.u u its.at at) (slice_get_within pool.units its.u.0 its.unit its.here)

  pub takes_none : (u : UnitId) → slice_get pool.entries e ≡ Some u → TakesNone pool u.0
  takes_none u at = subst (λ (v : UnitId). TakesNone pool v.0) (same_entry (slice_get pool.entries e) its.u u its.at at)
      (λ unit here. subst (λ (v : Unit). v.params ≡ 0) (same_entry (slice_get pool.units its.u.0) its.unit unit its.here here) its.none)

  module _ (i : Isolate) (begun : BegunAt p pool e i) where
    -- With no turn the entry ends at once.
    pub out_at_once : {C T : Type 0} (after_calls : List (ℕ × ℕ) → C → Type 0) (cells : C) (after_tests : List (ℕ × ℕ) → T → Type 0) (types : T)
        → turns ≡ 0 → after_calls [] cells → after_tests [] types → Came after_calls cells after_tests types (machine p pool answers e turns) i flow.OutOfTurns i
    out_at_once after_calls cells after_tests types none no_calls no_tests =
        let lines : [] ≡ i.lines.items = ap (λ s. s.store.lines) (sym ((begun its.u its.at).opens its.unit 0 its.here)) in
        record {
          asked = [];
          tests = [];
          after_asked = no_calls;
          after_told = no_tests;
          is = ap (machine p pool answers e) none ∙ no_turn p pool answers e its ∙ ap (λ ls. ends (record { lines = ls; ending = out_of_turns; asked = []; tests = [] })) lines;
          calls = counted_none i.calls.items;
        }

    module _ (u : UnitId) (at : slice_get pool.entries e ≡ Some u) (t : ℕ) (spent : turns ≡ suc t) where
      -- Behind the first turn the loop runs.
      pub whole_is : machine p pool answers e turns ≡ exec p pool answers (most p pool answers turns) (seen i (first_frame u) t [] [])
      whole_is =
          ap (machine p pool answers e) spent ∙ one_turn p pool answers e t its
          ∙ ap (exec p pool answers (most p pool answers (suc t))) (sym ((begun its.u its.at).opens its.unit t its.here))
          ∙ ap (λ (v : UnitId). exec p pool answers (most p pool answers (suc t)) (seen i (first_frame v) t [] [])) (same_entry (slice_get pool.entries e) its.u u its.at at)
          ∙ ap (λ n. exec p pool answers (most p pool answers n) (seen i (first_frame u) t [] [])) (sym spent)

      pub can_loop : (bound : ℕ) → bound ≡ most p pool answers turns → CanLoop p pool answers bound i u t
      can_loop bound is = record {
        held = (begun u at).held;
        sites = can.sites;
        counts = ap length (begun u at).calls ∙ length-replicate {A = ℕ} (length p.sites) 0;
        comes = subst (λ n. Ends (exec p pool answers n (seen i (first_frame u) t [] []))) (sym is) (subst Ends whole_is comes_to);
      }

      pub came_whole : {C T : Type 0} {after_calls : List (ℕ × ℕ) → C → Type 0} {cells : C} {after_tests : List (ℕ × ℕ) → T → Type 0} {types : T} (bound : ℕ) {fl : Flow} {new : Isolate}
          → bound ≡ most p pool answers turns → Came after_calls cells after_tests types (exec p pool answers bound (seen i (first_frame u) t [] [])) i fl new
          → Came after_calls cells after_tests types (machine p pool answers e turns) i fl new
      came_whole bound is c = record {
        asked = c.asked;
        tests = c.tests;
        after_asked = c.after_asked;
        after_told = c.after_told;
        is = whole_is ∙ ap (λ n. exec p pool answers n (seen i (first_frame u) t [] [])) (sym is) ∙ c.is;
        calls = c.calls;
      }
