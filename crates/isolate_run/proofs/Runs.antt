-- A run, one instruction after the other.
use Rattle.std.proofs.Common.{◌≡◌, ℕ, zero, suc, ◌+◌, ◌-◌, ◌<◌, ◌≤◌, true, List, length, slice_get, refl, sym, ◌∙◌, ap, subst, arith}
use Rattle.std.specs.Prelude.{Option, Some, None, option_map}
use Rattle.std.proofs.lemmas.Option.{slice_get_within}
use Rattle.program.specs.Parts.{Parts}
use Rattle.program.specs.declared.numbered.Target.{Target}
use Rattle.code_unit.specs.declared.instr.Instr.{Instr}
use Rattle.code_unit.specs.declared.unit.Unit.{Unit}
use Rattle.code_pool.specs.Pool.{Pool}
use Rattle.code_pool.specs.Machine.{State, Step, Outcome, to, over, stuck, resume, act, exec, some, no_place, Lack}
use Rattle.isolate_state.specs.State.{goes}
use Rattle.isolate_run.specs.Loop.{Ends}

-- the unit that has this code
pub unit_of : (o : Option Unit) (code : List Instr) → option_map (λ unit. unit.code) o ≡ Some code → (unit : Unit) × (o ≡ Some unit) × (unit.code ≡ code)
unit_of None code e = absurd cc
unit_of (Some unit) code e = (unit, refl, cc)

fine : (st : Step) (rest : State → Outcome) → Ends (resume st rest) → goes st ≡ true
fine (to s) rest h = refl
fine (over e s) rest h = refl
fine (stuck lack) rest h = absurd h

pub there : {A : Type 0} (o : Option A) (lack : Lack) (go : A → Step) (rest : State → Outcome) → Ends (resume (some lack o go) rest) → (a : A) × (o ≡ Some a) × Ends (resume (go a) rest)
there None lack go rest h = absurd h
there (Some a) lack go rest h = (a, refl, h)

pub counted : (bound first now later : ℕ) → first ≤ now → later ≡ now + 1 → 0 < bound - (now - first) → bound - (now - first) ≡ suc (bound - (later - first))
counted bound first now later h e p = omega arith

module _ (p : Parts) (pool : Pool) (answers : ℕ → ℕ → Target) where
  pub positive : (k : ℕ) (s : State) → Ends (exec p pool answers k s) → 0 < k
  unfolding exec
  positive zero s h = absurd h
  positive (suc k) s h = omega arith

  pub has_unit : (k : ℕ) (s : State) → Ends (exec p pool answers k s) → s.frame.unit < length pool.units
  unfolding exec
  has_unit zero s h = absurd h
  has_unit (suc k) s h =
      let unit = there (slice_get pool.units s.frame.unit) no_place (λ unit. some no_place (slice_get unit.code s.frame.place) (λ i. act p pool answers unit i s)) (exec p pool answers k) h in
      slice_get_within pool.units s.frame.unit unit.0 unit.1

  -- There is an instruction at the place.
  pub fetched : (code : List Instr) (k : ℕ) (s : State) → option_map (λ unit. unit.code) (slice_get pool.units s.frame.unit) ≡ Some code → Ends (exec p pool answers k s) → s.frame.place < length code
  unfolding exec
  fetched code zero s e h = absurd h
  fetched code (suc k) s e h =
      let unit = there (slice_get pool.units s.frame.unit) no_place (λ unit. some no_place (slice_get unit.code s.frame.place) (λ i. act p pool answers unit i s)) (exec p pool answers k) h in
      let i = there (slice_get unit.0.code s.frame.place) no_place (λ i. act p pool answers unit.0 i s) (exec p pool answers k) unit.2 in
      let same : unit.0.code ≡ code = inside (slice_get pool.units s.frame.unit) unit.0 unit.1 e in
      slice_get_within code s.frame.place i.0 (ap (λ (c : List Instr). slice_get c s.frame.place) (sym same) ∙ i.1)
    where
      inside : (o : Option Unit) (unit : Unit) → o ≡ Some unit → option_map (λ unit. unit.code) o ≡ Some code → unit.code ≡ code
      inside o unit is e = let same : Some unit.code ≡ Some code = ap (option_map (λ unit. unit.code)) (sym is) ∙ e in cc

  -- one instruction of the run
  pub leads : (unit : Unit) (i : Instr) (k j : ℕ) (s : State) → slice_get pool.units s.frame.unit ≡ Some unit → slice_get unit.code s.frame.place ≡ Some i → k ≡ suc j
      → exec p pool answers k s ≡ resume (act p pool answers unit i s) (exec p pool answers j)
  unfolding exec
  leads unit i k j s here at n = rw n (rw here (rw at refl))

  pub fit : (unit : Unit) (i : Instr) (k j : ℕ) (s : State) → slice_get pool.units s.frame.unit ≡ Some unit → slice_get unit.code s.frame.place ≡ Some i → k ≡ suc j
      → Ends (exec p pool answers k s) → goes (act p pool answers unit i s) ≡ true
  fit unit i k j s here at n h = fine (act p pool answers unit i s) (exec p pool answers j) (subst Ends (leads unit i k j s here at n) h)
