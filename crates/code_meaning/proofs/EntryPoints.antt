-- From an entry point the machine does what the program does.
use Rattle.std.proofs.Common.{◌≡◌, ℕ, zero, suc, ◌+◌, ◌-◌, ◌≤◌, List, [], ◌++◌, length, reverse, map, refl, sym, ap, ◌∙◌, subst, arith, append-nil}
use Rattle.std.specs.Prelude.{false, slice_get, option_map, Some, None, IsTrue, is_some}
use Rattle.std.proofs.lemmas.List.{length-map}
use Rattle.std.proofs.lemmas.List.Elements.{All-nil}
use Rattle.std.proofs.lemmas.Option.{slice_get_within}
use Rattle.program.specs.declared.ids.UnitId.{UnitId}
use Rattle.program.specs.declared.literal.Literal.{Literal}
use Rattle.program.specs.declared.numbered.Function.{Function}
use Rattle.program.specs.Parts.{Parts}
use Rattle.program.specs.Whole.{IsSound, IsFunction}
use Rattle.dart_values.specs.Values.{Value, null}
use Rattle.dart_meaning.specs.Entry.{first_store, start, seen, greatest_depth}
use Rattle.dart_meaning.specs.Literals.{literal}
use Rattle.dart_meaning.specs.Numbered as n
use Rattle.dart_meaning.specs.Numbered.{the_function, function_coded, parameters, entry_run}
use Rattle.dart_meaning.specs.Program.{running}
use Rattle.dart_meaning.specs.Run.{Run, Store, Result, went, ended, and_then, done, spend_from}
use Rattle.meaning_laws.specs.Laws as laws
use Rattle.code_unit.specs.declared.unit.Unit.{Unit as CodeUnit}
use Rattle.code_pool.specs.Pool.{Pool}
use Rattle.code_pool.specs.Machine as machine
use Rattle.code_pool.specs.Machine.{State, to, over, after, opening, ends, told, resume}
use Rattle.program_code.specs.IsCode.{IsCode, unit_id}
use Rattle.machine_runs.proofs.Loaded.{Loaded, answers}
use Rattle.machine_runs.proofs.Runs.{worth, worth_suc, run, goes, comes_to_end, ends_one, ends_within, bare}
use Rattle.code_meaning.proofs.Bodies.{BodyLeads}
use Rattle.code_meaning.proofs.Entering.{deep}
use Rattle.code_meaning.proofs.Parameters.{nulls, Takes, fills_them, parameters_length}
use Rattle.code_meaning.proofs.Units.{Pays, loaded, begins_at, IsBody, body_leads}

module _ (prog : Loaded) where
  -- the answer of an entry point's body ends the run
  entry_ends : (k : ℕ) (s1 : State) (begun : Store) (vars : List Value) (this : Value) (y : Result Value Value) → BodyLeads prog k s1 [] [] begun y → (m : ℕ) → prog.pays + worth prog.pays k ≤ m
      → run prog m s1 ≡ ends (seen (and_then y (λ a q. went a (record q { vars = vars; this = this }))))
  entry_ends k s1 begun vars this (went w q) l m enough =
      let none : slice_get l.last.callers (length l.last.callers - 1) ≡ None = ap (λ cs. slice_get cs (length cs - 1)) l.callers_are in
      let last_step : goes prog l.last ≡ over done q.store = l.leaves ∙ rw none (ap (over done) l.store_is) in
      ends_within prog (l.count + 1) m s1 (told done q.store) (comes_to_end prog l.comes (ends_one prog l.last done q.store last_step)) (omega (arith, l.bound, enough))
  entry_ends k s1 begun vars this (ended d q) l m enough = ends_within prog l.count m s1 (told d q.store) l.ends (omega (arith, l.bound, enough))

module _ (p : Parts) (sound : IsSound p) (pool : Pool) (constant : Literal → ℕ) (code : IsCode p pool constant) (pays : ℕ) (w : Pays p pool constant pays) where
  abbrev prog : Loaded
  prog = loaded p sound pool constant code pays

  -- where an isolate begins
  abbrev first : ℕ → Store
  first turns = first_store (map literal p.globals) turns

  first_runs : (turns : ℕ) → laws.Runs p (bare (first turns))
  first_runs turns = record { heap = All-nil (laws.IsThing p); globals = length-map p.globals literal }

  no_class : {B : Type 0} → IsTrue (is_some {T = ℕ} None) → B
  no_class h = absurd (cc)

  module _ (e : ℕ) (k : Function) (there : slice_get p.functions e ≡ Some k) (none : k.required ≡ 0) (plain : k.defaults ≡ []) where
    abbrev args : List Value
    args = parameters k.required k.defaults []

    no_defaults : length k.defaults ≡ 0
    no_defaults = ap length plain

    entry_at : (left : ℕ) → 1 + left ≡ greatest_depth → (u : ℕ) (H : IsBody p pool constant false k.body k.required k.defaults u) → (turns m : ℕ) → worth prog.pays turns ≤ m
        → resume (after (opening u H.unit (first turns)) (spend_from turns (bare (first turns))) (λ _ s. to s)) (run prog m) ≡ ends (seen (n.enter p (suc left) (running (the_function e) null []) (start (map literal p.globals) turns)))
    unfolding n.enter
    entry_at left depth u H zero m enough = refl
    entry_at left depth u H (suc t) m enough =
        let r : Run Value = record { vars = []; this = null; store = first t } in
        let T : Takes false H.unit k.required k.defaults = record { params = H.is.takes; defaults_are = H.is.defaults_are; enough = omega (arith, H.is.takes, H.is.apart, H.is.spares, H.is.small) } in
        let fills = fills_them false H.unit k.required k.defaults T null [] (omega (arith, none)) (omega arith) in
        let s1 : State = begins_at u [] [] (args ++ nulls H.unit) (first t) in
        let opens : run prog m (record (opening u H.unit (first (suc t))) { store = first t }) ≡ run prog m s1 =
        ap (λ l. run prog m (record { frame = record { unit = u; place = 0; base = 0 }; callers = []; values = l; store = first t })) (ap (λ l. l ++ nulls H.unit) fills ∙ sym (append-nil (args ++ nulls H.unit))) in
        let body = body_leads p sound pool constant code pays left (deep p sound pool constant code pays w left) false k.body k.required k.defaults u H (w.functions e k u there H) None no_class (subst (IsFunction p) there (sound.functions e)) null args
        (parameters_length k.required k.defaults [] (omega arith)) [] [] r (record { heap = (first_runs t).heap; globals = (first_runs t).globals }) tt (omega (arith, depth)) in
        subst (λ o. run prog m (record (opening u H.unit (first (suc t))) { store = first t }) ≡ ends (seen (n.run_coded p (n.enter p left) o null [] r))) (sym (ap (option_map function_coded) there))
        (opens ∙ entry_ends prog t s1 (first t) [] null (n.body_value p (n.enter p left) k.body (record r { vars = reverse args; this = null })) body m (omega (arith, enough, worth_suc prog.pays t)))

    started_is : (u : UnitId) (unit : CodeUnit) (turns : ℕ) → slice_get pool.entries e ≡ Some u → slice_get pool.units u.0 ≡ Some unit → unit.params ≡ 0
        → machine.started p pool (answers prog) e turns ≡ after (opening u.0 unit (first turns)) (spend_from turns (bare (first turns))) (λ _ s. to s)
    started_is u unit turns a b c = rw (a, b, c) refl

    -- What the machine does from the entry point is what the program does, where its turns pay for the instructions.
    pub entry_within : (turns m : ℕ) → worth prog.pays turns ≤ m → resume (machine.started p pool (answers prog) e turns) (run prog m) ≡ ends (seen (entry_run p greatest_depth e turns))
    entry_within turns m enough =
        let x = code.functions e k there in
        let H : IsBody p pool constant false k.body k.required k.defaults x.0 = x.2 in
        let entry : slice_get pool.entries e ≡ Some (unit_id x.0) = code.entries e (slice_get_within p.functions e k there) ∙ x.1 in
        let takes_none : H.unit.params ≡ 0 = omega (arith, H.is.takes, none, no_defaults) in
        ap (λ y. resume y (run prog m)) (started_is (unit_id x.0) H.unit turns entry H.there takes_none) ∙ entry_at 1999 (omega arith) x.0 H turns m enough
