-- How an isolate begins.
use Rattle.std.proofs.Common.{◌≡◌, ℕ, zero, suc, ◌+◌, ◌-◌, ◌<◌, List, [], ◌∷◌, ◌++◌, length, map, drop, replicate, slice_get, refl, sym, ◌∙◌, ap, subst, arith}
use Rattle.std.specs.Prelude.{Some, All, IsTrue}
use Rattle.std.proofs.lemmas.List.{length-map, drop_all}
use Rattle.std.proofs.lemmas.List.Elements.{All-replicate}
use Rattle.program.specs.Parts.{Parts, is_concrete, concrete}
use Rattle.program.specs.Whole.{IsSound}
use Rattle.program.specs.declared.ids.UnitId.{UnitId}
use Rattle.program.proofs.Facts.{built_in_class_at}
use Rattle.dart_values.specs.Values as shown
use Rattle.dart_values.specs.Values.{classes}
use Rattle.dart_values.specs.declared.value.Value.TheVariants as value
use Rattle.dart_values.specs.Store.{Store, IsOf, values_of, heap_of}
use Rattle.dart_meaning.specs.Literals.{literal}
use Rattle.dart_meaning.specs.Entry.{first_store}
use Rattle.code_unit.specs.declared.unit.Unit.{Unit}
use Rattle.code_pool.specs.Pool.{Pool}
use Rattle.code_pool.specs.Machine.{State, opening, slots}
use Rattle.isolate_state.specs.declared.isolate.Isolate.{Isolate}
use Rattle.isolate_state.specs.State.{seen, framed}
use Rattle.isolate_run.specs.Loop.{first_frame, TakesNone, Begun}

nulls : (s : Store) (n : ℕ) → values_of s (replicate n value.Null) ≡ replicate n shown.null
nulls s zero = refl
nulls s (suc n) = ap (λ vs. shown.null ∷ vs) (nulls s n)

no_slots : (unit : Unit) → unit.params ≡ 0 → replicate unit.locals shown.null ≡ slots unit []
no_slots unit none =
    let size : length (map literal unit.defaults) ≡ length unit.defaults = length-map unit.defaults literal in
    let past : drop (length unit.defaults - unit.params) (map literal unit.defaults) ≡ [] = drop_all (length unit.defaults - unit.params) (map literal unit.defaults) (omega (arith, size, none)) in
    let start : 0 + length unit.defaults - unit.params ≡ length unit.defaults - unit.params = omega arith in
    let all : unit.locals ≡ unit.locals - unit.params = omega (arith, none) in
    ap (λ n. replicate n shown.null) all ∙ ap (λ vs. vs ++ replicate (unit.locals - unit.params) shown.null)
    (sym past ∙ ap (λ n. drop n (map literal unit.defaults)) (sym start))

-- Object, null, the classes of the values, lists and Invocations are not abstract.
pub built_in_concrete : (p : Parts) → ∥ IsSound p ∥₁ → (c : ℕ) → c < 7 → IsTrue (is_concrete p.classes c)
built_in_concrete p sound c below = subst (λ o. IsTrue (concrete o)) (sym (built_in_class_at p sound c below)) (by c below)
  where
    by : (c : ℕ) → c < 7 → IsTrue (concrete (slice_get Rattle.program.specs.BuiltIn.built_in_classes c))
    by zero below = refl
    by (suc zero) below = refl
    by (suc (suc zero)) below = refl
    by (suc (suc (suc zero))) below = refl
    by (suc (suc (suc (suc zero)))) below = refl
    by (suc (suc (suc (suc (suc zero))))) below = refl
    by (suc (suc (suc (suc (suc (suc zero)))))) below = refl
    by (suc (suc (suc (suc (suc (suc (suc c))))))) below = absurd (omega (arith, below))

pub begun : (p : Parts) (pool : Pool) (u : UnitId) (i : Isolate) (unit : Unit) → ∥ IsSound p ∥₁ → slice_get pool.units u.0 ≡ Some unit → TakesNone pool u.0
    → heap_of i.heap ≡ [] → i.values.items ≡ replicate unit.locals value.Null → i.callers.items ≡ [] → i.lines.items ≡ []
    → values_of i.heap i.globals.items ≡ map literal p.globals → All (IsOf i.heap) i.globals.items
    → values_of i.heap i.constants.items ≡ map literal pool.constants → All (IsOf i.heap) i.constants.items
    → i.calls.items ≡ replicate (length p.sites) 0 → Begun p pool u i
begun p pool u i unit sound at none heap values callers lines globals all_globals constants all_constants calls = record {
  opens = λ one turns here. opens one turns (same one here);
  held = record {
    values = subst (All (IsOf i.heap)) (sym values) (All-replicate (IsOf i.heap) unit.locals value.Null tt);
    globals = all_globals;
    constants = all_constants;
    literals = constants;
    concrete = subst (λ h. All (λ c. IsTrue (is_concrete p.classes c)) (classes h)) (sym heap) (λ k d below. absurd (omega (arith, below)));
    built_in = built_in_concrete p sound;
  };
  calls = calls;
}
  where
    same : (one : Unit) → slice_get pool.units u.0 ≡ Some one → unit ≡ one
    same one here = let e : Some unit ≡ Some one = sym at ∙ here in cc

    first : List Rattle.code_pool.specs.Machine.Frame → List shown.Value → shown.Heap → List shown.Value → List shown.Text → ℕ → State
    first callers values heap globals lines turns = record {
      frame = record { unit = u.0; place = 0; base = 0 };
      callers = callers;
      values = values;
      store = record { heap = heap; globals = globals; lines = lines; turns = turns; asked = []; tests = [] };
    }

    opens : (one : Unit) (turns : ℕ) → unit ≡ one → seen i (first_frame u) turns [] [] ≡ opening u.0 one (first_store (map literal p.globals) turns)
    opens one turns e =
        let vs : values_of i.heap i.values.items ≡ slots unit [] = ap (values_of i.heap) values ∙ nulls i.heap unit.locals ∙ no_slots unit (none unit at) in
        (λ k. first (map framed (callers k)) (vs k) (heap k) (globals k) (lines k) turns) ∙ ap (λ un. opening u.0 un (first_store (map literal p.globals) turns)) e
