-- What an entry answers.
use Rattle.std.proofs.Common.{◌≡◌, ℕ, ◌<◌, ◌^◌, List, length, replicate, sym, ◌∙◌, ap, subst}
use Rattle.std.specs.Prelude.{slice_index}
use Rattle.std.proofs.lemmas.List.{length-replicate}
use Rattle.program.specs.Parts.{Parts}
use Rattle.program.specs.declared.numbered.Target.{Target}
use Rattle.dart_meaning.specs.Entry.{Meaning}
use Rattle.code_pool.specs.Pool.{Pool}
use Rattle.code_pool.specs.Machine.{Outcome, ends, machine}
use Rattle.isolate_state.specs.declared.frame.Flow.{Flow}
use Rattle.isolate_state.specs.declared.isolate.Isolate.{Isolate}
use Rattle.isolate_calls.specs.Stepping.{counted}
use Rattle.isolate_run.specs.declared.ended.Ended.{Ended}
use Rattle.isolate_run.specs.Ran.{ending_of, calls_at, CanRun, RanFrom}
use Rattle.isolate_run.specs.Loop.{ending_by, told_by, Came}
use Rattle.isolate_run.proofs.Counts.{counted_at, counted_length}

same_meaning : (o : Outcome) (a b : Meaning) → o ≡ ends a → o ≡ ends b → a ≡ b
same_meaning o a b e f = let both : ends a ≡ ends b = sym e ∙ f in cc

pub ran_from : {C T : Type 0} {after_calls : List (ℕ × ℕ) → C → Type 0} {cells : C} {after_tests : List (ℕ × ℕ) → T → Type 0} {types : T} (p : Parts) (pool : Pool) (answers : ℕ → ℕ → Target) (e turns : ℕ)
    {first : Isolate} {fl : Flow} {new : Isolate} (ended : Ended)
    → CanRun p pool answers e turns → first.calls.items ≡ replicate (length p.sites) 0 → Came after_calls cells after_tests types (machine p pool answers e turns) first fl new
    → ended.lines ≡ new.lines → ending_of ended.ending ≡ ending_by fl new.trap → ended.calls ≡ new.calls
    → RanFrom (λ asked. after_calls asked cells) (λ tests. after_tests tests types) p pool answers e turns ended
ran_from {after_calls = after_calls} {cells = cells} {after_tests = after_tests} {types = types} p pool answers e turns {first = first} {fl = fl} {new = new} ended can none came lines ending calls m is = record {
  tells = record {
    lines = ap (λ v. v.items) lines ∙ ap (λ (m : Meaning). m.lines) same;
    ending = ending ∙ ap (λ (m : Meaning). m.ending) same;
    sites = ap length all ∙ counted_length (replicate (length p.sites) 0) m.asked ∙ length-replicate {A = ℕ} (length p.sites) 0;
    calls = λ s there. ap (λ xs. slice_index xs s) all ∙ counted_at (length p.sites) s m.asked there (few s);
  };
  cells = subst (λ (m : Meaning). after_calls m.asked cells) same came.after_asked;
  types = subst (λ (m : Meaning). after_tests m.tests types) same came.after_told;
}
  where
    same : told_by fl new came.asked came.tests ≡ m
    same = same_meaning (machine p pool answers e turns) (told_by fl new came.asked came.tests) m came.is is

    all : ended.calls.items ≡ counted (replicate (length p.sites) 0) m.asked
    all = ap (λ v. v.items) calls ∙ came.calls ∙ ap (λ xs. counted xs came.asked) none ∙ ap (λ (m : Meaning). counted (replicate (length p.sites) 0) m.asked) same

    few : (s : ℕ) → calls_at m.asked s < 2 ^ 64
    few s = subst (λ (m : Meaning). calls_at m.asked s < 2 ^ 64) (same_meaning (machine p pool answers e turns) can.means m can.comes is) (can.few s)
