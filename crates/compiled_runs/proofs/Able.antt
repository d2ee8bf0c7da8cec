-- The code of a program can run, and comes to what the program does.
use Rattle.std.proofs.Common.{◌≡◌, ℕ, suc, ◌^◌, ◌<◌, ◌≤◌, Bool, true, false, List, [], ◌∷◌, length, map, refl, sym, ap, ◌∙◌, subst, arith}
use Rattle.std.specs.Prelude.{if◌then◌else◌, ◌==◌, Option, Some, option_map, unwrap_or}
use Rattle.program.specs.declared.ids.EntryId.{EntryId}
use Rattle.program.specs.declared.numbered.Target.{Target}
use Rattle.program.specs.Lookup.{resolve}
use Rattle.program.specs.Parts.{Parts}
use Rattle.program.specs.Whole.{IsSound}
use Rattle.dart_meaning.specs.Entry.{Meaning, seen, greatest_depth}
use Rattle.dart_meaning.specs.Numbered.{entry_run, entry_meaning_n}
use Rattle.code_pool.specs.Pool.{Pool}
use Rattle.code_pool.specs.Machine.{Outcome, ends, unfinished, machine}
use Rattle.program_code.specs.IsCode.{HasCode}
use Rattle.code_meaning.specs.Laws.{AsksFewer}
use Rattle.code_meaning.proofs.Whole.{code_means_program, asks_are_counted}
use Rattle.call_cell.specs.Kept.{classes_at}
use Rattle.isolate_run.specs.Ran.{CanRun}
use Rattle.group_runner.specs.Group.{EachCanRun, ComeTo}
use Rattle.compiled_runs.specs.Compiled.{EachTakesNothing, AreMeant}
use Rattle.compiled_runs.specs.Laws.{CompiledCanRun}

-- ---- a site is asked by no more calls than all sites

few_if : (b : Bool) (c : ℕ) (l : List ℕ) (n : ℕ) → length l ≤ n → length (if b then c ∷ l else l) ≤ suc n
few_if true c l n h = omega (arith, h)
few_if false c l n h = omega (arith, h)

few_at : (s : ℕ) (asked : List (ℕ × ℕ)) → length (classes_at s asked) ≤ length asked
few_at s [] = omega arith
few_at s (call ∷ asked) = few_if (call.0 == s) call.1 (classes_at s asked) (length asked) (few_at s asked)

-- ---- one entry

pub compiled_can_run : CompiledCanRun
compiled_can_run p sound pool code answers is e k turns few =
    let m : Meaning = seen (entry_run p greatest_depth e turns) in
    let meant : entry_meaning_n p e turns ≡ Some m = ap (option_map (λ _. m)) k.there in
    let same : Some (machine p pool (resolve p) e turns) ≡ Some (ends m) = code_means_program p sound pool code e k turns ∙ ap (option_map ends) meant in
    let counted : length m.asked < 2 ^ 64 = subst (AsksFewer (2 ^ 64)) meant (asks_are_counted p sound pool code e k turns few) in
    subst (λ (a : ℕ → ℕ → Target). CanRun p pool a e turns) (sym is) (record {
      sites = code.is_code.sites;
      means = m;
      comes = ap (λ o. unwrap_or o (ends m)) same;
      few = λ s. omega (arith, few_at s m.asked, counted);
    })

-- ---- entries

pub each_can_run : (p : Parts) → ∥ IsSound p ∥₁ → (pool : Pool) → HasCode p pool → (turns : ℕ) → turns ≤ 10 ^ 9 → (entries : List EntryId) → EachTakesNothing p entries → EachCanRun p pool turns entries
each_can_run p sound pool code turns few entries w = λ k d below. compiled_can_run p sound pool code (resolve p) refl _ (w k d below) turns few

-- what the machine is to come to
abbrev comes_to : Option Meaning → Outcome
comes_to o = unwrap_or (option_map ends o) unfinished

module _ (p : Parts) (sound : ∥ IsSound p ∥₁) (pool : Pool) (code : HasCode p pool) (turns : ℕ) where
  they_come : (entries : List EntryId) → EachTakesNothing p entries
      → map (λ (e : EntryId). machine p pool (resolve p) e.0 turns) entries ≡ map comes_to (map (λ (e : EntryId). entry_meaning_n p e.0 turns) entries)
  they_come [] w = refl
  they_come (e ∷ entries) w =
      let head : machine p pool (resolve p) e.0 turns ≡ comes_to (entry_meaning_n p e.0 turns) = ap (λ o. unwrap_or o unfinished) (code_means_program p sound pool code e.0 (w 0 e (omega arith)) turns) in
      let tail = they_come entries (λ k d below. w (suc k) d (omega (arith, below))) in
      λ i. head i ∷ tail i

  to_ends : (ms : List Meaning) → map comes_to (map Some ms) ≡ map ends ms
  to_ends [] = refl
  to_ends (m ∷ ms) = ap (λ l. ends m ∷ l) (to_ends ms)

  -- The machine comes to what the program does.
  pub come_to : (entries : List EntryId) → EachTakesNothing p entries → (ms : List Meaning) → AreMeant p turns entries ms → ComeTo p pool turns entries ms
  come_to entries w ms e = they_come entries w ∙ ap (map comes_to) e ∙ to_ends ms
