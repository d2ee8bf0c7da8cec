-- The target that a lawful site has for a class is the one that lookup finds.
use Rattle.std.proofs.Common.{◌≡◌, ℕ, Bool, true, false, ◌&&◌, ◌||◌, ◌==◌, nat_le, IsTrue, List, [], ◌∷◌, All, None, Some, option_map, sym, refl, ◌∙◌, ap, cond}
use Rattle.std.specs.List.{find}
use Rattle.std.proofs.lemmas.Bool.{eqb-true}
use Rattle.std.proofs.lemmas.List.Elements.{All-head, All-tail}
use Rattle.program.specs.declared.numbered.Target.{Target}
use Rattle.miss_handler.specs.declared.row.Check.{Check}
use Rattle.miss_handler.specs.declared.state.CallState.{CallState}
use Rattle.miss_handler.specs.declared.state.CallState.TheVariants.{Unlinked, Mono, Single, Cached, Mega}
use Rattle.miss_handler.specs.States.{Receivers, Lawful, IsRight, covers, has, target_in}
use Rattle.miss_handler.proofs.Tests.{covers_yes}
use Rattle.call_cell.specs.Kept.{target_if, target_for, IsMonoTarget}

if_some : (b : Bool) (t u : Target) → target_if b t ≡ Some u → (b ≡ true) × (u ≡ t)
if_some true t u e = (refl, cc)
if_some false t u e = absurd cc

if_none : (b : Bool) (t : Target) → target_if b t ≡ None → b ≡ false
if_none true t e = absurd cc
if_none false t e = refl

-- the check of a class is found, and is right
row_some : (r : Receivers) (row : List Check) (c : ℕ) (u : Target) → All (IsRight r) row → target_in row c ≡ Some u → (has row c ≡ true) × (u ≡ r.resolve c)
row_some r [] c u all e = absurd cc
row_some r (k ∷ row) c u all e =
    elim (k.class.0 == c) as (λ b. (k.class.0 == c) ≡ b → option_map (λ (j : Check). j.target) (cond b (Some k) (find (λ j. j.class.0 == c) row)) ≡ Some u → ((b || has row c) ≡ true) × (u ≡ r.resolve c)) [
      | true ↦ λ is here. let right = (All-head (IsRight r) k row all).1 in let t : u ≡ k.target = cc in (refl, t ∙ right ∙ ap r.resolve (eqb-true k.class.0 c is))
      | false ↦ λ is more. row_some r row c u (All-tail (IsRight r) k row all) more
    ] refl e

row_none : (row : List Check) (c : ℕ) → target_in row c ≡ None → has row c ≡ false
row_none [] c e = refl
row_none (k ∷ row) c e =
    elim (k.class.0 == c) as (λ b. option_map (λ (j : Check). j.target) (cond b (Some k) (find (λ j. j.class.0 == c) row)) ≡ None → (b || has row c) ≡ false) [
      | true ↦ λ here. absurd cc
      | false ↦ λ more. row_none row c more
    ] e

pub own_target : (r : Receivers) (s : CallState) (t u : Target) (row : List Check) (c : ℕ) → Lawful r s row → IsMonoTarget r s t → IsTrue (r.concrete c) → target_for s t row c ≡ Some u → (covers s row c ≡ true) × (u ≡ r.resolve c)
own_target r Unlinked t u row c l m concrete e = absurd cc
own_target r (Mono a) t u row c l m concrete e = let is = if_some (c == a.0) t u e in (is.0, is.1 ∙ m ∙ ap r.resolve (sym (eqb-true c a.0 is.0)))
own_target r (Single lo hi own) t u row c l m concrete e =
    let is = if_some (nat_le lo.0 c && nat_le c hi.0) own u e in let within = covers_yes (Single lo hi own) row c is.0 in (is.0, is.1 ∙ sym (l.named.2 c within.0 within.1 concrete))
own_target r Cached t u row c l m concrete e = row_some r row c u l.right e
own_target r Mega t u row c l m concrete e = absurd cc

pub no_target : (s : CallState) (t : Target) (row : List Check) (c : ℕ) → target_for s t row c ≡ None → covers s row c ≡ false
no_target Unlinked t row c e = refl
no_target (Mono a) t row c e = if_none (c == a.0) t e
no_target (Single lo hi own) t row c e = if_none (nat_le lo.0 c && nat_le c hi.0) own e
no_target Cached t row c e = row_none row c e
no_target Mega t row c e = refl
