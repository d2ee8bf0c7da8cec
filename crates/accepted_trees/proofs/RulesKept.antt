-- Each rule of an accepted tree is kept, and each count is within its limit.
use Rattle.std.proofs.Common.{◌≡◌, ℕ, ◌≤◌, true, false, nat_lt, List, [], ◌∷◌, None, Some, if◌then◌else◌, refl, arith}
use Rattle.std.proofs.lemmas.Bool.Decides.{nat_tests}
use Rattle.dart_syntax.specs.Syntax.{Tree}
use Rattle.static_rules.specs.declared.rule.Rule.{Rule}
use Rattle.static_rules.specs.declared.rule.Limit.{Limit}
use Rattle.static_rules.specs.declared.rule.Limit.TheVariants as limit
use Rattle.static_rules.specs.Places.{Fault}
use Rattle.static_rules.specs.DuplicateName.{duplicate_name}
use Rattle.static_rules.specs.Supers.{unknown_super, cycle_in_super, super_is_builtin}
use Rattle.static_rules.specs.UndefinedName.{undefined_name}
use Rattle.static_rules.specs.MixedName.{mixed_name}
use Rattle.static_rules.specs.TearOff.{tear_off}
use Rattle.static_rules.specs.BadOverride.{bad_override}
use Rattle.static_rules.specs.AbstractMade.{abstract_made}
use Rattle.static_rules.specs.FinalWritten.{final_written}
use Rattle.static_rules.specs.BadReturnPlace.{bad_return_place}
use Rattle.static_rules.specs.Shadowed.{shadowed}
use Rattle.static_rules.specs.WrongArgumentsOfStatic.{wrong_arguments_of_static}
use Rattle.static_rules.specs.Accepted.{Finding, first_broken, Counts, most, first_over, exceeded, IsAccepted}
use Rattle.accepted_trees.proofs.classes.ClassRules.{KeepsClasses, keeps_classes}

pub record KeepsRules (tree : Tree) : Type 0 where
  pub names : duplicate_name tree ≡ None
  pub known : unknown_super tree ≡ None
  pub no_cycle : cycle_in_super tree ≡ None
  pub opened : super_is_builtin tree ≡ None
  pub defined : undefined_name tree ≡ None
  pub unmixed : mixed_name tree ≡ None
  pub called : tear_off tree ≡ None
  pub overrides : bad_override tree ≡ None
  pub concrete : abstract_made tree ≡ None
  pub unwritten : final_written tree ≡ None
  pub returns : bad_return_place tree ≡ None
  pub unshadowed : shadowed tree ≡ None
  pub arguments : wrong_arguments_of_static tree ≡ None

none_first : (rule : Rule) (f : Fault) (more : List Finding) → first_broken ((rule, f) ∷ more) ≡ None → (f ≡ None) × (first_broken more ≡ None)
none_first rule None more e = (refl, e)
none_first rule (Some place) more e = absurd cc

pub keeps_rules : (tree : Tree) → IsAccepted tree → KeepsRules tree
keeps_rules tree accepted =
    let a = none_first _ (duplicate_name tree) _ accepted.rules in
    let b = none_first _ (unknown_super tree) _ a.1 in
    let c = none_first _ (cycle_in_super tree) _ b.1 in
    let d = none_first _ (super_is_builtin tree) _ c.1 in
    let e = none_first _ (undefined_name tree) _ d.1 in
    let f = none_first _ (mixed_name tree) _ e.1 in
    let g = none_first _ (tear_off tree) _ f.1 in
    let h = none_first _ (bad_override tree) _ g.1 in
    let i = none_first _ (abstract_made tree) _ h.1 in
    let j = none_first _ (final_written tree) _ i.1 in
    let k = none_first _ (bad_return_place tree) _ j.1 in
    let l = none_first _ (shadowed tree) _ k.1 in
    let m = none_first _ (wrong_arguments_of_static tree) _ l.1 in
    record {
      names = a.0;
      known = b.0;
      no_cycle = c.0;
      opened = d.0;
      defined = e.0;
      unmixed = f.0;
      called = g.0;
      overrides = h.0;
      concrete = i.0;
      unwritten = j.0;
      returns = k.0;
      unshadowed = l.0;
      arguments = m.0;
    }

pub accepted_keeps : (tree : Tree) → IsAccepted tree → KeepsClasses tree
accepted_keeps tree accepted = let r = keeps_rules tree accepted in keeps_classes tree r.names r.known r.no_cycle r.opened

pub record KeepsLimits (c : Counts) : Type 0 where
  pub classes : c.classes ≤ 2048
  pub methods : c.methods ≤ 32767
  pub functions : c.functions ≤ 32767
  pub selectors : c.selectors ≤ 2048
  pub sites : c.sites ≤ 65536

none_over : (what : Limit) (count : ℕ) (more : List (Limit × ℕ)) → first_over ((what, count) ∷ more) ≡ None → (count ≤ most what) × (first_over more ≡ None)
none_over what count more e = (elim (nat_lt (most what) count) as (λ b. nat_lt (most what) count ≡ b → (if b then Some (what, count) else first_over more) ≡ None → (count ≤ most what) × (first_over more ≡ None)) [
  | true ↦ λ t none. absurd cc
  | false ↦ λ t none. (low (most what) count t, none)
]) refl e
  where
    low : (n k : ℕ) → nat_lt n k ≡ false → k ≤ n
    low n k t = grind (arith, nat_tests)

abbrev Limits : Type 0
Limits = List (Limit × ℕ)

abbrev from_sites : Counts → Limits
from_sites c = (limit.Sites, c.sites) ∷ []

abbrev from_selectors : Counts → Limits
from_selectors c = (limit.Selectors, c.selectors) ∷ from_sites c

abbrev from_functions : Counts → Limits
from_functions c = (limit.Functions, c.functions) ∷ from_selectors c

abbrev from_methods : Counts → Limits
from_methods c = (limit.Methods, c.methods) ∷ from_functions c

pub keeps_limits : (c : Counts) → exceeded c ≡ None → KeepsLimits c
keeps_limits c none =
    let a = none_over limit.Classes c.classes (from_methods c) none in
    let b = none_over limit.Methods c.methods (from_functions c) a.1 in
    let d = none_over limit.Functions c.functions (from_selectors c) b.1 in
    let e = none_over limit.Selectors c.selectors (from_sites c) d.1 in
    let f = none_over limit.Sites c.sites [] e.1 in
    record { classes = a.0; methods = b.0; functions = d.0; selectors = e.0; sites = f.0 }
