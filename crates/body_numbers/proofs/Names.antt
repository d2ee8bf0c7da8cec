-- What a bare name stands for, by what was looked up.
use Rattle.std.proofs.Common.{◌≡◌, ℕ, suc, ◌-◌, Bool, true, false, List, Option, Some, None, option_map, is_some, unwrap_or, length, refl, sym, ap, ◌∙◌}
use Rattle.dart_syntax.specs.Syntax.{Tree}
use Rattle.dart_values.specs.Values.{Text}
use Rattle.dart_meaning.specs.Place.{Place}
use Rattle.dart_meaning.specs.Classes.{class_declares, variable_place}
use Rattle.dart_meaning.specs.Meaning.{of_body, of_this, owner_by}
use Rattle.dart_meaning.specs.Numbering as num
use Rattle.dart_meaning.specs.Numbering.{index_of}
use Rattle.body_numbers.specs.declared.meant.Meant.TheVariants as v
use Rattle.body_numbers.specs.Open.{slots}
use Rattle.body_numbers.specs.Meant.{IsMeant}

module _ (tree : Tree) (site_of : Place → ℕ) (here : Option Text) (names : List Text) (name : Text) where
  abbrev is_member : Bool
  is_member = class_declares tree here name

  abbrev is_variable : Bool
  is_variable = is_some (variable_place tree name)

  pub is_slot : (k : ℕ) → slots names name ≡ Some k → IsMeant tree site_of here names name (v.Slot k)
  unfolding slots
  is_slot k = elim (index_of name names) as (λ o. option_map (λ j. length names - suc j) o ≡ Some k → (owner_by (is_some o) is_member is_variable ≡ of_body) × (k ≡ length names - suc (unwrap_or o 0))) [
    | Some j ↦ λ h. (refl, ap (λ o. unwrap_or o k) (sym h))
    | None ↦ λ h. absurd cc
  ]

  not_open : slots names name ≡ None → is_some (index_of name names) ≡ false
  unfolding slots
  not_open = elim (index_of name names) as (λ o. option_map (λ j. length names - suc j) o ≡ None → is_some o ≡ false) [
    | Some j ↦ λ h. absurd cc
    | None ↦ λ h. refl
  ]

  beyond : slots names name ≡ None → num.owner tree site_of here names name ≡ owner_by false is_member is_variable
  beyond h = ap (λ b. owner_by b is_member is_variable) (not_open h)

  pub is_own : slots names name ≡ None → is_member ≡ true → num.owner tree site_of here names name ≡ of_this
  is_own h m = beyond h ∙ ap (λ b. owner_by false b is_variable) m

  pub is_global : (k : ℕ) → slots names name ≡ None → is_member ≡ false → variable_place tree name ≡ Some k → IsMeant tree site_of here names name (v.Variable k)
  is_global k h m e = (
    beyond h ∙ ap (λ b. owner_by false b is_variable) m ∙ ap (λ o. owner_by false false (is_some o)) e,
    sym (ap (λ o. unwrap_or o 0) e),
  )

  pub is_other : slots names name ≡ None → is_member ≡ false → variable_place tree name ≡ None → num.owner tree site_of here names name ≡ of_this
  is_other h m e = beyond h ∙ ap (λ b. owner_by false b is_variable) m ∙ ap (λ o. owner_by false false (is_some o)) e
