-- A tree is refused for one thing, and is not accepted then.
use Rattle.std.proofs.Common.{◌≡◌, ◌≢◌, ℕ, ◌⊎◌, inl, inr, Option, None, Some, refl, sym, ap, ◌∙◌}
use Rattle.std.specs.Prelude.{Result, Ok, Err, IfOk, IfErr, MatchResult}
use Rattle.dart_syntax.specs.declared.token.Span.{Span}
use Rattle.dart_syntax.specs.Syntax.{Tree}
use Rattle.static_rules.specs.declared.rule.Rule.{Rule}
use Rattle.static_rules.specs.declared.rule.Rule.TheVariants as rule
use Rattle.static_rules.specs.declared.rule.Limit.{Limit}
use Rattle.static_rules.specs.Accepted.{failing, exceeded, counts, IsAccepted}
use Rattle.resolver.specs.declared.error.NameError.{NameError}
use Rattle.resolver.specs.declared.error.NameError.TheVariants as error
use Rattle.resolver.specs.Refusals.{IsRefusal}

-- the error of the rule that fails first, or of the count that is over its limit
abbrev error_for : Option (Rule × Span) → Option (Limit × ℕ) → NameError
error_for (Some (rule.DuplicateName, span)) over = error.DuplicateName span
error_for (Some (rule.UnknownSuper, span)) over = error.UnknownSuper span
error_for (Some (rule.CycleInSuper, span)) over = error.CycleInSuper span
error_for (Some (rule.SuperIsBuiltin, span)) over = error.SuperIsBuiltin span
error_for (Some (rule.UndefinedName, span)) over = error.UndefinedName span
error_for (Some (rule.MixedName, span)) over = error.MixedName span
error_for (Some (rule.TearOff, span)) over = error.TearOff span
error_for (Some (rule.BadOverride, span)) over = error.BadOverride span
error_for (Some (rule.AbstractMade, span)) over = error.AbstractMade span
error_for (Some (rule.FinalWritten, span)) over = error.FinalWritten span
error_for (Some (rule.BadReturnPlace, span)) over = error.BadReturnPlace span
error_for (Some (rule.Shadowed, span)) over = error.Shadowed span
error_for (Some (rule.WrongArgumentsOfStatic, span)) over = error.WrongArgumentsOfStatic span
error_for None (Some (what, count)) = error.LimitReached what count
error_for None None = error.NoMemory

is_for : (tree : Tree) (e : NameError) → IsRefusal tree e → (e ≡ error.NoMemory) ⊎ (error_for (failing tree) (exceeded (counts tree)) ≡ e)
is_for tree (error.DuplicateName span) h = inr (ap (λ o. error_for o (exceeded (counts tree))) h)
is_for tree (error.UnknownSuper span) h = inr (ap (λ o. error_for o (exceeded (counts tree))) h)
is_for tree (error.CycleInSuper span) h = inr (ap (λ o. error_for o (exceeded (counts tree))) h)
is_for tree (error.SuperIsBuiltin span) h = inr (ap (λ o. error_for o (exceeded (counts tree))) h)
is_for tree (error.UndefinedName span) h = inr (ap (λ o. error_for o (exceeded (counts tree))) h)
is_for tree (error.MixedName span) h = inr (ap (λ o. error_for o (exceeded (counts tree))) h)
is_for tree (error.TearOff span) h = inr (ap (λ o. error_for o (exceeded (counts tree))) h)
is_for tree (error.BadOverride span) h = inr (ap (λ o. error_for o (exceeded (counts tree))) h)
is_for tree (error.AbstractMade span) h = inr (ap (λ o. error_for o (exceeded (counts tree))) h)
is_for tree (error.FinalWritten span) h = inr (ap (λ o. error_for o (exceeded (counts tree))) h)
is_for tree (error.BadReturnPlace span) h = inr (ap (λ o. error_for o (exceeded (counts tree))) h)
is_for tree (error.Shadowed span) h = inr (ap (λ o. error_for o (exceeded (counts tree))) h)
is_for tree (error.WrongArgumentsOfStatic span) h = inr (ap (λ o. error_for o (exceeded (counts tree))) h)
is_for tree (error.LimitReached what count) (h, k) = inr (ap (λ o. error_for o (exceeded (counts tree))) h ∙ ap (error_for None) k)
is_for tree error.NoMemory h = inl refl

-- of an accepted tree only want of memory is answered
pub no_refusal : (tree : Tree) (e : NameError) → IsAccepted tree → IsRefusal tree e → e ≡ error.NoMemory
no_refusal tree e accepted h = elim (is_for tree e h) [
  | inl is ↦ is
  | inr is ↦ sym is ∙ ap (λ o. error_for o (exceeded (counts tree))) accepted.rules ∙ ap (error_for None) accepted.limits
]

same_for : (tree : Tree) (e : NameError) → e ≢ error.NoMemory → IsRefusal tree e → error_for (failing tree) (exceeded (counts tree)) ≡ e
same_for tree e known h = elim (is_for tree e h) [
  | inl is ↦ absurd (known is)
  | inr is ↦ is
]

pub one_refusal : (tree : Tree) (d e : NameError) → e ≢ error.NoMemory → IsRefusal tree e → IsRefusal tree d → d ≢ error.NoMemory → d ≡ e
one_refusal tree d e known h k other = sym (same_for tree d other k) ∙ same_for tree e known h

-- So a tree that is refused is answered this, or want of memory.
pub cause_of : {A : Type 0} (tree : Tree) (result : Result A NameError) → IfErr result (λ d. IsRefusal tree d) → IfOk result (λ _. IsAccepted tree) → (e : NameError) → e ≢ error.NoMemory → IsRefusal tree e → MatchResult result (λ _. ⊥) (λ d. d ≢ error.NoMemory → d ≡ e)
cause_of tree (Ok a) refused accepted e known h = known (no_refusal tree e accepted h)
cause_of tree (Err d) refused accepted e known h = one_refusal tree d e known h refused

-- and one that is accepted, its counts, or want of memory
pub only_memory : {A : Type 0} (tree : Tree) (result : Result A NameError) → IfErr result (λ e. IsRefusal tree e) → IsAccepted tree → IfErr result (λ e. e ≡ error.NoMemory)
only_memory tree (Ok a) refused accepted = refused
only_memory tree (Err e) refused accepted = no_refusal tree e accepted refused
