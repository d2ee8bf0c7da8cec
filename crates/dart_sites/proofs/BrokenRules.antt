-- The rule that an error names is the one that the tree breaks first.
use Rattle.std.proofs.Common.{◌≡◌, Some, ◌∙◌}
use Rattle.dart_syntax.specs.declared.token.Span.{Span}
use Rattle.dart_syntax.specs.Syntax.{Tree}
use Rattle.static_rules.specs.declared.rule.Rule.{Rule}
use Rattle.static_rules.specs.Accepted.{failing}
use Rattle.resolver.specs.declared.error.NameError.{NameError}
use Rattle.resolver.specs.declared.error.NameError.TheVariants as error
use Rattle.resolver.specs.Refusals.{IsRefusal, broken}

pub breaks_it : (tree : Tree) (e : NameError) (x : Rule × Span) → IsRefusal tree e → broken e ≡ Some x → failing tree ≡ Some x
breaks_it tree (error.DuplicateName span) x is at = is ∙ at
breaks_it tree (error.UnknownSuper span) x is at = is ∙ at
breaks_it tree (error.CycleInSuper span) x is at = is ∙ at
breaks_it tree (error.SuperIsBuiltin span) x is at = is ∙ at
breaks_it tree (error.UndefinedName span) x is at = is ∙ at
breaks_it tree (error.MixedName span) x is at = is ∙ at
breaks_it tree (error.TearOff span) x is at = is ∙ at
breaks_it tree (error.BadOverride span) x is at = is ∙ at
breaks_it tree (error.AbstractMade span) x is at = is ∙ at
breaks_it tree (error.FinalWritten span) x is at = is ∙ at
breaks_it tree (error.BadReturnPlace span) x is at = is ∙ at
breaks_it tree (error.Shadowed span) x is at = is ∙ at
breaks_it tree (error.WrongArgumentsOfStatic span) x is at = is ∙ at
breaks_it tree (error.LimitReached what count) x is at = absurd cc
breaks_it tree error.NoMemory x is at = absurd cc
