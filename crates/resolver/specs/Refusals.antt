-- What an error says of a tree.
use Rattle.std.specs.Prelude.{◌≡◌, Option, None, Some}
use Rattle.dart_syntax.specs.declared.token.Span.{Span}
use Rattle.dart_syntax.specs.Syntax.{Tree}
use Rattle.static_rules.specs.declared.rule.Rule.{Rule}
use Rattle.static_rules.specs.declared.rule.Rule.TheVariants as rule
use Rattle.static_rules.specs.Accepted.{failing, exceeded, counts}
use Rattle.resolver.specs.declared.error.Broken.{Broken}
use Rattle.resolver.specs.declared.error.NameError.{NameError}
use Rattle.resolver.specs.declared.error.NameError.TheVariants as error

-- a rule that is broken, and the first place
abbrev pub finding : Broken → Rule × Span
finding b = (b.rule, b.span)

-- the rule that an error names, and the place
abbrev pub broken : NameError → Option (Rule × Span)
broken (error.DuplicateName span) = Some (rule.DuplicateName, span)
broken (error.UnknownSuper span) = Some (rule.UnknownSuper, span)
broken (error.CycleInSuper span) = Some (rule.CycleInSuper, span)
broken (error.SuperIsBuiltin span) = Some (rule.SuperIsBuiltin, span)
broken (error.UndefinedName span) = Some (rule.UndefinedName, span)
broken (error.MixedName span) = Some (rule.MixedName, span)
broken (error.TearOff span) = Some (rule.TearOff, span)
broken (error.BadOverride span) = Some (rule.BadOverride, span)
broken (error.AbstractMade span) = Some (rule.AbstractMade, span)
broken (error.FinalWritten span) = Some (rule.FinalWritten, span)
broken (error.BadReturnPlace span) = Some (rule.BadReturnPlace, span)
broken (error.Shadowed span) = Some (rule.Shadowed, span)
broken (error.WrongArgumentsOfStatic span) = Some (rule.WrongArgumentsOfStatic, span)
broken (error.LimitReached what count) = None
broken error.NoMemory = None

-- The tree breaks this rule first, and here first; or it breaks none, and this count is the first over its limit. Of want of memory nothing is said.
abbrev pub IsRefusal : Tree → NameError → Type 0
IsRefusal tree (error.DuplicateName span) = failing tree ≡ broken (error.DuplicateName span)
IsRefusal tree (error.UnknownSuper span) = failing tree ≡ broken (error.UnknownSuper span)
IsRefusal tree (error.CycleInSuper span) = failing tree ≡ broken (error.CycleInSuper span)
IsRefusal tree (error.SuperIsBuiltin span) = failing tree ≡ broken (error.SuperIsBuiltin span)
IsRefusal tree (error.UndefinedName span) = failing tree ≡ broken (error.UndefinedName span)
IsRefusal tree (error.MixedName span) = failing tree ≡ broken (error.MixedName span)
IsRefusal tree (error.TearOff span) = failing tree ≡ broken (error.TearOff span)
IsRefusal tree (error.BadOverride span) = failing tree ≡ broken (error.BadOverride span)
IsRefusal tree (error.AbstractMade span) = failing tree ≡ broken (error.AbstractMade span)
IsRefusal tree (error.FinalWritten span) = failing tree ≡ broken (error.FinalWritten span)
IsRefusal tree (error.BadReturnPlace span) = failing tree ≡ broken (error.BadReturnPlace span)
IsRefusal tree (error.Shadowed span) = failing tree ≡ broken (error.Shadowed span)
IsRefusal tree (error.WrongArgumentsOfStatic span) = failing tree ≡ broken (error.WrongArgumentsOfStatic span)
IsRefusal tree (error.LimitReached what count) = (failing tree ≡ None) × (exceeded (counts tree) ≡ Some (what, count))
IsRefusal tree error.NoMemory = Unit {0}
