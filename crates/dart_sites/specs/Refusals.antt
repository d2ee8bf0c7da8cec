-- The lines of what a tree is refused for, and the line of `check`.
use Rattle.std.specs.Prelude.{ℕ, not, List, ◌++◌, find, Option, codes}
use Rattle.std.specs.Fmt.{decimal}
use Rattle.dart_syntax.specs.declared.token.Span.{Span}
use Rattle.dart_syntax.specs.Syntax.{Tree}
use Rattle.static_rules.specs.declared.rule.Rule.{Rule}
use Rattle.static_rules.specs.declared.rule.Rule.TheVariants as rule
use Rattle.static_rules.specs.declared.rule.Limit.{Limit}
use Rattle.static_rules.specs.declared.rule.Limit.TheVariants as limit
use Rattle.static_rules.specs.Accepted.{most, Counts}
use Rattle.dart_meaning.specs.Entry.{has_entry}
use Rattle.dart_sites.specs.Places.{place_text}

abbrev pub rule_name : Rule → List ℕ
rule_name rule.DuplicateName = codes "DuplicateName"
rule_name rule.UnknownSuper = codes "UnknownSuper"
rule_name rule.CycleInSuper = codes "CycleInSuper"
rule_name rule.SuperIsBuiltin = codes "SuperIsBuiltin"
rule_name rule.UndefinedName = codes "UndefinedName"
rule_name rule.MixedName = codes "MixedName"
rule_name rule.TearOff = codes "TearOff"
rule_name rule.BadOverride = codes "BadOverride"
rule_name rule.AbstractMade = codes "AbstractMade"
rule_name rule.FinalWritten = codes "FinalWritten"
rule_name rule.BadReturnPlace = codes "BadReturnPlace"
rule_name rule.Shadowed = codes "Shadowed"
rule_name rule.WrongArgumentsOfStatic = codes "WrongArgumentsOfStatic"

-- refused: RULE at LINE:COL
abbrev pub rule_line : List ℕ → Rule → Span → List ℕ
rule_line input rule at = codes "refused: " ++ rule_name rule ++ codes " at " ++ place_text input at.start ++ codes "\n"

abbrev pub limit_name : Limit → List ℕ
limit_name limit.Classes = codes "classes"
limit_name limit.Methods = codes "methods"
limit_name limit.Functions = codes "functions"
limit_name limit.Selectors = codes "selectors"
limit_name limit.Sites = codes "sites"

-- refused: LimitReached WHAT COUNT of LIMIT
abbrev pub limit_line : Limit → ℕ → List ℕ
limit_line what count = codes "refused: LimitReached " ++ limit_name what ++ codes " " ++ decimal count ++ codes " of " ++ decimal (most what) ++ codes "\n"

-- the first of the names that is no entry point
abbrev pub missing : Tree → List (List ℕ) → Option (List ℕ)
missing tree names = find (λ name. not (has_entry tree name)) names

-- refused: no entry point NAME
abbrev pub entry_line : List ℕ → List ℕ
entry_line name = codes "refused: no entry point " ++ name ++ codes "\n"

-- ok classes K methods M selectors N sites S
abbrev pub check_text : Counts → List ℕ
check_text c =
    codes "ok classes " ++ decimal c.classes ++ codes " methods " ++ decimal c.methods ++ codes " selectors " ++ decimal c.selectors ++ codes " sites " ++ decimal c.sites
    ++ codes "\n"
