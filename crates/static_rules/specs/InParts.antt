-- A rule on what the parts of a tree use.
use Rattle.dart_syntax.specs.Syntax.{Tree}
use Rattle.dart_meaning.specs.Uses.{Use, Part, parts}
use Rattle.static_rules.specs.Places.{Fault, first_in}

-- the first place at which a use breaks the rule
abbrev pub in_parts : (Part → Use → Fault) → Tree → Fault
in_parts rule tree = first_in (λ part. first_in (rule part) part.uses) (parts tree)
