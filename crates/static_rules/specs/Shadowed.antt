-- **Shadowed.** A local has the name of a parameter other than a `this.x`, or of a local of a block that is still open, also where that one is declared further down. The place is the local's name.
use Rattle.std.specs.Prelude.{is_some, None}
use Rattle.dart_syntax.specs.Syntax.{Tree}
use Rattle.dart_meaning.specs.Uses.{Use, declares, Part}
use Rattle.static_rules.specs.Places.{Fault, at_if}
use Rattle.static_rules.specs.InParts.{in_parts}

-- where one use breaks the rule
abbrev pub shadows : Part → Use → Fault
shadows part (declares n outside) = at_if (is_some outside) n.span
shadows part _ = None

-- the first place at which the tree breaks the rule
unfoldable pub shadowed : Tree → Fault
shadowed tree = in_parts shadows tree
