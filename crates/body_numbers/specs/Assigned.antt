-- Selectors, of which the last one names what is assigned to.
use Rattle.std.specs.Prelude.{ℕ, List, Option}
use Rattle.dart_syntax.specs.Syntax.{Tree, Selectors}
use Rattle.program.specs.Bodies as c
use Rattle.dart_values.specs.Values.{Text}
use Rattle.dart_meaning.specs.Place.{Place}
use Rattle.dart_meaning.specs.Numbering as num

-- What the last selector names, behind the calls of those before it.
abbrev pub named_last : Tree → (Place → ℕ) → Option Text → List Text → c.Exp → Selectors → num.Assignable
named_last tree site_of here names e more = num.last_of tree site_of here names (c.postfix e (num.all_but_last tree site_of here names more)) more
