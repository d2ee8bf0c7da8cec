-- The places of names in a list, the first of each.
use Rattle.std.specs.Prelude.{ℕ, ◌+◌, List, [], ◌∷◌}
use Rattle.dart_syntax.specs.Bytes.{Text}
use Rattle.tree_numbers.specs.Maps.{Known, with_first}

-- what was known, and then the names from place n on
abbrev pub also_placed : ℕ → List Text → Known ℕ → Known ℕ
also_placed n [] known = known
also_placed n (name ∷ more) known = also_placed (n + 1) more (with_first name n known)
