use Rattle.std.proofs.Common.{◌≡◌, ◌++◌, drop, map}
use Rattle.std.specs.Prelude.{filter_map}
use Rattle.dart_syntax.specs.View.{top}
use Rattle.dart_meaning.specs.Classes.{variable_at}
use Rattle.dart_meaning.specs.Literals.{literal}
use Rattle.tree_lists.specs.Locals.{value_of}
use Rattle.tree_lists.proofs.fields.globals.Given as goal

abbrev pub invariant-loop-t : goal.invariant-loop-t
invariant-loop-t l = map literal l.all ++ map value_of (filter_map variable_at (map top (drop l.t-index l.tops))) ≡ map value_of (filter_map variable_at (map top l.tops))
