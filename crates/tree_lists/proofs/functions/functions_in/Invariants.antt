use Rattle.std.proofs.Common.{◌≡◌, ◌++◌, drop, map}
use Rattle.std.specs.Prelude.{filter_map}
use Rattle.dart_syntax.specs.View.{top, unit}
use Rattle.dart_meaning.specs.Classes.{function_at}
use Rattle.dart_meaning.specs.Forms.{function_form}
use Rattle.dart_meaning.specs.NumberedForm.{numbered_function}
use Rattle.tree_lists.proofs.functions.functions_in.Given as goal

abbrev pub invariant-loop-t : goal.invariant-loop-t
invariant-loop-t g l =
    let f = numbered_function (unit l.inside.numbers.now.tree.now) in
    map function_form l.all ++ map f (filter_map function_at (map top (drop l.t-index l.tops))) ≡ map f (filter_map function_at (map top l.tops))
