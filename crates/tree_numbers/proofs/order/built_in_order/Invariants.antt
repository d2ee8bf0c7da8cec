use Rattle.std.proofs.Common.{◌≡◌, ◌++◌, drop}
use Rattle.dart_meaning.specs.Classes.{built_in_names}
use Rattle.tree_numbers.specs.Parts.{texts}
use Rattle.tree_numbers.proofs.order.built_in_order.Given as goal

abbrev pub invariant-loop-name : goal.invariant-loop-name
invariant-loop-name l = texts l.order.items ++ drop l.name-index built_in_names ≡ built_in_names
