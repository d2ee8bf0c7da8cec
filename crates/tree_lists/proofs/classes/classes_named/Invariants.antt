use Rattle.std.proofs.Common.{◌≡◌, ◌++◌, drop, map}
use Rattle.dart_syntax.specs.View.{unit}
use Rattle.dart_meaning.specs.Forms.{class_form}
use Rattle.dart_meaning.specs.NumberedForm.{numbered_class}
use Rattle.tree_numbers.specs.Parts.{texts}
use Rattle.tree_lists.proofs.classes.classes_named.Given as goal

abbrev pub invariant-loop-name : goal.invariant-loop-name
invariant-loop-name g l =
    let f = numbered_class (unit l.numbers.tree.now) in
    map class_form l.all ++ map f (texts (drop l.name-index l.names)) ≡ map f (texts l.names)
