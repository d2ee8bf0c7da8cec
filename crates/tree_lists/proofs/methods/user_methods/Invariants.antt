use Rattle.std.proofs.Common.{◌≡◌, ◌++◌, drop, map, flat_map}
use Rattle.dart_syntax.specs.View.{unit}
use Rattle.dart_meaning.specs.Forms.{method_form}
use Rattle.tree_lists.specs.Methods.{methods_of}
use Rattle.tree_numbers.specs.Parts.{class_of}
use Rattle.tree_lists.proofs.methods.user_methods.Given as goal

abbrev pub invariant-loop-class : goal.invariant-loop-class
invariant-loop-class g l =
    let f = methods_of (unit l.numbers.tree.now) in
    map method_form l.all ++ flat_map f (map class_of (drop l.class-index l.classes)) ≡ flat_map f (map class_of l.classes)
