use Rattle.std.proofs.Common.{◌≡◌, ◌++◌, drop, map}
use Rattle.dart_syntax.specs.View.{unit}
use Rattle.dart_meaning.specs.Classes.{class_number}
use Rattle.tree_lists.proofs.classes.interface_numbers.Given as goal

abbrev pub invariant-loop-name : goal.invariant-loop-name
invariant-loop-name l =
    let f = class_number (unit l.numbers.tree.now) in
    map (λ d. d.0) l.all ++ map f (map (λ n. n.text) (drop l.name-index l.names)) ≡ map f (map (λ n. n.text) l.names)
