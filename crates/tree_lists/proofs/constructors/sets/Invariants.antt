use Rattle.std.proofs.Common.{◌≡◌, ◌++◌, drop, map}
use Rattle.dart_syntax.specs.View.{param, unit}
use Rattle.dart_meaning.specs.Numbering as num
use Rattle.tree_lists.proofs.constructors.sets.Given as goal

abbrev pub invariant-loop-p : goal.invariant-loop-p
invariant-loop-p l = l.all ++ num.sets (unit l.numbers.tree.now) l.class (map param (drop l.p-index l.params)) ≡ num.sets (unit l.numbers.tree.now) l.class (map param l.params)
