use Rattle.std.proofs.Common.{◌≡◌, ◌++◌, drop, map}
use Rattle.dart_syntax.specs.View.{param}
use Rattle.dart_meaning.specs.Numbered.{literal}
use Rattle.dart_meaning.specs.NumberedForm.{defaults}
use Rattle.tree_lists.proofs.params.defaults.Given as goal

abbrev pub invariant-loop-p : goal.invariant-loop-p
invariant-loop-p l = map literal l.all ++ defaults (map param (drop l.p-index l.params)) ≡ defaults (map param l.params)
