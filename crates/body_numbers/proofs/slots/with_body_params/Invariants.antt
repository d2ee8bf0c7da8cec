use Rattle.std.proofs.Common.{◌≡◌, ◌++◌, drop, map}
use Rattle.dart_syntax.specs.View.{param}
use Rattle.dart_meaning.specs.Numbering.{body_names}
use Rattle.body_numbers.proofs.slots.with_body_params.Given as goal

abbrev pub invariant-loop-x : goal.invariant-loop-x
invariant-loop-x l = body_names (map param (drop l.x-index l.params)) ++ l.slots ≡ body_names (map param l.params)
