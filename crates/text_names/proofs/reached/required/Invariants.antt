use Rattle.std.proofs.Common.{◌≡◌, ◌≤◌, drop, map}
use Rattle.dart_syntax.specs.View.{param}
use Rattle.dart_meaning.specs.Classes.{required}
use Rattle.text_names.specs.Reached.{required_from}
use Rattle.text_names.proofs.reached.required.Given as goal

abbrev pub invariant-loop-p : goal.invariant-loop-p
invariant-loop-p l =
    record {
      count : required_from l.n (map param (drop l.p-index l.params)) ≡ required (map param l.params);
      few : l.n ≤ l.p-index;
    }
