use Rattle.std.proofs.Common.{◌≡◌, ◌≤◌, ◌+◌, not, cond, drop, map}
use Rattle.std.specs.List.{fold}
use Rattle.dart_syntax.specs.Syntax.{Param}
use Rattle.dart_syntax.specs.View.{param}
use Rattle.dart_meaning.specs.Classes.{required}
use Rattle.tree_lists.proofs.params.required_of.Given as goal

abbrev pub invariant-loop-p : goal.invariant-loop-p
invariant-loop-p l =
    record {
      count : fold (λ a (p : Param). a + cond (not p.optional) 1 0) l.n (map param (drop l.p-index l.params)) ≡ required (map param l.params);
      few : l.n ≤ l.p-index;
    }
