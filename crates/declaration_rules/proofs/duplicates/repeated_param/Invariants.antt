use Rattle.std.proofs.Common.{◌≡◌, drop, map}
use Rattle.dart_syntax.specs.Syntax as syn
use Rattle.dart_syntax.specs.View.{param}
use Rattle.static_rules.specs.Places.{◌or_else◌}
use Rattle.static_rules.specs.Repeats.{repeated}
use Rattle.declaration_rules.specs.Seen.{has}
use Rattle.static_rules.specs.DuplicateName.{in_params}
use Rattle.declaration_rules.proofs.duplicates.repeated_param.Given as goal

abbrev pub invariant-loop-p : goal.invariant-loop-p
invariant-loop-p l = (l.at or_else repeated (has l.seen) (map (λ (p : syn.Param). p.name) (map param (drop l.p-index l.params)))) ≡ in_params (map param l.params)
