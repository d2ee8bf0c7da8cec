use Rattle.std.proofs.Common.{◌≡◌, drop, map}
use Rattle.dart_syntax.specs.View.{top}
use Rattle.static_rules.specs.Places.{◌or_else◌, first_in}
use Rattle.static_rules.specs.DuplicateName.{in_top}
use Rattle.declaration_rules.proofs.tops.repeated_in_tops.Given as goal

abbrev pub invariant-loop-t : goal.invariant-loop-t
invariant-loop-t l = (l.at or_else first_in in_top (map top (drop l.t-index l.tops))) ≡ first_in in_top (map top l.tops)
