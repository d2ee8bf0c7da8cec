use Rattle.std.proofs.Common.{◌≡◌, drop, map}
use Rattle.dart_syntax.specs.View.{top}
use Rattle.dart_meaning.specs.Means.{top_name}
use Rattle.static_rules.specs.Places.{◌or_else◌}
use Rattle.static_rules.specs.Repeats.{repeated}
use Rattle.declaration_rules.specs.Known.{also_known, class_names, is_built_in_of}
use Rattle.declaration_rules.specs.Seen.{has}
use Rattle.declaration_rules.proofs.tops.repeated_top.Given as goal

abbrev pub invariant-loop-t : goal.invariant-loop-t
invariant-loop-t l =
    let f = is_built_in_of (class_names l.built_in) in
    (l.at or_else repeated (also_known f (has l.seen)) (map top_name (map top (drop l.t-index l.tops)))) ≡ repeated f (map top_name (map top l.tops))
