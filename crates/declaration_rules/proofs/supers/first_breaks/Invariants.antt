use Rattle.std.proofs.Common.{◌≡◌, drop, map}
use Rattle.static_rules.specs.Places.{◌or_else◌, first_in}
use Rattle.declaration_rules.specs.Seen.{has, class_of}
use Rattle.declaration_rules.specs.Known.{breaks_in, class_names, is_one_of}
use Rattle.declaration_rules.proofs.supers.first_breaks.Given as goal

abbrev pub invariant-loop-c : goal.invariant-loop-c
invariant-loop-c l =
    let f = breaks_in l.rule (has l.known) (is_one_of (class_names l.built_in)) in
    (l.at or_else first_in f (map class_of (drop l.c-index l.classes))) ≡ first_in f (map class_of l.classes)
