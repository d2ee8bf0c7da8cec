use Rattle.std.proofs.Common.{◌≡◌, drop}
use Rattle.static_rules.specs.Places.{◌or_else◌, first_in}
use Rattle.declaration_rules.specs.Seen.{has}
use Rattle.declaration_rules.specs.Known.{breaks_at, class_names, is_one_of}
use Rattle.declaration_rules.proofs.supers.interface_breaks.Given as goal

abbrev pub invariant-loop-name : goal.invariant-loop-name
invariant-loop-name l =
    let f = breaks_at l.rule (has l.known) (is_one_of (class_names l.built_in)) in
    (l.at or_else first_in f (drop l.name-index l.names)) ≡ first_in f l.names
