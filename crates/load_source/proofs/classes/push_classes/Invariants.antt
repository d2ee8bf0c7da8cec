use Rattle.std.proofs.Common.{◌≡◌, ◌++◌}
use Rattle.load_source.specs.Generated.{numbered, each, class_line}
use Rattle.load_source.proofs.classes.push_classes.Given as goal

abbrev pub invariant-loop-k : goal.invariant-loop-k
invariant-loop-k l =
    (l.out.items ≡ l.initial.out.items ++ each (class_line l.number) l.k)
    × (l.x ≡ numbered l.number l.k)
