use Rattle.std.proofs.Common.{◌≡◌, ◌++◌, drop, map}
use Rattle.std.specs.Prelude.{filter_map}
use Rattle.dart_syntax.specs.View.{member}
use Rattle.static_rules.specs.Members.{declared_by}
use Rattle.declaration_rules.specs.Mixing.{left}
use Rattle.declaration_rules.proofs.mixed.Kinds.take_all.Given as goal

abbrev pub invariant-loop-m : goal.invariant-loop-m
invariant-loop-m l =
    (more : _) → left l.built_in l.self (filter_map declared_by (map member (drop l.m-index l.members)) ++ more) ≡ left l.built_in l.fn.self (filter_map declared_by (map member l.members) ++ more)
