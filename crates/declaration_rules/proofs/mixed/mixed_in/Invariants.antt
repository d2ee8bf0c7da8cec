use Rattle.std.proofs.Common.{◌≡◌, drop, map}
use Rattle.std.specs.Prelude.{filter_map, flat_map}
use Rattle.dart_syntax.specs.Syntax as tree
use Rattle.static_rules.specs.Members.{declared_by}
use Rattle.declaration_rules.specs.Mixing.{left, mixed_in}
use Rattle.declaration_rules.specs.Seen.{class_of}
use Rattle.declaration_rules.proofs.mixed.mixed_in.Given as goal

abbrev pub invariant-loop-c : goal.invariant-loop-c
invariant-loop-c l =
    left l.built_in l.kinds (flat_map (λ (c : tree.ClassDecl). filter_map declared_by c.members) (map class_of (drop l.c-index l.classes))) ≡ mixed_in l.built_in (map class_of l.classes)
