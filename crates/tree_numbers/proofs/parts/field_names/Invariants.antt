use Rattle.std.proofs.Common.{◌≡◌, ◌++◌, drop, map}
use Rattle.std.specs.Prelude.{filter_map}
use Rattle.dart_syntax.specs.View.{member}
use Rattle.tree_numbers.specs.Parts.{texts, field_name}
use Rattle.tree_numbers.proofs.parts.field_names.Given as goal

abbrev pub invariant-loop-m : goal.invariant-loop-m
invariant-loop-m l = texts l.all.items ++ filter_map field_name (map member (drop l.m-index l.members)) ≡ filter_map field_name (map member l.members)
