use Rattle.std.proofs.Common.{◌≡◌, drop, map}
use Rattle.dart_syntax.specs.View.{member}
use Rattle.text_names.specs.Maps.{in_map, nothing_known}
use Rattle.text_names.specs.Reached.{also_reached}
use Rattle.text_names.proofs.reached.members_of.Given as goal

abbrev pub invariant-loop-m : goal.invariant-loop-m
invariant-loop-m l = also_reached l.kind (map member (drop l.m-index l.members)) (in_map l.known) ≡ also_reached l.kind (map member l.members) nothing_known
