use Rattle.std.proofs.Common.{◌≡◌, drop, map}
use Rattle.dart_syntax.specs.View.{member}
use Rattle.text_names.specs.Maps.{in_set}
use Rattle.text_names.specs.Noted.{also_noted}
use Rattle.text_names.proofs.noted.note_all.Given as goal

abbrev pub invariant-loop-m : goal.invariant-loop-m
invariant-loop-m l = also_noted l.sort (map member (drop l.m-index l.members)) (in_set l.set) ≡ also_noted l.sort (map member l.members) (in_set l.fn.set)
