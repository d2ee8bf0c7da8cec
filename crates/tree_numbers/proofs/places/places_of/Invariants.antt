use Rattle.std.proofs.Common.{◌≡◌, drop}
use Rattle.tree_numbers.specs.Maps.{in_map, nothing_known}
use Rattle.tree_numbers.specs.Parts.{texts}
use Rattle.tree_numbers.specs.Places.{also_placed}
use Rattle.tree_numbers.proofs.places.places_of.Given as goal

abbrev pub invariant-loop-i : goal.invariant-loop-i
invariant-loop-i l = also_placed l.i (texts (drop l.i l.names)) (in_map l.known) ≡ also_placed 0 (texts l.names) nothing_known
