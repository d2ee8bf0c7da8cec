use Rattle.std.proofs.Common.{◌≡◌, drop, map}
use Rattle.dart_syntax.specs.View.{top}
use Rattle.text_names.specs.Maps.{nothing_known}
use Rattle.text_names.specs.Tops.{stands_for, also_tops}
use Rattle.text_names.proofs.tops.tops_by_name.Given as goal

abbrev pub invariant-loop-t : goal.invariant-loop-t
invariant-loop-t l = also_tops (map top (drop l.t-index l.tops)) (stands_for l.known) ≡ also_tops (map top l.tops) nothing_known
