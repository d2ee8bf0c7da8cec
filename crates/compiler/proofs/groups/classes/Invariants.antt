-- Those before have their units.
use Rattle.std.specs.Prelude.{length}
use Rattle.program_code.specs.IsCode.{unit_id}
use Rattle.compiler.specs.Units.{Built, Grows, Reaches, ClassHas}
use Rattle.compiler.proofs.groups.classes.Given as goal

abbrev pub invariant-loop-k : goal.invariant-loop-k
invariant-loop-k l =
    Built (ClassHas l.base l.units.items l.out.table) l.all l.k-index l.ids.items
    × Grows l.initial.units.items l.initial.out.table l.units.items l.out.table
    × Reaches unit_id l.ids.items (length l.initial.units.items) (length l.units.items)
