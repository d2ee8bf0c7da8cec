-- Those before have their units.
use Rattle.std.specs.Prelude.{length}
use Rattle.compiler.specs.Units.{Built, Grows, Reaches, code_of, MethodHas}
use Rattle.compiler.proofs.groups.methods.Given as goal

abbrev pub invariant-loop-k : goal.invariant-loop-k
invariant-loop-k l =
    Built (MethodHas l.base l.units.items l.out.table l.text) l.all l.k-index l.bodies.items
    × Grows l.initial.units.items l.initial.out.table l.units.items l.out.table
    × Reaches code_of l.bodies.items (length l.initial.units.items) (length l.units.items)
