use Rattle.compiler.proofs.BodiesOfUnits.{constructor_is}
use Rattle.compiler.proofs.units.constructor_unit.Goals as goal

pub returns-clause-unit : goal.returns-clause-unit
returns-clause-unit c =
    constructor_is c.args.base c.parts_unit.new.out.table c.args.class.now c.class_above.result.0 c.parts_of-parts.result c.in_ok-unit.unit c.parts_of-parts.ensures c.class_above.ensures c.in_ok-unit.ensures.unit
