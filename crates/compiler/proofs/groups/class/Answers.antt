use Rattle.compiler.proofs.Growing.{item_last, grows_by}
use Rattle.compiler.proofs.Uses.{is_for_one}
use Rattle.compiler.proofs.groups.class.Goals as goal

pub returns-clause-has : goal.returns-clause-has
returns-clause-has c = item_last c.args.units.now.items c.add.new.units.items c.in_ok-unit.unit c.in_ok-id.id _ c.in_ok-id.ensures.units c.in_ok-id.ensures.number c.in_ok-unit.ensures.unit

pub returns-clause-grows : goal.returns-clause-grows
returns-clause-grows c = grows_by c.args.units.now.items c.add.new.units.items c.in_ok-unit.unit c.args.out.now.table c.constructor_unit.new.out.table c.in_ok-id.ensures.units c.in_ok-unit.ensures.table

pub returns-clause-one : goal.returns-clause-one
returns-clause-one c = is_for_one c.args.units.now.items c.add.new.units.items c.in_ok-unit.unit c.in_ok-id.id c.in_ok-id.ensures.units c.in_ok-id.ensures.number
