use Rattle.std.proofs.Common.{subst, false}
use Rattle.compiler.specs.Units.{IsBodyUnit}
use Rattle.compiler.proofs.Growing.{item_last, grows_by}
use Rattle.compiler.proofs.Uses.{is_for_one}
use Rattle.compiler.proofs.groups.function.Goals as goal

pub returns-clause-has : goal.returns-clause-has
returns-clause-has c =
    item_last c.args.units.now.items c.add.new.units.items c.in_ok-unit.unit c.in_ok-id.id (IsBodyUnit c.args.base c.body_unit.new.out.table false c.args.k.now.body c.args.k.now.required c.args.k.now.defaults) c.in_ok-id.ensures.units c.in_ok-id.ensures.number
    (subst (λ ds. IsBodyUnit c.args.base c.body_unit.new.out.table false c.args.k.now.body c.args.k.now.required ds c.in_ok-unit.unit) c.as_slice.ensures c.in_ok-unit.ensures.unit)

pub returns-clause-grows : goal.returns-clause-grows
returns-clause-grows c = grows_by c.args.units.now.items c.add.new.units.items c.in_ok-unit.unit c.args.out.now.table c.body_unit.new.out.table c.in_ok-id.ensures.units c.in_ok-unit.ensures.table

pub returns-clause-one : goal.returns-clause-one
returns-clause-one c = is_for_one c.args.units.now.items c.add.new.units.items c.in_ok-unit.unit c.in_ok-id.id c.in_ok-id.ensures.units c.in_ok-id.ensures.number
