use Rattle.std.proofs.Common.{subst, true, refl, sym}
use Rattle.program.specs.declared.numbered.MethodBody as program_body
use Rattle.code_pool.specs.declared.pool.MethodBody.TheVariants as pooled
use Rattle.compiler.specs.Units.{IsBodyUnit, MemberHas, code_of}
use Rattle.compiler.proofs.Growing.{item_last, grows_self}
use Rattle.compiler.proofs.Uses.{is_for_none, is_for_code}
use Rattle.compiler.proofs.groups.method.Goals as goal

pub returns-in-Native-clause-grows : goal.returns-in-Native-clause-grows
returns-in-Native-clause-grows c = grows_self _ _

pub returns-in-ReadField-clause-grows : goal.returns-in-ReadField-clause-grows
returns-in-ReadField-clause-grows c = grows_self _ _

pub returns-in-WriteField-clause-grows : goal.returns-in-WriteField-clause-grows
returns-in-WriteField-clause-grows c = grows_self _ _

pub returns-in_ok-id-in-Code-clause-has : goal.returns-in_ok-id-in-Code-clause-has
returns-in_ok-id-in-Code-clause-has c =
    let item = item_last c.args.units.now.items c.add.new.units.items c.in_ok-unit-in-Code.unit c.in_ok-id-in-Code.id (IsBodyUnit c.args.base c.body_unit.new.out.table true c.in-Code.body c.args.k.now.required c.args.k.now.defaults) c.in_ok-id-in-Code.ensures.units c.in_ok-id-in-Code.ensures.number
    (subst (λ ds. IsBodyUnit c.args.base c.body_unit.new.out.table true c.in-Code.body c.args.k.now.required ds c.in_ok-unit-in-Code.unit) c.as_slice.ensures c.in_ok-unit-in-Code.ensures.unit) in
    subst (λ (b : program_body.MethodBody). MemberHas c.args.base c.add.new.units.items c.body_unit.new.out.table c.args.text b c.args.k.now (pooled.Code c.in_ok-id-in-Code.id)) (sym c.in-Code.is) (c.in_ok-id-in-Code.id, refl, item)

pub returns-in-Native-clause-own : goal.returns-in-Native-clause-own
returns-in-Native-clause-own c = is_for_none code_of _ _

pub returns-in-ReadField-clause-own : goal.returns-in-ReadField-clause-own
returns-in-ReadField-clause-own c = is_for_none code_of _ _

pub returns-in-WriteField-clause-own : goal.returns-in-WriteField-clause-own
returns-in-WriteField-clause-own c = is_for_none code_of _ _

pub returns-in_ok-id-in-Code-clause-own : goal.returns-in_ok-id-in-Code-clause-own
returns-in_ok-id-in-Code-clause-own c = is_for_code c.args.units.now.items c.add.new.units.items c.in_ok-unit-in-Code.unit c.in_ok-id-in-Code.id c.in_ok-id-in-Code.ensures.units c.in_ok-id-in-Code.ensures.number
