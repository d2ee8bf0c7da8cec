use Rattle.std.proofs.Common.{◌∙◌, ap}
use Rattle.code_writer.specs.EmittedStatements.{emit_list_text}
use Rattle.compiler.proofs.BodiesOfUnits.{list_is, list_begins}
use Rattle.compiler.proofs.units.list_unit.Goals as goal

pub returns-clause-unit : goal.returns-clause-unit
returns-clause-unit c = list_is c.args.list_site c.args.out.now c.put_constant.new.self c.emit_list_text.new.out c.in_ok-unit.unit c.in_ok-put_constant.ensures (c.in_ok-emit_list_text.ensures ∙ ap (emit_list_text c.args.list_site) c.begin.ensures) c.in_ok-unit.ensures

pub returns-clause-table : goal.returns-clause-table
returns-clause-table c = list_begins c.args.list_site c.args.out.now c.put_constant.new.self c.emit_list_text.new.out c.in_ok-unit.unit c.in_ok-put_constant.ensures (c.in_ok-emit_list_text.ensures ∙ ap (emit_list_text c.args.list_site) c.begin.ensures) c.in_ok-unit.ensures
