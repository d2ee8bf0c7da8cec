use Rattle.std.proofs.Common.{◌∙◌, ap, ◌+◌, false}
use Rattle.code_writer.specs.EmittedStatements.{emit_body}
use Rattle.compiler.proofs.BodiesOfUnits.{body_is, body_begins, body_layout}
use Rattle.compiler.proofs.units.body_unit.Goals as goal

pub returns-clause-unit : goal.returns-clause-unit
returns-clause-unit c =
    body_is c.args.base c.args.of_this c.args.body.now c.args.required c.args.defaults.now c.first_slot-first.result c.in_ok-scratch.scratch c.in_ok-params.params c.in_ok-parameters.parameters c.args.out.now c.emit_body.new.out c.in_ok-unit.unit
    (c.in_ok-parameters.ensures ∙ ap (λ k. c.args.required + k) c.in_ok-small.ensures) c.first_slot-first.ensures (c.in_ok-scratch.ensures ∙ ap (λ k. c.first_slot-first.result + k) c.in_ok-most_of.ensures) c.in_ok-params.ensures
    (c.in_ok-emit_body.ensures ∙ ap (emit_body (body_layout c.args.base c.first_slot-first.result c.in_ok-scratch.scratch false) c.args.body.now c.in_ok-parameters.parameters) c.begin.ensures) c.in_ok-unit.ensures

pub returns-clause-table : goal.returns-clause-table
returns-clause-table c =
    body_begins c.args.base c.args.of_this c.args.body.now c.args.required c.args.defaults.now c.first_slot-first.result c.in_ok-scratch.scratch c.in_ok-params.params c.in_ok-parameters.parameters c.args.out.now c.emit_body.new.out c.in_ok-unit.unit
    (c.in_ok-parameters.ensures ∙ ap (λ k. c.args.required + k) c.in_ok-small.ensures) c.first_slot-first.ensures (c.in_ok-scratch.ensures ∙ ap (λ k. c.first_slot-first.result + k) c.in_ok-most_of.ensures) c.in_ok-params.ensures
    (c.in_ok-emit_body.ensures ∙ ap (emit_body (body_layout c.args.base c.first_slot-first.result c.in_ok-scratch.scratch false) c.args.body.now c.in_ok-parameters.parameters) c.begin.ensures) c.in_ok-unit.ensures
