use Rattle.std.proofs.Common.{◌∙◌, ap, ◌+◌, true, map}
use Rattle.program.specs.Bodies.{exp, exps}
use Rattle.code_writer.specs.Views.{stas_of}
use Rattle.code_writer.specs.EmittedStatements.{emit_constructor}
use Rattle.compiler.proofs.BodiesOfUnits.{parts_are, parts_begin, body_layout}
use Rattle.compiler.proofs.units.parts_unit.Goals as goal

pub returns-clause-unit : goal.returns-clause-unit
returns-clause-unit c =
    parts_are c.args.base c.args.above.0 c.args.parts.sets.now (exps (map exp c.args.parts.passes.now)) (stas_of c.args.parts.body.now) c.args.parts.required c.args.parts.defaults.now c.in_ok-scratch.scratch c.in_ok-params.params c.in_ok-parameters.parameters c.args.out.now c.emit_constructor.new.out c.in_ok-unit.unit
    (c.in_ok-parameters.ensures ∙ ap (λ k. c.args.parts.required + k) c.in_ok-small.ensures) (c.in_ok-scratch.ensures ∙ ap (λ k. 1 + k) c.in_ok-most_open_all.ensures) c.in_ok-params.ensures
    (c.in_ok-emit_constructor.ensures ∙ ap (emit_constructor (body_layout c.args.base 1 c.in_ok-scratch.scratch true) c.args.above.0 c.args.parts.sets.now (exps (map exp c.args.parts.passes.now)) (stas_of c.args.parts.body.now) c.in_ok-parameters.parameters) c.begin.ensures) c.in_ok-unit.ensures

pub returns-clause-table : goal.returns-clause-table
returns-clause-table c =
    parts_begin c.args.base c.args.above.0 c.args.parts.sets.now (exps (map exp c.args.parts.passes.now)) (stas_of c.args.parts.body.now) c.args.parts.required c.args.parts.defaults.now c.in_ok-scratch.scratch c.in_ok-params.params c.in_ok-parameters.parameters c.args.out.now c.emit_constructor.new.out c.in_ok-unit.unit
    (c.in_ok-parameters.ensures ∙ ap (λ k. c.args.parts.required + k) c.in_ok-small.ensures) (c.in_ok-scratch.ensures ∙ ap (λ k. 1 + k) c.in_ok-most_open_all.ensures) c.in_ok-params.ensures
    (c.in_ok-emit_constructor.ensures ∙ ap (emit_constructor (body_layout c.args.base 1 c.in_ok-scratch.scratch true) c.args.above.0 c.args.parts.sets.now (exps (map exp c.args.parts.passes.now)) (stas_of c.args.parts.body.now) c.in_ok-parameters.parameters) c.begin.ensures) c.in_ok-unit.ensures
