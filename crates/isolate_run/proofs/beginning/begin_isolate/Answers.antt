use Rattle.std.proofs.Common.{rules, ◌∙◌, ap}
use Rattle.program.specs.Program.{parts_of}
use Rattle.dart_values.specs.Store.{heap_of}
use Rattle.isolate_state.proofs.Grown.{all_kept, shown_kept}
use Rattle.isolate_run.proofs.Begins.{begun}
use Rattle.isolate_run.proofs.beginning.begin_isolate.Goals as goal

pub returns : goal.returns
returns c =
    let heap = c.values_of_literals-2.new.heap in
    let keeps = c.in_ok-globals.ensures.keeps in
    let constants = c.in_ok-constants.constants.items in
    begun (parts_of c.args.linked.now.program) c.args.pool.now c.args.u _ c.unit.result.now c.args.linked.now.program.sound c.unit.ensures c.requires.none
    (c.in_ok-globals.ensures.same ∙ c.in_ok-constants.ensures.same ∙ ap heap_of c.build-heap.ensures) (search rules) (search rules) (search rules)
    (search rules) (search rules) (shown_kept c.values_of_literals.new.heap heap keeps constants c.in_ok-constants.ensures.of_heap ∙ search rules)
    (all_kept c.values_of_literals.new.heap heap keeps constants c.in_ok-constants.ensures.of_heap) (search rules)
