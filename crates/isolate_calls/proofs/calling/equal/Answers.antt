use Rattle.std.proofs.Common.{rules, ◌≡◌, ◌-◌, ◌++◌, ◌∷◌, [], length, ap, sym, ◌∙◌}
use Rattle.program.specs.Program.{parts_of}
use Rattle.dart_values.specs.declared.value.Value.TheVariants as v
use Rattle.isolate_calls.proofs.Does.{equal_operands, can_send_equal, equal_did, equal_null}
use Rattle.isolate_calls.proofs.calling.equal.Goals as goal

pub returns-then-either_null-clause-equal : goal.returns-then-either_null-clause-equal
returns-then-either_null-clause-equal g c =
    let size : c.len-at.result ≡ length c.args.isolate.now.values.items = search rules in
    let enough = equal_operands (parts_of c.args.linked.now.program) c.args.pool.now (g.C.Cells.answers c.args.cells.now c.args.linked.now) c.args.site c.args.isolate.now c.args.frame.now c.args.turns.now c.requires.can in
    equal_null (parts_of c.args.linked.now.program) c.args.pool.now (g.C.Cells.answers c.args.cells.now c.args.linked.now) c.args.site c.args.isolate.now c.args.frame.now c.args.turns.now (c.len-at.result - 2) c.index-left.result.now c.index-right.result.now (ap (λ n. n - 2) size) enough c.index-left.ensures c.index-right.ensures (g.C.Cells.After c.args.cells.now) c.args.cells.now
    (record c.args.isolate.now { values = c.push.new.self }) c.both_null.result c.requires.held (g.met.C.Cells.after_none c.args.cells.now)
    (sym (c.either_null.ensures c.args.isolate.now.heap.texts) ∙ c.if-either_null.true) (c.both_null.ensures c.args.isolate.now.heap.texts)
    (c.in_ok-push.ensures.items ∙ ap (λ vs. vs ++ v.Bool c.both_null.result ∷ []) c.truncate.ensures.items)

pub send-requires-clause-can : goal.send-requires-clause-can
send-requires-clause-can g c =
    let size : c.len-at.result ≡ length c.args.isolate.now.values.items = search rules in
    can_send_equal (parts_of c.args.linked.now.program) c.args.pool.now (g.C.Cells.answers c.args.cells.now c.args.linked.now) c.args.site c.args.isolate.now c.args.frame.now c.args.turns.now (c.len-at.result - 2) c.index-left.result.now c.index-right.result.now (ap (λ n. n - 2) size)
    (equal_operands (parts_of c.args.linked.now.program) c.args.pool.now (g.C.Cells.answers c.args.cells.now c.args.linked.now) c.args.site c.args.isolate.now c.args.frame.now c.args.turns.now c.requires.can)
    c.index-left.ensures c.index-right.ensures (sym (c.either_null.ensures c.args.isolate.now.heap.texts) ∙ c.if-either_null.false) c.requires.can

pub returns-clause-equal : goal.returns-clause-equal
returns-clause-equal g c =
    let size : c.len-at.result ≡ length c.args.isolate.now.values.items = search rules in
    equal_did (parts_of c.args.linked.now.program) c.args.pool.now (g.C.Cells.answers c.args.cells.now c.args.linked.now) c.args.site c.args.isolate.now c.args.frame.now c.args.turns.now (c.len-at.result - 2) c.index-left.result.now c.index-right.result.now (ap (λ n. n - 2) size)
    (equal_operands (parts_of c.args.linked.now.program) c.args.pool.now (g.C.Cells.answers c.args.cells.now c.args.linked.now) c.args.site c.args.isolate.now c.args.frame.now c.args.turns.now c.requires.can)
    c.index-left.ensures c.index-right.ensures (g.C.Cells.After c.args.cells.now) c.send.new.cells c.send.new.isolate c.send.new.frame c.send.new.turns c.in_ok-flow.flow
    (sym (c.either_null.ensures c.args.isolate.now.heap.texts) ∙ c.if-either_null.false) c.in_ok-flow.ensures.sent
