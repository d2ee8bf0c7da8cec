use Rattle.std.proofs.Common.{rules, ◌≡◌, ◌-◌, ◌+◌, length, List, ◌++◌, [], ◌∷◌, ap, ◌∙◌}
use Rattle.dart_values.specs.declared.value.Value.{Value}
use Rattle.dart_values.specs.Values.{Text, at, list, invocation}
use Rattle.dart_values.specs.Store.{values_of, heap_of}
use Rattle.isolate_state.proofs.Grown.{tail_is}
use Rattle.isolate_calls.proofs.Invocations.{invokes}
use Rattle.isolate_calls.proofs.missing.put_invocation.Goals as goal

pub returns : goal.returns
returns c =
    let all : List Value = c.args.isolate.now.values.items in
    let behind = c.len.result - c.args.n + 1 in
    let end = tail_is c.deref.result.now all c.in_ok-args.args.items behind c.in_ok-args.ensures.items c.deref.ensures.value in
    let size : c.len.result ≡ length all = search rules in
    invokes c.args.sel.now c.args.n behind c.args.isolate.now (record c.args.isolate.now { heap = c.invocation.new.self; values = c.push.new.self }) c.in_ok-args.args.items c.in_ok-v.v (ap (λ n. n - c.args.n + 1) size)
    c.requires.some c.requires.operands c.requires.held end c.in_ok-v.ensures.value
    (c.in_ok-v.ensures.heap ∙ ap (λ (name : Text). heap_of c.args.isolate.now.heap ++ (list (values_of c.args.isolate.now.heap c.in_ok-args.args.items) ∷ invocation name (at (length (heap_of c.args.isolate.now.heap))) c.args.sel.now.kind ∷ [])) c.in_ok-name.ensures)
    c.in_ok-v.ensures.of_heap c.in_ok-v.ensures.keeps (c.in_ok-push.ensures.items ∙ ap (λ vs. vs ++ c.in_ok-v.v ∷ []) c.truncate.ensures.items)
