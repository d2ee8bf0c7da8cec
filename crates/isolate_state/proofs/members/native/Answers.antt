use Rattle.std.proofs.Common.{rules, ◌≡◌, ◌-◌, ◌+◌, ◌++◌, [], ◌∷◌, List, length, take, drop, ap, sym, ◌∙◌, refl}
use Rattle.program.specs.Program.{parts_of}
use Rattle.dart_values.specs.declared.value.Value.{Value}
use Rattle.dart_values.specs.Store.{Store}
use Rattle.isolate_state.proofs.Grown.{tail_is}
use Rattle.isolate_state.proofs.Receives.{answers_native, traps_native}
use Rattle.isolate_state.proofs.members.native.Goals as goal

pub returns-in_ok-push-in-Ok : goal.returns-in_ok-push-in-Ok
returns-in_ok-push-in-Ok c =
    let all : List Value = c.args.isolate.now.values.items in
    let at = c.len.result - c.args.n in
    let args : List Value = take (length c.deref.result.now - (at + 1)) (drop (at + 1) c.deref.result.now) in
    let size : c.len.result ≡ length all = search rules in
    answers_native (parts_of c.args.program.now) c.args.id c.args.n at c.args.isolate.now c.index-receiver.result.now args (ap (λ n. n - c.args.n) size) c.requires.some c.requires.operands
    c.index-receiver.ensures (tail_is c.deref.result.now all args (at + 1) refl c.deref.ensures.value)
    (record c.args.isolate.now { heap = c.native.new.self; values = c.push.new.self }) c.in-Ok.v c.in-Ok.ensures.answers c.in-Ok.ensures.of_heap c.in-Ok.ensures.keeps c.in-Ok.ensures.classes
    (c.in_ok-push-in-Ok.ensures.items ∙ ap (λ vs. vs ++ c.in-Ok.v ∷ []) c.truncate.ensures.items)

pub returns-in-Err-Trap : goal.returns-in-Err-Trap
returns-in-Err-Trap c =
    let all : List Value = c.args.isolate.now.values.items in
    let at = c.len.result - c.args.n in
    let args : List Value = take (length c.deref.result.now - (at + 1)) (drop (at + 1) c.deref.result.now) in
    let size : c.len.result ≡ length all = search rules in
    traps_native (parts_of c.args.program.now) c.args.id c.args.n at c.args.isolate.now c.index-receiver.result.now args (ap (λ n. n - c.args.n) size) c.requires.some c.requires.operands
    c.index-receiver.ensures (tail_is c.deref.result.now all args (at + 1) refl c.deref.ensures.value)
    _ c.in-Err-Trap.trap (rw c.in-Err-Trap.field-0-is at c.in-Err-Trap.ensures.answers)
    (ap (λ (h : Store). record c.args.isolate.now { heap = h; trap = c.in-Err-Trap.trap }) c.in-Err-Trap.ensures.err)
