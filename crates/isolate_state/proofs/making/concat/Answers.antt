use Rattle.std.proofs.Common.{rules, refl, ◌≡◌, ◌-◌, length, drop, take, List, ◌++◌, [], ◌∷◌, sym, ap, ◌∙◌, subst}
use Rattle.std.specs.Prelude.{All}
use Rattle.std.proofs.lemmas.List.Elements.{All-drop}
use Rattle.dart_values.specs.declared.value.Value.{Value}
use Rattle.dart_values.specs.Values.{text}
use Rattle.dart_values.specs.Reads.{joined}
use Rattle.dart_values.specs.Store.{IsOf, values_of}
use Rattle.isolate_state.proofs.Grown.{tail_is}
use Rattle.isolate_state.proofs.Makes.{joins}
use Rattle.isolate_state.proofs.making.concat.Goals as goal

pub concat-requires : goal.concat-requires
concat-requires c =
    let all : List Value = c.args.isolate.now.values.items in
    let k = c.len.result - c.args.n in
    let end = tail_is c.deref.result.now all _ k refl c.deref.ensures.value in
    subst (All (IsOf c.args.isolate.now.heap)) (sym end) (All-drop (IsOf c.args.isolate.now.heap) k all c.requires.held)

pub returns : goal.returns
returns c =
    let all : List Value = c.args.isolate.now.values.items in
    let k = c.len.result - c.args.n in
    let end = tail_is c.deref.result.now all (take (length c.deref.result.now - k) (drop k c.deref.result.now)) k refl c.deref.ensures.value in
    let size : c.len.result ≡ length all = search rules in
    joins c.args.n k c.args.isolate.now (record c.args.isolate.now { heap = c.concat.new.self; values = c.push.new.self }) c.in_ok-v.v (ap (λ n. n - c.args.n) size) c.requires.operands
    c.in_ok-v.ensures.keeps
    (c.in_ok-v.ensures.value ∙ ap (λ items. text (joined (values_of c.args.isolate.now.heap items))) end)
    c.in_ok-v.ensures.heap
    c.in_ok-v.ensures.of_heap
    (c.in_ok-push.ensures.items ∙ ap (λ vs. vs ++ c.in_ok-v.v ∷ []) c.truncate.ensures.items)
