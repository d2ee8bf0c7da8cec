use Rattle.dart_values.specs.Store.{Store, IsOf}
use Rattle.std.proofs.Common.{sym}
use Rattle.std.proofs.lemmas.List.Elements.{All-set}
use Rattle.dart_values.proofs.ListChanges.{refused, changed_whole, items_of, set_done, set_refused, trapped}
use Rattle.dart_values.proofs.heap.Heap.set_element.Goals as goal

pub returns-in_default-index_mut : goal.returns-in_default-index_mut
returns-in_default-index_mut c =
    let s : Store = record { things = c.self.inside.things.items; texts = c.self.inside.texts.items } in
    let within = rw c.in-Ref.is at c.requires.receiver in
    let here = rw (← c.self.view_is) at within in
    rw (← c.self.view_is, c.in-Ref.is) (refused s c.in-Ref.address c.index_mut.result.now here c.index_mut.ensures.value _ c.in_default-index_mut.not-List)

pub returns-in_err-at : goal.returns-in_err-at
returns-in_err-at c =
    let s : Store = record { things = c.self.inside.things.items; texts = c.self.inside.texts.items } in
    let within = rw c.in-Ref.is at c.requires.receiver in
    let here = rw (← c.self.view_is) at within in
    let is = rw c.in-List.is at c.index_mut.ensures.value in
    let t = c.in_err-at.field-0.0 in
    let g = c.in_err-at.ensures.value s.texts in
    rw (← c.self.view_is, c.in-Ref.is, trapped c.from_residual.result t c.from_residual.ensures.1)
    (set_refused s c.self.invariant c.in-Ref.address c.in-List.items here is t c.args.v c.args.w (rw (← c.len.ensures) (sym g)))

pub invariant_of-self-2 : goal.invariant_of-self-2
invariant_of-self-2 c =
    let s : Store = record { things = c.self.inside.things.items; texts = c.self.inside.texts.items } in
    let within = rw c.in-Ref.is at c.requires.receiver in
    let here = rw (← c.self.view_is) at within in
    let is = rw c.in-List.is at c.index_mut.ensures.value in
    let value = rw (← c.self.view_is) at c.requires.value in
    rw c.set.ensures
    (changed_whole s c.self.invariant c.in-Ref.address c.in-List.items here is _
    (All-set (IsOf s) c.in-List.items c.in_ok-at.at c.args.w value (items_of s c.self.invariant c.in-Ref.address c.in-List.items here is)))

pub returns : goal.returns
returns c =
    let s : Store = record { things = c.self.inside.things.items; texts = c.self.inside.texts.items } in
    let within = rw c.in-Ref.is at c.requires.receiver in
    let here = rw (← c.self.view_is) at within in
    let is = rw c.in-List.is at c.index_mut.ensures.value in
    let g = c.in_ok-at.ensures.value s.texts in
    rw (← c.self.view_is, c.in-Ref.is, c.set.ensures) (set_done s c.self.invariant c.in-Ref.address c.in-List.items here is c.in_ok-at.at c.args.v c.args.w (rw (← c.len.ensures) (sym g)))
