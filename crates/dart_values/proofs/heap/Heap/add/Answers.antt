use Rattle.dart_values.specs.Store.{Store}
use Rattle.dart_values.proofs.ListChanges.{refused, changed_whole, items_of, added}
use Rattle.std.proofs.lemmas.List.Elements.{All-push}
use Rattle.dart_values.specs.Store.{IsOf}
use Rattle.dart_values.proofs.heap.Heap.add.Goals as goal

pub returns-in_default-index_mut : goal.returns-in_default-index_mut
returns-in_default-index_mut c =
    let s : Store = record { things = c.self.inside.things.items; texts = c.self.inside.texts.items } in
    let within = rw c.in-Ref.is at c.requires.receiver in
    let here = rw (← c.self.view_is) at within in
    rw (← c.self.view_is, c.in-Ref.is) (refused s c.in-Ref.address c.index_mut.result.now here c.index_mut.ensures.value _ c.in_default-index_mut.not-List)

pub invariant_of-self-2 : goal.invariant_of-self-2
invariant_of-self-2 c =
    let s : Store = record { things = c.self.inside.things.items; texts = c.self.inside.texts.items } in
    let within = rw c.in-Ref.is at c.requires.receiver in
    let here = rw (← c.self.view_is) at within in
    let is = rw c.in-List.is at c.index_mut.ensures.value in
    let value = rw (← c.self.view_is) at c.requires.value in
    rw c.in_ok-push.ensures.ok
    (changed_whole s c.self.invariant c.in-Ref.address c.in-List.items here is _
    (All-push (IsOf s) c.in-List.items c.args.v (items_of s c.self.invariant c.in-Ref.address c.in-List.items here is) value))

pub returns : goal.returns
returns c =
    let s : Store = record { things = c.self.inside.things.items; texts = c.self.inside.texts.items } in
    let within = rw c.in-Ref.is at c.requires.receiver in
    let here = rw (← c.self.view_is) at within in
    let is = rw c.in-List.is at c.index_mut.ensures.value in
    rw (← c.self.view_is, c.in-Ref.is, c.in_ok-push.ensures.ok) (added s c.self.invariant c.in-Ref.address c.in-List.items here is c.args.v)
