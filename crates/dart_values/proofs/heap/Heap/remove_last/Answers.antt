use Rattle.dart_values.specs.Store.{Store, IsOf}
use Rattle.std.proofs.Common.{[]}
use Rattle.std.proofs.lemmas.List.Elements.{All-same, All-nil}
use Rattle.dart_values.proofs.ListChanges.{refused, changed_whole, rest_of, removed, none_removed}
use Rattle.dart_values.proofs.heap.Heap.remove_last.Goals as goal
use Rattle.dart_values.proofs.heap.Heap.remove_last.Goals.{in-Some, in-None}

pub returns-in_default-index_mut : goal.returns-in_default-index_mut
returns-in_default-index_mut c =
    let s : Store = record { things = c.self.inside.things.items; texts = c.self.inside.texts.items } in
    let within = rw c.in-Ref.is at c.requires in
    let here = rw (← c.self.view_is) at within in
    rw (← c.self.view_is, c.in-Ref.is) (refused s c.in-Ref.address c.index_mut.result.now here c.index_mut.ensures.value _ c.in_default-index_mut.not-List)

pub invariant_of-self-2 : goal.invariant_of-self-2
invariant_of-self-2 c =
    let s : Store = record { things = c.self.inside.things.items; texts = c.self.inside.texts.items } in
    let within = rw c.in-Ref.is at c.requires in
    let here = rw (← c.self.view_is) at within in
    let is = rw c.in-List.is at c.index_mut.ensures.value in
    elim c.match-pop.branch [
      | in-Some w ↦ changed_whole s c.self.invariant c.in-Ref.address c.in-List.items here is _ (rest_of s c.self.invariant c.in-Ref.address c.in-List.items here is c.pop.new.self w.in-Some.last w.in-Some.ensures).0
      | in-None w ↦ changed_whole s c.self.invariant c.in-Ref.address c.in-List.items here is _ (All-same (IsOf s) c.pop.new.self [] w.in-None.ensures.1 (All-nil (IsOf s)))
    ]

pub returns : goal.returns
returns c =
    let s : Store = record { things = c.self.inside.things.items; texts = c.self.inside.texts.items } in
    let within = rw c.in-Ref.is at c.requires in
    let here = rw (← c.self.view_is) at within in
    let is = rw c.in-List.is at c.index_mut.ensures.value in
    elim c.match-pop.branch [
      | in-Some w ↦ rw (← c.self.view_is, c.in-Ref.is, w.result-is) (removed s c.self.invariant c.in-Ref.address c.in-List.items here is c.pop.new.self w.in-Some.last w.in-Some.ensures)
      | in-None w ↦ rw (← c.self.view_is, c.in-Ref.is, w.result-is) (none_removed s c.self.invariant c.in-Ref.address c.in-List.items here is c.pop.new.self w.in-None.ensures.0 w.in-None.ensures.1)
    ]
