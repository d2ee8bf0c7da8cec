use Rattle.std.proofs.Common.{rules, ◌≡◌, ◌<◌, ◌++◌, [], ◌∷◌, ℕ, List, length, slice_index_or, sym, ap, ◌∙◌, subst, Some}
use Rattle.std.specs.Prelude.{All}
use Rattle.std.proofs.lemmas.List.Elements.{All-pop}
use Rattle.program.specs.declared.ids.ClassId.{ClassId}
use Rattle.program.specs.declared.numbered.Class.{Class}
use Rattle.program.specs.Program.{parts_of}
use Rattle.dart_values.specs.Store.{values_of}
use Rattle.dart_values.proofs.Growth.{keeps_then}
use Rattle.dart_meaning.specs.Numbered.{fields}
use Rattle.isolate_state.proofs.Chains.{one_class}
use Rattle.isolate_state.proofs.fields.fresh_fields.Goals as goal

pub loop-class-preserved : goal.loop-class-preserved
loop-class-preserved c =
    let parts = All-pop (λ (k : ClassId). k.0 < length c.args.program.now.classes) c.loop-class.above.items c.pop.new.self.items (Some c.in-Some.class) c.in-Some.ensures.items c.loop-class.invariant.there in
    record {
      values = one_class (parts_of c.args.program.now) c.pop.new.self.items c.loop-class.above.items c.in-Some.class c.index-as_slice-class.result c.as_slice-declared.result.now
          (values_of c.loop-class.heap c.loop-class.values.items) (values_of c.push_fields.new.heap c.push_fields.new.values.items) (fields (parts_of c.args.program.now) c.args.c.0) parts.1
          (c.as_slice-declared.ensures ∙ ap (λ (cs : List Class). (slice_index_or cs c.in-Some.class.0 c.index-as_slice-class.result).fields) c.as_slice.ensures)
          c.in-Some.ensures.items c.loop-class.invariant.values c.in_ok-push_fields.ensures.values;
      there = parts.0;
      of_heap = c.in_ok-push_fields.ensures.of_heap;
      same = c.in_ok-push_fields.ensures.same ∙ c.loop-class.invariant.same;
      keeps = keeps_then c.args.heap.now c.loop-class.heap c.push_fields.new.heap c.loop-class.invariant.keeps c.in_ok-push_fields.ensures.keeps;
    }
