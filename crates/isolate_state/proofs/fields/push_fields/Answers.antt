use Rattle.std.proofs.Common.{◌≡◌, ◌+◌, ◌++◌, [], ◌∷◌, take, sym, ◌∙◌, subst}
use Rattle.std.specs.Prelude.{All}
use Rattle.std.proofs.lemmas.List.Elements.{All-push}
use Rattle.dart_values.specs.Store.{IsOf}
use Rattle.dart_values.proofs.Growth.{keeps_then}
use Rattle.program.specs.declared.numbered.Field.{Field}
use Rattle.dart_meaning.specs.Literals.{literal}
use Rattle.isolate_state.proofs.Grown.{all_kept}
use Rattle.isolate_state.proofs.Fills.{one_more, take_more}
use Rattle.isolate_state.proofs.fields.push_fields.Goals as goal

pub loop-field-preserved : goal.loop-field-preserved
loop-field-preserved c = record {
  values = one_more (λ (f : Field). literal f.value) c.args.heap.now c.loop-field.heap c.literal_value.new.heap c.args.values.now.items c.loop-field.values.items c.push.new.self.items c.args.fields.now c.loop-field.field-index
      c.field-item.result c.in_ok-v.v c.loop-field.invariant.values c.loop-field.invariant.of_heap c.in_ok-v.ensures.keeps
      (take_more c.args.fields.now c.loop-field.field-index c.field-item.result c.loop-field-test.true c.field-item.is)
      c.in_ok-v.ensures.value c.in_ok-push.ensures.items;
  of_heap = subst (All (IsOf c.literal_value.new.heap)) (sym c.in_ok-push.ensures.items)
      (All-push (IsOf c.literal_value.new.heap) c.loop-field.values.items c.in_ok-v.v (all_kept c.loop-field.heap c.literal_value.new.heap c.in_ok-v.ensures.keeps c.loop-field.values.items c.loop-field.invariant.of_heap) c.in_ok-v.ensures.of_heap);
  same = c.in_ok-v.ensures.same ∙ c.loop-field.invariant.same;
  keeps = keeps_then c.args.heap.now c.loop-field.heap c.literal_value.new.heap c.loop-field.invariant.keeps c.in_ok-v.ensures.keeps;
}
