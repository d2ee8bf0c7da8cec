use Rattle.std.proofs.Common.{◌≡◌, ◌+◌, ◌++◌, [], ◌∷◌, take, sym, ◌∙◌, subst}
use Rattle.std.specs.Prelude.{All}
use Rattle.std.proofs.lemmas.List.Elements.{All-push}
use Rattle.dart_values.specs.Store.{IsOf}
use Rattle.dart_values.proofs.Growth.{keeps_then}
use Rattle.dart_meaning.specs.Literals.{literal}
use Rattle.isolate_state.proofs.Grown.{all_kept}
use Rattle.isolate_state.proofs.Fills.{one_more, take_more}
use Rattle.isolate_state.proofs.literals.push_literals.Goals as goal

pub loop-literal-preserved : goal.loop-literal-preserved
loop-literal-preserved c = record {
  values = one_more literal c.args.heap.now c.loop-literal.heap c.literal_value.new.heap c.args.values.now.items c.loop-literal.values.items c.push.new.self.items c.args.literals.now c.loop-literal.literal-index
      c.literal-item.result c.in_ok-v.v c.loop-literal.invariant.values c.loop-literal.invariant.of_heap c.in_ok-v.ensures.keeps
      (take_more c.args.literals.now c.loop-literal.literal-index c.literal-item.result c.loop-literal-test.true c.literal-item.is)
      c.in_ok-v.ensures.value c.in_ok-push.ensures.items;
  of_heap = subst (All (IsOf c.literal_value.new.heap)) (sym c.in_ok-push.ensures.items)
      (All-push (IsOf c.literal_value.new.heap) c.loop-literal.values.items c.in_ok-v.v (all_kept c.loop-literal.heap c.literal_value.new.heap c.in_ok-v.ensures.keeps c.loop-literal.values.items c.loop-literal.invariant.of_heap) c.in_ok-v.ensures.of_heap);
  same = c.in_ok-v.ensures.same ∙ c.loop-literal.invariant.same;
  keeps = keeps_then c.args.heap.now c.loop-literal.heap c.literal_value.new.heap c.loop-literal.invariant.keeps c.in_ok-v.ensures.keeps;
}
