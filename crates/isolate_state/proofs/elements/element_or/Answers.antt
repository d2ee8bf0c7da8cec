use Rattle.std.proofs.Common.{◌≡◌, ◌++◌, [], ◌∷◌, ◌+◌, sym, ap, ◌∙◌}
use Rattle.std.specs.Option.{option_map}
use Rattle.std.specs.Prelude.{pos}
use Rattle.dart_values.specs.Store.{IsOf, value_of}
use Rattle.isolate_state.proofs.Moves.{below_is}
use Rattle.isolate_state.proofs.Things.{no_number_there, no_element_there, element_there}
use Rattle.isolate_state.proofs.elements.element_or.Goals as goal

pub element-requires : goal.element-requires
element-requires c =
    (below_is (IsOf c.args.isolate.now.heap) c.take_last-number.new.self.items c.take_last-list.new.self.items c.take_last-list.result c.take_last-list.ensures.items
    (below_is (IsOf c.args.isolate.now.heap) c.args.isolate.now.values.items c.take_last-number.new.self.items c.take_last-number.result c.take_last-number.ensures.items c.requires.held).0).1

pub returns-in_default : goal.returns-in_default
returns-in_default c =
    no_number_there c.args.to c.args.isolate.now (record c.args.isolate.now { values = c.take_last-number.new.self }) (record c.args.isolate.now { values = c.take_last-list.new.self }) c.args.frame.now
    c.take_last-list.result c.take_last-number.result c.take_last-number.ensures.items c.take_last-list.ensures.items (sym (c.place_in.ensures c.args.isolate.now.heap.texts) ∙ c.in_default.is)

pub returns-in_default-element : goal.returns-in_default-element
returns-in_default-element c =
    no_element_there c.args.to c.args.isolate.now (record c.args.isolate.now { values = c.take_last-number.new.self }) (record c.args.isolate.now { values = c.take_last-list.new.self }) c.args.frame.now
    c.take_last-list.result c.take_last-number.result c.take_last-number.ensures.items c.take_last-list.ensures.items c.in-Some.at (sym (c.place_in.ensures c.args.isolate.now.heap.texts) ∙ c.in-Some.is)
    (sym c.element.ensures.value ∙ ap (option_map (value_of c.args.isolate.now.heap)) c.in_default-element.is)

pub returns : goal.returns
returns c =
    element_there c.args.to c.args.isolate.now (record c.args.isolate.now { values = c.take_last-number.new.self }) (record c.args.isolate.now { values = c.take_last-list.new.self }) c.args.frame.now
    c.take_last-list.result c.take_last-number.result c.take_last-number.ensures.items c.take_last-list.ensures.items c.in-Some.at
    (record c.args.isolate.now { values = c.push.new.self }) (record c.args.isolate.now { values = c.push-2.new.self }) c.in-Some-element.item
    (sym (c.place_in.ensures c.args.isolate.now.heap.texts) ∙ c.in-Some.is)
    (sym c.element.ensures.value ∙ ap (option_map (value_of c.args.isolate.now.heap)) c.in-Some-element.is)
    c.in-Some-element.ensures.of_heap c.in_ok-push.ensures.items
    (c.in_ok-push-2.ensures.items ∙ ap (λ w. c.push.new.self.items ++ w ∷ []) c.in-Some-number_behind.ensures)
