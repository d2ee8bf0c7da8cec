use Rattle.std.proofs.Common.{◌∙◌, ap, sym, map, length, ◌++◌, ◌+◌, flat_map}
use Rattle.std.specs.Prelude.{filter_map}
use Rattle.dart_syntax.specs.View.{top, unit}
use Rattle.dart_meaning.specs.Classes.{class_at}
use Rattle.tree_numbers.specs.Maps.{Known, in_map, nothing_known}
use Rattle.tree_numbers.specs.Parts.{class_of, texts}
use Rattle.tree_numbers.specs.Places.{also_placed}
use Rattle.tree_numbers.specs.ClassFacts.{Facts, knows, also_classes}
use Rattle.tree_numbers.specs.Order.{above_in}
use Rattle.tree_numbers.specs.Members.{keys_of, keys_in, built_in_key, held, no_members, also_keyed}
use Rattle.tree_numbers.proofs.Climbing.{length-mapped}
use Rattle.tree_numbers.proofs.Told.{order_by, known_is, levels_is, order_is, numbers_is, members_is, functions_is, variables_is}
use Rattle.tree_numbers.proofs.tables.TreeNumbers.of.Goals as goal

pub invariant_of-result : goal.invariant_of-result
invariant_of-result c =
    let tree = unit c.args.tree.now in
    let ts = map top c.as_slice-tops.result.now in
    let cs = map class_of c.in_ok-decls.decls.items in
    let known = knows c.in_ok-classes.classes in
    let order = c.in_ok-order.order.items in
    let tops_are = ap (map top) c.as_slice-tops.ensures in
    let classes_are = c.in_ok-decls.ensures ∙ ap (λ xs. filter_map class_at (map top xs)) c.as_slice-tops.ensures in
    let k = known_is tree ts cs tops_are classes_are known (c.in_ok-classes.ensures ∙ ap (λ xs. also_classes (map class_of xs) nothing_known) c.deref-2.ensures.value) in
    let l = levels_is tree ts cs tops_are classes_are c.in_ok-levels.levels (length c.in_ok-decls.decls.items) (c.in_ok-levels.ensures ∙ ap (λ xs. 6 + length xs) c.deref.ensures.value) (sym (length-mapped class_of c.in_ok-decls.decls.items)) in
    let o = order_is tree ts cs tops_are classes_are known c.in_ok-levels.levels (texts order) k l (c.in_ok-order.ensures ∙ ap (λ xs. order_by c.in_ok-levels.levels (above_in known) (map class_of xs)) c.deref-3.ensures.value) in
    record {
      exact = ∣ record {
        built_in_are = c.requires;
        classes_are = λ q. ap (λ (m : Known Facts). m q) k;
        levels_are = l;
        order_is = o;
        numbers_are = numbers_is tree ts cs tops_are classes_are (texts order) (in_map c.in_ok-numbers.numbers) o (c.in_ok-numbers.ensures ∙ ap (λ xs. also_placed 0 (texts xs) nothing_known) c.deref-4.ensures.value);
        members_are = members_is tree ts cs tops_are classes_are (texts order) c.args.built_in.now (keys_of c.in_ok-keys.keys.items) (held c.in_ok-members.members) o c.requires
            (c.in_ok-keys.ensures
            ∙ ap (λ xs. map (built_in_key xs) c.args.built_in.now ++ flat_map keys_in (map class_of c.deref-6.result.now)) c.deref-5.ensures.value
            ∙ ap (λ xs. map (built_in_key order) c.args.built_in.now ++ flat_map keys_in (map class_of xs)) c.deref-6.ensures.value)
            (c.in_ok-members.ensures ∙ ap (λ xs. also_keyed 0 (keys_of xs) no_members) c.deref-7.ensures.value);
        functions_are = functions_is tree ts cs tops_are classes_are (texts c.in_ok-function_names.field-0.items) (in_map c.in_ok-functions.functions) c.in_ok-function_names.ensures (c.in_ok-functions.ensures ∙ ap (λ xs. also_placed 0 (texts xs) nothing_known) c.deref-8.ensures.value);
        variables_are = variables_is tree ts cs tops_are classes_are (texts c.in_ok-variable_names.field-0.items) (in_map c.in_ok-variables.variables) c.in_ok-variable_names.ensures (c.in_ok-variables.ensures ∙ ap (λ xs. also_placed 0 (texts xs) nothing_known) c.deref-9.ensures.value);
      } ∣₁;
    }

pub returns-clause-classes : goal.returns-clause-classes
returns-clause-classes c =
    let tree = unit c.args.tree.now in
    let ts = map top c.as_slice-tops.result.now in
    let cs = map class_of c.in_ok-decls.decls.items in
    known_is tree ts cs (ap (map top) c.as_slice-tops.ensures) (c.in_ok-decls.ensures ∙ ap (λ xs. filter_map class_at (map top xs)) c.as_slice-tops.ensures) (knows c.in_ok-classes.classes)
    (c.in_ok-classes.ensures ∙ ap (λ xs. also_classes (map class_of xs) nothing_known) c.deref-2.ensures.value)
