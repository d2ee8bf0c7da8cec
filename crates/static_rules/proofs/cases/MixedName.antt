-- Texts that break MixedName, each with its place, §, and texts that are accepted.
use Rattle.std.proofs.Common.{◌≡◌, refl}
use Rattle.std.specs.Prelude.{[], ◌∷◌, Some, None, codes, true, false, pos}
use Rattle.dart_syntax.specs.declared.tree.Operator.TheVariants as o
use Rattle.dart_syntax.specs.Syntax as t
use Rattle.dart_syntax.specs.Syntax.{exps, stas, a_local, a_param, function_of, class_of, tree_of}
use Rattle.static_rules.specs.declared.rule.Rule.TheVariants.{MixedName}
use Rattle.static_rules.specs.Accepted.{failing}
use Rattle.static_rules.specs.DuplicateName.{duplicate_name}
use Rattle.static_rules.specs.Supers.{unknown_super, cycle_in_super, super_is_builtin}
use Rattle.static_rules.specs.UndefinedName.{undefined_name}
use Rattle.static_rules.specs.MixedName.{mixed_name}
use Rattle.static_rules.specs.TearOff.{tear_off}
use Rattle.static_rules.specs.BadOverride.{bad_override}
use Rattle.static_rules.specs.AbstractMade.{abstract_made}
use Rattle.static_rules.specs.FinalWritten.{final_written}
use Rattle.static_rules.specs.BadReturnPlace.{bad_return_place}
use Rattle.static_rules.specs.Shadowed.{shadowed}
use Rattle.static_rules.specs.WrongArgumentsOfStatic.{wrong_arguments_of_static}
use Rattle.static_rules.proofs.cases.Words.{n, sp}

-- class A { m() {} } class B { get §m => 1; }
a_getter_behind_a_method : failing (tree_of
    (t.a_class (class_of false (n (codes "A") 6) None [] (t.method (n (codes "m") 10) [] (Some (t.code (stas []))) ∷ []))
    ∷ t.a_class (class_of false (n (codes "B") 25) None [] (t.getter (n (codes "m") 33) (Some (t.arrow (t.int (pos 1) (sp 38 1)))) ∷ []))
    ∷ [])) ≡ Some (MixedName, sp 33 1)
unfolding duplicate_name unknown_super cycle_in_super super_is_builtin undefined_name mixed_name tear_off bad_override abstract_made final_written bad_return_place shadowed wrong_arguments_of_static
a_getter_behind_a_method = refl

-- class B { get m => 1; } class A { §m() {} }
a_method_behind_a_getter : failing (tree_of
    (t.a_class (class_of false (n (codes "B") 6) None [] (t.getter (n (codes "m") 14) (Some (t.arrow (t.int (pos 1) (sp 19 1)))) ∷ []))
    ∷ t.a_class (class_of false (n (codes "A") 30) None [] (t.method (n (codes "m") 34) [] (Some (t.code (stas []))) ∷ []))
    ∷ [])) ≡ Some (MixedName, sp 34 1)
unfolding duplicate_name unknown_super cycle_in_super super_is_builtin undefined_name mixed_name tear_off bad_override abstract_made final_written bad_return_place shadowed wrong_arguments_of_static
a_method_behind_a_getter = refl

-- class A { var m; } class B { §m() => 1; }
a_method_behind_a_field : failing (tree_of
    (t.a_class (class_of false (n (codes "A") 6) None [] (t.field (a_local false (n (codes "m") 14) None) ∷ []))
    ∷ t.a_class (class_of false (n (codes "B") 25) None [] (t.method (n (codes "m") 29) [] (Some (t.arrow (t.int (pos 1) (sp 36 1)))) ∷ []))
    ∷ [])) ≡ Some (MixedName, sp 29 1)
unfolding duplicate_name unknown_super cycle_in_super super_is_builtin undefined_name mixed_name tear_off bad_override abstract_made final_written bad_return_place shadowed wrong_arguments_of_static
a_method_behind_a_field = refl

-- class A { m() => 1; } class B { set §m(v) {} }
a_setter_behind_a_method : failing (tree_of
    (t.a_class (class_of false (n (codes "A") 6) None [] (t.method (n (codes "m") 10) [] (Some (t.arrow (t.int (pos 1) (sp 17 1)))) ∷ []))
    ∷ t.a_class (class_of false (n (codes "B") 28) None [] (t.setter (n (codes "m") 36) (a_param false false (n (codes "v") 38)) (Some (t.code (stas []))) ∷ []))
    ∷ [])) ≡ Some (MixedName, sp 36 1)
unfolding duplicate_name unknown_super cycle_in_super super_is_builtin undefined_name mixed_name tear_off bad_override abstract_made final_written bad_return_place shadowed wrong_arguments_of_static
a_setter_behind_a_method = refl

-- abstract class A { m(); } class B { final §m = 1; }
a_field_behind_an_abstract_method : failing (tree_of
    (t.a_class (class_of true (n (codes "A") 15) None [] (t.method (n (codes "m") 19) [] None ∷ []))
    ∷ t.a_class (class_of false (n (codes "B") 32) None [] (t.field (a_local true (n (codes "m") 42) (Some (t.int (pos 1) (sp 46 1)))) ∷ []))
    ∷ [])) ≡ Some (MixedName, sp 42 1)
unfolding duplicate_name unknown_super cycle_in_super super_is_builtin undefined_name mixed_name tear_off bad_override abstract_made final_written bad_return_place shadowed wrong_arguments_of_static
a_field_behind_an_abstract_method = refl

-- class A { get §toString => 1; }
a_built_in_method : failing (tree_of (t.a_class (class_of false (n (codes "A") 6) None [] (t.getter (n (codes "toString") 14) (Some (t.arrow (t.int (pos 1) (sp 26 1)))) ∷ [])) ∷ [])) ≡ Some (MixedName, sp 14 8)
unfolding duplicate_name unknown_super cycle_in_super super_is_builtin undefined_name mixed_name tear_off bad_override abstract_made final_written bad_return_place shadowed wrong_arguments_of_static
a_built_in_method = refl

-- class A { §length() => 1; }
a_built_in_getter : failing (tree_of (t.a_class (class_of false (n (codes "A") 6) None [] (t.method (n (codes "length") 10) [] (Some (t.arrow (t.int (pos 1) (sp 22 1)))) ∷ [])) ∷ [])) ≡ Some (MixedName, sp 10 6)
unfolding duplicate_name unknown_super cycle_in_super super_is_builtin undefined_name mixed_name tear_off bad_override abstract_made final_written bad_return_place shadowed wrong_arguments_of_static
a_built_in_getter = refl

-- class A { var §add; }
a_method_of_lists : failing (tree_of (t.a_class (class_of false (n (codes "A") 6) None [] (t.field (a_local false (n (codes "add") 14) None) ∷ [])) ∷ [])) ≡ Some (MixedName, sp 14 3)
unfolding duplicate_name unknown_super cycle_in_super super_is_builtin undefined_name mixed_name tear_off bad_override abstract_made final_written bad_return_place shadowed wrong_arguments_of_static
a_method_of_lists = refl

-- class A { §memberName() => 1; }
a_getter_of_invocations : failing (tree_of (t.a_class (class_of false (n (codes "A") 6) None [] (t.method (n (codes "memberName") 10) [] (Some (t.arrow (t.int (pos 1) (sp 26 1)))) ∷ [])) ∷ [])) ≡ Some (MixedName, sp 10 10)
unfolding duplicate_name unknown_super cycle_in_super super_is_builtin undefined_name mixed_name tear_off bad_override abstract_made final_written bad_return_place shadowed wrong_arguments_of_static
a_getter_of_invocations = refl

-- class A { m() {} } class B { get §m => 1; } class C { get m => 2; }
the_first_of_two : failing (tree_of
    (t.a_class (class_of false (n (codes "A") 6) None [] (t.method (n (codes "m") 10) [] (Some (t.code (stas []))) ∷ []))
    ∷ t.a_class (class_of false (n (codes "B") 25) None [] (t.getter (n (codes "m") 33) (Some (t.arrow (t.int (pos 1) (sp 38 1)))) ∷ []))
    ∷ t.a_class (class_of false (n (codes "C") 49) None [] (t.getter (n (codes "m") 57) (Some (t.arrow (t.int (pos 2) (sp 62 1)))) ∷ []))
    ∷ [])) ≡ Some (MixedName, sp 33 1)
unfolding duplicate_name unknown_super cycle_in_super super_is_builtin undefined_name mixed_name tear_off bad_override abstract_made final_written bad_return_place shadowed wrong_arguments_of_static
the_first_of_two = refl

-- class A { get §add => 1; } class B { m() {} } class C { get m => 1; }
a_built_in_one_before_others : failing (tree_of
    (t.a_class (class_of false (n (codes "A") 6) None [] (t.getter (n (codes "add") 14) (Some (t.arrow (t.int (pos 1) (sp 21 1)))) ∷ []))
    ∷ t.a_class (class_of false (n (codes "B") 32) None [] (t.method (n (codes "m") 36) [] (Some (t.code (stas []))) ∷ []))
    ∷ t.a_class (class_of false (n (codes "C") 51) None [] (t.getter (n (codes "m") 59) (Some (t.arrow (t.int (pos 1) (sp 64 1)))) ∷ []))
    ∷ [])) ≡ Some (MixedName, sp 14 3)
unfolding duplicate_name unknown_super cycle_in_super super_is_builtin undefined_name mixed_name tear_off bad_override abstract_made final_written bad_return_place shadowed wrong_arguments_of_static
a_built_in_one_before_others = refl

-- class A { add(v) => 1; } class B { get §add => 1; }
one_that_agrees_with_the_built_in : failing (tree_of
    (t.a_class
    (class_of false (n (codes "A") 6) None []
    (t.method (n (codes "add") 10) (a_param false false (n (codes "v") 14) ∷ []) (Some (t.arrow (t.int (pos 1) (sp 20 1)))) ∷ []))
    ∷ t.a_class (class_of false (n (codes "B") 31) None [] (t.getter (n (codes "add") 39) (Some (t.arrow (t.int (pos 1) (sp 46 1)))) ∷ []))
    ∷ [])) ≡ Some (MixedName, sp 39 3)
unfolding duplicate_name unknown_super cycle_in_super super_is_builtin undefined_name mixed_name tear_off bad_override abstract_made final_written bad_return_place shadowed wrong_arguments_of_static
one_that_agrees_with_the_built_in = refl

-- class A { get x => 1; } class B { var x; } class C { set x(v) {} }
accepted-accessors_in_two_classes : failing (tree_of
    (t.a_class (class_of false (n (codes "A") 6) None [] (t.getter (n (codes "x") 14) (Some (t.arrow (t.int (pos 1) (sp 19 1)))) ∷ []))
    ∷ t.a_class (class_of false (n (codes "B") 30) None [] (t.field (a_local false (n (codes "x") 38) None) ∷ []))
    ∷ t.a_class (class_of false (n (codes "C") 49) None [] (t.setter (n (codes "x") 57) (a_param false false (n (codes "v") 59)) (Some (t.code (stas []))) ∷ []))
    ∷ [])) ≡ None
unfolding duplicate_name unknown_super cycle_in_super super_is_builtin undefined_name mixed_name tear_off bad_override abstract_made final_written bad_return_place shadowed wrong_arguments_of_static
accepted-accessors_in_two_classes = refl

-- class A { m() => 1; } class B { m(x) => 2; }
accepted-methods_in_two_classes : failing (tree_of
    (t.a_class (class_of false (n (codes "A") 6) None [] (t.method (n (codes "m") 10) [] (Some (t.arrow (t.int (pos 1) (sp 17 1)))) ∷ []))
    ∷ t.a_class
    (class_of false (n (codes "B") 28) None []
    (t.method (n (codes "m") 32) (a_param false false (n (codes "x") 34) ∷ []) (Some (t.arrow (t.int (pos 2) (sp 40 1)))) ∷ []))
    ∷ [])) ≡ None
unfolding duplicate_name unknown_super cycle_in_super super_is_builtin undefined_name mixed_name tear_off bad_override abstract_made final_written bad_return_place shadowed wrong_arguments_of_static
accepted-methods_in_two_classes = refl

-- class A { get length => 1; } class B { final isEmpty = true; }
accepted-a_getter_as_the_built_in_one : failing (tree_of
    (t.a_class (class_of false (n (codes "A") 6) None [] (t.getter (n (codes "length") 14) (Some (t.arrow (t.int (pos 1) (sp 24 1)))) ∷ []))
    ∷ t.a_class (class_of false (n (codes "B") 35) None [] (t.field (a_local true (n (codes "isEmpty") 45) (Some (t.bool true (sp 55 4)))) ∷ []))
    ∷ [])) ≡ None
unfolding duplicate_name unknown_super cycle_in_super super_is_builtin undefined_name mixed_name tear_off bad_override abstract_made final_written bad_return_place shadowed wrong_arguments_of_static
accepted-a_getter_as_the_built_in_one = refl

-- class A { add(v) => 1; toString() => 'a'; }
accepted-a_method_as_the_built_in_one : failing (tree_of
    (t.a_class
    (class_of false (n (codes "A") 6) None []
    (t.method (n (codes "add") 10) (a_param false false (n (codes "v") 14) ∷ []) (Some (t.arrow (t.int (pos 1) (sp 20 1))))
    ∷ t.method (n (codes "toString") 23) [] (Some (t.arrow (t.str (codes "a") (sp 37 3))))
    ∷ []))
    ∷ [])) ≡ None
unfolding duplicate_name unknown_super cycle_in_super super_is_builtin undefined_name mixed_name tear_off bad_override abstract_made final_written bad_return_place shadowed wrong_arguments_of_static
accepted-a_method_as_the_built_in_one = refl

-- m() {} class A { get m => 1; }
accepted-a_function_and_a_getter : failing (tree_of
    (t.a_function (function_of false (n (codes "m") 0) [] (t.code (stas [])))
    ∷ t.a_class (class_of false (n (codes "A") 13) None [] (t.getter (n (codes "m") 21) (Some (t.arrow (t.int (pos 1) (sp 26 1)))) ∷ []))
    ∷ [])) ≡ None
unfolding duplicate_name unknown_super cycle_in_super super_is_builtin undefined_name mixed_name tear_off bad_override abstract_made final_written bad_return_place shadowed wrong_arguments_of_static
accepted-a_function_and_a_getter = refl

-- class A { m() => 1; } main() { var m = 1; print(m); }
accepted-a_local_and_a_method : failing (tree_of
    (t.a_class (class_of false (n (codes "A") 6) None [] (t.method (n (codes "m") 10) [] (Some (t.arrow (t.int (pos 1) (sp 17 1)))) ∷ []))
    ∷ t.a_function
    (function_of false (n (codes "main") 22) []
    (t.code
    (stas
    (t.local (a_local false (n (codes "m") 35) (Some (t.int (pos 1) (sp 39 1))))
    ∷ t.run (t.call (n (codes "print") 42) (exps (t.bare (n (codes "m") 48) ∷ [])))
    ∷ []))))
    ∷ [])) ≡ None
unfolding duplicate_name unknown_super cycle_in_super super_is_builtin undefined_name mixed_name tear_off bad_override abstract_made final_written bad_return_place shadowed wrong_arguments_of_static
accepted-a_local_and_a_method = refl

-- class A { operator +(x) => 1; operator [](i) => 2; }
accepted-operators : failing (tree_of
    (t.a_class
    (class_of false (n (codes "A") 6) None []
    (t.operator o.Add (sp 19 1) (a_param false false (n (codes "x") 21) ∷ []) (Some (t.arrow (t.int (pos 1) (sp 27 1))))
    ∷ t.operator o.Get (sp 39 1) (a_param false false (n (codes "i") 42) ∷ []) (Some (t.arrow (t.int (pos 2) (sp 48 1))))
    ∷ []))
    ∷ [])) ≡ None
unfolding duplicate_name unknown_super cycle_in_super super_is_builtin undefined_name mixed_name tear_off bad_override abstract_made final_written bad_return_place shadowed wrong_arguments_of_static
accepted-operators = refl

-- class A { get length => 1; add(v) => 2; }
accepted-two_as_the_built_in_ones : failing (tree_of
    (t.a_class
    (class_of false (n (codes "A") 6) None []
    (t.getter (n (codes "length") 14) (Some (t.arrow (t.int (pos 1) (sp 24 1))))
    ∷ t.method (n (codes "add") 27) (a_param false false (n (codes "v") 31) ∷ []) (Some (t.arrow (t.int (pos 2) (sp 37 1))))
    ∷ []))
    ∷ [])) ≡ None
unfolding duplicate_name unknown_super cycle_in_super super_is_builtin undefined_name mixed_name tear_off bad_override abstract_made final_written bad_return_place shadowed wrong_arguments_of_static
accepted-two_as_the_built_in_ones = refl
