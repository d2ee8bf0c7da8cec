-- Texts that break DuplicateName, each with its place, §, and texts that are accepted.
use Rattle.std.proofs.Common.{◌≡◌, refl}
use Rattle.std.specs.Prelude.{[], ◌∷◌, Some, None, codes, true, false, pos}
use Rattle.dart_syntax.specs.declared.tree.Operator.TheVariants as o
use Rattle.dart_syntax.specs.Syntax as t
use Rattle.dart_syntax.specs.Syntax.{exps, stas, a_local, a_param, function_of, class_of, tree_of}
use Rattle.static_rules.specs.declared.rule.Rule.TheVariants.{DuplicateName}
use Rattle.static_rules.specs.Accepted.{failing}
use Rattle.static_rules.specs.DuplicateName.{duplicate_name}
use Rattle.static_rules.specs.Supers.{unknown_super, cycle_in_super, super_is_builtin}
use Rattle.static_rules.specs.UndefinedName.{undefined_name}
use Rattle.static_rules.specs.MixedName.{mixed_name}
use Rattle.static_rules.specs.TearOff.{tear_off}
use Rattle.static_rules.specs.BadOverride.{bad_override}
use Rattle.static_rules.specs.AbstractMade.{abstract_made}
use Rattle.static_rules.specs.FinalWritten.{final_written}
use Rattle.static_rules.specs.BadReturnPlace.{bad_return_place}
use Rattle.static_rules.specs.Shadowed.{shadowed}
use Rattle.static_rules.specs.WrongArgumentsOfStatic.{wrong_arguments_of_static}
use Rattle.static_rules.proofs.cases.Words.{n, sp}

-- class A {} §A() {} main() {}
two_of_the_text : failing (tree_of
    (t.a_class (class_of false (n (codes "A") 6) None [] [])
    ∷ t.a_function (function_of false (n (codes "A") 11) [] (t.code (stas [])))
    ∷ t.a_function (function_of false (n (codes "main") 18) [] (t.code (stas [])))
    ∷ [])) ≡ Some (DuplicateName, sp 11 1)
unfolding duplicate_name unknown_super cycle_in_super super_is_builtin undefined_name mixed_name tear_off bad_override abstract_made final_written bad_return_place shadowed wrong_arguments_of_static
two_of_the_text = refl

-- class §int {}
a_built_in_class : failing (tree_of (t.a_class (class_of false (n (codes "int") 6) None [] []) ∷ [])) ≡ Some (DuplicateName, sp 6 3)
unfolding duplicate_name unknown_super cycle_in_super super_is_builtin undefined_name mixed_name tear_off bad_override abstract_made final_written bad_return_place shadowed wrong_arguments_of_static
a_built_in_class = refl

-- §print(x) {} main() {}
print : failing (tree_of
    (t.a_function (function_of false (n (codes "print") 0) (a_param false false (n (codes "x") 6) ∷ []) (t.code (stas [])))
    ∷ t.a_function (function_of false (n (codes "main") 12) [] (t.code (stas [])))
    ∷ [])) ≡ Some (DuplicateName, sp 0 5)
unfolding duplicate_name unknown_super cycle_in_super super_is_builtin undefined_name mixed_name tear_off bad_override abstract_made final_written bad_return_place shadowed wrong_arguments_of_static
print = refl

-- class A { get x => 1; get §x => 2; }
two_getters : failing (tree_of
    (t.a_class
    (class_of false (n (codes "A") 6) None []
    (t.getter (n (codes "x") 14) (Some (t.arrow (t.int (pos 1) (sp 19 1)))) ∷ t.getter (n (codes "x") 26) (Some (t.arrow (t.int (pos 2) (sp 31 1)))) ∷ []))
    ∷ [])) ≡ Some (DuplicateName, sp 26 1)
unfolding duplicate_name unknown_super cycle_in_super super_is_builtin undefined_name mixed_name tear_off bad_override abstract_made final_written bad_return_place shadowed wrong_arguments_of_static
two_getters = refl

-- class A { final x = 1; get §x => 2; }
a_field_is_a_getter : failing (tree_of
    (t.a_class
    (class_of false (n (codes "A") 6) None []
    (t.field (a_local true (n (codes "x") 16) (Some (t.int (pos 1) (sp 20 1)))) ∷ t.getter (n (codes "x") 27) (Some (t.arrow (t.int (pos 2) (sp 32 1)))) ∷ []))
    ∷ [])) ≡ Some (DuplicateName, sp 27 1)
unfolding duplicate_name unknown_super cycle_in_super super_is_builtin undefined_name mixed_name tear_off bad_override abstract_made final_written bad_return_place shadowed wrong_arguments_of_static
a_field_is_a_getter = refl

-- class A { var x; set §x(v) {} }
a_field_is_a_setter : failing (tree_of
    (t.a_class
    (class_of false (n (codes "A") 6) None []
    (t.field (a_local false (n (codes "x") 14) None) ∷ t.setter (n (codes "x") 21) (a_param false false (n (codes "v") 23)) (Some (t.code (stas []))) ∷ []))
    ∷ [])) ≡ Some (DuplicateName, sp 21 1)
unfolding duplicate_name unknown_super cycle_in_super super_is_builtin undefined_name mixed_name tear_off bad_override abstract_made final_written bad_return_place shadowed wrong_arguments_of_static
a_field_is_a_setter = refl

-- class A { set x(v) {} set §x(w) {} }
two_setters : failing (tree_of
    (t.a_class
    (class_of false (n (codes "A") 6) None []
    (t.setter (n (codes "x") 14) (a_param false false (n (codes "v") 16)) (Some (t.code (stas [])))
    ∷ t.setter (n (codes "x") 26) (a_param false false (n (codes "w") 28)) (Some (t.code (stas [])))
    ∷ []))
    ∷ [])) ≡ Some (DuplicateName, sp 26 1)
unfolding duplicate_name unknown_super cycle_in_super super_is_builtin undefined_name mixed_name tear_off bad_override abstract_made final_written bad_return_place shadowed wrong_arguments_of_static
two_setters = refl

-- class A { m() {} §m(x) {} }
two_methods : failing (tree_of
    (t.a_class
    (class_of false (n (codes "A") 6) None []
    (t.method (n (codes "m") 10) [] (Some (t.code (stas [])))
    ∷ t.method (n (codes "m") 17) (a_param false false (n (codes "x") 19) ∷ []) (Some (t.code (stas [])))
    ∷ []))
    ∷ [])) ≡ Some (DuplicateName, sp 17 1)
unfolding duplicate_name unknown_super cycle_in_super super_is_builtin undefined_name mixed_name tear_off bad_override abstract_made final_written bad_return_place shadowed wrong_arguments_of_static
two_methods = refl

-- class A { m() {} get §m => 1; }
method_and_getter : failing (tree_of
    (t.a_class
    (class_of false (n (codes "A") 6) None []
    (t.method (n (codes "m") 10) [] (Some (t.code (stas []))) ∷ t.getter (n (codes "m") 21) (Some (t.arrow (t.int (pos 1) (sp 26 1)))) ∷ []))
    ∷ [])) ≡ Some (DuplicateName, sp 21 1)
unfolding duplicate_name unknown_super cycle_in_super super_is_builtin undefined_name mixed_name tear_off bad_override abstract_made final_written bad_return_place shadowed wrong_arguments_of_static
method_and_getter = refl

-- class A { set m(v) {} §m() {} }
setter_and_method : failing (tree_of
    (t.a_class
    (class_of false (n (codes "A") 6) None []
    (t.setter (n (codes "m") 14) (a_param false false (n (codes "v") 16)) (Some (t.code (stas [])))
    ∷ t.method (n (codes "m") 22) [] (Some (t.code (stas [])))
    ∷ []))
    ∷ [])) ≡ Some (DuplicateName, sp 22 1)
unfolding duplicate_name unknown_super cycle_in_super super_is_builtin undefined_name mixed_name tear_off bad_override abstract_made final_written bad_return_place shadowed wrong_arguments_of_static
setter_and_method = refl

-- class A { m() {} final §m = 1; }
method_and_field : failing (tree_of
    (t.a_class
    (class_of false (n (codes "A") 6) None []
    (t.method (n (codes "m") 10) [] (Some (t.code (stas []))) ∷ t.field (a_local true (n (codes "m") 23) (Some (t.int (pos 1) (sp 27 1)))) ∷ []))
    ∷ [])) ≡ Some (DuplicateName, sp 23 1)
unfolding duplicate_name unknown_super cycle_in_super super_is_builtin undefined_name mixed_name tear_off bad_override abstract_made final_written bad_return_place shadowed wrong_arguments_of_static
method_and_field = refl

-- class A { A(); §A(x); }
two_constructors : failing (tree_of
    (t.a_class
    (class_of false (n (codes "A") 6) None []
    (t.constructor (n (codes "A") 10) [] None None ∷ t.constructor (n (codes "A") 15) (a_param false false (n (codes "x") 17) ∷ []) None None ∷ []))
    ∷ [])) ≡ Some (DuplicateName, sp 15 1)
unfolding duplicate_name unknown_super cycle_in_super super_is_builtin undefined_name mixed_name tear_off bad_override abstract_made final_written bad_return_place shadowed wrong_arguments_of_static
two_constructors = refl

-- class A { operator +(x) => 1; operator §+(y) => 2; }
two_operators : failing (tree_of
    (t.a_class
    (class_of false (n (codes "A") 6) None []
    (t.operator o.Add (sp 19 1) (a_param false false (n (codes "x") 21) ∷ []) (Some (t.arrow (t.int (pos 1) (sp 27 1))))
    ∷ t.operator o.Add (sp 39 1) (a_param false false (n (codes "y") 41) ∷ []) (Some (t.arrow (t.int (pos 2) (sp 47 1))))
    ∷ []))
    ∷ [])) ≡ Some (DuplicateName, sp 39 1)
unfolding duplicate_name unknown_super cycle_in_super super_is_builtin undefined_name mixed_name tear_off bad_override abstract_made final_written bad_return_place shadowed wrong_arguments_of_static
two_operators = refl

-- class A { operator -() => 1; operator §-() => 2; }
two_unary_minuses : failing (tree_of
    (t.a_class
    (class_of false (n (codes "A") 6) None []
    (t.operator o.Subtract (sp 19 1) [] (Some (t.arrow (t.int (pos 1) (sp 26 1))))
    ∷ t.operator o.Subtract (sp 38 1) [] (Some (t.arrow (t.int (pos 2) (sp 45 1))))
    ∷ []))
    ∷ [])) ≡ Some (DuplicateName, sp 38 1)
unfolding duplicate_name unknown_super cycle_in_super super_is_builtin undefined_name mixed_name tear_off bad_override abstract_made final_written bad_return_place shadowed wrong_arguments_of_static
two_unary_minuses = refl

-- class A { get §A => 1; }
getter_with_the_classs_name : failing (tree_of (t.a_class (class_of false (n (codes "A") 6) None [] (t.getter (n (codes "A") 14) (Some (t.arrow (t.int (pos 1) (sp 19 1)))) ∷ [])) ∷ [])) ≡ Some (DuplicateName, sp 14 1)
unfolding duplicate_name unknown_super cycle_in_super super_is_builtin undefined_name mixed_name tear_off bad_override abstract_made final_written bad_return_place shadowed wrong_arguments_of_static
getter_with_the_classs_name = refl

-- class A { A(); void §A() {} }
method_with_the_classs_name : failing (tree_of
    (t.a_class
    (class_of false (n (codes "A") 6) None [] (t.constructor (n (codes "A") 10) [] None None ∷ t.method (n (codes "A") 20) [] (Some (t.code (stas []))) ∷ []))
    ∷ [])) ≡ Some (DuplicateName, sp 20 1)
unfolding duplicate_name unknown_super cycle_in_super super_is_builtin undefined_name mixed_name tear_off bad_override abstract_made final_written bad_return_place shadowed wrong_arguments_of_static
method_with_the_classs_name = refl

-- f(a, b, §a) {}
two_parameters : failing (tree_of
    (t.a_function
    (function_of false (n (codes "f") 0)
    (a_param false false (n (codes "a") 2) ∷ a_param false false (n (codes "b") 5) ∷ a_param false false (n (codes "a") 8) ∷ [])
    (t.code (stas [])))
    ∷ [])) ≡ Some (DuplicateName, sp 8 1)
unfolding duplicate_name unknown_super cycle_in_super super_is_builtin undefined_name mixed_name tear_off bad_override abstract_made final_written bad_return_place shadowed wrong_arguments_of_static
two_parameters = refl

-- class C { var x; C(this.x, §x); }
parameter_and_this_x : failing (tree_of
    (t.a_class
    (class_of false (n (codes "C") 6) None []
    (t.field (a_local false (n (codes "x") 14) None)
    ∷ t.constructor (n (codes "C") 17) (a_param false true (n (codes "x") 24) ∷ a_param false false (n (codes "x") 27) ∷ []) None None
    ∷ []))
    ∷ [])) ≡ Some (DuplicateName, sp 27 1)
unfolding duplicate_name unknown_super cycle_in_super super_is_builtin undefined_name mixed_name tear_off bad_override abstract_made final_written bad_return_place shadowed wrong_arguments_of_static
parameter_and_this_x = refl

-- class A { operator []=(i, §i) => 1; }
two_parameters_of_an_operator : failing (tree_of
    (t.a_class
    (class_of false (n (codes "A") 6) None []
    (t.operator o.Set (sp 19 1) (a_param false false (n (codes "i") 23) ∷ a_param false false (n (codes "i") 26) ∷ []) (Some (t.arrow (t.int (pos 1) (sp 32 1))))
    ∷ []))
    ∷ [])) ≡ Some (DuplicateName, sp 26 1)
unfolding duplicate_name unknown_super cycle_in_super super_is_builtin undefined_name mixed_name tear_off bad_override abstract_made final_written bad_return_place shadowed wrong_arguments_of_static
two_parameters_of_an_operator = refl

-- main() { var x; final §x = 1; }
two_locals : failing (tree_of
    (t.a_function
    (function_of false (n (codes "main") 0) []
    (t.code (stas (t.local (a_local false (n (codes "x") 13) None) ∷ t.local (a_local true (n (codes "x") 22) (Some (t.int (pos 1) (sp 26 1)))) ∷ []))))
    ∷ [])) ≡ Some (DuplicateName, sp 22 1)
unfolding duplicate_name unknown_super cycle_in_super super_is_builtin undefined_name mixed_name tear_off bad_override abstract_made final_written bad_return_place shadowed wrong_arguments_of_static
two_locals = refl

-- main() { while (true) { var x; var §x; } }
two_locals_of_an_inner_block : failing (tree_of
    (t.a_function
    (function_of false (n (codes "main") 0) []
    (t.code
    (stas
    (t.while (t.bool true (sp 16 4))
    (t.block (stas (t.local (a_local false (n (codes "x") 28) None) ∷ t.local (a_local false (n (codes "x") 35) None) ∷ [])))
    ∷ []))))
    ∷ [])) ≡ Some (DuplicateName, sp 35 1)
unfolding duplicate_name unknown_super cycle_in_super super_is_builtin undefined_name mixed_name tear_off bad_override abstract_made final_written bad_return_place shadowed wrong_arguments_of_static
two_locals_of_an_inner_block = refl

-- f(a) { { var x; var §x; } } f() {}
the_first_in_the_text : failing (tree_of
    (t.a_function
    (function_of false (n (codes "f") 0)
    (a_param false false (n (codes "a") 2) ∷ [])
    (t.code (stas (t.block (stas (t.local (a_local false (n (codes "x") 13) None) ∷ t.local (a_local false (n (codes "x") 20) None) ∷ [])) ∷ []))))
    ∷ t.a_function (function_of false (n (codes "f") 27) [] (t.code (stas [])))
    ∷ [])) ≡ Some (DuplicateName, sp 20 1)
unfolding duplicate_name unknown_super cycle_in_super super_is_builtin undefined_name mixed_name tear_off bad_override abstract_made final_written bad_return_place shadowed wrong_arguments_of_static
the_first_in_the_text = refl

-- class A { m(a, §a) {} n() {} n() {} }
inside_before_below : failing (tree_of
    (t.a_class
    (class_of false (n (codes "A") 6) None []
    (t.method (n (codes "m") 10) (a_param false false (n (codes "a") 12) ∷ a_param false false (n (codes "a") 15) ∷ []) (Some (t.code (stas [])))
    ∷ t.method (n (codes "n") 21) [] (Some (t.code (stas [])))
    ∷ t.method (n (codes "n") 28) [] (Some (t.code (stas [])))
    ∷ []))
    ∷ [])) ≡ Some (DuplicateName, sp 15 1)
unfolding duplicate_name unknown_super cycle_in_super super_is_builtin undefined_name mixed_name tear_off bad_override abstract_made final_written bad_return_place shadowed wrong_arguments_of_static
inside_before_below = refl

-- class A { get x => 1; set x(v) {} }
accepted-getter_and_setter : failing (tree_of
    (t.a_class
    (class_of false (n (codes "A") 6) None []
    (t.getter (n (codes "x") 14) (Some (t.arrow (t.int (pos 1) (sp 19 1))))
    ∷ t.setter (n (codes "x") 26) (a_param false false (n (codes "v") 28)) (Some (t.code (stas [])))
    ∷ []))
    ∷ [])) ≡ None
unfolding duplicate_name unknown_super cycle_in_super super_is_builtin undefined_name mixed_name tear_off bad_override abstract_made final_written bad_return_place shadowed wrong_arguments_of_static
accepted-getter_and_setter = refl

-- class A { final x = 1; set x(v) {} }
accepted-final_field_and_setter : failing (tree_of
    (t.a_class
    (class_of false (n (codes "A") 6) None []
    (t.field (a_local true (n (codes "x") 16) (Some (t.int (pos 1) (sp 20 1))))
    ∷ t.setter (n (codes "x") 27) (a_param false false (n (codes "v") 29)) (Some (t.code (stas [])))
    ∷ []))
    ∷ [])) ≡ None
unfolding duplicate_name unknown_super cycle_in_super super_is_builtin undefined_name mixed_name tear_off bad_override abstract_made final_written bad_return_place shadowed wrong_arguments_of_static
accepted-final_field_and_setter = refl

-- class A { operator -() => 1; operator -(x) => 2; }
accepted-both_minuses : failing (tree_of
    (t.a_class
    (class_of false (n (codes "A") 6) None []
    (t.operator o.Subtract (sp 19 1) [] (Some (t.arrow (t.int (pos 1) (sp 26 1))))
    ∷ t.operator o.Subtract (sp 38 1) (a_param false false (n (codes "x") 40) ∷ []) (Some (t.arrow (t.int (pos 2) (sp 46 1))))
    ∷ []))
    ∷ [])) ≡ None
unfolding duplicate_name unknown_super cycle_in_super super_is_builtin undefined_name mixed_name tear_off bad_override abstract_made final_written bad_return_place shadowed wrong_arguments_of_static
accepted-both_minuses = refl

-- main() { { var x; } { var x; } }
accepted-one_name_in_two_blocks : failing (tree_of
    (t.a_function
    (function_of false (n (codes "main") 0) []
    (t.code
    (stas (t.block (stas (t.local (a_local false (n (codes "x") 15) None) ∷ [])) ∷ t.block (stas (t.local (a_local false (n (codes "x") 26) None) ∷ [])) ∷ []))))
    ∷ [])) ≡ None
unfolding duplicate_name unknown_super cycle_in_super super_is_builtin undefined_name mixed_name tear_off bad_override abstract_made final_written bad_return_place shadowed wrong_arguments_of_static
accepted-one_name_in_two_blocks = refl

-- class A { m() {} } m() {}
accepted-member_and_function : failing (tree_of
    (t.a_class (class_of false (n (codes "A") 6) None [] (t.method (n (codes "m") 10) [] (Some (t.code (stas []))) ∷ []))
    ∷ t.a_function (function_of false (n (codes "m") 19) [] (t.code (stas [])))
    ∷ [])) ≡ None
unfolding duplicate_name unknown_super cycle_in_super super_is_builtin undefined_name mixed_name tear_off bad_override abstract_made final_written bad_return_place shadowed wrong_arguments_of_static
accepted-member_and_function = refl

-- f() {} main() { var f = 1; print(f); }
accepted-local_and_function : failing (tree_of
    (t.a_function (function_of false (n (codes "f") 0) [] (t.code (stas [])))
    ∷ t.a_function
    (function_of false (n (codes "main") 7) []
    (t.code
    (stas
    (t.local (a_local false (n (codes "f") 20) (Some (t.int (pos 1) (sp 24 1))))
    ∷ t.run (t.call (n (codes "print") 27) (exps (t.bare (n (codes "f") 33) ∷ [])))
    ∷ []))))
    ∷ [])) ≡ None
unfolding duplicate_name unknown_super cycle_in_super super_is_builtin undefined_name mixed_name tear_off bad_override abstract_made final_written bad_return_place shadowed wrong_arguments_of_static
accepted-local_and_function = refl

-- class A { m() {} var x; } class B { m() {} var x; }
accepted-one_name_in_two_classes : failing (tree_of
    (t.a_class
    (class_of false (n (codes "A") 6) None [] (t.method (n (codes "m") 10) [] (Some (t.code (stas []))) ∷ t.field (a_local false (n (codes "x") 21) None) ∷ []))
    ∷ t.a_class
    (class_of false (n (codes "B") 32) None [] (t.method (n (codes "m") 36) [] (Some (t.code (stas []))) ∷ t.field (a_local false (n (codes "x") 47) None) ∷ []))
    ∷ [])) ≡ None
unfolding duplicate_name unknown_super cycle_in_super super_is_builtin undefined_name mixed_name tear_off bad_override abstract_made final_written bad_return_place shadowed wrong_arguments_of_static
accepted-one_name_in_two_classes = refl

-- main() { if (true) var x = 1; else var x = 2; }
accepted-branches_are_blocks : failing (tree_of
    (t.a_function
    (function_of false (n (codes "main") 0) []
    (t.code
    (stas
    (t.when_else (t.bool true (sp 13 4))
    (t.local (a_local false (n (codes "x") 23) (Some (t.int (pos 1) (sp 27 1)))))
    (t.local (a_local false (n (codes "x") 39) (Some (t.int (pos 2) (sp 43 1)))))
    ∷ []))))
    ∷ [])) ≡ None
unfolding duplicate_name unknown_super cycle_in_super super_is_builtin undefined_name mixed_name tear_off bad_override abstract_made final_written bad_return_place shadowed wrong_arguments_of_static
accepted-branches_are_blocks = refl
