-- Texts that break TearOff, each with its place, §, and texts that are accepted.
use Rattle.std.proofs.Common.{◌≡◌, refl}
use Rattle.std.specs.Prelude.{[], ◌∷◌, Some, None, codes, true, false, pos}
use Rattle.dart_syntax.specs.declared.tree.Step.TheVariants as st
use Rattle.dart_syntax.specs.declared.tree.Assignment.TheVariants as a
use Rattle.dart_syntax.specs.Syntax as t
use Rattle.dart_syntax.specs.Syntax.{exps, selectors, stas, a_local, a_param, passing, function_of, class_of, tree_of}
use Rattle.static_rules.specs.declared.rule.Rule.TheVariants.{TearOff}
use Rattle.static_rules.specs.Accepted.{failing}
use Rattle.static_rules.specs.DuplicateName.{duplicate_name}
use Rattle.static_rules.specs.Supers.{unknown_super, cycle_in_super, super_is_builtin}
use Rattle.static_rules.specs.UndefinedName.{undefined_name}
use Rattle.static_rules.specs.MixedName.{mixed_name}
use Rattle.static_rules.specs.TearOff.{tear_off}
use Rattle.static_rules.specs.BadOverride.{bad_override}
use Rattle.static_rules.specs.AbstractMade.{abstract_made}
use Rattle.static_rules.specs.FinalWritten.{final_written}
use Rattle.static_rules.specs.BadReturnPlace.{bad_return_place}
use Rattle.static_rules.specs.Shadowed.{shadowed}
use Rattle.static_rules.specs.WrongArgumentsOfStatic.{wrong_arguments_of_static}
use Rattle.static_rules.proofs.cases.Words.{n, sp}

-- class A { m() => 1; } main() { print(A().§m); }
a_method_is_read : failing (tree_of
    (t.a_class (class_of false (n (codes "A") 6) None [] (t.method (n (codes "m") 10) [] (Some (t.arrow (t.int (pos 1) (sp 17 1)))) ∷ []))
    ∷ t.a_function
    (function_of false (n (codes "main") 22) []
    (t.code
    (stas
    (t.run (t.call (n (codes "print") 31) (exps (t.postfix (t.call (n (codes "A") 37) (exps [])) (selectors (t.get (n (codes "m") 41) ∷ [])) ∷ []))) ∷ []))))
    ∷ [])) ≡ Some (TearOff, sp 41 1)
unfolding duplicate_name unknown_super cycle_in_super super_is_builtin undefined_name mixed_name tear_off bad_override abstract_made final_written bad_return_place shadowed wrong_arguments_of_static
a_method_is_read = refl

-- main() { print([].§add); }
a_method_of_a_list_is_read : failing (tree_of
    (t.a_function
    (function_of false (n (codes "main") 0) []
    (t.code (stas (t.run (t.call (n (codes "print") 9) (exps (t.postfix (t.list (sp 15 1) (exps [])) (selectors (t.get (n (codes "add") 18) ∷ [])) ∷ []))) ∷ []))))
    ∷ [])) ≡ Some (TearOff, sp 18 3)
unfolding duplicate_name unknown_super cycle_in_super super_is_builtin undefined_name mixed_name tear_off bad_override abstract_made final_written bad_return_place shadowed wrong_arguments_of_static
a_method_of_a_list_is_read = refl

-- main() { print('a'.§toString); }
a_method_of_object_is_read : failing (tree_of
    (t.a_function
    (function_of false (n (codes "main") 0) []
    (t.code
    (stas (t.run (t.call (n (codes "print") 9) (exps (t.postfix (t.str (codes "a") (sp 15 3)) (selectors (t.get (n (codes "toString") 19) ∷ [])) ∷ []))) ∷ []))))
    ∷ [])) ≡ Some (TearOff, sp 19 8)
unfolding duplicate_name unknown_super cycle_in_super super_is_builtin undefined_name mixed_name tear_off bad_override abstract_made final_written bad_return_place shadowed wrong_arguments_of_static
a_method_of_object_is_read = refl

-- class A { m() => 1; n() => §m; }
an_own_method_is_read : failing (tree_of
    (t.a_class
    (class_of false (n (codes "A") 6) None []
    (t.method (n (codes "m") 10) [] (Some (t.arrow (t.int (pos 1) (sp 17 1)))) ∷ t.method (n (codes "n") 20) [] (Some (t.arrow (t.bare (n (codes "m") 27)))) ∷ []))
    ∷ [])) ≡ Some (TearOff, sp 27 1)
unfolding duplicate_name unknown_super cycle_in_super super_is_builtin undefined_name mixed_name tear_off bad_override abstract_made final_written bad_return_place shadowed wrong_arguments_of_static
an_own_method_is_read = refl

-- class A { n() => §toString; }
a_method_of_this_is_read : failing (tree_of (t.a_class (class_of false (n (codes "A") 6) None [] (t.method (n (codes "n") 10) [] (Some (t.arrow (t.bare (n (codes "toString") 17)))) ∷ [])) ∷ [])) ≡ Some (TearOff, sp 17 8)
unfolding duplicate_name unknown_super cycle_in_super super_is_builtin undefined_name mixed_name tear_off bad_override abstract_made final_written bad_return_place shadowed wrong_arguments_of_static
a_method_of_this_is_read = refl

-- class A { m() => 1; } main() { var a = A(); a.§m += 1; }
a_method_is_read_and_written : failing (tree_of
    (t.a_class (class_of false (n (codes "A") 6) None [] (t.method (n (codes "m") 10) [] (Some (t.arrow (t.int (pos 1) (sp 17 1)))) ∷ []))
    ∷ t.a_function
    (function_of false (n (codes "main") 22) []
    (t.code
    (stas
    (t.local (a_local false (n (codes "a") 35) (Some (t.call (n (codes "A") 39) (exps []))))
    ∷ t.run (t.assign (t.postfix (t.bare (n (codes "a") 44)) (selectors (t.get (n (codes "m") 46) ∷ []))) a.Add (sp 48 2) (t.int (pos 1) (sp 51 1)))
    ∷ []))))
    ∷ [])) ≡ Some (TearOff, sp 46 1)
unfolding duplicate_name unknown_super cycle_in_super super_is_builtin undefined_name mixed_name tear_off bad_override abstract_made final_written bad_return_place shadowed wrong_arguments_of_static
a_method_is_read_and_written = refl

-- abstract class A { m(); } f(a) => a.§m;
an_abstract_method_is_read : failing (tree_of
    (t.a_class (class_of true (n (codes "A") 15) None [] (t.method (n (codes "m") 19) [] None ∷ []))
    ∷ t.a_function
    (function_of false (n (codes "f") 26)
    (a_param false false (n (codes "a") 28) ∷ [])
    (t.arrow (t.postfix (t.bare (n (codes "a") 34)) (selectors (t.get (n (codes "m") 36) ∷ [])))))
    ∷ [])) ≡ Some (TearOff, sp 36 1)
unfolding duplicate_name unknown_super cycle_in_super super_is_builtin undefined_name mixed_name tear_off bad_override abstract_made final_written bad_return_place shadowed wrong_arguments_of_static
an_abstract_method_is_read = refl

-- class A { var f; } main() { A().§f(); }
a_field_is_called : failing (tree_of
    (t.a_class (class_of false (n (codes "A") 6) None [] (t.field (a_local false (n (codes "f") 14) None) ∷ []))
    ∷ t.a_function
    (function_of false (n (codes "main") 19) []
    (t.code (stas (t.run (t.postfix (t.call (n (codes "A") 28) (exps [])) (selectors (t.send (n (codes "f") 32) (exps []) ∷ []))) ∷ []))))
    ∷ [])) ≡ Some (TearOff, sp 32 1)
unfolding duplicate_name unknown_super cycle_in_super super_is_builtin undefined_name mixed_name tear_off bad_override abstract_made final_written bad_return_place shadowed wrong_arguments_of_static
a_field_is_called = refl

-- class A { set f(v) {} } g(a) => a.§f(1);
a_setter_is_called : failing (tree_of
    (t.a_class (class_of false (n (codes "A") 6) None [] (t.setter (n (codes "f") 14) (a_param false false (n (codes "v") 16)) (Some (t.code (stas []))) ∷ []))
    ∷ t.a_function
    (function_of false (n (codes "g") 24)
    (a_param false false (n (codes "a") 26) ∷ [])
    (t.arrow (t.postfix (t.bare (n (codes "a") 32)) (selectors (t.send (n (codes "f") 34) (exps (t.int (pos 1) (sp 36 1) ∷ [])) ∷ [])))))
    ∷ [])) ≡ Some (TearOff, sp 34 1)
unfolding duplicate_name unknown_super cycle_in_super super_is_builtin undefined_name mixed_name tear_off bad_override abstract_made final_written bad_return_place shadowed wrong_arguments_of_static
a_setter_is_called = refl

-- main() { print([].§length()); }
a_built_in_getter_is_called : failing (tree_of
    (t.a_function
    (function_of false (n (codes "main") 0) []
    (t.code
    (stas
    (t.run (t.call (n (codes "print") 9) (exps (t.postfix (t.list (sp 15 1) (exps [])) (selectors (t.send (n (codes "length") 18) (exps []) ∷ [])) ∷ [])))
    ∷ []))))
    ∷ [])) ≡ Some (TearOff, sp 18 6)
unfolding duplicate_name unknown_super cycle_in_super super_is_builtin undefined_name mixed_name tear_off bad_override abstract_made final_written bad_return_place shadowed wrong_arguments_of_static
a_built_in_getter_is_called = refl

-- main() { var f = 1; §f(); }
a_local_is_called : failing (tree_of
    (t.a_function
    (function_of false (n (codes "main") 0) []
    (t.code (stas (t.local (a_local false (n (codes "f") 13) (Some (t.int (pos 1) (sp 17 1)))) ∷ t.run (t.call (n (codes "f") 20) (exps [])) ∷ []))))
    ∷ [])) ≡ Some (TearOff, sp 20 1)
unfolding duplicate_name unknown_super cycle_in_super super_is_builtin undefined_name mixed_name tear_off bad_override abstract_made final_written bad_return_place shadowed wrong_arguments_of_static
a_local_is_called = refl

-- f() {} main() { var f = 1; §f(); }
a_local_before_a_function : failing (tree_of
    (t.a_function (function_of false (n (codes "f") 0) [] (t.code (stas [])))
    ∷ t.a_function
    (function_of false (n (codes "main") 7) []
    (t.code (stas (t.local (a_local false (n (codes "f") 20) (Some (t.int (pos 1) (sp 24 1)))) ∷ t.run (t.call (n (codes "f") 27) (exps [])) ∷ []))))
    ∷ [])) ≡ Some (TearOff, sp 27 1)
unfolding duplicate_name unknown_super cycle_in_super super_is_builtin undefined_name mixed_name tear_off bad_override abstract_made final_written bad_return_place shadowed wrong_arguments_of_static
a_local_before_a_function = refl

-- g(f) => §f();
a_parameter_is_called : failing (tree_of (t.a_function (function_of false (n (codes "g") 0) (a_param false false (n (codes "f") 2) ∷ []) (t.arrow (t.call (n (codes "f") 8) (exps [])))) ∷ [])) ≡ Some (TearOff, sp 8 1)
unfolding duplicate_name unknown_super cycle_in_super super_is_builtin undefined_name mixed_name tear_off bad_override abstract_made final_written bad_return_place shadowed wrong_arguments_of_static
a_parameter_is_called = refl

-- var f = 1; main() { §f(); }
a_variable_is_called : failing (tree_of
    (t.a_variable (a_local false (n (codes "f") 4) (Some (t.int (pos 1) (sp 8 1))))
    ∷ t.a_function (function_of false (n (codes "main") 11) [] (t.code (stas (t.run (t.call (n (codes "f") 20) (exps [])) ∷ []))))
    ∷ [])) ≡ Some (TearOff, sp 20 1)
unfolding duplicate_name unknown_super cycle_in_super super_is_builtin undefined_name mixed_name tear_off bad_override abstract_made final_written bad_return_place shadowed wrong_arguments_of_static
a_variable_is_called = refl

-- class A { get f => 1; m() => §f(); }
an_own_getter_is_called : failing (tree_of
    (t.a_class
    (class_of false (n (codes "A") 6) None []
    (t.getter (n (codes "f") 14) (Some (t.arrow (t.int (pos 1) (sp 19 1))))
    ∷ t.method (n (codes "m") 22) [] (Some (t.arrow (t.call (n (codes "f") 29) (exps []))))
    ∷ []))
    ∷ [])) ≡ Some (TearOff, sp 29 1)
unfolding duplicate_name unknown_super cycle_in_super super_is_builtin undefined_name mixed_name tear_off bad_override abstract_made final_written bad_return_place shadowed wrong_arguments_of_static
an_own_getter_is_called = refl

-- class A { A(y); } class B extends A { var x; B(this.x) : super(§x()); }
a_this_x_is_called_in_passed : failing (tree_of
    (t.a_class (class_of false (n (codes "A") 6) None [] (t.constructor (n (codes "A") 10) (a_param false false (n (codes "y") 12) ∷ []) None None ∷ []))
    ∷ t.a_class
    (class_of false (n (codes "B") 24) (Some (n (codes "A") 34)) []
    (t.field (a_local false (n (codes "x") 42) None)
    ∷ t.constructor (n (codes "B") 45)
    (a_param false true (n (codes "x") 52) ∷ [])
    (Some (passing (sp 57 5) (exps (t.call (n (codes "x") 63) (exps []) ∷ []))))
    None
    ∷ []))
    ∷ [])) ≡ Some (TearOff, sp 63 1)
unfolding duplicate_name unknown_super cycle_in_super super_is_builtin undefined_name mixed_name tear_off bad_override abstract_made final_written bad_return_place shadowed wrong_arguments_of_static
a_this_x_is_called_in_passed = refl

-- f() {} main() { print(§f); }
a_function_is_a_value : failing (tree_of
    (t.a_function (function_of false (n (codes "f") 0) [] (t.code (stas [])))
    ∷ t.a_function (function_of false (n (codes "main") 7) [] (t.code (stas (t.run (t.call (n (codes "print") 16) (exps (t.bare (n (codes "f") 22) ∷ []))) ∷ []))))
    ∷ [])) ≡ Some (TearOff, sp 22 1)
unfolding duplicate_name unknown_super cycle_in_super super_is_builtin undefined_name mixed_name tear_off bad_override abstract_made final_written bad_return_place shadowed wrong_arguments_of_static
a_function_is_a_value = refl

-- class A {} main() { print(§A); }
a_class_is_a_value : failing (tree_of
    (t.a_class (class_of false (n (codes "A") 6) None [] [])
    ∷ t.a_function (function_of false (n (codes "main") 11) [] (t.code (stas (t.run (t.call (n (codes "print") 20) (exps (t.bare (n (codes "A") 26) ∷ []))) ∷ []))))
    ∷ [])) ≡ Some (TearOff, sp 26 1)
unfolding duplicate_name unknown_super cycle_in_super super_is_builtin undefined_name mixed_name tear_off bad_override abstract_made final_written bad_return_place shadowed wrong_arguments_of_static
a_class_is_a_value = refl

-- main() { var x = §print; }
print_is_a_value : failing (tree_of
    (t.a_function (function_of false (n (codes "main") 0) [] (t.code (stas (t.local (a_local false (n (codes "x") 13) (Some (t.bare (n (codes "print") 17)))) ∷ []))))
    ∷ [])) ≡ Some (TearOff, sp 17 5)
unfolding duplicate_name unknown_super cycle_in_super super_is_builtin undefined_name mixed_name tear_off bad_override abstract_made final_written bad_return_place shadowed wrong_arguments_of_static
print_is_a_value = refl

-- main() { print([§int]); }
a_built_in_class_is_a_value : failing (tree_of
    (t.a_function
    (function_of false (n (codes "main") 0) []
    (t.code (stas (t.run (t.call (n (codes "print") 9) (exps (t.list (sp 15 1) (exps (t.bare (n (codes "int") 16) ∷ [])) ∷ []))) ∷ []))))
    ∷ [])) ≡ Some (TearOff, sp 16 3)
unfolding duplicate_name unknown_super cycle_in_super super_is_builtin undefined_name mixed_name tear_off bad_override abstract_made final_written bad_return_place shadowed wrong_arguments_of_static
a_built_in_class_is_a_value = refl

-- class A {} main() { print(§A.x); }
a_class_before_a_selector : failing (tree_of
    (t.a_class (class_of false (n (codes "A") 6) None [] [])
    ∷ t.a_function
    (function_of false (n (codes "main") 11) []
    (t.code (stas (t.run (t.call (n (codes "print") 20) (exps (t.postfix (t.bare (n (codes "A") 26)) (selectors (t.get (n (codes "x") 28) ∷ [])) ∷ []))) ∷ []))))
    ∷ [])) ≡ Some (TearOff, sp 26 1)
unfolding duplicate_name unknown_super cycle_in_super super_is_builtin undefined_name mixed_name tear_off bad_override abstract_made final_written bad_return_place shadowed wrong_arguments_of_static
a_class_before_a_selector = refl

-- class A {} main() { §A.f(); }
a_class_before_a_call : failing (tree_of
    (t.a_class (class_of false (n (codes "A") 6) None [] [])
    ∷ t.a_function
    (function_of false (n (codes "main") 11) []
    (t.code (stas (t.run (t.postfix (t.bare (n (codes "A") 20)) (selectors (t.send (n (codes "f") 22) (exps []) ∷ []))) ∷ []))))
    ∷ [])) ≡ Some (TearOff, sp 20 1)
unfolding duplicate_name unknown_super cycle_in_super super_is_builtin undefined_name mixed_name tear_off bad_override abstract_made final_written bad_return_place shadowed wrong_arguments_of_static
a_class_before_a_call = refl

-- f() {} main() { print(§f[0]); }
a_function_before_an_index : failing (tree_of
    (t.a_function (function_of false (n (codes "f") 0) [] (t.code (stas [])))
    ∷ t.a_function
    (function_of false (n (codes "main") 7) []
    (t.code
    (stas
    (t.run (t.call (n (codes "print") 16) (exps (t.postfix (t.bare (n (codes "f") 22)) (selectors (t.index (sp 23 1) (t.int (pos 0) (sp 24 1)) ∷ [])) ∷ [])))
    ∷ []))))
    ∷ [])) ≡ Some (TearOff, sp 22 1)
unfolding duplicate_name unknown_super cycle_in_super super_is_builtin undefined_name mixed_name tear_off bad_override abstract_made final_written bad_return_place shadowed wrong_arguments_of_static
a_function_before_an_index = refl

-- f() {} main() { §f += 1; }
a_function_is_added_to : failing (tree_of
    (t.a_function (function_of false (n (codes "f") 0) [] (t.code (stas [])))
    ∷ t.a_function
    (function_of false (n (codes "main") 7) [] (t.code (stas (t.run (t.assign (t.bare (n (codes "f") 16)) a.Add (sp 18 2) (t.int (pos 1) (sp 21 1))) ∷ []))))
    ∷ [])) ≡ Some (TearOff, sp 16 1)
unfolding duplicate_name unknown_super cycle_in_super super_is_builtin undefined_name mixed_name tear_off bad_override abstract_made final_written bad_return_place shadowed wrong_arguments_of_static
a_function_is_added_to = refl

-- class A {} main() { §A++; }
a_class_is_stepped : failing (tree_of
    (t.a_class (class_of false (n (codes "A") 6) None [] [])
    ∷ t.a_function (function_of false (n (codes "main") 11) [] (t.code (stas (t.run (t.step false st.Increment (sp 21 2) (t.bare (n (codes "A") 20))) ∷ []))))
    ∷ [])) ≡ Some (TearOff, sp 20 1)
unfolding duplicate_name unknown_super cycle_in_super super_is_builtin undefined_name mixed_name tear_off bad_override abstract_made final_written bad_return_place shadowed wrong_arguments_of_static
a_class_is_stepped = refl

-- main() { --§print; }
print_is_stepped : failing (tree_of
    (t.a_function (function_of false (n (codes "main") 0) [] (t.code (stas (t.run (t.step true st.Decrement (sp 9 2) (t.bare (n (codes "print") 11))) ∷ [])))) ∷ [])) ≡ Some (TearOff, sp 11 5)
unfolding duplicate_name unknown_super cycle_in_super super_is_builtin undefined_name mixed_name tear_off bad_override abstract_made final_written bad_return_place shadowed wrong_arguments_of_static
print_is_stepped = refl

-- class A { m() => 1; } main() { A().m = 1; }
accepted-a_methods_name_is_written : failing (tree_of
    (t.a_class (class_of false (n (codes "A") 6) None [] (t.method (n (codes "m") 10) [] (Some (t.arrow (t.int (pos 1) (sp 17 1)))) ∷ []))
    ∷ t.a_function
    (function_of false (n (codes "main") 22) []
    (t.code
    (stas
    (t.run
    (t.assign (t.postfix (t.call (n (codes "A") 31) (exps [])) (selectors (t.get (n (codes "m") 35) ∷ []))) a.Plain (sp 37 1) (t.int (pos 1) (sp 39 1)))
    ∷ []))))
    ∷ [])) ≡ None
unfolding duplicate_name unknown_super cycle_in_super super_is_builtin undefined_name mixed_name tear_off bad_override abstract_made final_written bad_return_place shadowed wrong_arguments_of_static
accepted-a_methods_name_is_written = refl

-- class A { m() => 1; n() { m = 2; } }
accepted-an_own_methods_name_is_written : failing (tree_of
    (t.a_class
    (class_of false (n (codes "A") 6) None []
    (t.method (n (codes "m") 10) [] (Some (t.arrow (t.int (pos 1) (sp 17 1))))
    ∷ t.method (n (codes "n") 20) [] (Some (t.code (stas (t.run (t.assign (t.bare (n (codes "m") 26)) a.Plain (sp 28 1) (t.int (pos 2) (sp 30 1))) ∷ []))))
    ∷ []))
    ∷ [])) ≡ None
unfolding duplicate_name unknown_super cycle_in_super super_is_builtin undefined_name mixed_name tear_off bad_override abstract_made final_written bad_return_place shadowed wrong_arguments_of_static
accepted-an_own_methods_name_is_written = refl

-- class A { m() => 1; n() => m(); } main() { print(A().m()); }
accepted-a_method_is_called : failing (tree_of
    (t.a_class
    (class_of false (n (codes "A") 6) None []
    (t.method (n (codes "m") 10) [] (Some (t.arrow (t.int (pos 1) (sp 17 1))))
    ∷ t.method (n (codes "n") 20) [] (Some (t.arrow (t.call (n (codes "m") 27) (exps []))))
    ∷ []))
    ∷ t.a_function
    (function_of false (n (codes "main") 34) []
    (t.code
    (stas
    (t.run
    (t.call (n (codes "print") 43) (exps (t.postfix (t.call (n (codes "A") 49) (exps [])) (selectors (t.send (n (codes "m") 53) (exps []) ∷ [])) ∷ [])))
    ∷ []))))
    ∷ [])) ≡ None
unfolding duplicate_name unknown_super cycle_in_super super_is_builtin undefined_name mixed_name tear_off bad_override abstract_made final_written bad_return_place shadowed wrong_arguments_of_static
accepted-a_method_is_called = refl

-- class A { get x => 1; n() => x; } main() { print([].length); }
accepted-a_getter_is_read : failing (tree_of
    (t.a_class
    (class_of false (n (codes "A") 6) None []
    (t.getter (n (codes "x") 14) (Some (t.arrow (t.int (pos 1) (sp 19 1)))) ∷ t.method (n (codes "n") 22) [] (Some (t.arrow (t.bare (n (codes "x") 29)))) ∷ []))
    ∷ t.a_function
    (function_of false (n (codes "main") 34) []
    (t.code
    (stas (t.run (t.call (n (codes "print") 43) (exps (t.postfix (t.list (sp 49 1) (exps [])) (selectors (t.get (n (codes "length") 52) ∷ [])) ∷ []))) ∷ []))))
    ∷ [])) ≡ None
unfolding duplicate_name unknown_super cycle_in_super super_is_builtin undefined_name mixed_name tear_off bad_override abstract_made final_written bad_return_place shadowed wrong_arguments_of_static
accepted-a_getter_is_read = refl

-- class A {} f() => A(); main() { f(); }
accepted-a_function_and_a_class_are_called : failing (tree_of
    (t.a_class (class_of false (n (codes "A") 6) None [] [])
    ∷ t.a_function (function_of false (n (codes "f") 11) [] (t.arrow (t.call (n (codes "A") 18) (exps []))))
    ∷ t.a_function (function_of false (n (codes "main") 23) [] (t.code (stas (t.run (t.call (n (codes "f") 32) (exps [])) ∷ []))))
    ∷ [])) ≡ None
unfolding duplicate_name unknown_super cycle_in_super super_is_builtin undefined_name mixed_name tear_off bad_override abstract_made final_written bad_return_place shadowed wrong_arguments_of_static
accepted-a_function_and_a_class_are_called = refl

-- class A { m() => 1; n(m) => m; }
accepted-a_parameter_with_a_methods_name : failing (tree_of
    (t.a_class
    (class_of false (n (codes "A") 6) None []
    (t.method (n (codes "m") 10) [] (Some (t.arrow (t.int (pos 1) (sp 17 1))))
    ∷ t.method (n (codes "n") 20) (a_param false false (n (codes "m") 22) ∷ []) (Some (t.arrow (t.bare (n (codes "m") 28))))
    ∷ []))
    ∷ [])) ≡ None
unfolding duplicate_name unknown_super cycle_in_super super_is_builtin undefined_name mixed_name tear_off bad_override abstract_made final_written bad_return_place shadowed wrong_arguments_of_static
accepted-a_parameter_with_a_methods_name = refl

-- main() { print(1.foo); print(2.bar()); }
accepted-nobodys_name : failing (tree_of
    (t.a_function
    (function_of false (n (codes "main") 0) []
    (t.code
    (stas
    (t.run (t.call (n (codes "print") 9) (exps (t.postfix (t.int (pos 1) (sp 15 1)) (selectors (t.get (n (codes "foo") 17) ∷ [])) ∷ [])))
    ∷ t.run (t.call (n (codes "print") 23) (exps (t.postfix (t.int (pos 2) (sp 29 1)) (selectors (t.send (n (codes "bar") 31) (exps []) ∷ [])) ∷ [])))
    ∷ []))))
    ∷ [])) ≡ None
unfolding duplicate_name unknown_super cycle_in_super super_is_builtin undefined_name mixed_name tear_off bad_override abstract_made final_written bad_return_place shadowed wrong_arguments_of_static
accepted-nobodys_name = refl

-- var f = 1; main() { print(f); f += 1; }
accepted-a_variable_is_read : failing (tree_of
    (t.a_variable (a_local false (n (codes "f") 4) (Some (t.int (pos 1) (sp 8 1))))
    ∷ t.a_function
    (function_of false (n (codes "main") 11) []
    (t.code
    (stas
    (t.run (t.call (n (codes "print") 20) (exps (t.bare (n (codes "f") 26) ∷ [])))
    ∷ t.run (t.assign (t.bare (n (codes "f") 30)) a.Add (sp 32 2) (t.int (pos 1) (sp 35 1)))
    ∷ []))))
    ∷ [])) ≡ None
unfolding duplicate_name unknown_super cycle_in_super super_is_builtin undefined_name mixed_name tear_off bad_override abstract_made final_written bad_return_place shadowed wrong_arguments_of_static
accepted-a_variable_is_read = refl

-- class A { get x => 1; n() => x; }
accepted-an_own_getter_is_read : failing (tree_of
    (t.a_class
    (class_of false (n (codes "A") 6) None []
    (t.getter (n (codes "x") 14) (Some (t.arrow (t.int (pos 1) (sp 19 1)))) ∷ t.method (n (codes "n") 22) [] (Some (t.arrow (t.bare (n (codes "x") 29)))) ∷ []))
    ∷ [])) ≡ None
unfolding duplicate_name unknown_super cycle_in_super super_is_builtin undefined_name mixed_name tear_off bad_override abstract_made final_written bad_return_place shadowed wrong_arguments_of_static
accepted-an_own_getter_is_read = refl

-- f() {} main() { f(); }
accepted-a_function_is_called : failing (tree_of
    (t.a_function (function_of false (n (codes "f") 0) [] (t.code (stas [])))
    ∷ t.a_function (function_of false (n (codes "main") 7) [] (t.code (stas (t.run (t.call (n (codes "f") 16) (exps [])) ∷ []))))
    ∷ [])) ≡ None
unfolding duplicate_name unknown_super cycle_in_super super_is_builtin undefined_name mixed_name tear_off bad_override abstract_made final_written bad_return_place shadowed wrong_arguments_of_static
accepted-a_function_is_called = refl

-- class A {} main() { print(A()); }
accepted-a_class_is_called : failing (tree_of
    (t.a_class (class_of false (n (codes "A") 6) None [] [])
    ∷ t.a_function
    (function_of false (n (codes "main") 11) [] (t.code (stas (t.run (t.call (n (codes "print") 20) (exps (t.call (n (codes "A") 26) (exps []) ∷ []))) ∷ []))))
    ∷ [])) ≡ None
unfolding duplicate_name unknown_super cycle_in_super super_is_builtin undefined_name mixed_name tear_off bad_override abstract_made final_written bad_return_place shadowed wrong_arguments_of_static
accepted-a_class_is_called = refl
