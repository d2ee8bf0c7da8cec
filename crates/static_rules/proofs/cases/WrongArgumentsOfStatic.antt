-- Texts that break WrongArgumentsOfStatic, each with its place, §, and texts that are accepted.
use Rattle.std.proofs.Common.{◌≡◌, refl}
use Rattle.std.specs.Prelude.{[], ◌∷◌, Some, None, codes, true, false, pos}
use Rattle.dart_syntax.specs.Syntax as t
use Rattle.dart_syntax.specs.Syntax.{exps, selectors, stas, a_local, a_param, passing, function_of, class_of, tree_of}
use Rattle.static_rules.specs.declared.rule.Rule.TheVariants.{WrongArgumentsOfStatic}
use Rattle.static_rules.specs.Accepted.{failing}
use Rattle.static_rules.specs.DuplicateName.{duplicate_name}
use Rattle.static_rules.specs.Supers.{unknown_super, cycle_in_super, super_is_builtin}
use Rattle.static_rules.specs.UndefinedName.{undefined_name}
use Rattle.static_rules.specs.MixedName.{mixed_name}
use Rattle.static_rules.specs.TearOff.{tear_off}
use Rattle.static_rules.specs.BadOverride.{bad_override}
use Rattle.static_rules.specs.AbstractMade.{abstract_made}
use Rattle.static_rules.specs.FinalWritten.{final_written}
use Rattle.static_rules.specs.BadReturnPlace.{bad_return_place}
use Rattle.static_rules.specs.Shadowed.{shadowed}
use Rattle.static_rules.specs.WrongArgumentsOfStatic.{wrong_arguments_of_static}
use Rattle.static_rules.proofs.cases.Words.{n, sp}

-- f(a) {} main() { §f(); }
a_function : failing (tree_of
    (t.a_function (function_of false (n (codes "f") 0) (a_param false false (n (codes "a") 2) ∷ []) (t.code (stas [])))
    ∷ t.a_function (function_of false (n (codes "main") 8) [] (t.code (stas (t.run (t.call (n (codes "f") 17) (exps [])) ∷ []))))
    ∷ [])) ≡ Some (WrongArgumentsOfStatic, sp 17 1)
unfolding duplicate_name unknown_super cycle_in_super super_is_builtin undefined_name mixed_name tear_off bad_override abstract_made final_written bad_return_place shadowed wrong_arguments_of_static
a_function = refl

-- main() { §print(); }
print_without_one : failing (tree_of (t.a_function (function_of false (n (codes "main") 0) [] (t.code (stas (t.run (t.call (n (codes "print") 9) (exps [])) ∷ [])))) ∷ [])) ≡ Some (WrongArgumentsOfStatic, sp 9 5)
unfolding duplicate_name unknown_super cycle_in_super super_is_builtin undefined_name mixed_name tear_off bad_override abstract_made final_written bad_return_place shadowed wrong_arguments_of_static
print_without_one = refl

-- main() { §print(1, 2); }
print_with_two : failing (tree_of
    (t.a_function
    (function_of false (n (codes "main") 0) []
    (t.code (stas (t.run (t.call (n (codes "print") 9) (exps (t.int (pos 1) (sp 15 1) ∷ t.int (pos 2) (sp 18 1) ∷ []))) ∷ []))))
    ∷ [])) ≡ Some (WrongArgumentsOfStatic, sp 9 5)
unfolding duplicate_name unknown_super cycle_in_super super_is_builtin undefined_name mixed_name tear_off bad_override abstract_made final_written bad_return_place shadowed wrong_arguments_of_static
print_with_two = refl

-- class A { A(x); } main() { §A(); }
a_constructor : failing (tree_of
    (t.a_class (class_of false (n (codes "A") 6) None [] (t.constructor (n (codes "A") 10) (a_param false false (n (codes "x") 12) ∷ []) None None ∷ []))
    ∷ t.a_function (function_of false (n (codes "main") 18) [] (t.code (stas (t.run (t.call (n (codes "A") 27) (exps [])) ∷ []))))
    ∷ [])) ≡ Some (WrongArgumentsOfStatic, sp 27 1)
unfolding duplicate_name unknown_super cycle_in_super super_is_builtin undefined_name mixed_name tear_off bad_override abstract_made final_written bad_return_place shadowed wrong_arguments_of_static
a_constructor = refl

-- class A {} main() { §A(1); }
a_class_without_a_constructor : failing (tree_of
    (t.a_class (class_of false (n (codes "A") 6) None [] [])
    ∷ t.a_function (function_of false (n (codes "main") 11) [] (t.code (stas (t.run (t.call (n (codes "A") 20) (exps (t.int (pos 1) (sp 22 1) ∷ []))) ∷ []))))
    ∷ [])) ≡ Some (WrongArgumentsOfStatic, sp 20 1)
unfolding duplicate_name unknown_super cycle_in_super super_is_builtin undefined_name mixed_name tear_off bad_override abstract_made final_written bad_return_place shadowed wrong_arguments_of_static
a_class_without_a_constructor = refl

-- main() { §Object(1); }
an_object : failing (tree_of
    (t.a_function (function_of false (n (codes "main") 0) [] (t.code (stas (t.run (t.call (n (codes "Object") 9) (exps (t.int (pos 1) (sp 16 1) ∷ []))) ∷ [])))) ∷ [])) ≡ Some (WrongArgumentsOfStatic, sp 9 6)
unfolding duplicate_name unknown_super cycle_in_super super_is_builtin undefined_name mixed_name tear_off bad_override abstract_made final_written bad_return_place shadowed wrong_arguments_of_static
an_object = refl

-- class A { A(x); } class B extends A { B(y) : §super(y, 2); }
a_written_super_call : failing (tree_of
    (t.a_class (class_of false (n (codes "A") 6) None [] (t.constructor (n (codes "A") 10) (a_param false false (n (codes "x") 12) ∷ []) None None ∷ []))
    ∷ t.a_class
    (class_of false (n (codes "B") 24) (Some (n (codes "A") 34)) []
    (t.constructor (n (codes "B") 38)
    (a_param false false (n (codes "y") 40) ∷ [])
    (Some (passing (sp 45 5) (exps (t.bare (n (codes "y") 51) ∷ t.int (pos 2) (sp 54 1) ∷ []))))
    None
    ∷ []))
    ∷ [])) ≡ Some (WrongArgumentsOfStatic, sp 45 5)
unfolding duplicate_name unknown_super cycle_in_super super_is_builtin undefined_name mixed_name tear_off bad_override abstract_made final_written bad_return_place shadowed wrong_arguments_of_static
a_written_super_call = refl

-- class A { A(x); } class §B extends A { B() {} }
a_super_call_beside_a_constructor : failing (tree_of
    (t.a_class (class_of false (n (codes "A") 6) None [] (t.constructor (n (codes "A") 10) (a_param false false (n (codes "x") 12) ∷ []) None None ∷ []))
    ∷ t.a_class (class_of false (n (codes "B") 24) (Some (n (codes "A") 34)) [] (t.constructor (n (codes "B") 38) [] None (Some (stas [])) ∷ []))
    ∷ [])) ≡ Some (WrongArgumentsOfStatic, sp 24 1)
unfolding duplicate_name unknown_super cycle_in_super super_is_builtin undefined_name mixed_name tear_off bad_override abstract_made final_written bad_return_place shadowed wrong_arguments_of_static
a_super_call_beside_a_constructor = refl

-- class A { A(x); } class §B extends A {}
a_super_call_of_a_class_without_a_constructor : failing (tree_of
    (t.a_class (class_of false (n (codes "A") 6) None [] (t.constructor (n (codes "A") 10) (a_param false false (n (codes "x") 12) ∷ []) None None ∷ []))
    ∷ t.a_class (class_of false (n (codes "B") 24) (Some (n (codes "A") 34)) [] [])
    ∷ [])) ≡ Some (WrongArgumentsOfStatic, sp 24 1)
unfolding duplicate_name unknown_super cycle_in_super super_is_builtin undefined_name mixed_name tear_off bad_override abstract_made final_written bad_return_place shadowed wrong_arguments_of_static
a_super_call_of_a_class_without_a_constructor = refl

-- abstract class A { A(x); } class §B extends A {}
of_an_abstract_superclass : failing (tree_of
    (t.a_class (class_of true (n (codes "A") 15) None [] (t.constructor (n (codes "A") 19) (a_param false false (n (codes "x") 21) ∷ []) None None ∷ []))
    ∷ t.a_class (class_of false (n (codes "B") 33) (Some (n (codes "A") 43)) [] [])
    ∷ [])) ≡ Some (WrongArgumentsOfStatic, sp 33 1)
unfolding duplicate_name unknown_super cycle_in_super super_is_builtin undefined_name mixed_name tear_off bad_override abstract_made final_written bad_return_place shadowed wrong_arguments_of_static
of_an_abstract_superclass = refl

-- class A { A() : §super(1); }
of_object : failing (tree_of
    (t.a_class
    (class_of false (n (codes "A") 6) None [] (t.constructor (n (codes "A") 10) [] (Some (passing (sp 16 5) (exps (t.int (pos 1) (sp 22 1) ∷ [])))) None ∷ []))
    ∷ [])) ≡ Some (WrongArgumentsOfStatic, sp 16 5)
unfolding duplicate_name unknown_super cycle_in_super super_is_builtin undefined_name mixed_name tear_off bad_override abstract_made final_written bad_return_place shadowed wrong_arguments_of_static
of_object = refl

-- class A { m() => 1; } class B extends A { n() => super.§m(1); }
a_super_method : failing (tree_of
    (t.a_class (class_of false (n (codes "A") 6) None [] (t.method (n (codes "m") 10) [] (Some (t.arrow (t.int (pos 1) (sp 17 1)))) ∷ []))
    ∷ t.a_class
    (class_of false (n (codes "B") 28) (Some (n (codes "A") 38)) []
    (t.method (n (codes "n") 42) [] (Some (t.arrow (t.super_call (sp 49 5) (n (codes "m") 55) (exps (t.int (pos 1) (sp 57 1) ∷ []))))) ∷ []))
    ∷ [])) ≡ Some (WrongArgumentsOfStatic, sp 55 1)
unfolding duplicate_name unknown_super cycle_in_super super_is_builtin undefined_name mixed_name tear_off bad_override abstract_made final_written bad_return_place shadowed wrong_arguments_of_static
a_super_method = refl

-- class A { n() => super.§toString(1); }
a_super_method_of_object : failing (tree_of
    (t.a_class
    (class_of false (n (codes "A") 6) None []
    (t.method (n (codes "n") 10) [] (Some (t.arrow (t.super_call (sp 17 5) (n (codes "toString") 23) (exps (t.int (pos 1) (sp 32 1) ∷ []))))) ∷ []))
    ∷ [])) ≡ Some (WrongArgumentsOfStatic, sp 23 8)
unfolding duplicate_name unknown_super cycle_in_super super_is_builtin undefined_name mixed_name tear_off bad_override abstract_made final_written bad_return_place shadowed wrong_arguments_of_static
a_super_method_of_object = refl

-- f(a) => a; main() { f(§f()); }
in_an_argument : failing (tree_of
    (t.a_function (function_of false (n (codes "f") 0) (a_param false false (n (codes "a") 2) ∷ []) (t.arrow (t.bare (n (codes "a") 8))))
    ∷ t.a_function
    (function_of false (n (codes "main") 11) [] (t.code (stas (t.run (t.call (n (codes "f") 20) (exps (t.call (n (codes "f") 22) (exps []) ∷ []))) ∷ []))))
    ∷ [])) ≡ Some (WrongArgumentsOfStatic, sp 22 1)
unfolding duplicate_name unknown_super cycle_in_super super_is_builtin undefined_name mixed_name tear_off bad_override abstract_made final_written bad_return_place shadowed wrong_arguments_of_static
in_an_argument = refl

-- f() {} class §B extends A { m() { f(1); } } class A { A(x); }
the_first_in_the_text : failing (tree_of
    (t.a_function (function_of false (n (codes "f") 0) [] (t.code (stas [])))
    ∷ t.a_class
    (class_of false (n (codes "B") 13) (Some (n (codes "A") 23)) []
    (t.method (n (codes "m") 27) [] (Some (t.code (stas (t.run (t.call (n (codes "f") 33) (exps (t.int (pos 1) (sp 35 1) ∷ []))) ∷ [])))) ∷ []))
    ∷ t.a_class (class_of false (n (codes "A") 49) None [] (t.constructor (n (codes "A") 53) (a_param false false (n (codes "x") 55) ∷ []) None None ∷ []))
    ∷ [])) ≡ Some (WrongArgumentsOfStatic, sp 13 1)
unfolding duplicate_name unknown_super cycle_in_super super_is_builtin undefined_name mixed_name tear_off bad_override abstract_made final_written bad_return_place shadowed wrong_arguments_of_static
the_first_in_the_text = refl

-- f(a, b) => a; class A { var x; A(this.x, y); } main() { print(f(1, 2)); A(1, 2); }
accepted-the_right_numbers : failing (tree_of
    (t.a_function
    (function_of false (n (codes "f") 0) (a_param false false (n (codes "a") 2) ∷ a_param false false (n (codes "b") 5) ∷ []) (t.arrow (t.bare (n (codes "a") 11))))
    ∷ t.a_class
    (class_of false (n (codes "A") 20) None []
    (t.field (a_local false (n (codes "x") 28) None)
    ∷ t.constructor (n (codes "A") 31) (a_param false true (n (codes "x") 38) ∷ a_param false false (n (codes "y") 41) ∷ []) None None
    ∷ []))
    ∷ t.a_function
    (function_of false (n (codes "main") 47) []
    (t.code
    (stas
    (t.run (t.call (n (codes "print") 56) (exps (t.call (n (codes "f") 62) (exps (t.int (pos 1) (sp 64 1) ∷ t.int (pos 2) (sp 67 1) ∷ [])) ∷ [])))
    ∷ t.run (t.call (n (codes "A") 72) (exps (t.int (pos 1) (sp 74 1) ∷ t.int (pos 2) (sp 77 1) ∷ [])))
    ∷ []))))
    ∷ [])) ≡ None
unfolding duplicate_name unknown_super cycle_in_super super_is_builtin undefined_name mixed_name tear_off bad_override abstract_made final_written bad_return_place shadowed wrong_arguments_of_static
accepted-the_right_numbers = refl

-- class B { m() => 1; }
-- main() { print(B().m(2)); }
accepted-wrong_argument_count-case : failing (tree_of
    (t.a_class (class_of false (n (codes "B") 6) None [] (t.method (n (codes "m") 10) [] (Some (t.arrow (t.int (pos 1) (sp 17 1)))) ∷ []))
    ∷ t.a_function
    (function_of false (n (codes "main") 22) []
    (t.code
    (stas
    (t.run
    (t.call (n (codes "print") 31)
    (exps (t.postfix (t.call (n (codes "B") 37) (exps [])) (selectors (t.send (n (codes "m") 41) (exps (t.int (pos 2) (sp 43 1) ∷ [])) ∷ [])) ∷ [])))
    ∷ []))))
    ∷ [])) ≡ None
unfolding duplicate_name unknown_super cycle_in_super super_is_builtin undefined_name mixed_name tear_off bad_override abstract_made final_written bad_return_place shadowed wrong_arguments_of_static
accepted-wrong_argument_count-case = refl

-- class A { m() => 1; n() => m(1); o() => toString(2); }
accepted-a_member_without_a_receiver : failing (tree_of
    (t.a_class
    (class_of false (n (codes "A") 6) None []
    (t.method (n (codes "m") 10) [] (Some (t.arrow (t.int (pos 1) (sp 17 1))))
    ∷ t.method (n (codes "n") 20) [] (Some (t.arrow (t.call (n (codes "m") 27) (exps (t.int (pos 1) (sp 29 1) ∷ [])))))
    ∷ t.method (n (codes "o") 33) [] (Some (t.arrow (t.call (n (codes "toString") 40) (exps (t.int (pos 2) (sp 49 1) ∷ [])))))
    ∷ []))
    ∷ [])) ≡ None
unfolding duplicate_name unknown_super cycle_in_super super_is_builtin undefined_name mixed_name tear_off bad_override abstract_made final_written bad_return_place shadowed wrong_arguments_of_static
accepted-a_member_without_a_receiver = refl

-- class A { A(x); m(y) => y; } class B extends A { B() : super(1) {} n() => super.m(2); }
accepted-super_calls : failing (tree_of
    (t.a_class
    (class_of false (n (codes "A") 6) None []
    (t.constructor (n (codes "A") 10) (a_param false false (n (codes "x") 12) ∷ []) None None
    ∷ t.method (n (codes "m") 16) (a_param false false (n (codes "y") 18) ∷ []) (Some (t.arrow (t.bare (n (codes "y") 24))))
    ∷ []))
    ∷ t.a_class
    (class_of false (n (codes "B") 35) (Some (n (codes "A") 45)) []
    (t.constructor (n (codes "B") 49) [] (Some (passing (sp 55 5) (exps (t.int (pos 1) (sp 61 1) ∷ [])))) (Some (stas []))
    ∷ t.method (n (codes "n") 67) [] (Some (t.arrow (t.super_call (sp 74 5) (n (codes "m") 80) (exps (t.int (pos 2) (sp 82 1) ∷ [])))))
    ∷ []))
    ∷ [])) ≡ None
unfolding duplicate_name unknown_super cycle_in_super super_is_builtin undefined_name mixed_name tear_off bad_override abstract_made final_written bad_return_place shadowed wrong_arguments_of_static
accepted-super_calls = refl

-- class A {} class B extends A { B(x); } class C extends A {}
accepted-implicit_super_calls : failing (tree_of
    (t.a_class (class_of false (n (codes "A") 6) None [] [])
    ∷ t.a_class
    (class_of false (n (codes "B") 17) (Some (n (codes "A") 27)) [] (t.constructor (n (codes "B") 31) (a_param false false (n (codes "x") 33) ∷ []) None None ∷ []))
    ∷ t.a_class (class_of false (n (codes "C") 45) (Some (n (codes "A") 55)) [] [])
    ∷ [])) ≡ None
unfolding duplicate_name unknown_super cycle_in_super super_is_builtin undefined_name mixed_name tear_off bad_override abstract_made final_written bad_return_place shadowed wrong_arguments_of_static
accepted-implicit_super_calls = refl

-- class A { A() : super(); }
accepted-a_super_call_of_object : failing (tree_of (t.a_class (class_of false (n (codes "A") 6) None [] (t.constructor (n (codes "A") 10) [] (Some (passing (sp 16 5) (exps []))) None ∷ [])) ∷ [])) ≡ None
unfolding duplicate_name unknown_super cycle_in_super super_is_builtin undefined_name mixed_name tear_off bad_override abstract_made final_written bad_return_place shadowed wrong_arguments_of_static
accepted-a_super_call_of_object = refl

-- class A { noSuchMethod(i) => super.noSuchMethod(i); }
accepted-noSuchMethod_of_super : failing (tree_of
    (t.a_class
    (class_of false (n (codes "A") 6) None []
    (t.method (n (codes "noSuchMethod") 10)
    (a_param false false (n (codes "i") 23) ∷ [])
    (Some (t.arrow (t.super_call (sp 29 5) (n (codes "noSuchMethod") 35) (exps (t.bare (n (codes "i") 48) ∷ [])))))
    ∷ []))
    ∷ [])) ≡ None
unfolding duplicate_name unknown_super cycle_in_super super_is_builtin undefined_name mixed_name tear_off bad_override abstract_made final_written bad_return_place shadowed wrong_arguments_of_static
accepted-noSuchMethod_of_super = refl

-- class A { m() => 1; n() => m(1); }
accepted-an_own_member : failing (tree_of
    (t.a_class
    (class_of false (n (codes "A") 6) None []
    (t.method (n (codes "m") 10) [] (Some (t.arrow (t.int (pos 1) (sp 17 1))))
    ∷ t.method (n (codes "n") 20) [] (Some (t.arrow (t.call (n (codes "m") 27) (exps (t.int (pos 1) (sp 29 1) ∷ [])))))
    ∷ []))
    ∷ [])) ≡ None
unfolding duplicate_name unknown_super cycle_in_super super_is_builtin undefined_name mixed_name tear_off bad_override abstract_made final_written bad_return_place shadowed wrong_arguments_of_static
accepted-an_own_member = refl

-- class A { A(x); } class B extends A { B() : super(1); }
accepted-a_written_super_call_that_fits : failing (tree_of
    (t.a_class (class_of false (n (codes "A") 6) None [] (t.constructor (n (codes "A") 10) (a_param false false (n (codes "x") 12) ∷ []) None None ∷ []))
    ∷ t.a_class
    (class_of false (n (codes "B") 24) (Some (n (codes "A") 34)) []
    (t.constructor (n (codes "B") 38) [] (Some (passing (sp 44 5) (exps (t.int (pos 1) (sp 50 1) ∷ [])))) None ∷ []))
    ∷ [])) ≡ None
unfolding duplicate_name unknown_super cycle_in_super super_is_builtin undefined_name mixed_name tear_off bad_override abstract_made final_written bad_return_place shadowed wrong_arguments_of_static
accepted-a_written_super_call_that_fits = refl

-- class A {} class B extends A { B(x); }
accepted-an_implicit_super_call_that_fits : failing (tree_of
    (t.a_class (class_of false (n (codes "A") 6) None [] [])
    ∷ t.a_class
    (class_of false (n (codes "B") 17) (Some (n (codes "A") 27)) [] (t.constructor (n (codes "B") 31) (a_param false false (n (codes "x") 33) ∷ []) None None ∷ []))
    ∷ [])) ≡ None
unfolding duplicate_name unknown_super cycle_in_super super_is_builtin undefined_name mixed_name tear_off bad_override abstract_made final_written bad_return_place shadowed wrong_arguments_of_static
accepted-an_implicit_super_call_that_fits = refl
