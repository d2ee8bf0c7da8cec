-- Texts that break AbstractMade, each with its place, §, and texts that are accepted.
use Rattle.std.proofs.Common.{◌≡◌, refl}
use Rattle.std.specs.Prelude.{[], ◌∷◌, Some, None, codes, true, false, pos}
use Rattle.dart_syntax.specs.Syntax as t
use Rattle.dart_syntax.specs.Syntax.{exps, stas, a_local, a_param, passing, function_of, class_of, tree_of}
use Rattle.static_rules.specs.declared.rule.Rule.TheVariants.{AbstractMade}
use Rattle.static_rules.specs.Accepted.{failing}
use Rattle.static_rules.specs.DuplicateName.{duplicate_name}
use Rattle.static_rules.specs.Supers.{unknown_super, cycle_in_super, super_is_builtin}
use Rattle.static_rules.specs.UndefinedName.{undefined_name}
use Rattle.static_rules.specs.MixedName.{mixed_name}
use Rattle.static_rules.specs.TearOff.{tear_off}
use Rattle.static_rules.specs.BadOverride.{bad_override}
use Rattle.static_rules.specs.AbstractMade.{abstract_made}
use Rattle.static_rules.specs.FinalWritten.{final_written}
use Rattle.static_rules.specs.BadReturnPlace.{bad_return_place}
use Rattle.static_rules.specs.Shadowed.{shadowed}
use Rattle.static_rules.specs.WrongArgumentsOfStatic.{wrong_arguments_of_static}
use Rattle.static_rules.proofs.cases.Words.{n, sp}

-- abstract class A {} main() { §A(); }
an_abstract_class : failing (tree_of
    (t.a_class (class_of true (n (codes "A") 15) None [] [])
    ∷ t.a_function (function_of false (n (codes "main") 20) [] (t.code (stas (t.run (t.call (n (codes "A") 29) (exps [])) ∷ []))))
    ∷ [])) ≡ Some (AbstractMade, sp 29 1)
unfolding duplicate_name unknown_super cycle_in_super super_is_builtin undefined_name mixed_name tear_off bad_override abstract_made final_written bad_return_place shadowed wrong_arguments_of_static
an_abstract_class = refl

-- main() { print(§int()); }
an_int : failing (tree_of
    (t.a_function
    (function_of false (n (codes "main") 0) [] (t.code (stas (t.run (t.call (n (codes "print") 9) (exps (t.call (n (codes "int") 15) (exps []) ∷ []))) ∷ []))))
    ∷ [])) ≡ Some (AbstractMade, sp 15 3)
unfolding duplicate_name unknown_super cycle_in_super super_is_builtin undefined_name mixed_name tear_off bad_override abstract_made final_written bad_return_place shadowed wrong_arguments_of_static
an_int = refl

-- main() { var x = §List(); }
a_list : failing (tree_of
    (t.a_function
    (function_of false (n (codes "main") 0) [] (t.code (stas (t.local (a_local false (n (codes "x") 13) (Some (t.call (n (codes "List") 17) (exps [])))) ∷ []))))
    ∷ [])) ≡ Some (AbstractMade, sp 17 4)
unfolding duplicate_name unknown_super cycle_in_super super_is_builtin undefined_name mixed_name tear_off bad_override abstract_made final_written bad_return_place shadowed wrong_arguments_of_static
a_list = refl

-- main() { §String(1, 2); }
a_string_with_arguments : failing (tree_of
    (t.a_function
    (function_of false (n (codes "main") 0) []
    (t.code (stas (t.run (t.call (n (codes "String") 9) (exps (t.int (pos 1) (sp 16 1) ∷ t.int (pos 2) (sp 19 1) ∷ []))) ∷ []))))
    ∷ [])) ≡ Some (AbstractMade, sp 9 6)
unfolding duplicate_name unknown_super cycle_in_super super_is_builtin undefined_name mixed_name tear_off bad_override abstract_made final_written bad_return_place shadowed wrong_arguments_of_static
a_string_with_arguments = refl

-- main() { §Null(); }
null : failing (tree_of (t.a_function (function_of false (n (codes "main") 0) [] (t.code (stas (t.run (t.call (n (codes "Null") 9) (exps [])) ∷ [])))) ∷ [])) ≡ Some (AbstractMade, sp 9 4)
unfolding duplicate_name unknown_super cycle_in_super super_is_builtin undefined_name mixed_name tear_off bad_override abstract_made final_written bad_return_place shadowed wrong_arguments_of_static
null = refl

-- f() => §Invocation();
an_invocation : failing (tree_of (t.a_function (function_of false (n (codes "f") 0) [] (t.arrow (t.call (n (codes "Invocation") 7) (exps [])))) ∷ [])) ≡ Some (AbstractMade, sp 7 10)
unfolding duplicate_name unknown_super cycle_in_super super_is_builtin undefined_name mixed_name tear_off bad_override abstract_made final_written bad_return_place shadowed wrong_arguments_of_static
an_invocation = refl

-- abstract class A {} class B { m() => §A(); }
in_a_method : failing (tree_of
    (t.a_class (class_of true (n (codes "A") 15) None [] [])
    ∷ t.a_class (class_of false (n (codes "B") 26) None [] (t.method (n (codes "m") 30) [] (Some (t.arrow (t.call (n (codes "A") 37) (exps [])))) ∷ []))
    ∷ [])) ≡ Some (AbstractMade, sp 37 1)
unfolding duplicate_name unknown_super cycle_in_super super_is_builtin undefined_name mixed_name tear_off bad_override abstract_made final_written bad_return_place shadowed wrong_arguments_of_static
in_a_method = refl

-- abstract class C {} class A { A(x); } class B extends A { B() : super(§C()); }
in_passed : failing (tree_of
    (t.a_class (class_of true (n (codes "C") 15) None [] [])
    ∷ t.a_class (class_of false (n (codes "A") 26) None [] (t.constructor (n (codes "A") 30) (a_param false false (n (codes "x") 32) ∷ []) None None ∷ []))
    ∷ t.a_class
    (class_of false (n (codes "B") 44) (Some (n (codes "A") 54)) []
    (t.constructor (n (codes "B") 58) [] (Some (passing (sp 64 5) (exps (t.call (n (codes "C") 70) (exps []) ∷ [])))) None ∷ []))
    ∷ [])) ≡ Some (AbstractMade, sp 70 1)
unfolding duplicate_name unknown_super cycle_in_super super_is_builtin undefined_name mixed_name tear_off bad_override abstract_made final_written bad_return_place shadowed wrong_arguments_of_static
in_passed = refl

-- abstract class A { m() => §A(); }
inside_itself : failing (tree_of (t.a_class (class_of true (n (codes "A") 15) None [] (t.method (n (codes "m") 19) [] (Some (t.arrow (t.call (n (codes "A") 26) (exps [])))) ∷ [])) ∷ [])) ≡ Some (AbstractMade, sp 26 1)
unfolding duplicate_name unknown_super cycle_in_super super_is_builtin undefined_name mixed_name tear_off bad_override abstract_made final_written bad_return_place shadowed wrong_arguments_of_static
inside_itself = refl

-- main() { print(Object()); }
accepted-an_object : failing (tree_of
    (t.a_function
    (function_of false (n (codes "main") 0) [] (t.code (stas (t.run (t.call (n (codes "print") 9) (exps (t.call (n (codes "Object") 15) (exps []) ∷ []))) ∷ []))))
    ∷ [])) ≡ None
unfolding duplicate_name unknown_super cycle_in_super super_is_builtin undefined_name mixed_name tear_off bad_override abstract_made final_written bad_return_place shadowed wrong_arguments_of_static
accepted-an_object = refl

-- class A {} main() { A(); }
accepted-a_concrete_class : failing (tree_of
    (t.a_class (class_of false (n (codes "A") 6) None [] [])
    ∷ t.a_function (function_of false (n (codes "main") 11) [] (t.code (stas (t.run (t.call (n (codes "A") 20) (exps [])) ∷ []))))
    ∷ [])) ≡ None
unfolding duplicate_name unknown_super cycle_in_super super_is_builtin undefined_name mixed_name tear_off bad_override abstract_made final_written bad_return_place shadowed wrong_arguments_of_static
accepted-a_concrete_class = refl

-- abstract class A {} class B extends A {} main() { B(); }
accepted-a_concrete_class_below : failing (tree_of
    (t.a_class (class_of true (n (codes "A") 15) None [] [])
    ∷ t.a_class (class_of false (n (codes "B") 26) (Some (n (codes "A") 36)) [] [])
    ∷ t.a_function (function_of false (n (codes "main") 41) [] (t.code (stas (t.run (t.call (n (codes "B") 50) (exps [])) ∷ []))))
    ∷ [])) ≡ None
unfolding duplicate_name unknown_super cycle_in_super super_is_builtin undefined_name mixed_name tear_off bad_override abstract_made final_written bad_return_place shadowed wrong_arguments_of_static
accepted-a_concrete_class_below = refl

-- abstract class A { A(x); } class B extends A { B() : super(1); }
accepted-an_abstract_superclass : failing (tree_of
    (t.a_class (class_of true (n (codes "A") 15) None [] (t.constructor (n (codes "A") 19) (a_param false false (n (codes "x") 21) ∷ []) None None ∷ []))
    ∷ t.a_class
    (class_of false (n (codes "B") 33) (Some (n (codes "A") 43)) []
    (t.constructor (n (codes "B") 47) [] (Some (passing (sp 53 5) (exps (t.int (pos 1) (sp 59 1) ∷ [])))) None ∷ []))
    ∷ [])) ≡ None
unfolding duplicate_name unknown_super cycle_in_super super_is_builtin undefined_name mixed_name tear_off bad_override abstract_made final_written bad_return_place shadowed wrong_arguments_of_static
accepted-an_abstract_superclass = refl

-- abstract class A {} main() { print(1 is A); }
accepted-asked_by_is : failing (tree_of
    (t.a_class (class_of true (n (codes "A") 15) None [] [])
    ∷ t.a_function
    (function_of false (n (codes "main") 20) []
    (t.code (stas (t.run (t.call (n (codes "print") 29) (exps (t.is (t.int (pos 1) (sp 35 1)) false (sp 37 2) (n (codes "A") 40) ∷ []))) ∷ []))))
    ∷ [])) ≡ None
unfolding duplicate_name unknown_super cycle_in_super super_is_builtin undefined_name mixed_name tear_off bad_override abstract_made final_written bad_return_place shadowed wrong_arguments_of_static
accepted-asked_by_is = refl

-- class A { int() => 1; m() => int(); }
accepted-a_member_of_that_name : failing (tree_of
    (t.a_class
    (class_of false (n (codes "A") 6) None []
    (t.method (n (codes "int") 10) [] (Some (t.arrow (t.int (pos 1) (sp 19 1))))
    ∷ t.method (n (codes "m") 22) [] (Some (t.arrow (t.call (n (codes "int") 29) (exps []))))
    ∷ []))
    ∷ [])) ≡ None
unfolding duplicate_name unknown_super cycle_in_super super_is_builtin undefined_name mixed_name tear_off bad_override abstract_made final_written bad_return_place shadowed wrong_arguments_of_static
accepted-a_member_of_that_name = refl
