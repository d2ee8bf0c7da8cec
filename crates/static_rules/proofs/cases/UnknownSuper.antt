-- Texts that break UnknownSuper, each with its place, §, and texts that are accepted.
use Rattle.std.proofs.Common.{◌≡◌, refl}
use Rattle.std.specs.Prelude.{[], ◌∷◌, Some, None, codes, true, false}
use Rattle.dart_syntax.specs.Syntax as t
use Rattle.dart_syntax.specs.Syntax.{stas, a_local, function_of, class_of, tree_of}
use Rattle.static_rules.specs.declared.rule.Rule.TheVariants.{UnknownSuper}
use Rattle.static_rules.specs.Accepted.{failing}
use Rattle.static_rules.specs.DuplicateName.{duplicate_name}
use Rattle.static_rules.specs.Supers.{unknown_super, cycle_in_super, super_is_builtin}
use Rattle.static_rules.specs.UndefinedName.{undefined_name}
use Rattle.static_rules.specs.MixedName.{mixed_name}
use Rattle.static_rules.specs.TearOff.{tear_off}
use Rattle.static_rules.specs.BadOverride.{bad_override}
use Rattle.static_rules.specs.AbstractMade.{abstract_made}
use Rattle.static_rules.specs.FinalWritten.{final_written}
use Rattle.static_rules.specs.BadReturnPlace.{bad_return_place}
use Rattle.static_rules.specs.Shadowed.{shadowed}
use Rattle.static_rules.specs.WrongArgumentsOfStatic.{wrong_arguments_of_static}
use Rattle.static_rules.proofs.cases.Words.{n, sp}

-- class A { m() => x; }
-- class B extends §C {}
unknown_super-case : failing (tree_of
    (t.a_class (class_of false (n (codes "A") 6) None [] (t.method (n (codes "m") 10) [] (Some (t.arrow (t.bare (n (codes "x") 17)))) ∷ []))
    ∷ t.a_class (class_of false (n (codes "B") 28) (Some (n (codes "C") 38)) [] [])
    ∷ [])) ≡ Some (UnknownSuper, sp 38 1)
unfolding duplicate_name unknown_super cycle_in_super super_is_builtin undefined_name mixed_name tear_off bad_override abstract_made final_written bad_return_place shadowed wrong_arguments_of_static
unknown_super-case = refl

-- class A implements §B {}
behind_implements : failing (tree_of (t.a_class (class_of false (n (codes "A") 6) None (n (codes "B") 19 ∷ []) []) ∷ [])) ≡ Some (UnknownSuper, sp 19 1)
unfolding duplicate_name unknown_super cycle_in_super super_is_builtin undefined_name mixed_name tear_off bad_override abstract_made final_written bad_return_place shadowed wrong_arguments_of_static
behind_implements = refl

-- f() {} class A extends §f {}
a_function : failing (tree_of
    (t.a_function (function_of false (n (codes "f") 0) [] (t.code (stas []))) ∷ t.a_class (class_of false (n (codes "A") 13) (Some (n (codes "f") 23)) [] []) ∷ [])) ≡ Some (UnknownSuper, sp 23 1)
unfolding duplicate_name unknown_super cycle_in_super super_is_builtin undefined_name mixed_name tear_off bad_override abstract_made final_written bad_return_place shadowed wrong_arguments_of_static
a_function = refl

-- var v; class A implements §v {}
a_variable : failing (tree_of (t.a_variable (a_local false (n (codes "v") 4) None) ∷ t.a_class (class_of false (n (codes "A") 13) None (n (codes "v") 26 ∷ []) []) ∷ [])) ≡ Some (UnknownSuper, sp 26 1)
unfolding duplicate_name unknown_super cycle_in_super super_is_builtin undefined_name mixed_name tear_off bad_override abstract_made final_written bad_return_place shadowed wrong_arguments_of_static
a_variable = refl

-- class A extends §print {}
print : failing (tree_of (t.a_class (class_of false (n (codes "A") 6) (Some (n (codes "print") 16)) [] []) ∷ [])) ≡ Some (UnknownSuper, sp 16 5)
unfolding duplicate_name unknown_super cycle_in_super super_is_builtin undefined_name mixed_name tear_off bad_override abstract_made final_written bad_return_place shadowed wrong_arguments_of_static
print = refl

-- class A implements Object, §B {}
the_second_interface : failing (tree_of (t.a_class (class_of false (n (codes "A") 6) None (n (codes "Object") 19 ∷ n (codes "B") 27 ∷ []) []) ∷ [])) ≡ Some (UnknownSuper, sp 27 1)
unfolding duplicate_name unknown_super cycle_in_super super_is_builtin undefined_name mixed_name tear_off bad_override abstract_made final_written bad_return_place shadowed wrong_arguments_of_static
the_second_interface = refl

-- class A extends §X implements Y {} class B extends Z {}
the_first_of_two : failing (tree_of
    (t.a_class (class_of false (n (codes "A") 6) (Some (n (codes "X") 16)) (n (codes "Y") 29 ∷ []) [])
    ∷ t.a_class (class_of false (n (codes "B") 40) (Some (n (codes "Z") 50)) [] [])
    ∷ [])) ≡ Some (UnknownSuper, sp 16 1)
unfolding duplicate_name unknown_super cycle_in_super super_is_builtin undefined_name mixed_name tear_off bad_override abstract_made final_written bad_return_place shadowed wrong_arguments_of_static
the_first_of_two = refl

-- main() { x; } class A extends §B {}
behind_an_undefined_name : failing (tree_of
    (t.a_function (function_of false (n (codes "main") 0) [] (t.code (stas (t.run (t.bare (n (codes "x") 9)) ∷ []))))
    ∷ t.a_class (class_of false (n (codes "A") 20) (Some (n (codes "B") 30)) [] [])
    ∷ [])) ≡ Some (UnknownSuper, sp 30 1)
unfolding duplicate_name unknown_super cycle_in_super super_is_builtin undefined_name mixed_name tear_off bad_override abstract_made final_written bad_return_place shadowed wrong_arguments_of_static
behind_an_undefined_name = refl

-- class A extends Object implements Object {}
accepted-object : failing (tree_of (t.a_class (class_of false (n (codes "A") 6) (Some (n (codes "Object") 16)) (n (codes "Object") 34 ∷ []) []) ∷ [])) ≡ None
unfolding duplicate_name unknown_super cycle_in_super super_is_builtin undefined_name mixed_name tear_off bad_override abstract_made final_written bad_return_place shadowed wrong_arguments_of_static
accepted-object = refl

-- class A extends B {} class B {}
accepted-a_later_class : failing (tree_of (t.a_class (class_of false (n (codes "A") 6) (Some (n (codes "B") 16)) [] []) ∷ t.a_class (class_of false (n (codes "B") 27) None [] []) ∷ [])) ≡ None
unfolding duplicate_name unknown_super cycle_in_super super_is_builtin undefined_name mixed_name tear_off bad_override abstract_made final_written bad_return_place shadowed wrong_arguments_of_static
accepted-a_later_class = refl

-- class A implements B, C {} class B {} class C {}
accepted-two_interfaces : failing (tree_of
    (t.a_class (class_of false (n (codes "A") 6) None (n (codes "B") 19 ∷ n (codes "C") 22 ∷ []) [])
    ∷ t.a_class (class_of false (n (codes "B") 33) None [] [])
    ∷ t.a_class (class_of false (n (codes "C") 44) None [] [])
    ∷ [])) ≡ None
unfolding duplicate_name unknown_super cycle_in_super super_is_builtin undefined_name mixed_name tear_off bad_override abstract_made final_written bad_return_place shadowed wrong_arguments_of_static
accepted-two_interfaces = refl

-- class A {}
accepted-none_named : failing (tree_of (t.a_class (class_of false (n (codes "A") 6) None [] []) ∷ [])) ≡ None
unfolding duplicate_name unknown_super cycle_in_super super_is_builtin undefined_name mixed_name tear_off bad_override abstract_made final_written bad_return_place shadowed wrong_arguments_of_static
accepted-none_named = refl

-- abstract class A {} class B extends A {}
accepted-an_abstract_class : failing (tree_of (t.a_class (class_of true (n (codes "A") 15) None [] []) ∷ t.a_class (class_of false (n (codes "B") 26) (Some (n (codes "A") 36)) [] []) ∷ [])) ≡ None
unfolding duplicate_name unknown_super cycle_in_super super_is_builtin undefined_name mixed_name tear_off bad_override abstract_made final_written bad_return_place shadowed wrong_arguments_of_static
accepted-an_abstract_class = refl

-- class B {} class A extends B implements B {}
accepted-both_ways : failing (tree_of
    (t.a_class (class_of false (n (codes "B") 6) None [] []) ∷ t.a_class (class_of false (n (codes "A") 17) (Some (n (codes "B") 27)) (n (codes "B") 40 ∷ []) []) ∷ [])) ≡ None
unfolding duplicate_name unknown_super cycle_in_super super_is_builtin undefined_name mixed_name tear_off bad_override abstract_made final_written bad_return_place shadowed wrong_arguments_of_static
accepted-both_ways = refl
