-- Texts that break CycleInSuper, each with its place, §, and texts that are accepted.
use Rattle.std.proofs.Common.{◌≡◌, refl}
use Rattle.std.specs.Prelude.{[], ◌∷◌, Some, None, codes, false}
use Rattle.dart_syntax.specs.Syntax as t
use Rattle.dart_syntax.specs.Syntax.{class_of, tree_of}
use Rattle.static_rules.specs.declared.rule.Rule.TheVariants.{CycleInSuper}
use Rattle.static_rules.specs.Accepted.{failing}
use Rattle.static_rules.specs.DuplicateName.{duplicate_name}
use Rattle.static_rules.specs.Supers.{unknown_super, cycle_in_super, super_is_builtin}
use Rattle.static_rules.specs.UndefinedName.{undefined_name}
use Rattle.static_rules.specs.MixedName.{mixed_name}
use Rattle.static_rules.specs.TearOff.{tear_off}
use Rattle.static_rules.specs.BadOverride.{bad_override}
use Rattle.static_rules.specs.AbstractMade.{abstract_made}
use Rattle.static_rules.specs.FinalWritten.{final_written}
use Rattle.static_rules.specs.BadReturnPlace.{bad_return_place}
use Rattle.static_rules.specs.Shadowed.{shadowed}
use Rattle.static_rules.specs.WrongArgumentsOfStatic.{wrong_arguments_of_static}
use Rattle.static_rules.proofs.cases.Words.{n, sp}

-- class §A extends B {}
-- class B implements A {}
super_cycle-case : failing (tree_of
    (t.a_class (class_of false (n (codes "A") 6) (Some (n (codes "B") 16)) [] []) ∷ t.a_class (class_of false (n (codes "B") 27) None (n (codes "A") 40 ∷ []) []) ∷ [])) ≡ Some (CycleInSuper, sp 6 1)
unfolding duplicate_name unknown_super cycle_in_super super_is_builtin undefined_name mixed_name tear_off bad_override abstract_made final_written bad_return_place shadowed wrong_arguments_of_static
super_cycle-case = refl

-- class §A extends A {}
itself : failing (tree_of (t.a_class (class_of false (n (codes "A") 6) (Some (n (codes "A") 16)) [] []) ∷ [])) ≡ Some (CycleInSuper, sp 6 1)
unfolding duplicate_name unknown_super cycle_in_super super_is_builtin undefined_name mixed_name tear_off bad_override abstract_made final_written bad_return_place shadowed wrong_arguments_of_static
itself = refl

-- class §A implements A {}
implements_itself : failing (tree_of (t.a_class (class_of false (n (codes "A") 6) None (n (codes "A") 19 ∷ []) []) ∷ [])) ≡ Some (CycleInSuper, sp 6 1)
unfolding duplicate_name unknown_super cycle_in_super super_is_builtin undefined_name mixed_name tear_off bad_override abstract_made final_written bad_return_place shadowed wrong_arguments_of_static
implements_itself = refl

-- class X {} class §A extends B {} class B extends C {} class C extends A {}
three_classes : failing (tree_of
    (t.a_class (class_of false (n (codes "X") 6) None [] [])
    ∷ t.a_class (class_of false (n (codes "A") 17) (Some (n (codes "B") 27)) [] [])
    ∷ t.a_class (class_of false (n (codes "B") 38) (Some (n (codes "C") 48)) [] [])
    ∷ t.a_class (class_of false (n (codes "C") 59) (Some (n (codes "A") 69)) [] [])
    ∷ [])) ≡ Some (CycleInSuper, sp 17 1)
unfolding duplicate_name unknown_super cycle_in_super super_is_builtin undefined_name mixed_name tear_off bad_override abstract_made final_written bad_return_place shadowed wrong_arguments_of_static
three_classes = refl

-- class D extends A {} class §A extends B {} class B extends A {}
not_one_below : failing (tree_of
    (t.a_class (class_of false (n (codes "D") 6) (Some (n (codes "A") 16)) [] [])
    ∷ t.a_class (class_of false (n (codes "A") 27) (Some (n (codes "B") 37)) [] [])
    ∷ t.a_class (class_of false (n (codes "B") 48) (Some (n (codes "A") 58)) [] [])
    ∷ [])) ≡ Some (CycleInSuper, sp 27 1)
unfolding duplicate_name unknown_super cycle_in_super super_is_builtin undefined_name mixed_name tear_off bad_override abstract_made final_written bad_return_place shadowed wrong_arguments_of_static
not_one_below = refl

-- class Z {} class §A implements Z, B {} class B implements A {}
the_second_interface : failing (tree_of
    (t.a_class (class_of false (n (codes "Z") 6) None [] [])
    ∷ t.a_class (class_of false (n (codes "A") 17) None (n (codes "Z") 30 ∷ n (codes "B") 33 ∷ []) [])
    ∷ t.a_class (class_of false (n (codes "B") 44) None (n (codes "A") 57 ∷ []) [])
    ∷ [])) ≡ Some (CycleInSuper, sp 17 1)
unfolding duplicate_name unknown_super cycle_in_super super_is_builtin undefined_name mixed_name tear_off bad_override abstract_made final_written bad_return_place shadowed wrong_arguments_of_static
the_second_interface = refl

-- class C implements B {} class §B extends A {} class A implements B {}
by_extends_and_implements : failing (tree_of
    (t.a_class (class_of false (n (codes "C") 6) None (n (codes "B") 19 ∷ []) [])
    ∷ t.a_class (class_of false (n (codes "B") 30) (Some (n (codes "A") 40)) [] [])
    ∷ t.a_class (class_of false (n (codes "A") 51) None (n (codes "B") 64 ∷ []) [])
    ∷ [])) ≡ Some (CycleInSuper, sp 30 1)
unfolding duplicate_name unknown_super cycle_in_super super_is_builtin undefined_name mixed_name tear_off bad_override abstract_made final_written bad_return_place shadowed wrong_arguments_of_static
by_extends_and_implements = refl

-- class B extends int {} class §A extends A {}
before_a_built_in_one : failing (tree_of
    (t.a_class (class_of false (n (codes "B") 6) (Some (n (codes "int") 16)) [] [])
    ∷ t.a_class (class_of false (n (codes "A") 29) (Some (n (codes "A") 39)) [] [])
    ∷ [])) ≡ Some (CycleInSuper, sp 29 1)
unfolding duplicate_name unknown_super cycle_in_super super_is_builtin undefined_name mixed_name tear_off bad_override abstract_made final_written bad_return_place shadowed wrong_arguments_of_static
before_a_built_in_one = refl

-- class A {} class B implements A {} class C extends B implements A {}
accepted-a_diamond : failing (tree_of
    (t.a_class (class_of false (n (codes "A") 6) None [] [])
    ∷ t.a_class (class_of false (n (codes "B") 17) None (n (codes "A") 30 ∷ []) [])
    ∷ t.a_class (class_of false (n (codes "C") 41) (Some (n (codes "B") 51)) (n (codes "A") 64 ∷ []) [])
    ∷ [])) ≡ None
unfolding duplicate_name unknown_super cycle_in_super super_is_builtin undefined_name mixed_name tear_off bad_override abstract_made final_written bad_return_place shadowed wrong_arguments_of_static
accepted-a_diamond = refl

-- class C extends B {} class B extends A {} class A {}
accepted-a_chain : failing (tree_of
    (t.a_class (class_of false (n (codes "C") 6) (Some (n (codes "B") 16)) [] [])
    ∷ t.a_class (class_of false (n (codes "B") 27) (Some (n (codes "A") 37)) [] [])
    ∷ t.a_class (class_of false (n (codes "A") 48) None [] [])
    ∷ [])) ≡ None
unfolding duplicate_name unknown_super cycle_in_super super_is_builtin undefined_name mixed_name tear_off bad_override abstract_made final_written bad_return_place shadowed wrong_arguments_of_static
accepted-a_chain = refl

-- class A {} class B extends A implements A, A {}
accepted-the_same_class_twice : failing (tree_of
    (t.a_class (class_of false (n (codes "A") 6) None [] [])
    ∷ t.a_class (class_of false (n (codes "B") 17) (Some (n (codes "A") 27)) (n (codes "A") 40 ∷ n (codes "A") 43 ∷ []) [])
    ∷ [])) ≡ None
unfolding duplicate_name unknown_super cycle_in_super super_is_builtin undefined_name mixed_name tear_off bad_override abstract_made final_written bad_return_place shadowed wrong_arguments_of_static
accepted-the_same_class_twice = refl

-- class A {} class B extends A {} class C extends A implements B {}
accepted-two_sides : failing (tree_of
    (t.a_class (class_of false (n (codes "A") 6) None [] [])
    ∷ t.a_class (class_of false (n (codes "B") 17) (Some (n (codes "A") 27)) [] [])
    ∷ t.a_class (class_of false (n (codes "C") 38) (Some (n (codes "A") 48)) (n (codes "B") 61 ∷ []) [])
    ∷ [])) ≡ None
unfolding duplicate_name unknown_super cycle_in_super super_is_builtin undefined_name mixed_name tear_off bad_override abstract_made final_written bad_return_place shadowed wrong_arguments_of_static
accepted-two_sides = refl

-- class A extends Object {}
accepted-only_object : failing (tree_of (t.a_class (class_of false (n (codes "A") 6) (Some (n (codes "Object") 16)) [] []) ∷ [])) ≡ None
unfolding duplicate_name unknown_super cycle_in_super super_is_builtin undefined_name mixed_name tear_off bad_override abstract_made final_written bad_return_place shadowed wrong_arguments_of_static
accepted-only_object = refl

-- class A {} class B implements A {} class C implements B {} class D extends C implements A {}
accepted-far_apart : failing (tree_of
    (t.a_class (class_of false (n (codes "A") 6) None [] [])
    ∷ t.a_class (class_of false (n (codes "B") 17) None (n (codes "A") 30 ∷ []) [])
    ∷ t.a_class (class_of false (n (codes "C") 41) None (n (codes "B") 54 ∷ []) [])
    ∷ t.a_class (class_of false (n (codes "D") 65) (Some (n (codes "C") 75)) (n (codes "A") 88 ∷ []) [])
    ∷ [])) ≡ None
unfolding duplicate_name unknown_super cycle_in_super super_is_builtin undefined_name mixed_name tear_off bad_override abstract_made final_written bad_return_place shadowed wrong_arguments_of_static
accepted-far_apart = refl
