-- Texts that break SuperIsBuiltin, each with its place, §, and texts that are accepted.
use Rattle.std.proofs.Common.{◌≡◌, refl}
use Rattle.std.specs.Prelude.{[], ◌∷◌, Some, None, codes, false}
use Rattle.dart_syntax.specs.Syntax as t
use Rattle.dart_syntax.specs.Syntax.{class_of, tree_of}
use Rattle.static_rules.specs.declared.rule.Rule.TheVariants.{SuperIsBuiltin}
use Rattle.static_rules.specs.Accepted.{failing}
use Rattle.static_rules.specs.DuplicateName.{duplicate_name}
use Rattle.static_rules.specs.Supers.{unknown_super, cycle_in_super, super_is_builtin}
use Rattle.static_rules.specs.UndefinedName.{undefined_name}
use Rattle.static_rules.specs.MixedName.{mixed_name}
use Rattle.static_rules.specs.TearOff.{tear_off}
use Rattle.static_rules.specs.BadOverride.{bad_override}
use Rattle.static_rules.specs.AbstractMade.{abstract_made}
use Rattle.static_rules.specs.FinalWritten.{final_written}
use Rattle.static_rules.specs.BadReturnPlace.{bad_return_place}
use Rattle.static_rules.specs.Shadowed.{shadowed}
use Rattle.static_rules.specs.WrongArgumentsOfStatic.{wrong_arguments_of_static}
use Rattle.static_rules.proofs.cases.Words.{n, sp}

-- class A extends §int {}
an_int : failing (tree_of (t.a_class (class_of false (n (codes "A") 6) (Some (n (codes "int") 16)) [] []) ∷ [])) ≡ Some (SuperIsBuiltin, sp 16 3)
unfolding duplicate_name unknown_super cycle_in_super super_is_builtin undefined_name mixed_name tear_off bad_override abstract_made final_written bad_return_place shadowed wrong_arguments_of_static
an_int = refl

-- class A implements §String {}
a_string : failing (tree_of (t.a_class (class_of false (n (codes "A") 6) None (n (codes "String") 19 ∷ []) []) ∷ [])) ≡ Some (SuperIsBuiltin, sp 19 6)
unfolding duplicate_name unknown_super cycle_in_super super_is_builtin undefined_name mixed_name tear_off bad_override abstract_made final_written bad_return_place shadowed wrong_arguments_of_static
a_string = refl

-- class A implements Object, §List {}
a_list_behind_object : failing (tree_of (t.a_class (class_of false (n (codes "A") 6) None (n (codes "Object") 19 ∷ n (codes "List") 27 ∷ []) []) ∷ [])) ≡ Some (SuperIsBuiltin, sp 27 4)
unfolding duplicate_name unknown_super cycle_in_super super_is_builtin undefined_name mixed_name tear_off bad_override abstract_made final_written bad_return_place shadowed wrong_arguments_of_static
a_list_behind_object = refl

-- class A extends §Null {}
null : failing (tree_of (t.a_class (class_of false (n (codes "A") 6) (Some (n (codes "Null") 16)) [] []) ∷ [])) ≡ Some (SuperIsBuiltin, sp 16 4)
unfolding duplicate_name unknown_super cycle_in_super super_is_builtin undefined_name mixed_name tear_off bad_override abstract_made final_written bad_return_place shadowed wrong_arguments_of_static
null = refl

-- class A extends Object implements §bool {}
a_bool : failing (tree_of (t.a_class (class_of false (n (codes "A") 6) (Some (n (codes "Object") 16)) (n (codes "bool") 34 ∷ []) []) ∷ [])) ≡ Some (SuperIsBuiltin, sp 34 4)
unfolding duplicate_name unknown_super cycle_in_super super_is_builtin undefined_name mixed_name tear_off bad_override abstract_made final_written bad_return_place shadowed wrong_arguments_of_static
a_bool = refl

-- class B {} class A extends B implements §Invocation {}
an_invocation : failing (tree_of
    (t.a_class (class_of false (n (codes "B") 6) None [] [])
    ∷ t.a_class (class_of false (n (codes "A") 17) (Some (n (codes "B") 27)) (n (codes "Invocation") 40 ∷ []) [])
    ∷ [])) ≡ Some (SuperIsBuiltin, sp 40 10)
unfolding duplicate_name unknown_super cycle_in_super super_is_builtin undefined_name mixed_name tear_off bad_override abstract_made final_written bad_return_place shadowed wrong_arguments_of_static
an_invocation = refl

-- class A extends §int implements bool {} class B extends String {}
the_first_of_two : failing (tree_of
    (t.a_class (class_of false (n (codes "A") 6) (Some (n (codes "int") 16)) (n (codes "bool") 31 ∷ []) [])
    ∷ t.a_class (class_of false (n (codes "B") 45) (Some (n (codes "String") 55)) [] [])
    ∷ [])) ≡ Some (SuperIsBuiltin, sp 16 3)
unfolding duplicate_name unknown_super cycle_in_super super_is_builtin undefined_name mixed_name tear_off bad_override abstract_made final_written bad_return_place shadowed wrong_arguments_of_static
the_first_of_two = refl

-- class A extends Object {}
accepted-object : failing (tree_of (t.a_class (class_of false (n (codes "A") 6) (Some (n (codes "Object") 16)) [] []) ∷ [])) ≡ None
unfolding duplicate_name unknown_super cycle_in_super super_is_builtin undefined_name mixed_name tear_off bad_override abstract_made final_written bad_return_place shadowed wrong_arguments_of_static
accepted-object = refl

-- class A implements Object {}
accepted-object_as_an_interface : failing (tree_of (t.a_class (class_of false (n (codes "A") 6) None (n (codes "Object") 19 ∷ []) []) ∷ [])) ≡ None
unfolding duplicate_name unknown_super cycle_in_super super_is_builtin undefined_name mixed_name tear_off bad_override abstract_made final_written bad_return_place shadowed wrong_arguments_of_static
accepted-object_as_an_interface = refl

-- class Int {} class A extends Int {}
accepted-another_name : failing (tree_of (t.a_class (class_of false (n (codes "Int") 6) None [] []) ∷ t.a_class (class_of false (n (codes "A") 19) (Some (n (codes "Int") 29)) [] []) ∷ [])) ≡ None
unfolding duplicate_name unknown_super cycle_in_super super_is_builtin undefined_name mixed_name tear_off bad_override abstract_made final_written bad_return_place shadowed wrong_arguments_of_static
accepted-another_name = refl

-- class A {} class B extends A implements A {}
accepted-classes_of_the_text : failing (tree_of
    (t.a_class (class_of false (n (codes "A") 6) None [] []) ∷ t.a_class (class_of false (n (codes "B") 17) (Some (n (codes "A") 27)) (n (codes "A") 40 ∷ []) []) ∷ [])) ≡ None
unfolding duplicate_name unknown_super cycle_in_super super_is_builtin undefined_name mixed_name tear_off bad_override abstract_made final_written bad_return_place shadowed wrong_arguments_of_static
accepted-classes_of_the_text = refl

-- class A {}
accepted-no_name : failing (tree_of (t.a_class (class_of false (n (codes "A") 6) None [] []) ∷ [])) ≡ None
unfolding duplicate_name unknown_super cycle_in_super super_is_builtin undefined_name mixed_name tear_off bad_override abstract_made final_written bad_return_place shadowed wrong_arguments_of_static
accepted-no_name = refl

-- class A extends Object {} class B extends A {}
accepted-below_object : failing (tree_of
    (t.a_class (class_of false (n (codes "A") 6) (Some (n (codes "Object") 16)) [] [])
    ∷ t.a_class (class_of false (n (codes "B") 32) (Some (n (codes "A") 42)) [] [])
    ∷ [])) ≡ None
unfolding duplicate_name unknown_super cycle_in_super super_is_builtin undefined_name mixed_name tear_off bad_override abstract_made final_written bad_return_place shadowed wrong_arguments_of_static
accepted-below_object = refl
