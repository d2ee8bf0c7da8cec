-- Texts that break BadOverride, each with its place, §, and texts that are accepted.
use Rattle.std.proofs.Common.{◌≡◌, refl}
use Rattle.std.specs.Prelude.{[], ◌∷◌, Some, None, codes, true, false, pos}
use Rattle.dart_syntax.specs.declared.tree.Operator.TheVariants as o
use Rattle.dart_syntax.specs.Syntax as t
use Rattle.dart_syntax.specs.Syntax.{exps, selectors, stas, a_param, function_of, class_of, tree_of}
use Rattle.static_rules.specs.declared.rule.Rule.TheVariants.{BadOverride}
use Rattle.static_rules.specs.Accepted.{failing}
use Rattle.static_rules.specs.DuplicateName.{duplicate_name}
use Rattle.static_rules.specs.Supers.{unknown_super, cycle_in_super, super_is_builtin}
use Rattle.static_rules.specs.UndefinedName.{undefined_name}
use Rattle.static_rules.specs.MixedName.{mixed_name}
use Rattle.static_rules.specs.TearOff.{tear_off}
use Rattle.static_rules.specs.BadOverride.{bad_override}
use Rattle.static_rules.specs.AbstractMade.{abstract_made}
use Rattle.static_rules.specs.FinalWritten.{final_written}
use Rattle.static_rules.specs.BadReturnPlace.{bad_return_place}
use Rattle.static_rules.specs.Shadowed.{shadowed}
use Rattle.static_rules.specs.WrongArgumentsOfStatic.{wrong_arguments_of_static}
use Rattle.static_rules.proofs.cases.Words.{n, sp}

-- class A { m(x) => x; }
-- class B extends A { §m() => 1; }
bad_override-case : failing (tree_of
    (t.a_class
    (class_of false (n (codes "A") 6) None []
    (t.method (n (codes "m") 10) (a_param false false (n (codes "x") 12) ∷ []) (Some (t.arrow (t.bare (n (codes "x") 18)))) ∷ []))
    ∷ t.a_class (class_of false (n (codes "B") 29) (Some (n (codes "A") 39)) [] (t.method (n (codes "m") 43) [] (Some (t.arrow (t.int (pos 1) (sp 50 1)))) ∷ []))
    ∷ [])) ≡ Some (BadOverride, sp 43 1)
unfolding duplicate_name unknown_super cycle_in_super super_is_builtin undefined_name mixed_name tear_off bad_override abstract_made final_written bad_return_place shadowed wrong_arguments_of_static
bad_override-case = refl

-- class A { m() => 1; } class B extends A {} class C extends B { §m(x) => 1; }
far_above : failing (tree_of
    (t.a_class (class_of false (n (codes "A") 6) None [] (t.method (n (codes "m") 10) [] (Some (t.arrow (t.int (pos 1) (sp 17 1)))) ∷ []))
    ∷ t.a_class (class_of false (n (codes "B") 28) (Some (n (codes "A") 38)) [] [])
    ∷ t.a_class
    (class_of false (n (codes "C") 49) (Some (n (codes "B") 59)) []
    (t.method (n (codes "m") 63) (a_param false false (n (codes "x") 65) ∷ []) (Some (t.arrow (t.int (pos 1) (sp 71 1)))) ∷ []))
    ∷ [])) ≡ Some (BadOverride, sp 63 1)
unfolding duplicate_name unknown_super cycle_in_super super_is_builtin undefined_name mixed_name tear_off bad_override abstract_made final_written bad_return_place shadowed wrong_arguments_of_static
far_above = refl

-- abstract class A { m(); } class B extends A { §m(x) => 1; }
an_abstract_one_above : failing (tree_of
    (t.a_class (class_of true (n (codes "A") 15) None [] (t.method (n (codes "m") 19) [] None ∷ []))
    ∷ t.a_class
    (class_of false (n (codes "B") 32) (Some (n (codes "A") 42)) []
    (t.method (n (codes "m") 46) (a_param false false (n (codes "x") 48) ∷ []) (Some (t.arrow (t.int (pos 1) (sp 54 1)))) ∷ []))
    ∷ [])) ≡ Some (BadOverride, sp 46 1)
unfolding duplicate_name unknown_super cycle_in_super super_is_builtin undefined_name mixed_name tear_off bad_override abstract_made final_written bad_return_place shadowed wrong_arguments_of_static
an_abstract_one_above = refl

-- class A { m() => 1; } abstract class B extends A { §m(x); }
an_abstract_one_below : failing (tree_of
    (t.a_class (class_of false (n (codes "A") 6) None [] (t.method (n (codes "m") 10) [] (Some (t.arrow (t.int (pos 1) (sp 17 1)))) ∷ []))
    ∷ t.a_class (class_of true (n (codes "B") 37) (Some (n (codes "A") 47)) [] (t.method (n (codes "m") 51) (a_param false false (n (codes "x") 53) ∷ []) None ∷ []))
    ∷ [])) ≡ Some (BadOverride, sp 51 1)
unfolding duplicate_name unknown_super cycle_in_super super_is_builtin undefined_name mixed_name tear_off bad_override abstract_made final_written bad_return_place shadowed wrong_arguments_of_static
an_abstract_one_below = refl

-- class A { §toString(x) => 'a'; }
of_object : failing (tree_of
    (t.a_class
    (class_of false (n (codes "A") 6) None []
    (t.method (n (codes "toString") 10) (a_param false false (n (codes "x") 19) ∷ []) (Some (t.arrow (t.str (codes "a") (sp 25 3)))) ∷ []))
    ∷ [])) ≡ Some (BadOverride, sp 10 8)
unfolding duplicate_name unknown_super cycle_in_super super_is_builtin undefined_name mixed_name tear_off bad_override abstract_made final_written bad_return_place shadowed wrong_arguments_of_static
of_object = refl

-- class A { §noSuchMethod() => 1; }
no_such_method : failing (tree_of (t.a_class (class_of false (n (codes "A") 6) None [] (t.method (n (codes "noSuchMethod") 10) [] (Some (t.arrow (t.int (pos 1) (sp 28 1)))) ∷ [])) ∷ [])) ≡ Some (BadOverride, sp 10 12)
unfolding duplicate_name unknown_super cycle_in_super super_is_builtin undefined_name mixed_name tear_off bad_override abstract_made final_written bad_return_place shadowed wrong_arguments_of_static
no_such_method = refl

-- class A {} class B extends A { §noSuchMethod(i, j) => 1; }
of_object_far_above : failing (tree_of
    (t.a_class (class_of false (n (codes "A") 6) None [] [])
    ∷ t.a_class
    (class_of false (n (codes "B") 17) (Some (n (codes "A") 27)) []
    (t.method (n (codes "noSuchMethod") 31)
    (a_param false false (n (codes "i") 44) ∷ a_param false false (n (codes "j") 47) ∷ [])
    (Some (t.arrow (t.int (pos 1) (sp 53 1))))
    ∷ []))
    ∷ [])) ≡ Some (BadOverride, sp 31 12)
unfolding duplicate_name unknown_super cycle_in_super super_is_builtin undefined_name mixed_name tear_off bad_override abstract_made final_written bad_return_place shadowed wrong_arguments_of_static
of_object_far_above = refl

-- class A { m() => 1; } class B extends A { §m(x) => 1; } class C extends B { m(x) => 2; }
the_nearest : failing (tree_of
    (t.a_class (class_of false (n (codes "A") 6) None [] (t.method (n (codes "m") 10) [] (Some (t.arrow (t.int (pos 1) (sp 17 1)))) ∷ []))
    ∷ t.a_class
    (class_of false (n (codes "B") 28) (Some (n (codes "A") 38)) []
    (t.method (n (codes "m") 42) (a_param false false (n (codes "x") 44) ∷ []) (Some (t.arrow (t.int (pos 1) (sp 50 1)))) ∷ []))
    ∷ t.a_class
    (class_of false (n (codes "C") 61) (Some (n (codes "B") 71)) []
    (t.method (n (codes "m") 75) (a_param false false (n (codes "x") 77) ∷ []) (Some (t.arrow (t.int (pos 2) (sp 83 1)))) ∷ []))
    ∷ [])) ≡ Some (BadOverride, sp 42 1)
unfolding duplicate_name unknown_super cycle_in_super super_is_builtin undefined_name mixed_name tear_off bad_override abstract_made final_written bad_return_place shadowed wrong_arguments_of_static
the_nearest = refl

-- class B extends A { §m() => 1; } class A { m(x) => x; }
the_class_above_later_in_the_text : failing (tree_of
    (t.a_class (class_of false (n (codes "B") 6) (Some (n (codes "A") 16)) [] (t.method (n (codes "m") 20) [] (Some (t.arrow (t.int (pos 1) (sp 27 1)))) ∷ []))
    ∷ t.a_class
    (class_of false (n (codes "A") 38) None []
    (t.method (n (codes "m") 42) (a_param false false (n (codes "x") 44) ∷ []) (Some (t.arrow (t.bare (n (codes "x") 50)))) ∷ []))
    ∷ [])) ≡ Some (BadOverride, sp 20 1)
unfolding duplicate_name unknown_super cycle_in_super super_is_builtin undefined_name mixed_name tear_off bad_override abstract_made final_written bad_return_place shadowed wrong_arguments_of_static
the_class_above_later_in_the_text = refl

-- class A { m() => 1; n() => 2; } class B extends A { §n(x) => 1; m(x) => 2; }
two_of_one_class : failing (tree_of
    (t.a_class
    (class_of false (n (codes "A") 6) None []
    (t.method (n (codes "m") 10) [] (Some (t.arrow (t.int (pos 1) (sp 17 1)))) ∷ t.method (n (codes "n") 20) [] (Some (t.arrow (t.int (pos 2) (sp 27 1)))) ∷ []))
    ∷ t.a_class
    (class_of false (n (codes "B") 38) (Some (n (codes "A") 48)) []
    (t.method (n (codes "n") 52) (a_param false false (n (codes "x") 54) ∷ []) (Some (t.arrow (t.int (pos 1) (sp 60 1))))
    ∷ t.method (n (codes "m") 63) (a_param false false (n (codes "x") 65) ∷ []) (Some (t.arrow (t.int (pos 2) (sp 71 1))))
    ∷ []))
    ∷ [])) ≡ Some (BadOverride, sp 52 1)
unfolding duplicate_name unknown_super cycle_in_super super_is_builtin undefined_name mixed_name tear_off bad_override abstract_made final_written bad_return_place shadowed wrong_arguments_of_static
two_of_one_class = refl

-- class A { m(x) => 1; } class B extends A { m(y) => 2; }
accepted-the_same_number : failing (tree_of
    (t.a_class
    (class_of false (n (codes "A") 6) None []
    (t.method (n (codes "m") 10) (a_param false false (n (codes "x") 12) ∷ []) (Some (t.arrow (t.int (pos 1) (sp 18 1)))) ∷ []))
    ∷ t.a_class
    (class_of false (n (codes "B") 29) (Some (n (codes "A") 39)) []
    (t.method (n (codes "m") 43) (a_param false false (n (codes "y") 45) ∷ []) (Some (t.arrow (t.int (pos 2) (sp 51 1)))) ∷ []))
    ∷ [])) ≡ None
unfolding duplicate_name unknown_super cycle_in_super super_is_builtin undefined_name mixed_name tear_off bad_override abstract_made final_written bad_return_place shadowed wrong_arguments_of_static
accepted-the_same_number = refl

-- class A { m() => 1; } class B { m(x) => x; }
accepted-no_class_above : failing (tree_of
    (t.a_class (class_of false (n (codes "A") 6) None [] (t.method (n (codes "m") 10) [] (Some (t.arrow (t.int (pos 1) (sp 17 1)))) ∷ []))
    ∷ t.a_class
    (class_of false (n (codes "B") 28) None []
    (t.method (n (codes "m") 32) (a_param false false (n (codes "x") 34) ∷ []) (Some (t.arrow (t.bare (n (codes "x") 40)))) ∷ []))
    ∷ [])) ≡ None
unfolding duplicate_name unknown_super cycle_in_super super_is_builtin undefined_name mixed_name tear_off bad_override abstract_made final_written bad_return_place shadowed wrong_arguments_of_static
accepted-no_class_above = refl

-- class A { m() => 1; } class B implements A { m(x) => 1; }
accepted-only_by_implements : failing (tree_of
    (t.a_class (class_of false (n (codes "A") 6) None [] (t.method (n (codes "m") 10) [] (Some (t.arrow (t.int (pos 1) (sp 17 1)))) ∷ []))
    ∷ t.a_class
    (class_of false (n (codes "B") 28) None (n (codes "A") 41 ∷ [])
    (t.method (n (codes "m") 45) (a_param false false (n (codes "x") 47) ∷ []) (Some (t.arrow (t.int (pos 1) (sp 53 1)))) ∷ []))
    ∷ [])) ≡ None
unfolding duplicate_name unknown_super cycle_in_super super_is_builtin undefined_name mixed_name tear_off bad_override abstract_made final_written bad_return_place shadowed wrong_arguments_of_static
accepted-only_by_implements = refl

-- class A { get x => 1; } class B extends A { get x => 2; }
accepted-getters : failing (tree_of
    (t.a_class (class_of false (n (codes "A") 6) None [] (t.getter (n (codes "x") 14) (Some (t.arrow (t.int (pos 1) (sp 19 1)))) ∷ []))
    ∷ t.a_class (class_of false (n (codes "B") 30) (Some (n (codes "A") 40)) [] (t.getter (n (codes "x") 48) (Some (t.arrow (t.int (pos 2) (sp 53 1)))) ∷ []))
    ∷ [])) ≡ None
unfolding duplicate_name unknown_super cycle_in_super super_is_builtin undefined_name mixed_name tear_off bad_override abstract_made final_written bad_return_place shadowed wrong_arguments_of_static
accepted-getters = refl

-- class A { operator -() => 1; } class B extends A { operator -(x) => 2; }
accepted-a_minus_of_each_kind : failing (tree_of
    (t.a_class (class_of false (n (codes "A") 6) None [] (t.operator o.Subtract (sp 19 1) [] (Some (t.arrow (t.int (pos 1) (sp 26 1)))) ∷ []))
    ∷ t.a_class
    (class_of false (n (codes "B") 37) (Some (n (codes "A") 47)) []
    (t.operator o.Subtract (sp 60 1) (a_param false false (n (codes "x") 62) ∷ []) (Some (t.arrow (t.int (pos 2) (sp 68 1)))) ∷ []))
    ∷ [])) ≡ None
unfolding duplicate_name unknown_super cycle_in_super super_is_builtin undefined_name mixed_name tear_off bad_override abstract_made final_written bad_return_place shadowed wrong_arguments_of_static
accepted-a_minus_of_each_kind = refl

-- class A { add(x, y) => 1; }
accepted-a_method_of_lists : failing (tree_of
    (t.a_class
    (class_of false (n (codes "A") 6) None []
    (t.method (n (codes "add") 10)
    (a_param false false (n (codes "x") 14) ∷ a_param false false (n (codes "y") 17) ∷ [])
    (Some (t.arrow (t.int (pos 1) (sp 23 1))))
    ∷ []))
    ∷ [])) ≡ None
unfolding duplicate_name unknown_super cycle_in_super super_is_builtin undefined_name mixed_name tear_off bad_override abstract_made final_written bad_return_place shadowed wrong_arguments_of_static
accepted-a_method_of_lists = refl

-- class A { toString() => 'a'; noSuchMethod(i) => 1; }
accepted-those_of_object : failing (tree_of
    (t.a_class
    (class_of false (n (codes "A") 6) None []
    (t.method (n (codes "toString") 10) [] (Some (t.arrow (t.str (codes "a") (sp 24 3))))
    ∷ t.method (n (codes "noSuchMethod") 29) (a_param false false (n (codes "i") 42) ∷ []) (Some (t.arrow (t.int (pos 1) (sp 48 1))))
    ∷ []))
    ∷ [])) ≡ None
unfolding duplicate_name unknown_super cycle_in_super super_is_builtin undefined_name mixed_name tear_off bad_override abstract_made final_written bad_return_place shadowed wrong_arguments_of_static
accepted-those_of_object = refl

-- class B { m() => 1; }
-- main() { print(B().m(2)); }
accepted-wrong_argument_count-case : failing (tree_of
    (t.a_class (class_of false (n (codes "B") 6) None [] (t.method (n (codes "m") 10) [] (Some (t.arrow (t.int (pos 1) (sp 17 1)))) ∷ []))
    ∷ t.a_function
    (function_of false (n (codes "main") 22) []
    (t.code
    (stas
    (t.run
    (t.call (n (codes "print") 31)
    (exps (t.postfix (t.call (n (codes "B") 37) (exps [])) (selectors (t.send (n (codes "m") 41) (exps (t.int (pos 2) (sp 43 1) ∷ [])) ∷ [])) ∷ [])))
    ∷ []))))
    ∷ [])) ≡ None
unfolding duplicate_name unknown_super cycle_in_super super_is_builtin undefined_name mixed_name tear_off bad_override abstract_made final_written bad_return_place shadowed wrong_arguments_of_static
accepted-wrong_argument_count-case = refl

-- class A { toString() => 'a'; }
accepted-one_of_object : failing (tree_of (t.a_class (class_of false (n (codes "A") 6) None [] (t.method (n (codes "toString") 10) [] (Some (t.arrow (t.str (codes "a") (sp 24 3)))) ∷ [])) ∷ [])) ≡ None
unfolding duplicate_name unknown_super cycle_in_super super_is_builtin undefined_name mixed_name tear_off bad_override abstract_made final_written bad_return_place shadowed wrong_arguments_of_static
accepted-one_of_object = refl
