-- Texts that break two rules: the one that is read first decides, wherever its place is.
use Rattle.std.proofs.Common.{◌≡◌, refl}
use Rattle.std.specs.Prelude.{[], ◌∷◌, Some, None, codes, true, false, pos}
use Rattle.dart_syntax.specs.declared.tree.Assignment.TheVariants as a
use Rattle.dart_syntax.specs.Syntax as t
use Rattle.dart_syntax.specs.Syntax.{exps, stas, a_local, a_param, function_of, class_of, tree_of}
use Rattle.static_rules.specs.declared.rule.Rule.TheVariants.{DuplicateName, UnknownSuper, CycleInSuper, SuperIsBuiltin, UndefinedName, MixedName, TearOff, BadOverride, AbstractMade, FinalWritten, BadReturnPlace, Shadowed}
use Rattle.static_rules.specs.Accepted.{failing}
use Rattle.static_rules.specs.DuplicateName.{duplicate_name}
use Rattle.static_rules.specs.Supers.{unknown_super, cycle_in_super, super_is_builtin}
use Rattle.static_rules.specs.UndefinedName.{undefined_name}
use Rattle.static_rules.specs.MixedName.{mixed_name}
use Rattle.static_rules.specs.TearOff.{tear_off}
use Rattle.static_rules.specs.BadOverride.{bad_override}
use Rattle.static_rules.specs.AbstractMade.{abstract_made}
use Rattle.static_rules.specs.FinalWritten.{final_written}
use Rattle.static_rules.specs.BadReturnPlace.{bad_return_place}
use Rattle.static_rules.specs.Shadowed.{shadowed}
use Rattle.static_rules.specs.WrongArgumentsOfStatic.{wrong_arguments_of_static}
use Rattle.static_rules.proofs.cases.Words.{n, sp}

-- class A {} class §A {} class B extends X {} main() {}
pair_1 : failing (tree_of
    (t.a_class (class_of false (n (codes "A") 6) None [] [])
    ∷ t.a_class (class_of false (n (codes "A") 17) None [] [])
    ∷ t.a_class (class_of false (n (codes "B") 28) (Some (n (codes "X") 38)) [] [])
    ∷ t.a_function (function_of false (n (codes "main") 43) [] (t.code (stas [])))
    ∷ [])) ≡ Some (DuplicateName, sp 17 1)
unfolding duplicate_name unknown_super cycle_in_super super_is_builtin undefined_name mixed_name tear_off bad_override abstract_made final_written bad_return_place shadowed wrong_arguments_of_static
pair_1 = refl

-- class B extends X {} class A {} class §A {} main() {}
pair_2 : failing (tree_of
    (t.a_class (class_of false (n (codes "B") 6) (Some (n (codes "X") 16)) [] [])
    ∷ t.a_class (class_of false (n (codes "A") 27) None [] [])
    ∷ t.a_class (class_of false (n (codes "A") 38) None [] [])
    ∷ t.a_function (function_of false (n (codes "main") 43) [] (t.code (stas [])))
    ∷ [])) ≡ Some (DuplicateName, sp 38 1)
unfolding duplicate_name unknown_super cycle_in_super super_is_builtin undefined_name mixed_name tear_off bad_override abstract_made final_written bad_return_place shadowed wrong_arguments_of_static
pair_2 = refl

-- class B extends §X {} class C extends D {} class D extends C {} main() {}
pair_3 : failing (tree_of
    (t.a_class (class_of false (n (codes "B") 6) (Some (n (codes "X") 16)) [] [])
    ∷ t.a_class (class_of false (n (codes "C") 27) (Some (n (codes "D") 37)) [] [])
    ∷ t.a_class (class_of false (n (codes "D") 48) (Some (n (codes "C") 58)) [] [])
    ∷ t.a_function (function_of false (n (codes "main") 63) [] (t.code (stas [])))
    ∷ [])) ≡ Some (UnknownSuper, sp 16 1)
unfolding duplicate_name unknown_super cycle_in_super super_is_builtin undefined_name mixed_name tear_off bad_override abstract_made final_written bad_return_place shadowed wrong_arguments_of_static
pair_3 = refl

-- class C extends D {} class D extends C {} class B extends §X {} main() {}
pair_4 : failing (tree_of
    (t.a_class (class_of false (n (codes "C") 6) (Some (n (codes "D") 16)) [] [])
    ∷ t.a_class (class_of false (n (codes "D") 27) (Some (n (codes "C") 37)) [] [])
    ∷ t.a_class (class_of false (n (codes "B") 48) (Some (n (codes "X") 58)) [] [])
    ∷ t.a_function (function_of false (n (codes "main") 63) [] (t.code (stas [])))
    ∷ [])) ≡ Some (UnknownSuper, sp 58 1)
unfolding duplicate_name unknown_super cycle_in_super super_is_builtin undefined_name mixed_name tear_off bad_override abstract_made final_written bad_return_place shadowed wrong_arguments_of_static
pair_4 = refl

-- class §C extends D {} class D extends C {} class B extends int {} main() {}
pair_5 : failing (tree_of
    (t.a_class (class_of false (n (codes "C") 6) (Some (n (codes "D") 16)) [] [])
    ∷ t.a_class (class_of false (n (codes "D") 27) (Some (n (codes "C") 37)) [] [])
    ∷ t.a_class (class_of false (n (codes "B") 48) (Some (n (codes "int") 58)) [] [])
    ∷ t.a_function (function_of false (n (codes "main") 65) [] (t.code (stas [])))
    ∷ [])) ≡ Some (CycleInSuper, sp 6 1)
unfolding duplicate_name unknown_super cycle_in_super super_is_builtin undefined_name mixed_name tear_off bad_override abstract_made final_written bad_return_place shadowed wrong_arguments_of_static
pair_5 = refl

-- class B extends int {} class §C extends D {} class D extends C {} main() {}
pair_6 : failing (tree_of
    (t.a_class (class_of false (n (codes "B") 6) (Some (n (codes "int") 16)) [] [])
    ∷ t.a_class (class_of false (n (codes "C") 29) (Some (n (codes "D") 39)) [] [])
    ∷ t.a_class (class_of false (n (codes "D") 50) (Some (n (codes "C") 60)) [] [])
    ∷ t.a_function (function_of false (n (codes "main") 65) [] (t.code (stas [])))
    ∷ [])) ≡ Some (CycleInSuper, sp 29 1)
unfolding duplicate_name unknown_super cycle_in_super super_is_builtin undefined_name mixed_name tear_off bad_override abstract_made final_written bad_return_place shadowed wrong_arguments_of_static
pair_6 = refl

-- class B extends §int {} main() { x; }
pair_7 : failing (tree_of
    (t.a_class (class_of false (n (codes "B") 6) (Some (n (codes "int") 16)) [] [])
    ∷ t.a_function (function_of false (n (codes "main") 23) [] (t.code (stas (t.run (t.bare (n (codes "x") 32)) ∷ []))))
    ∷ [])) ≡ Some (SuperIsBuiltin, sp 16 3)
unfolding duplicate_name unknown_super cycle_in_super super_is_builtin undefined_name mixed_name tear_off bad_override abstract_made final_written bad_return_place shadowed wrong_arguments_of_static
pair_7 = refl

-- main() { x; } class B extends §int {}
pair_8 : failing (tree_of
    (t.a_function (function_of false (n (codes "main") 0) [] (t.code (stas (t.run (t.bare (n (codes "x") 9)) ∷ []))))
    ∷ t.a_class (class_of false (n (codes "B") 20) (Some (n (codes "int") 30)) [] [])
    ∷ [])) ≡ Some (SuperIsBuiltin, sp 30 3)
unfolding duplicate_name unknown_super cycle_in_super super_is_builtin undefined_name mixed_name tear_off bad_override abstract_made final_written bad_return_place shadowed wrong_arguments_of_static
pair_8 = refl

-- main() { §x; } class A { m() {} } class B { get m => 1; }
pair_9 : failing (tree_of
    (t.a_function (function_of false (n (codes "main") 0) [] (t.code (stas (t.run (t.bare (n (codes "x") 9)) ∷ []))))
    ∷ t.a_class (class_of false (n (codes "A") 20) None [] (t.method (n (codes "m") 24) [] (Some (t.code (stas []))) ∷ []))
    ∷ t.a_class (class_of false (n (codes "B") 39) None [] (t.getter (n (codes "m") 47) (Some (t.arrow (t.int (pos 1) (sp 52 1)))) ∷ []))
    ∷ [])) ≡ Some (UndefinedName, sp 9 1)
unfolding duplicate_name unknown_super cycle_in_super super_is_builtin undefined_name mixed_name tear_off bad_override abstract_made final_written bad_return_place shadowed wrong_arguments_of_static
pair_9 = refl

-- class A { m() {} } class B { get m => 1; } main() { §x; }
pair_10 : failing (tree_of
    (t.a_class (class_of false (n (codes "A") 6) None [] (t.method (n (codes "m") 10) [] (Some (t.code (stas []))) ∷ []))
    ∷ t.a_class (class_of false (n (codes "B") 25) None [] (t.getter (n (codes "m") 33) (Some (t.arrow (t.int (pos 1) (sp 38 1)))) ∷ []))
    ∷ t.a_function (function_of false (n (codes "main") 43) [] (t.code (stas (t.run (t.bare (n (codes "x") 52)) ∷ []))))
    ∷ [])) ≡ Some (UndefinedName, sp 52 1)
unfolding duplicate_name unknown_super cycle_in_super super_is_builtin undefined_name mixed_name tear_off bad_override abstract_made final_written bad_return_place shadowed wrong_arguments_of_static
pair_10 = refl

-- class A { m() {} } class B { get §m => 1; } f() {} main() { f; }
pair_11 : failing (tree_of
    (t.a_class (class_of false (n (codes "A") 6) None [] (t.method (n (codes "m") 10) [] (Some (t.code (stas []))) ∷ []))
    ∷ t.a_class (class_of false (n (codes "B") 25) None [] (t.getter (n (codes "m") 33) (Some (t.arrow (t.int (pos 1) (sp 38 1)))) ∷ []))
    ∷ t.a_function (function_of false (n (codes "f") 43) [] (t.code (stas [])))
    ∷ t.a_function (function_of false (n (codes "main") 50) [] (t.code (stas (t.run (t.bare (n (codes "f") 59)) ∷ []))))
    ∷ [])) ≡ Some (MixedName, sp 33 1)
unfolding duplicate_name unknown_super cycle_in_super super_is_builtin undefined_name mixed_name tear_off bad_override abstract_made final_written bad_return_place shadowed wrong_arguments_of_static
pair_11 = refl

-- f() {} main() { f; } class A { m() {} } class B { get §m => 1; }
pair_12 : failing (tree_of
    (t.a_function (function_of false (n (codes "f") 0) [] (t.code (stas [])))
    ∷ t.a_function (function_of false (n (codes "main") 7) [] (t.code (stas (t.run (t.bare (n (codes "f") 16)) ∷ []))))
    ∷ t.a_class (class_of false (n (codes "A") 27) None [] (t.method (n (codes "m") 31) [] (Some (t.code (stas []))) ∷ []))
    ∷ t.a_class (class_of false (n (codes "B") 46) None [] (t.getter (n (codes "m") 54) (Some (t.arrow (t.int (pos 1) (sp 59 1)))) ∷ []))
    ∷ [])) ≡ Some (MixedName, sp 54 1)
unfolding duplicate_name unknown_super cycle_in_super super_is_builtin undefined_name mixed_name tear_off bad_override abstract_made final_written bad_return_place shadowed wrong_arguments_of_static
pair_12 = refl

-- f() {} main() { §f; } class A { m() {} } class B extends A { m(x) {} }
pair_13 : failing (tree_of
    (t.a_function (function_of false (n (codes "f") 0) [] (t.code (stas [])))
    ∷ t.a_function (function_of false (n (codes "main") 7) [] (t.code (stas (t.run (t.bare (n (codes "f") 16)) ∷ []))))
    ∷ t.a_class (class_of false (n (codes "A") 27) None [] (t.method (n (codes "m") 31) [] (Some (t.code (stas []))) ∷ []))
    ∷ t.a_class
    (class_of false (n (codes "B") 46) (Some (n (codes "A") 56)) []
    (t.method (n (codes "m") 60) (a_param false false (n (codes "x") 62) ∷ []) (Some (t.code (stas []))) ∷ []))
    ∷ [])) ≡ Some (TearOff, sp 16 1)
unfolding duplicate_name unknown_super cycle_in_super super_is_builtin undefined_name mixed_name tear_off bad_override abstract_made final_written bad_return_place shadowed wrong_arguments_of_static
pair_13 = refl

-- class A { m() {} } class B extends A { m(x) {} } f() {} main() { §f; }
pair_14 : failing (tree_of
    (t.a_class (class_of false (n (codes "A") 6) None [] (t.method (n (codes "m") 10) [] (Some (t.code (stas []))) ∷ []))
    ∷ t.a_class
    (class_of false (n (codes "B") 25) (Some (n (codes "A") 35)) []
    (t.method (n (codes "m") 39) (a_param false false (n (codes "x") 41) ∷ []) (Some (t.code (stas []))) ∷ []))
    ∷ t.a_function (function_of false (n (codes "f") 49) [] (t.code (stas [])))
    ∷ t.a_function (function_of false (n (codes "main") 56) [] (t.code (stas (t.run (t.bare (n (codes "f") 65)) ∷ []))))
    ∷ [])) ≡ Some (TearOff, sp 65 1)
unfolding duplicate_name unknown_super cycle_in_super super_is_builtin undefined_name mixed_name tear_off bad_override abstract_made final_written bad_return_place shadowed wrong_arguments_of_static
pair_14 = refl

-- class A { m() {} } class B extends A { §m(x) {} } abstract class C {} main() { C(); }
pair_15 : failing (tree_of
    (t.a_class (class_of false (n (codes "A") 6) None [] (t.method (n (codes "m") 10) [] (Some (t.code (stas []))) ∷ []))
    ∷ t.a_class
    (class_of false (n (codes "B") 25) (Some (n (codes "A") 35)) []
    (t.method (n (codes "m") 39) (a_param false false (n (codes "x") 41) ∷ []) (Some (t.code (stas []))) ∷ []))
    ∷ t.a_class (class_of true (n (codes "C") 64) None [] [])
    ∷ t.a_function (function_of false (n (codes "main") 69) [] (t.code (stas (t.run (t.call (n (codes "C") 78) (exps [])) ∷ []))))
    ∷ [])) ≡ Some (BadOverride, sp 39 1)
unfolding duplicate_name unknown_super cycle_in_super super_is_builtin undefined_name mixed_name tear_off bad_override abstract_made final_written bad_return_place shadowed wrong_arguments_of_static
pair_15 = refl

-- abstract class C {} main() { C(); } class A { m() {} } class B extends A { §m(x) {} }
pair_16 : failing (tree_of
    (t.a_class (class_of true (n (codes "C") 15) None [] [])
    ∷ t.a_function (function_of false (n (codes "main") 20) [] (t.code (stas (t.run (t.call (n (codes "C") 29) (exps [])) ∷ []))))
    ∷ t.a_class (class_of false (n (codes "A") 42) None [] (t.method (n (codes "m") 46) [] (Some (t.code (stas []))) ∷ []))
    ∷ t.a_class
    (class_of false (n (codes "B") 61) (Some (n (codes "A") 71)) []
    (t.method (n (codes "m") 75) (a_param false false (n (codes "x") 77) ∷ []) (Some (t.code (stas []))) ∷ []))
    ∷ [])) ≡ Some (BadOverride, sp 75 1)
unfolding duplicate_name unknown_super cycle_in_super super_is_builtin undefined_name mixed_name tear_off bad_override abstract_made final_written bad_return_place shadowed wrong_arguments_of_static
pair_16 = refl

-- abstract class C {} main() { §C(); final x = 1; x = 2; }
pair_17 : failing (tree_of
    (t.a_class (class_of true (n (codes "C") 15) None [] [])
    ∷ t.a_function
    (function_of false (n (codes "main") 20) []
    (t.code
    (stas
    (t.run (t.call (n (codes "C") 29) (exps []))
    ∷ t.local (a_local true (n (codes "x") 40) (Some (t.int (pos 1) (sp 44 1))))
    ∷ t.run (t.assign (t.bare (n (codes "x") 47)) a.Plain (sp 49 1) (t.int (pos 2) (sp 51 1)))
    ∷ []))))
    ∷ [])) ≡ Some (AbstractMade, sp 29 1)
unfolding duplicate_name unknown_super cycle_in_super super_is_builtin undefined_name mixed_name tear_off bad_override abstract_made final_written bad_return_place shadowed wrong_arguments_of_static
pair_17 = refl

-- abstract class C {} main() { final x = 1; x = 2; §C(); }
pair_18 : failing (tree_of
    (t.a_class (class_of true (n (codes "C") 15) None [] [])
    ∷ t.a_function
    (function_of false (n (codes "main") 20) []
    (t.code
    (stas
    (t.local (a_local true (n (codes "x") 35) (Some (t.int (pos 1) (sp 39 1))))
    ∷ t.run (t.assign (t.bare (n (codes "x") 42)) a.Plain (sp 44 1) (t.int (pos 2) (sp 46 1)))
    ∷ t.run (t.call (n (codes "C") 49) (exps []))
    ∷ []))))
    ∷ [])) ≡ Some (AbstractMade, sp 49 1)
unfolding duplicate_name unknown_super cycle_in_super super_is_builtin undefined_name mixed_name tear_off bad_override abstract_made final_written bad_return_place shadowed wrong_arguments_of_static
pair_18 = refl

-- main() { final x = 1; §x = 2; break; }
pair_19 : failing (tree_of
    (t.a_function
    (function_of false (n (codes "main") 0) []
    (t.code
    (stas
    (t.local (a_local true (n (codes "x") 15) (Some (t.int (pos 1) (sp 19 1))))
    ∷ t.run (t.assign (t.bare (n (codes "x") 22)) a.Plain (sp 24 1) (t.int (pos 2) (sp 26 1)))
    ∷ t.break (sp 29 5)
    ∷ []))))
    ∷ [])) ≡ Some (FinalWritten, sp 22 1)
unfolding duplicate_name unknown_super cycle_in_super super_is_builtin undefined_name mixed_name tear_off bad_override abstract_made final_written bad_return_place shadowed wrong_arguments_of_static
pair_19 = refl

-- main() { break; final x = 1; §x = 2; }
pair_20 : failing (tree_of
    (t.a_function
    (function_of false (n (codes "main") 0) []
    (t.code
    (stas
    (t.break (sp 9 5)
    ∷ t.local (a_local true (n (codes "x") 22) (Some (t.int (pos 1) (sp 26 1))))
    ∷ t.run (t.assign (t.bare (n (codes "x") 29)) a.Plain (sp 31 1) (t.int (pos 2) (sp 33 1)))
    ∷ []))))
    ∷ [])) ≡ Some (FinalWritten, sp 29 1)
unfolding duplicate_name unknown_super cycle_in_super super_is_builtin undefined_name mixed_name tear_off bad_override abstract_made final_written bad_return_place shadowed wrong_arguments_of_static
pair_20 = refl

-- main() { §break; var x; { var x; } }
pair_21 : failing (tree_of
    (t.a_function
    (function_of false (n (codes "main") 0) []
    (t.code
    (stas (t.break (sp 9 5) ∷ t.local (a_local false (n (codes "x") 20) None) ∷ t.block (stas (t.local (a_local false (n (codes "x") 29) None) ∷ [])) ∷ []))))
    ∷ [])) ≡ Some (BadReturnPlace, sp 9 5)
unfolding duplicate_name unknown_super cycle_in_super super_is_builtin undefined_name mixed_name tear_off bad_override abstract_made final_written bad_return_place shadowed wrong_arguments_of_static
pair_21 = refl

-- main() { var x; { var x; } §break; }
pair_22 : failing (tree_of
    (t.a_function
    (function_of false (n (codes "main") 0) []
    (t.code
    (stas (t.local (a_local false (n (codes "x") 13) None) ∷ t.block (stas (t.local (a_local false (n (codes "x") 22) None) ∷ [])) ∷ t.break (sp 27 5) ∷ []))))
    ∷ [])) ≡ Some (BadReturnPlace, sp 27 5)
unfolding duplicate_name unknown_super cycle_in_super super_is_builtin undefined_name mixed_name tear_off bad_override abstract_made final_written bad_return_place shadowed wrong_arguments_of_static
pair_22 = refl

-- f(a) {} main() { var x; { var §x; } f(); }
pair_23 : failing (tree_of
    (t.a_function (function_of false (n (codes "f") 0) (a_param false false (n (codes "a") 2) ∷ []) (t.code (stas [])))
    ∷ t.a_function
    (function_of false (n (codes "main") 8) []
    (t.code
    (stas
    (t.local (a_local false (n (codes "x") 21) None)
    ∷ t.block (stas (t.local (a_local false (n (codes "x") 30) None) ∷ []))
    ∷ t.run (t.call (n (codes "f") 35) (exps []))
    ∷ []))))
    ∷ [])) ≡ Some (Shadowed, sp 30 1)
unfolding duplicate_name unknown_super cycle_in_super super_is_builtin undefined_name mixed_name tear_off bad_override abstract_made final_written bad_return_place shadowed wrong_arguments_of_static
pair_23 = refl

-- f(a) {} main() { f(); var x; { var §x; } }
pair_24 : failing (tree_of
    (t.a_function (function_of false (n (codes "f") 0) (a_param false false (n (codes "a") 2) ∷ []) (t.code (stas [])))
    ∷ t.a_function
    (function_of false (n (codes "main") 8) []
    (t.code
    (stas
    (t.run (t.call (n (codes "f") 17) (exps []))
    ∷ t.local (a_local false (n (codes "x") 26) None)
    ∷ t.block (stas (t.local (a_local false (n (codes "x") 35) None) ∷ []))
    ∷ []))))
    ∷ [])) ≡ Some (Shadowed, sp 35 1)
unfolding duplicate_name unknown_super cycle_in_super super_is_builtin undefined_name mixed_name tear_off bad_override abstract_made final_written bad_return_place shadowed wrong_arguments_of_static
pair_24 = refl
