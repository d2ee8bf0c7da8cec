-- Texts that break BadReturnPlace, each with its place, §, and texts that are accepted.
use Rattle.std.proofs.Common.{◌≡◌, refl}
use Rattle.std.specs.Prelude.{[], ◌∷◌, Some, None, codes, true, false, pos}
use Rattle.dart_syntax.specs.Syntax as t
use Rattle.dart_syntax.specs.Syntax.{exps, stas, function_of, class_of, tree_of}
use Rattle.static_rules.specs.declared.rule.Rule.TheVariants.{BadReturnPlace}
use Rattle.static_rules.specs.Accepted.{failing}
use Rattle.static_rules.specs.DuplicateName.{duplicate_name}
use Rattle.static_rules.specs.Supers.{unknown_super, cycle_in_super, super_is_builtin}
use Rattle.static_rules.specs.UndefinedName.{undefined_name}
use Rattle.static_rules.specs.MixedName.{mixed_name}
use Rattle.static_rules.specs.TearOff.{tear_off}
use Rattle.static_rules.specs.BadOverride.{bad_override}
use Rattle.static_rules.specs.AbstractMade.{abstract_made}
use Rattle.static_rules.specs.FinalWritten.{final_written}
use Rattle.static_rules.specs.BadReturnPlace.{bad_return_place}
use Rattle.static_rules.specs.Shadowed.{shadowed}
use Rattle.static_rules.specs.WrongArgumentsOfStatic.{wrong_arguments_of_static}
use Rattle.static_rules.proofs.cases.Words.{n, sp}

-- class A { A() { §return 1; } }
a_value_in_a_constructor : failing (tree_of
    (t.a_class
    (class_of false (n (codes "A") 6) None []
    (t.constructor (n (codes "A") 10) [] None (Some (stas (t.return (sp 16 6) (Some (t.int (pos 1) (sp 23 1))) ∷ []))) ∷ []))
    ∷ [])) ≡ Some (BadReturnPlace, sp 16 6)
unfolding duplicate_name unknown_super cycle_in_super super_is_builtin undefined_name mixed_name tear_off bad_override abstract_made final_written bad_return_place shadowed wrong_arguments_of_static
a_value_in_a_constructor = refl

-- class A { A() { while (true) { if (true) §return null; } } }
deep_in_a_constructor : failing (tree_of
    (t.a_class
    (class_of false (n (codes "A") 6) None []
    (t.constructor (n (codes "A") 10) [] None
    (Some (stas (t.while (t.bool true (sp 23 4)) (t.block (stas (t.when (t.bool true (sp 35 4)) (t.return (sp 41 6) (Some (t.null (sp 48 4)))) ∷ []))) ∷ [])))
    ∷ []))
    ∷ [])) ≡ Some (BadReturnPlace, sp 41 6)
unfolding duplicate_name unknown_super cycle_in_super super_is_builtin undefined_name mixed_name tear_off bad_override abstract_made final_written bad_return_place shadowed wrong_arguments_of_static
deep_in_a_constructor = refl

-- main() { §break; }
break_ : failing (tree_of (t.a_function (function_of false (n (codes "main") 0) [] (t.code (stas (t.break (sp 9 5) ∷ [])))) ∷ [])) ≡ Some (BadReturnPlace, sp 9 5)
unfolding duplicate_name unknown_super cycle_in_super super_is_builtin undefined_name mixed_name tear_off bad_override abstract_made final_written bad_return_place shadowed wrong_arguments_of_static
break_ = refl

-- main() { §continue; }
continue_ : failing (tree_of (t.a_function (function_of false (n (codes "main") 0) [] (t.code (stas (t.continue (sp 9 8) ∷ [])))) ∷ [])) ≡ Some (BadReturnPlace, sp 9 8)
unfolding duplicate_name unknown_super cycle_in_super super_is_builtin undefined_name mixed_name tear_off bad_override abstract_made final_written bad_return_place shadowed wrong_arguments_of_static
continue_ = refl

-- main() { if (true) §break; else break; }
in_a_branch : failing (tree_of
    (t.a_function (function_of false (n (codes "main") 0) [] (t.code (stas (t.when_else (t.bool true (sp 13 4)) (t.break (sp 19 5)) (t.break (sp 31 5)) ∷ [])))) ∷ [])) ≡ Some (BadReturnPlace, sp 19 5)
unfolding duplicate_name unknown_super cycle_in_super super_is_builtin undefined_name mixed_name tear_off bad_override abstract_made final_written bad_return_place shadowed wrong_arguments_of_static
in_a_branch = refl

-- main() { while (false) {} §continue; }
behind_a_loop : failing (tree_of
    (t.a_function (function_of false (n (codes "main") 0) [] (t.code (stas (t.while (t.bool false (sp 16 5)) (t.block (stas [])) ∷ t.continue (sp 26 8) ∷ [])))) ∷ [])) ≡ Some (BadReturnPlace, sp 26 8)
unfolding duplicate_name unknown_super cycle_in_super super_is_builtin undefined_name mixed_name tear_off bad_override abstract_made final_written bad_return_place shadowed wrong_arguments_of_static
behind_a_loop = refl

-- class A { m() { { §break; } } }
in_a_block_of_a_method : failing (tree_of
    (t.a_class (class_of false (n (codes "A") 6) None [] (t.method (n (codes "m") 10) [] (Some (t.code (stas (t.block (stas (t.break (sp 18 5) ∷ [])) ∷ [])))) ∷ []))
    ∷ [])) ≡ Some (BadReturnPlace, sp 18 5)
unfolding duplicate_name unknown_super cycle_in_super super_is_builtin undefined_name mixed_name tear_off bad_override abstract_made final_written bad_return_place shadowed wrong_arguments_of_static
in_a_block_of_a_method = refl

-- class A { A() { §break; } }
in_a_constructor : failing (tree_of (t.a_class (class_of false (n (codes "A") 6) None [] (t.constructor (n (codes "A") 10) [] None (Some (stas (t.break (sp 16 5) ∷ []))) ∷ [])) ∷ [])) ≡ Some (BadReturnPlace, sp 16 5)
unfolding duplicate_name unknown_super cycle_in_super super_is_builtin undefined_name mixed_name tear_off bad_override abstract_made final_written bad_return_place shadowed wrong_arguments_of_static
in_a_constructor = refl

-- class A { A() { return; } }
accepted-no_value_in_a_constructor : failing (tree_of (t.a_class (class_of false (n (codes "A") 6) None [] (t.constructor (n (codes "A") 10) [] None (Some (stas (t.return (sp 16 6) None ∷ []))) ∷ [])) ∷ [])) ≡ None
unfolding duplicate_name unknown_super cycle_in_super super_is_builtin undefined_name mixed_name tear_off bad_override abstract_made final_written bad_return_place shadowed wrong_arguments_of_static
accepted-no_value_in_a_constructor = refl

-- class A { m() { return 1; } get x { return 2; } } f() { return 3; }
accepted-a_value_elsewhere : failing (tree_of
    (t.a_class
    (class_of false (n (codes "A") 6) None []
    (t.method (n (codes "m") 10) [] (Some (t.code (stas (t.return (sp 16 6) (Some (t.int (pos 1) (sp 23 1))) ∷ []))))
    ∷ t.getter (n (codes "x") 32) (Some (t.code (stas (t.return (sp 36 6) (Some (t.int (pos 2) (sp 43 1))) ∷ []))))
    ∷ []))
    ∷ t.a_function (function_of false (n (codes "f") 50) [] (t.code (stas (t.return (sp 56 6) (Some (t.int (pos 3) (sp 63 1))) ∷ []))))
    ∷ [])) ≡ None
unfolding duplicate_name unknown_super cycle_in_super super_is_builtin undefined_name mixed_name tear_off bad_override abstract_made final_written bad_return_place shadowed wrong_arguments_of_static
accepted-a_value_elsewhere = refl

-- main() { while (true) { if (true) break; else continue; } }
accepted-in_a_while : failing (tree_of
    (t.a_function
    (function_of false (n (codes "main") 0) []
    (t.code (stas (t.while (t.bool true (sp 16 4)) (t.block (stas (t.when_else (t.bool true (sp 28 4)) (t.break (sp 34 5)) (t.continue (sp 46 8)) ∷ []))) ∷ []))))
    ∷ [])) ≡ None
unfolding duplicate_name unknown_super cycle_in_super super_is_builtin undefined_name mixed_name tear_off bad_override abstract_made final_written bad_return_place shadowed wrong_arguments_of_static
accepted-in_a_while = refl

-- main() { do break; while (true); }
accepted-in_a_do : failing (tree_of (t.a_function (function_of false (n (codes "main") 0) [] (t.code (stas (t.do_while (t.break (sp 12 5)) (t.bool true (sp 26 4)) ∷ [])))) ∷ [])) ≡ None
unfolding duplicate_name unknown_super cycle_in_super super_is_builtin undefined_name mixed_name tear_off bad_override abstract_made final_written bad_return_place shadowed wrong_arguments_of_static
accepted-in_a_do = refl

-- main() { for (;;) { { continue; } } }
accepted-in_a_for : failing (tree_of
    (t.a_function
    (function_of false (n (codes "main") 0) []
    (t.code (stas (t.for t.nothing None (exps []) (t.block (stas (t.block (stas (t.continue (sp 22 8) ∷ [])) ∷ []))) ∷ []))))
    ∷ [])) ≡ None
unfolding duplicate_name unknown_super cycle_in_super super_is_builtin undefined_name mixed_name tear_off bad_override abstract_made final_written bad_return_place shadowed wrong_arguments_of_static
accepted-in_a_for = refl

-- class A { A() { for (;;) break; } }
accepted-in_a_loop_of_a_constructor : failing (tree_of
    (t.a_class
    (class_of false (n (codes "A") 6) None []
    (t.constructor (n (codes "A") 10) [] None (Some (stas (t.for t.nothing None (exps []) (t.break (sp 25 5)) ∷ []))) ∷ []))
    ∷ [])) ≡ None
unfolding duplicate_name unknown_super cycle_in_super super_is_builtin undefined_name mixed_name tear_off bad_override abstract_made final_written bad_return_place shadowed wrong_arguments_of_static
accepted-in_a_loop_of_a_constructor = refl

-- main() { if (true) §break; }
in_a_single_branch : failing (tree_of (t.a_function (function_of false (n (codes "main") 0) [] (t.code (stas (t.when (t.bool true (sp 13 4)) (t.break (sp 19 5)) ∷ [])))) ∷ [])) ≡ Some (BadReturnPlace, sp 19 5)
unfolding duplicate_name unknown_super cycle_in_super super_is_builtin undefined_name mixed_name tear_off bad_override abstract_made final_written bad_return_place shadowed wrong_arguments_of_static
in_a_single_branch = refl
