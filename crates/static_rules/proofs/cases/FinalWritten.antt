-- Texts that break FinalWritten, each with its place, §, and texts that are accepted.
use Rattle.std.proofs.Common.{◌≡◌, refl}
use Rattle.std.specs.Prelude.{[], ◌∷◌, Some, None, codes, true, false, pos}
use Rattle.dart_syntax.specs.declared.tree.Binary.TheVariants as b
use Rattle.dart_syntax.specs.declared.tree.Step.TheVariants as st
use Rattle.dart_syntax.specs.declared.tree.Assignment.TheVariants as a
use Rattle.dart_syntax.specs.Syntax as t
use Rattle.dart_syntax.specs.Syntax.{exps, links, selectors, stas, a_local, a_link, a_param, passing, function_of, class_of, tree_of}
use Rattle.static_rules.specs.declared.rule.Rule.TheVariants.{FinalWritten}
use Rattle.static_rules.specs.Accepted.{failing}
use Rattle.static_rules.specs.DuplicateName.{duplicate_name}
use Rattle.static_rules.specs.Supers.{unknown_super, cycle_in_super, super_is_builtin}
use Rattle.static_rules.specs.UndefinedName.{undefined_name}
use Rattle.static_rules.specs.MixedName.{mixed_name}
use Rattle.static_rules.specs.TearOff.{tear_off}
use Rattle.static_rules.specs.BadOverride.{bad_override}
use Rattle.static_rules.specs.AbstractMade.{abstract_made}
use Rattle.static_rules.specs.FinalWritten.{final_written}
use Rattle.static_rules.specs.BadReturnPlace.{bad_return_place}
use Rattle.static_rules.specs.Shadowed.{shadowed}
use Rattle.static_rules.specs.WrongArgumentsOfStatic.{wrong_arguments_of_static}
use Rattle.static_rules.proofs.cases.Words.{n, sp}

-- main() { final x = 1; §x = 2; }
a_final_local : failing (tree_of
    (t.a_function
    (function_of false (n (codes "main") 0) []
    (t.code
    (stas
    (t.local (a_local true (n (codes "x") 15) (Some (t.int (pos 1) (sp 19 1))))
    ∷ t.run (t.assign (t.bare (n (codes "x") 22)) a.Plain (sp 24 1) (t.int (pos 2) (sp 26 1)))
    ∷ []))))
    ∷ [])) ≡ Some (FinalWritten, sp 22 1)
unfolding duplicate_name unknown_super cycle_in_super super_is_builtin undefined_name mixed_name tear_off bad_override abstract_made final_written bad_return_place shadowed wrong_arguments_of_static
a_final_local = refl

-- f(final a) { §a = 1; }
a_final_parameter : failing (tree_of
    (t.a_function
    (function_of false (n (codes "f") 0)
    (a_param true false (n (codes "a") 8) ∷ [])
    (t.code (stas (t.run (t.assign (t.bare (n (codes "a") 13)) a.Plain (sp 15 1) (t.int (pos 1) (sp 17 1))) ∷ []))))
    ∷ [])) ≡ Some (FinalWritten, sp 13 1)
unfolding duplicate_name unknown_super cycle_in_super super_is_builtin undefined_name mixed_name tear_off bad_override abstract_made final_written bad_return_place shadowed wrong_arguments_of_static
a_final_parameter = refl

-- final v = 1; main() { §v = 2; }
a_final_variable : failing (tree_of
    (t.a_variable (a_local true (n (codes "v") 6) (Some (t.int (pos 1) (sp 10 1))))
    ∷ t.a_function
    (function_of false (n (codes "main") 13) [] (t.code (stas (t.run (t.assign (t.bare (n (codes "v") 22)) a.Plain (sp 24 1) (t.int (pos 2) (sp 26 1))) ∷ []))))
    ∷ [])) ≡ Some (FinalWritten, sp 22 1)
unfolding duplicate_name unknown_super cycle_in_super super_is_builtin undefined_name mixed_name tear_off bad_override abstract_made final_written bad_return_place shadowed wrong_arguments_of_static
a_final_variable = refl

-- class A { A(y); } class B extends A { var x; B(this.x) : super(§x = 1); }
a_this_x_in_passed : failing (tree_of
    (t.a_class (class_of false (n (codes "A") 6) None [] (t.constructor (n (codes "A") 10) (a_param false false (n (codes "y") 12) ∷ []) None None ∷ []))
    ∷ t.a_class
    (class_of false (n (codes "B") 24) (Some (n (codes "A") 34)) []
    (t.field (a_local false (n (codes "x") 42) None)
    ∷ t.constructor (n (codes "B") 45)
    (a_param false true (n (codes "x") 52) ∷ [])
    (Some (passing (sp 57 5) (exps (t.assign (t.bare (n (codes "x") 63)) a.Plain (sp 65 1) (t.int (pos 1) (sp 67 1)) ∷ []))))
    None
    ∷ []))
    ∷ [])) ≡ Some (FinalWritten, sp 63 1)
unfolding duplicate_name unknown_super cycle_in_super super_is_builtin undefined_name mixed_name tear_off bad_override abstract_made final_written bad_return_place shadowed wrong_arguments_of_static
a_this_x_in_passed = refl

-- f() {} main() { §f = 1; }
a_function : failing (tree_of
    (t.a_function (function_of false (n (codes "f") 0) [] (t.code (stas [])))
    ∷ t.a_function
    (function_of false (n (codes "main") 7) [] (t.code (stas (t.run (t.assign (t.bare (n (codes "f") 16)) a.Plain (sp 18 1) (t.int (pos 1) (sp 20 1))) ∷ []))))
    ∷ [])) ≡ Some (FinalWritten, sp 16 1)
unfolding duplicate_name unknown_super cycle_in_super super_is_builtin undefined_name mixed_name tear_off bad_override abstract_made final_written bad_return_place shadowed wrong_arguments_of_static
a_function = refl

-- class A {} main() { §A = 1; }
a_class : failing (tree_of
    (t.a_class (class_of false (n (codes "A") 6) None [] [])
    ∷ t.a_function
    (function_of false (n (codes "main") 11) [] (t.code (stas (t.run (t.assign (t.bare (n (codes "A") 20)) a.Plain (sp 22 1) (t.int (pos 1) (sp 24 1))) ∷ []))))
    ∷ [])) ≡ Some (FinalWritten, sp 20 1)
unfolding duplicate_name unknown_super cycle_in_super super_is_builtin undefined_name mixed_name tear_off bad_override abstract_made final_written bad_return_place shadowed wrong_arguments_of_static
a_class = refl

-- main() { §print = 1; }
print : failing (tree_of
    (t.a_function
    (function_of false (n (codes "main") 0) [] (t.code (stas (t.run (t.assign (t.bare (n (codes "print") 9)) a.Plain (sp 15 1) (t.int (pos 1) (sp 17 1))) ∷ []))))
    ∷ [])) ≡ Some (FinalWritten, sp 9 5)
unfolding duplicate_name unknown_super cycle_in_super super_is_builtin undefined_name mixed_name tear_off bad_override abstract_made final_written bad_return_place shadowed wrong_arguments_of_static
print = refl

-- main() { §int = 1; }
a_built_in_class : failing (tree_of
    (t.a_function
    (function_of false (n (codes "main") 0) [] (t.code (stas (t.run (t.assign (t.bare (n (codes "int") 9)) a.Plain (sp 13 1) (t.int (pos 1) (sp 15 1))) ∷ []))))
    ∷ [])) ≡ Some (FinalWritten, sp 9 3)
unfolding duplicate_name unknown_super cycle_in_super super_is_builtin undefined_name mixed_name tear_off bad_override abstract_made final_written bad_return_place shadowed wrong_arguments_of_static
a_built_in_class = refl

-- class A { final x = 1; A(this.§x); }
an_initialised_final_field : failing (tree_of
    (t.a_class
    (class_of false (n (codes "A") 6) None []
    (t.field (a_local true (n (codes "x") 16) (Some (t.int (pos 1) (sp 20 1))))
    ∷ t.constructor (n (codes "A") 23) (a_param false true (n (codes "x") 30) ∷ []) None None
    ∷ []))
    ∷ [])) ≡ Some (FinalWritten, sp 30 1)
unfolding duplicate_name unknown_super cycle_in_super super_is_builtin undefined_name mixed_name tear_off bad_override abstract_made final_written bad_return_place shadowed wrong_arguments_of_static
an_initialised_final_field = refl

-- main() { final x = 1; §x += 1; }
added_to : failing (tree_of
    (t.a_function
    (function_of false (n (codes "main") 0) []
    (t.code
    (stas
    (t.local (a_local true (n (codes "x") 15) (Some (t.int (pos 1) (sp 19 1))))
    ∷ t.run (t.assign (t.bare (n (codes "x") 22)) a.Add (sp 24 2) (t.int (pos 1) (sp 27 1)))
    ∷ []))))
    ∷ [])) ≡ Some (FinalWritten, sp 22 1)
unfolding duplicate_name unknown_super cycle_in_super super_is_builtin undefined_name mixed_name tear_off bad_override abstract_made final_written bad_return_place shadowed wrong_arguments_of_static
added_to = refl

-- main() { final x = 1; §x++; }
stepped : failing (tree_of
    (t.a_function
    (function_of false (n (codes "main") 0) []
    (t.code
    (stas
    (t.local (a_local true (n (codes "x") 15) (Some (t.int (pos 1) (sp 19 1))))
    ∷ t.run (t.step false st.Increment (sp 23 2) (t.bare (n (codes "x") 22)))
    ∷ []))))
    ∷ [])) ≡ Some (FinalWritten, sp 22 1)
unfolding duplicate_name unknown_super cycle_in_super super_is_builtin undefined_name mixed_name tear_off bad_override abstract_made final_written bad_return_place shadowed wrong_arguments_of_static
stepped = refl

-- main() { for (final i = 0; i < 1; §i++) {} }
a_final_local_of_a_for : failing (tree_of
    (t.a_function
    (function_of false (n (codes "main") 0) []
    (t.code
    (stas
    (t.for
    (t.local_first (a_local true (n (codes "i") 20) (Some (t.int (pos 0) (sp 24 1)))))
    (Some (t.chain (t.bare (n (codes "i") 27)) (links (a_link b.Less (sp 29 1) (t.int (pos 1) (sp 31 1)) ∷ []))))
    (exps (t.step false st.Increment (sp 35 2) (t.bare (n (codes "i") 34)) ∷ []))
    (t.block (stas []))
    ∷ []))))
    ∷ [])) ≡ Some (FinalWritten, sp 34 1)
unfolding duplicate_name unknown_super cycle_in_super super_is_builtin undefined_name mixed_name tear_off bad_override abstract_made final_written bad_return_place shadowed wrong_arguments_of_static
a_final_local_of_a_for = refl

-- main() { final x = 1; while (true) { §x = 2; } }
from_an_inner_block : failing (tree_of
    (t.a_function
    (function_of false (n (codes "main") 0) []
    (t.code
    (stas
    (t.local (a_local true (n (codes "x") 15) (Some (t.int (pos 1) (sp 19 1))))
    ∷ t.while (t.bool true (sp 29 4)) (t.block (stas (t.run (t.assign (t.bare (n (codes "x") 37)) a.Plain (sp 39 1) (t.int (pos 2) (sp 41 1))) ∷ [])))
    ∷ []))))
    ∷ [])) ≡ Some (FinalWritten, sp 37 1)
unfolding duplicate_name unknown_super cycle_in_super super_is_builtin undefined_name mixed_name tear_off bad_override abstract_made final_written bad_return_place shadowed wrong_arguments_of_static
from_an_inner_block = refl

-- class A { A(y); } class B extends A { B(final x) : super(§x = 1); }
a_final_parameter_in_passed : failing (tree_of
    (t.a_class (class_of false (n (codes "A") 6) None [] (t.constructor (n (codes "A") 10) (a_param false false (n (codes "y") 12) ∷ []) None None ∷ []))
    ∷ t.a_class
    (class_of false (n (codes "B") 24) (Some (n (codes "A") 34)) []
    (t.constructor (n (codes "B") 38)
    (a_param true false (n (codes "x") 46) ∷ [])
    (Some (passing (sp 51 5) (exps (t.assign (t.bare (n (codes "x") 57)) a.Plain (sp 59 1) (t.int (pos 1) (sp 61 1)) ∷ []))))
    None
    ∷ []))
    ∷ [])) ≡ Some (FinalWritten, sp 57 1)
unfolding duplicate_name unknown_super cycle_in_super super_is_builtin undefined_name mixed_name tear_off bad_override abstract_made final_written bad_return_place shadowed wrong_arguments_of_static
a_final_parameter_in_passed = refl

-- class A { final x; A(this.x); }
accepted-a_final_field_without_a_value : failing (tree_of
    (t.a_class
    (class_of false (n (codes "A") 6) None []
    (t.field (a_local true (n (codes "x") 16) None) ∷ t.constructor (n (codes "A") 19) (a_param false true (n (codes "x") 26) ∷ []) None None ∷ []))
    ∷ [])) ≡ None
unfolding duplicate_name unknown_super cycle_in_super super_is_builtin undefined_name mixed_name tear_off bad_override abstract_made final_written bad_return_place shadowed wrong_arguments_of_static
accepted-a_final_field_without_a_value = refl

-- class A { var x = 1; A(this.x); }
accepted-an_initialised_field : failing (tree_of
    (t.a_class
    (class_of false (n (codes "A") 6) None []
    (t.field (a_local false (n (codes "x") 14) (Some (t.int (pos 1) (sp 18 1))))
    ∷ t.constructor (n (codes "A") 21) (a_param false true (n (codes "x") 28) ∷ []) None None
    ∷ []))
    ∷ [])) ≡ None
unfolding duplicate_name unknown_super cycle_in_super super_is_builtin undefined_name mixed_name tear_off bad_override abstract_made final_written bad_return_place shadowed wrong_arguments_of_static
accepted-an_initialised_field = refl

-- class A { final x = 1; m() { x = 2; } } main() { A().x = 3; }
accepted-the_setter_of_a_final_field : failing (tree_of
    (t.a_class
    (class_of false (n (codes "A") 6) None []
    (t.field (a_local true (n (codes "x") 16) (Some (t.int (pos 1) (sp 20 1))))
    ∷ t.method (n (codes "m") 23) [] (Some (t.code (stas (t.run (t.assign (t.bare (n (codes "x") 29)) a.Plain (sp 31 1) (t.int (pos 2) (sp 33 1))) ∷ []))))
    ∷ []))
    ∷ t.a_function
    (function_of false (n (codes "main") 40) []
    (t.code
    (stas
    (t.run
    (t.assign (t.postfix (t.call (n (codes "A") 49) (exps [])) (selectors (t.get (n (codes "x") 53) ∷ []))) a.Plain (sp 55 1) (t.int (pos 3) (sp 57 1)))
    ∷ []))))
    ∷ [])) ≡ None
unfolding duplicate_name unknown_super cycle_in_super super_is_builtin undefined_name mixed_name tear_off bad_override abstract_made final_written bad_return_place shadowed wrong_arguments_of_static
accepted-the_setter_of_a_final_field = refl

-- class A { final x; A(this.x) { x = 2; } }
accepted-a_this_x_in_the_body : failing (tree_of
    (t.a_class
    (class_of false (n (codes "A") 6) None []
    (t.field (a_local true (n (codes "x") 16) None)
    ∷ t.constructor (n (codes "A") 19)
    (a_param false true (n (codes "x") 26) ∷ [])
    None
    (Some (stas (t.run (t.assign (t.bare (n (codes "x") 31)) a.Plain (sp 33 1) (t.int (pos 2) (sp 35 1))) ∷ [])))
    ∷ []))
    ∷ [])) ≡ None
unfolding duplicate_name unknown_super cycle_in_super super_is_builtin undefined_name mixed_name tear_off bad_override abstract_made final_written bad_return_place shadowed wrong_arguments_of_static
accepted-a_this_x_in_the_body = refl

-- f() {} main() { var f; f = 1; }
accepted-a_local_with_a_functions_name : failing (tree_of
    (t.a_function (function_of false (n (codes "f") 0) [] (t.code (stas [])))
    ∷ t.a_function
    (function_of false (n (codes "main") 7) []
    (t.code
    (stas (t.local (a_local false (n (codes "f") 20) None) ∷ t.run (t.assign (t.bare (n (codes "f") 23)) a.Plain (sp 25 1) (t.int (pos 1) (sp 27 1))) ∷ []))))
    ∷ [])) ≡ None
unfolding duplicate_name unknown_super cycle_in_super super_is_builtin undefined_name mixed_name tear_off bad_override abstract_made final_written bad_return_place shadowed wrong_arguments_of_static
accepted-a_local_with_a_functions_name = refl

-- class A { A(y); } class B extends A { B(x) : super(x = 1); }
accepted-a_parameter_in_passed : failing (tree_of
    (t.a_class (class_of false (n (codes "A") 6) None [] (t.constructor (n (codes "A") 10) (a_param false false (n (codes "y") 12) ∷ []) None None ∷ []))
    ∷ t.a_class
    (class_of false (n (codes "B") 24) (Some (n (codes "A") 34)) []
    (t.constructor (n (codes "B") 38)
    (a_param false false (n (codes "x") 40) ∷ [])
    (Some (passing (sp 45 5) (exps (t.assign (t.bare (n (codes "x") 51)) a.Plain (sp 53 1) (t.int (pos 1) (sp 55 1)) ∷ []))))
    None
    ∷ []))
    ∷ [])) ≡ None
unfolding duplicate_name unknown_super cycle_in_super super_is_builtin undefined_name mixed_name tear_off bad_override abstract_made final_written bad_return_place shadowed wrong_arguments_of_static
accepted-a_parameter_in_passed = refl

-- var v; f(a) { v = 1; a = 2; v++; }
accepted-a_variable_and_a_parameter : failing (tree_of
    (t.a_variable (a_local false (n (codes "v") 4) None)
    ∷ t.a_function
    (function_of false (n (codes "f") 7)
    (a_param false false (n (codes "a") 9) ∷ [])
    (t.code
    (stas
    (t.run (t.assign (t.bare (n (codes "v") 14)) a.Plain (sp 16 1) (t.int (pos 1) (sp 18 1)))
    ∷ t.run (t.assign (t.bare (n (codes "a") 21)) a.Plain (sp 23 1) (t.int (pos 2) (sp 25 1)))
    ∷ t.run (t.step false st.Increment (sp 29 2) (t.bare (n (codes "v") 28)))
    ∷ []))))
    ∷ [])) ≡ None
unfolding duplicate_name unknown_super cycle_in_super super_is_builtin undefined_name mixed_name tear_off bad_override abstract_made final_written bad_return_place shadowed wrong_arguments_of_static
accepted-a_variable_and_a_parameter = refl

-- class A { final x = 1; m() { x = 2; } }
accepted-an_own_final_field : failing (tree_of
    (t.a_class
    (class_of false (n (codes "A") 6) None []
    (t.field (a_local true (n (codes "x") 16) (Some (t.int (pos 1) (sp 20 1))))
    ∷ t.method (n (codes "m") 23) [] (Some (t.code (stas (t.run (t.assign (t.bare (n (codes "x") 29)) a.Plain (sp 31 1) (t.int (pos 2) (sp 33 1))) ∷ []))))
    ∷ []))
    ∷ [])) ≡ None
unfolding duplicate_name unknown_super cycle_in_super super_is_builtin undefined_name mixed_name tear_off bad_override abstract_made final_written bad_return_place shadowed wrong_arguments_of_static
accepted-an_own_final_field = refl
