-- Texts that break Shadowed, each with its place, §, and texts that are accepted.
use Rattle.std.proofs.Common.{◌≡◌, refl}
use Rattle.std.specs.Prelude.{[], ◌∷◌, Some, None, codes, true, false, pos}
use Rattle.dart_syntax.specs.declared.tree.Binary.TheVariants as b
use Rattle.dart_syntax.specs.declared.tree.Step.TheVariants as st
use Rattle.dart_syntax.specs.declared.tree.Operator.TheVariants as o
use Rattle.dart_syntax.specs.Syntax as t
use Rattle.dart_syntax.specs.Syntax.{exps, links, stas, a_local, a_link, a_param, function_of, class_of, tree_of}
use Rattle.static_rules.specs.declared.rule.Rule.TheVariants.{Shadowed}
use Rattle.static_rules.specs.Accepted.{failing}
use Rattle.static_rules.specs.DuplicateName.{duplicate_name}
use Rattle.static_rules.specs.Supers.{unknown_super, cycle_in_super, super_is_builtin}
use Rattle.static_rules.specs.UndefinedName.{undefined_name}
use Rattle.static_rules.specs.MixedName.{mixed_name}
use Rattle.static_rules.specs.TearOff.{tear_off}
use Rattle.static_rules.specs.BadOverride.{bad_override}
use Rattle.static_rules.specs.AbstractMade.{abstract_made}
use Rattle.static_rules.specs.FinalWritten.{final_written}
use Rattle.static_rules.specs.BadReturnPlace.{bad_return_place}
use Rattle.static_rules.specs.Shadowed.{shadowed}
use Rattle.static_rules.specs.WrongArgumentsOfStatic.{wrong_arguments_of_static}
use Rattle.static_rules.proofs.cases.Words.{n, sp}

-- f(a) { var §a; }
a_parameter : failing (tree_of
    (t.a_function
    (function_of false (n (codes "f") 0) (a_param false false (n (codes "a") 2) ∷ []) (t.code (stas (t.local (a_local false (n (codes "a") 11) None) ∷ []))))
    ∷ [])) ≡ Some (Shadowed, sp 11 1)
unfolding duplicate_name unknown_super cycle_in_super super_is_builtin undefined_name mixed_name tear_off bad_override abstract_made final_written bad_return_place shadowed wrong_arguments_of_static
a_parameter = refl

-- f(a) { { final §a = 1; } }
a_parameter_from_an_inner_block : failing (tree_of
    (t.a_function
    (function_of false (n (codes "f") 0)
    (a_param false false (n (codes "a") 2) ∷ [])
    (t.code (stas (t.block (stas (t.local (a_local true (n (codes "a") 15) (Some (t.int (pos 1) (sp 19 1)))) ∷ [])) ∷ []))))
    ∷ [])) ≡ Some (Shadowed, sp 15 1)
unfolding duplicate_name unknown_super cycle_in_super super_is_builtin undefined_name mixed_name tear_off bad_override abstract_made final_written bad_return_place shadowed wrong_arguments_of_static
a_parameter_from_an_inner_block = refl

-- main() { var x; { var §x; } }
a_local_of_an_open_block : failing (tree_of
    (t.a_function
    (function_of false (n (codes "main") 0) []
    (t.code (stas (t.local (a_local false (n (codes "x") 13) None) ∷ t.block (stas (t.local (a_local false (n (codes "x") 22) None) ∷ [])) ∷ []))))
    ∷ [])) ≡ Some (Shadowed, sp 22 1)
unfolding duplicate_name unknown_super cycle_in_super super_is_builtin undefined_name mixed_name tear_off bad_override abstract_made final_written bad_return_place shadowed wrong_arguments_of_static
a_local_of_an_open_block = refl

-- main() { { var §x; } var x; }
one_that_is_declared_further_down : failing (tree_of
    (t.a_function
    (function_of false (n (codes "main") 0) []
    (t.code (stas (t.block (stas (t.local (a_local false (n (codes "x") 15) None) ∷ [])) ∷ t.local (a_local false (n (codes "x") 24) None) ∷ []))))
    ∷ [])) ≡ Some (Shadowed, sp 15 1)
unfolding duplicate_name unknown_super cycle_in_super super_is_builtin undefined_name mixed_name tear_off bad_override abstract_made final_written bad_return_place shadowed wrong_arguments_of_static
one_that_is_declared_further_down = refl

-- main() { for (var i = 0; i < 1; i++) { var §i; } }
the_local_of_a_for : failing (tree_of
    (t.a_function
    (function_of false (n (codes "main") 0) []
    (t.code
    (stas
    (t.for
    (t.local_first (a_local false (n (codes "i") 18) (Some (t.int (pos 0) (sp 22 1)))))
    (Some (t.chain (t.bare (n (codes "i") 25)) (links (a_link b.Less (sp 27 1) (t.int (pos 1) (sp 29 1)) ∷ []))))
    (exps (t.step false st.Increment (sp 33 2) (t.bare (n (codes "i") 32)) ∷ []))
    (t.block (stas (t.local (a_local false (n (codes "i") 43) None) ∷ [])))
    ∷ []))))
    ∷ [])) ≡ Some (Shadowed, sp 43 1)
unfolding duplicate_name unknown_super cycle_in_super super_is_builtin undefined_name mixed_name tear_off bad_override abstract_made final_written bad_return_place shadowed wrong_arguments_of_static
the_local_of_a_for = refl

-- main() { for (var i = 0; i < 1; i++) var §i; }
the_local_of_a_for_in_a_bare_body : failing (tree_of
    (t.a_function
    (function_of false (n (codes "main") 0) []
    (t.code
    (stas
    (t.for
    (t.local_first (a_local false (n (codes "i") 18) (Some (t.int (pos 0) (sp 22 1)))))
    (Some (t.chain (t.bare (n (codes "i") 25)) (links (a_link b.Less (sp 27 1) (t.int (pos 1) (sp 29 1)) ∷ []))))
    (exps (t.step false st.Increment (sp 33 2) (t.bare (n (codes "i") 32)) ∷ []))
    (t.local (a_local false (n (codes "i") 41) None))
    ∷ []))))
    ∷ [])) ≡ Some (Shadowed, sp 41 1)
unfolding duplicate_name unknown_super cycle_in_super super_is_builtin undefined_name mixed_name tear_off bad_override abstract_made final_written bad_return_place shadowed wrong_arguments_of_static
the_local_of_a_for_in_a_bare_body = refl

-- main() { var i = 0; for (var §i = 0; ; ) break; }
by_the_local_of_a_for : failing (tree_of
    (t.a_function
    (function_of false (n (codes "main") 0) []
    (t.code
    (stas
    (t.local (a_local false (n (codes "i") 13) (Some (t.int (pos 0) (sp 17 1))))
    ∷ t.for (t.local_first (a_local false (n (codes "i") 29) (Some (t.int (pos 0) (sp 33 1))))) None (exps []) (t.break (sp 40 5))
    ∷ []))))
    ∷ [])) ≡ Some (Shadowed, sp 29 1)
unfolding duplicate_name unknown_super cycle_in_super super_is_builtin undefined_name mixed_name tear_off bad_override abstract_made final_written bad_return_place shadowed wrong_arguments_of_static
by_the_local_of_a_for = refl

-- main() { var x; if (true) var §x; }
by_a_branch : failing (tree_of
    (t.a_function
    (function_of false (n (codes "main") 0) []
    (t.code (stas (t.local (a_local false (n (codes "x") 13) None) ∷ t.when (t.bool true (sp 20 4)) (t.local (a_local false (n (codes "x") 30) None)) ∷ []))))
    ∷ [])) ≡ Some (Shadowed, sp 30 1)
unfolding duplicate_name unknown_super cycle_in_super super_is_builtin undefined_name mixed_name tear_off bad_override abstract_made final_written bad_return_place shadowed wrong_arguments_of_static
by_a_branch = refl

-- main() { var x; if (true) {} else var §x = 1; }
by_the_other_branch : failing (tree_of
    (t.a_function
    (function_of false (n (codes "main") 0) []
    (t.code
    (stas
    (t.local (a_local false (n (codes "x") 13) None)
    ∷ t.when_else (t.bool true (sp 20 4)) (t.block (stas [])) (t.local (a_local false (n (codes "x") 38) (Some (t.int (pos 1) (sp 42 1)))))
    ∷ []))))
    ∷ [])) ≡ Some (Shadowed, sp 38 1)
unfolding duplicate_name unknown_super cycle_in_super super_is_builtin undefined_name mixed_name tear_off bad_override abstract_made final_written bad_return_place shadowed wrong_arguments_of_static
by_the_other_branch = refl

-- main() { var x; do var §x; while (true); }
by_a_loops_body : failing (tree_of
    (t.a_function
    (function_of false (n (codes "main") 0) []
    (t.code (stas (t.local (a_local false (n (codes "x") 13) None) ∷ t.do_while (t.local (a_local false (n (codes "x") 23) None)) (t.bool true (sp 33 4)) ∷ []))))
    ∷ [])) ≡ Some (Shadowed, sp 23 1)
unfolding duplicate_name unknown_super cycle_in_super super_is_builtin undefined_name mixed_name tear_off bad_override abstract_made final_written bad_return_place shadowed wrong_arguments_of_static
by_a_loops_body = refl

-- main() { if (true) var §x = 1; var x = 2; }
by_a_branch_before : failing (tree_of
    (t.a_function
    (function_of false (n (codes "main") 0) []
    (t.code
    (stas
    (t.when (t.bool true (sp 13 4)) (t.local (a_local false (n (codes "x") 23) (Some (t.int (pos 1) (sp 27 1)))))
    ∷ t.local (a_local false (n (codes "x") 34) (Some (t.int (pos 2) (sp 38 1))))
    ∷ []))))
    ∷ [])) ≡ Some (Shadowed, sp 23 1)
unfolding duplicate_name unknown_super cycle_in_super super_is_builtin undefined_name mixed_name tear_off bad_override abstract_made final_written bad_return_place shadowed wrong_arguments_of_static
by_a_branch_before = refl

-- class A { set x(v) { var §v; } }
the_parameter_of_a_setter : failing (tree_of
    (t.a_class
    (class_of false (n (codes "A") 6) None []
    (t.setter (n (codes "x") 14) (a_param false false (n (codes "v") 16)) (Some (t.code (stas (t.local (a_local false (n (codes "v") 25) None) ∷ [])))) ∷ []))
    ∷ [])) ≡ Some (Shadowed, sp 25 1)
unfolding duplicate_name unknown_super cycle_in_super super_is_builtin undefined_name mixed_name tear_off bad_override abstract_made final_written bad_return_place shadowed wrong_arguments_of_static
the_parameter_of_a_setter = refl

-- class A { operator +(o) { var §o; } }
the_parameter_of_an_operator : failing (tree_of
    (t.a_class
    (class_of false (n (codes "A") 6) None []
    (t.operator o.Add (sp 19 1) (a_param false false (n (codes "o") 21) ∷ []) (Some (t.code (stas (t.local (a_local false (n (codes "o") 30) None) ∷ [])))) ∷ []))
    ∷ [])) ≡ Some (Shadowed, sp 30 1)
unfolding duplicate_name unknown_super cycle_in_super super_is_builtin undefined_name mixed_name tear_off bad_override abstract_made final_written bad_return_place shadowed wrong_arguments_of_static
the_parameter_of_an_operator = refl

-- class A { A(x) { var §x; } }
a_plain_parameter_of_a_constructor : failing (tree_of
    (t.a_class
    (class_of false (n (codes "A") 6) None []
    (t.constructor (n (codes "A") 10) (a_param false false (n (codes "x") 12) ∷ []) None (Some (stas (t.local (a_local false (n (codes "x") 21) None) ∷ [])))
    ∷ []))
    ∷ [])) ≡ Some (Shadowed, sp 21 1)
unfolding duplicate_name unknown_super cycle_in_super super_is_builtin undefined_name mixed_name tear_off bad_override abstract_made final_written bad_return_place shadowed wrong_arguments_of_static
a_plain_parameter_of_a_constructor = refl

-- main() { var x; { var §x; } while (true) { var x; } }
the_first_of_two : failing (tree_of
    (t.a_function
    (function_of false (n (codes "main") 0) []
    (t.code
    (stas
    (t.local (a_local false (n (codes "x") 13) None)
    ∷ t.block (stas (t.local (a_local false (n (codes "x") 22) None) ∷ []))
    ∷ t.while (t.bool true (sp 34 4)) (t.block (stas (t.local (a_local false (n (codes "x") 46) None) ∷ [])))
    ∷ []))))
    ∷ [])) ≡ Some (Shadowed, sp 22 1)
unfolding duplicate_name unknown_super cycle_in_super super_is_builtin undefined_name mixed_name tear_off bad_override abstract_made final_written bad_return_place shadowed wrong_arguments_of_static
the_first_of_two = refl

-- class A { var x; A(this.x) { var x = 1; print(x); } }
accepted-a_this_x : failing (tree_of
    (t.a_class
    (class_of false (n (codes "A") 6) None []
    (t.field (a_local false (n (codes "x") 14) None)
    ∷ t.constructor (n (codes "A") 17)
    (a_param false true (n (codes "x") 24) ∷ [])
    None
    (Some
    (stas
    (t.local (a_local false (n (codes "x") 33) (Some (t.int (pos 1) (sp 37 1))))
    ∷ t.run (t.call (n (codes "print") 40) (exps (t.bare (n (codes "x") 46) ∷ [])))
    ∷ [])))
    ∷ []))
    ∷ [])) ≡ None
unfolding duplicate_name unknown_super cycle_in_super super_is_builtin undefined_name mixed_name tear_off bad_override abstract_made final_written bad_return_place shadowed wrong_arguments_of_static
accepted-a_this_x = refl

-- main() { { var x; } { var x; } if (true) var x; }
accepted-blocks_side_by_side : failing (tree_of
    (t.a_function
    (function_of false (n (codes "main") 0) []
    (t.code
    (stas
    (t.block (stas (t.local (a_local false (n (codes "x") 15) None) ∷ []))
    ∷ t.block (stas (t.local (a_local false (n (codes "x") 26) None) ∷ []))
    ∷ t.when (t.bool true (sp 35 4)) (t.local (a_local false (n (codes "x") 45) None))
    ∷ []))))
    ∷ [])) ≡ None
unfolding duplicate_name unknown_super cycle_in_super super_is_builtin undefined_name mixed_name tear_off bad_override abstract_made final_written bad_return_place shadowed wrong_arguments_of_static
accepted-blocks_side_by_side = refl

-- main() { for (var i = 0; i < 1; i++) {} for (var i = 0; i < 1; i++) {} }
accepted-two_for : failing (tree_of
    (t.a_function
    (function_of false (n (codes "main") 0) []
    (t.code
    (stas
    (t.for
    (t.local_first (a_local false (n (codes "i") 18) (Some (t.int (pos 0) (sp 22 1)))))
    (Some (t.chain (t.bare (n (codes "i") 25)) (links (a_link b.Less (sp 27 1) (t.int (pos 1) (sp 29 1)) ∷ []))))
    (exps (t.step false st.Increment (sp 33 2) (t.bare (n (codes "i") 32)) ∷ []))
    (t.block (stas []))
    ∷ t.for
    (t.local_first (a_local false (n (codes "i") 49) (Some (t.int (pos 0) (sp 53 1)))))
    (Some (t.chain (t.bare (n (codes "i") 56)) (links (a_link b.Less (sp 58 1) (t.int (pos 1) (sp 60 1)) ∷ []))))
    (exps (t.step false st.Increment (sp 64 2) (t.bare (n (codes "i") 63)) ∷ []))
    (t.block (stas []))
    ∷ []))))
    ∷ [])) ≡ None
unfolding duplicate_name unknown_super cycle_in_super super_is_builtin undefined_name mixed_name tear_off bad_override abstract_made final_written bad_return_place shadowed wrong_arguments_of_static
accepted-two_for = refl

-- main() { if (true) var x = 1; else var x = 2; }
accepted-both_branches : failing (tree_of
    (t.a_function
    (function_of false (n (codes "main") 0) []
    (t.code
    (stas
    (t.when_else (t.bool true (sp 13 4))
    (t.local (a_local false (n (codes "x") 23) (Some (t.int (pos 1) (sp 27 1)))))
    (t.local (a_local false (n (codes "x") 39) (Some (t.int (pos 2) (sp 43 1)))))
    ∷ []))))
    ∷ [])) ≡ None
unfolding duplicate_name unknown_super cycle_in_super super_is_builtin undefined_name mixed_name tear_off bad_override abstract_made final_written bad_return_place shadowed wrong_arguments_of_static
accepted-both_branches = refl

-- class A { var x; m() { var x = 1; print(x); } }
accepted-a_field : failing (tree_of
    (t.a_class
    (class_of false (n (codes "A") 6) None []
    (t.field (a_local false (n (codes "x") 14) None)
    ∷ t.method (n (codes "m") 17) []
    (Some
    (t.code
    (stas
    (t.local (a_local false (n (codes "x") 27) (Some (t.int (pos 1) (sp 31 1))))
    ∷ t.run (t.call (n (codes "print") 34) (exps (t.bare (n (codes "x") 40) ∷ [])))
    ∷ []))))
    ∷ []))
    ∷ [])) ≡ None
unfolding duplicate_name unknown_super cycle_in_super super_is_builtin undefined_name mixed_name tear_off bad_override abstract_made final_written bad_return_place shadowed wrong_arguments_of_static
accepted-a_field = refl

-- class A {} f() {} main() { var f = 1; var A = 2; print(f + A); }
accepted-a_function_and_a_class : failing (tree_of
    (t.a_class (class_of false (n (codes "A") 6) None [] [])
    ∷ t.a_function (function_of false (n (codes "f") 11) [] (t.code (stas [])))
    ∷ t.a_function
    (function_of false (n (codes "main") 18) []
    (t.code
    (stas
    (t.local (a_local false (n (codes "f") 31) (Some (t.int (pos 1) (sp 35 1))))
    ∷ t.local (a_local false (n (codes "A") 42) (Some (t.int (pos 2) (sp 46 1))))
    ∷ t.run
    (t.call (n (codes "print") 49) (exps (t.chain (t.bare (n (codes "f") 55)) (links (a_link b.Add (sp 57 1) (t.bare (n (codes "A") 59)) ∷ [])) ∷ [])))
    ∷ []))))
    ∷ [])) ≡ None
unfolding duplicate_name unknown_super cycle_in_super super_is_builtin undefined_name mixed_name tear_off bad_override abstract_made final_written bad_return_place shadowed wrong_arguments_of_static
accepted-a_function_and_a_class = refl

-- f(a) { var b; } g(b) { var a; }
accepted-parameters_of_two_functions : failing (tree_of
    (t.a_function
    (function_of false (n (codes "f") 0) (a_param false false (n (codes "a") 2) ∷ []) (t.code (stas (t.local (a_local false (n (codes "b") 11) None) ∷ []))))
    ∷ t.a_function
    (function_of false (n (codes "g") 16) (a_param false false (n (codes "b") 18) ∷ []) (t.code (stas (t.local (a_local false (n (codes "a") 27) None) ∷ []))))
    ∷ [])) ≡ None
unfolding duplicate_name unknown_super cycle_in_super super_is_builtin undefined_name mixed_name tear_off bad_override abstract_made final_written bad_return_place shadowed wrong_arguments_of_static
accepted-parameters_of_two_functions = refl
