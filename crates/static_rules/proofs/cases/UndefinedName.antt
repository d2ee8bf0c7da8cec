-- Texts that break UndefinedName, each with its place, §, and texts that are accepted.
use Rattle.std.proofs.Common.{◌≡◌, refl}
use Rattle.std.specs.Prelude.{[], ◌∷◌, Some, None, codes, true, false, pos}
use Rattle.dart_syntax.specs.declared.tree.Binary.TheVariants as b
use Rattle.dart_syntax.specs.declared.tree.Step.TheVariants as st
use Rattle.dart_syntax.specs.declared.tree.Assignment.TheVariants as a
use Rattle.dart_syntax.specs.Syntax as t
use Rattle.dart_syntax.specs.Syntax.{exps, pieces, links, selectors, stas, a_piece, a_local, a_link, a_param, passing, function_of, class_of, tree_of}
use Rattle.static_rules.specs.declared.rule.Rule.TheVariants.{UndefinedName}
use Rattle.static_rules.specs.Accepted.{failing}
use Rattle.static_rules.specs.DuplicateName.{duplicate_name}
use Rattle.static_rules.specs.Supers.{unknown_super, cycle_in_super, super_is_builtin}
use Rattle.static_rules.specs.UndefinedName.{undefined_name}
use Rattle.static_rules.specs.MixedName.{mixed_name}
use Rattle.static_rules.specs.TearOff.{tear_off}
use Rattle.static_rules.specs.BadOverride.{bad_override}
use Rattle.static_rules.specs.AbstractMade.{abstract_made}
use Rattle.static_rules.specs.FinalWritten.{final_written}
use Rattle.static_rules.specs.BadReturnPlace.{bad_return_place}
use Rattle.static_rules.specs.Shadowed.{shadowed}
use Rattle.static_rules.specs.WrongArgumentsOfStatic.{wrong_arguments_of_static}
use Rattle.static_rules.proofs.cases.Words.{n, sp}

-- main() { §x; }
nothing : failing (tree_of (t.a_function (function_of false (n (codes "main") 0) [] (t.code (stas (t.run (t.bare (n (codes "x") 9)) ∷ [])))) ∷ [])) ≡ Some (UndefinedName, sp 9 1)
unfolding duplicate_name unknown_super cycle_in_super super_is_builtin undefined_name mixed_name tear_off bad_override abstract_made final_written bad_return_place shadowed wrong_arguments_of_static
nothing = refl

-- main() { §g(); }
nothing_called : failing (tree_of (t.a_function (function_of false (n (codes "main") 0) [] (t.code (stas (t.run (t.call (n (codes "g") 9) (exps [])) ∷ [])))) ∷ [])) ≡ Some (UndefinedName, sp 9 1)
unfolding duplicate_name unknown_super cycle_in_super super_is_builtin undefined_name mixed_name tear_off bad_override abstract_made final_written bad_return_place shadowed wrong_arguments_of_static
nothing_called = refl

-- main() { §x = 1; }
nothing_written : failing (tree_of
    (t.a_function
    (function_of false (n (codes "main") 0) [] (t.code (stas (t.run (t.assign (t.bare (n (codes "x") 9)) a.Plain (sp 11 1) (t.int (pos 1) (sp 13 1))) ∷ []))))
    ∷ [])) ≡ Some (UndefinedName, sp 9 1)
unfolding duplicate_name unknown_super cycle_in_super super_is_builtin undefined_name mixed_name tear_off bad_override abstract_made final_written bad_return_place shadowed wrong_arguments_of_static
nothing_written = refl

-- main() { print('a${§x}'); }
nothing_in_a_string : failing (tree_of
    (t.a_function
    (function_of false (n (codes "main") 0) []
    (t.code
    (stas
    (t.run
    (t.call (n (codes "print") 9) (exps (t.joined (codes "a") (sp 15 4) (pieces (a_piece (t.bare (n (codes "x") 19)) (codes "") (sp 20 2) ∷ [])) ∷ [])))
    ∷ []))))
    ∷ [])) ≡ Some (UndefinedName, sp 19 1)
unfolding duplicate_name unknown_super cycle_in_super super_is_builtin undefined_name mixed_name tear_off bad_override abstract_made final_written bad_return_place shadowed wrong_arguments_of_static
nothing_in_a_string = refl

-- main() { var x = §x; }
in_its_own_initialiser : failing (tree_of
    (t.a_function (function_of false (n (codes "main") 0) [] (t.code (stas (t.local (a_local false (n (codes "x") 13) (Some (t.bare (n (codes "x") 17)))) ∷ [])))) ∷ [])) ≡ Some (UndefinedName, sp 17 1)
unfolding duplicate_name unknown_super cycle_in_super super_is_builtin undefined_name mixed_name tear_off bad_override abstract_made final_written bad_return_place shadowed wrong_arguments_of_static
in_its_own_initialiser = refl

-- main() { for (var i = §i; ; ) break; }
in_the_first_part_of_a_for : failing (tree_of
    (t.a_function
    (function_of false (n (codes "main") 0) []
    (t.code (stas (t.for (t.local_first (a_local false (n (codes "i") 18) (Some (t.bare (n (codes "i") 22))))) None (exps []) (t.break (sp 29 5)) ∷ []))))
    ∷ [])) ≡ Some (UndefinedName, sp 22 1)
unfolding duplicate_name unknown_super cycle_in_super super_is_builtin undefined_name mixed_name tear_off bad_override abstract_made final_written bad_return_place shadowed wrong_arguments_of_static
in_the_first_part_of_a_for = refl

-- main() { var x = 1; { print(§x); var x; } }
later_local_behind_an_outer_one : failing (tree_of
    (t.a_function
    (function_of false (n (codes "main") 0) []
    (t.code
    (stas
    (t.local (a_local false (n (codes "x") 13) (Some (t.int (pos 1) (sp 17 1))))
    ∷ t.block (stas (t.run (t.call (n (codes "print") 22) (exps (t.bare (n (codes "x") 28) ∷ []))) ∷ t.local (a_local false (n (codes "x") 36) None) ∷ []))
    ∷ []))))
    ∷ [])) ≡ Some (UndefinedName, sp 28 1)
unfolding duplicate_name unknown_super cycle_in_super super_is_builtin undefined_name mixed_name tear_off bad_override abstract_made final_written bad_return_place shadowed wrong_arguments_of_static
later_local_behind_an_outer_one = refl

-- main() { { print(§x); } var x; }
later_local_from_an_inner_block : failing (tree_of
    (t.a_function
    (function_of false (n (codes "main") 0) []
    (t.code
    (stas
    (t.block (stas (t.run (t.call (n (codes "print") 11) (exps (t.bare (n (codes "x") 17) ∷ []))) ∷ []))
    ∷ t.local (a_local false (n (codes "x") 27) None)
    ∷ []))))
    ∷ [])) ≡ Some (UndefinedName, sp 17 1)
unfolding duplicate_name unknown_super cycle_in_super super_is_builtin undefined_name mixed_name tear_off bad_override abstract_made final_written bad_return_place shadowed wrong_arguments_of_static
later_local_from_an_inner_block = refl

-- f(a) { print(§a); var a; }
later_local_behind_a_parameter : failing (tree_of
    (t.a_function
    (function_of false (n (codes "f") 0)
    (a_param false false (n (codes "a") 2) ∷ [])
    (t.code (stas (t.run (t.call (n (codes "print") 7) (exps (t.bare (n (codes "a") 13) ∷ []))) ∷ t.local (a_local false (n (codes "a") 21) None) ∷ []))))
    ∷ [])) ≡ Some (UndefinedName, sp 13 1)
unfolding duplicate_name unknown_super cycle_in_super super_is_builtin undefined_name mixed_name tear_off bad_override abstract_made final_written bad_return_place shadowed wrong_arguments_of_static
later_local_behind_a_parameter = refl

-- class A { var x; m() { print(§x); var x; } }
later_local_behind_a_member : failing (tree_of
    (t.a_class
    (class_of false (n (codes "A") 6) None []
    (t.field (a_local false (n (codes "x") 14) None)
    ∷ t.method (n (codes "m") 17) []
    (Some
    (t.code (stas (t.run (t.call (n (codes "print") 23) (exps (t.bare (n (codes "x") 29) ∷ []))) ∷ t.local (a_local false (n (codes "x") 37) None) ∷ []))))
    ∷ []))
    ∷ [])) ≡ Some (UndefinedName, sp 29 1)
unfolding duplicate_name unknown_super cycle_in_super super_is_builtin undefined_name mixed_name tear_off bad_override abstract_made final_written bad_return_place shadowed wrong_arguments_of_static
later_local_behind_a_member = refl

-- var x; main() { print(§x); var x; }
later_local_behind_a_variable : failing (tree_of
    (t.a_variable (a_local false (n (codes "x") 4) None)
    ∷ t.a_function
    (function_of false (n (codes "main") 7) []
    (t.code (stas (t.run (t.call (n (codes "print") 16) (exps (t.bare (n (codes "x") 22) ∷ []))) ∷ t.local (a_local false (n (codes "x") 30) None) ∷ []))))
    ∷ [])) ≡ Some (UndefinedName, sp 22 1)
unfolding duplicate_name unknown_super cycle_in_super super_is_builtin undefined_name mixed_name tear_off bad_override abstract_made final_written bad_return_place shadowed wrong_arguments_of_static
later_local_behind_a_variable = refl

-- main() { { var x; } print(§x); }
a_closed_block : failing (tree_of
    (t.a_function
    (function_of false (n (codes "main") 0) []
    (t.code
    (stas
    (t.block (stas (t.local (a_local false (n (codes "x") 15) None) ∷ []))
    ∷ t.run (t.call (n (codes "print") 20) (exps (t.bare (n (codes "x") 26) ∷ [])))
    ∷ []))))
    ∷ [])) ≡ Some (UndefinedName, sp 26 1)
unfolding duplicate_name unknown_super cycle_in_super super_is_builtin undefined_name mixed_name tear_off bad_override abstract_made final_written bad_return_place shadowed wrong_arguments_of_static
a_closed_block = refl

-- main() { for (var i = 0; i < 1; i++) {} print(§i); }
behind_a_for : failing (tree_of
    (t.a_function
    (function_of false (n (codes "main") 0) []
    (t.code
    (stas
    (t.for
    (t.local_first (a_local false (n (codes "i") 18) (Some (t.int (pos 0) (sp 22 1)))))
    (Some (t.chain (t.bare (n (codes "i") 25)) (links (a_link b.Less (sp 27 1) (t.int (pos 1) (sp 29 1)) ∷ []))))
    (exps (t.step false st.Increment (sp 33 2) (t.bare (n (codes "i") 32)) ∷ []))
    (t.block (stas []))
    ∷ t.run (t.call (n (codes "print") 40) (exps (t.bare (n (codes "i") 46) ∷ [])))
    ∷ []))))
    ∷ [])) ≡ Some (UndefinedName, sp 46 1)
unfolding duplicate_name unknown_super cycle_in_super super_is_builtin undefined_name mixed_name tear_off bad_override abstract_made final_written bad_return_place shadowed wrong_arguments_of_static
behind_a_for = refl

-- main() { if (true) var x = 1; print(§x); }
a_branch_is_a_block : failing (tree_of
    (t.a_function
    (function_of false (n (codes "main") 0) []
    (t.code
    (stas
    (t.when (t.bool true (sp 13 4)) (t.local (a_local false (n (codes "x") 23) (Some (t.int (pos 1) (sp 27 1)))))
    ∷ t.run (t.call (n (codes "print") 30) (exps (t.bare (n (codes "x") 36) ∷ [])))
    ∷ []))))
    ∷ [])) ≡ Some (UndefinedName, sp 36 1)
unfolding duplicate_name unknown_super cycle_in_super super_is_builtin undefined_name mixed_name tear_off bad_override abstract_made final_written bad_return_place shadowed wrong_arguments_of_static
a_branch_is_a_block = refl

-- main() { do var x = 1; while (§x == 1); }
the_condition_is_outside : failing (tree_of
    (t.a_function
    (function_of false (n (codes "main") 0) []
    (t.code
    (stas
    (t.do_while
    (t.local (a_local false (n (codes "x") 16) (Some (t.int (pos 1) (sp 20 1)))))
    (t.chain (t.bare (n (codes "x") 30)) (links (a_link b.Equal (sp 32 2) (t.int (pos 1) (sp 35 1)) ∷ [])))
    ∷ []))))
    ∷ [])) ≡ Some (UndefinedName, sp 30 1)
unfolding duplicate_name unknown_super cycle_in_super super_is_builtin undefined_name mixed_name tear_off bad_override abstract_made final_written bad_return_place shadowed wrong_arguments_of_static
the_condition_is_outside = refl

-- main() { print(1 is §X); }
behind_is : failing (tree_of
    (t.a_function
    (function_of false (n (codes "main") 0) []
    (t.code (stas (t.run (t.call (n (codes "print") 9) (exps (t.is (t.int (pos 1) (sp 15 1)) false (sp 17 2) (n (codes "X") 20) ∷ []))) ∷ []))))
    ∷ [])) ≡ Some (UndefinedName, sp 20 1)
unfolding duplicate_name unknown_super cycle_in_super super_is_builtin undefined_name mixed_name tear_off bad_override abstract_made final_written bad_return_place shadowed wrong_arguments_of_static
behind_is = refl

-- f() {} main() { print(1 is! §f); }
a_function_behind_is : failing (tree_of
    (t.a_function (function_of false (n (codes "f") 0) [] (t.code (stas [])))
    ∷ t.a_function
    (function_of false (n (codes "main") 7) []
    (t.code (stas (t.run (t.call (n (codes "print") 16) (exps (t.is (t.int (pos 1) (sp 22 1)) true (sp 24 2) (n (codes "f") 28) ∷ []))) ∷ []))))
    ∷ [])) ≡ Some (UndefinedName, sp 28 1)
unfolding duplicate_name unknown_super cycle_in_super super_is_builtin undefined_name mixed_name tear_off bad_override abstract_made final_written bad_return_place shadowed wrong_arguments_of_static
a_function_behind_is = refl

-- main() { print(§this); }
this_in_a_function : failing (tree_of (t.a_function (function_of false (n (codes "main") 0) [] (t.code (stas (t.run (t.call (n (codes "print") 9) (exps (t.this (sp 15 4) ∷ []))) ∷ [])))) ∷ [])) ≡ Some (UndefinedName, sp 15 4)
unfolding duplicate_name unknown_super cycle_in_super super_is_builtin undefined_name mixed_name tear_off bad_override abstract_made final_written bad_return_place shadowed wrong_arguments_of_static
this_in_a_function = refl

-- main() { §super.m(); }
super_in_a_function : failing (tree_of (t.a_function (function_of false (n (codes "main") 0) [] (t.code (stas (t.run (t.super_call (sp 9 5) (n (codes "m") 15) (exps [])) ∷ [])))) ∷ [])) ≡ Some (UndefinedName, sp 9 5)
unfolding duplicate_name unknown_super cycle_in_super super_is_builtin undefined_name mixed_name tear_off bad_override abstract_made final_written bad_return_place shadowed wrong_arguments_of_static
super_in_a_function = refl

-- class A { A(x); } class B extends A { var y; B() : super(§this.y); }
this_in_passed : failing (tree_of
    (t.a_class (class_of false (n (codes "A") 6) None [] (t.constructor (n (codes "A") 10) (a_param false false (n (codes "x") 12) ∷ []) None None ∷ []))
    ∷ t.a_class
    (class_of false (n (codes "B") 24) (Some (n (codes "A") 34)) []
    (t.field (a_local false (n (codes "y") 42) None)
    ∷ t.constructor (n (codes "B") 45) [] (Some (passing (sp 51 5) (exps (t.postfix (t.this (sp 57 4)) (selectors (t.get (n (codes "y") 62) ∷ [])) ∷ [])))) None
    ∷ []))
    ∷ [])) ≡ Some (UndefinedName, sp 57 4)
unfolding duplicate_name unknown_super cycle_in_super super_is_builtin undefined_name mixed_name tear_off bad_override abstract_made final_written bad_return_place shadowed wrong_arguments_of_static
this_in_passed = refl

-- class A { A(x); m() => 1; } class B extends A { B() : super(§super.m()); }
super_in_passed : failing (tree_of
    (t.a_class
    (class_of false (n (codes "A") 6) None []
    (t.constructor (n (codes "A") 10) (a_param false false (n (codes "x") 12) ∷ []) None None
    ∷ t.method (n (codes "m") 16) [] (Some (t.arrow (t.int (pos 1) (sp 23 1))))
    ∷ []))
    ∷ t.a_class
    (class_of false (n (codes "B") 34) (Some (n (codes "A") 44)) []
    (t.constructor (n (codes "B") 48) [] (Some (passing (sp 54 5) (exps (t.super_call (sp 60 5) (n (codes "m") 66) (exps []) ∷ [])))) None ∷ []))
    ∷ [])) ≡ Some (UndefinedName, sp 60 5)
unfolding duplicate_name unknown_super cycle_in_super super_is_builtin undefined_name mixed_name tear_off bad_override abstract_made final_written bad_return_place shadowed wrong_arguments_of_static
super_in_passed = refl

-- class A { A(x); } class B extends A { var y; B() : super(§y); }
member_in_passed : failing (tree_of
    (t.a_class (class_of false (n (codes "A") 6) None [] (t.constructor (n (codes "A") 10) (a_param false false (n (codes "x") 12) ∷ []) None None ∷ []))
    ∷ t.a_class
    (class_of false (n (codes "B") 24) (Some (n (codes "A") 34)) []
    (t.field (a_local false (n (codes "y") 42) None)
    ∷ t.constructor (n (codes "B") 45) [] (Some (passing (sp 51 5) (exps (t.bare (n (codes "y") 57) ∷ [])))) None
    ∷ []))
    ∷ [])) ≡ Some (UndefinedName, sp 57 1)
unfolding duplicate_name unknown_super cycle_in_super super_is_builtin undefined_name mixed_name tear_off bad_override abstract_made final_written bad_return_place shadowed wrong_arguments_of_static
member_in_passed = refl

-- class A { A(x); } class B extends A { m() => 1; B() : super(§m()); }
called_member_in_passed : failing (tree_of
    (t.a_class (class_of false (n (codes "A") 6) None [] (t.constructor (n (codes "A") 10) (a_param false false (n (codes "x") 12) ∷ []) None None ∷ []))
    ∷ t.a_class
    (class_of false (n (codes "B") 24) (Some (n (codes "A") 34)) []
    (t.method (n (codes "m") 38) [] (Some (t.arrow (t.int (pos 1) (sp 45 1))))
    ∷ t.constructor (n (codes "B") 48) [] (Some (passing (sp 54 5) (exps (t.call (n (codes "m") 60) (exps []) ∷ [])))) None
    ∷ []))
    ∷ [])) ≡ Some (UndefinedName, sp 60 1)
unfolding duplicate_name unknown_super cycle_in_super super_is_builtin undefined_name mixed_name tear_off bad_override abstract_made final_written bad_return_place shadowed wrong_arguments_of_static
called_member_in_passed = refl

-- class A { A(x); } class B extends A { B() : super(§toString()); }
nothing_in_passed : failing (tree_of
    (t.a_class (class_of false (n (codes "A") 6) None [] (t.constructor (n (codes "A") 10) (a_param false false (n (codes "x") 12) ∷ []) None None ∷ []))
    ∷ t.a_class
    (class_of false (n (codes "B") 24) (Some (n (codes "A") 34)) []
    (t.constructor (n (codes "B") 38) [] (Some (passing (sp 44 5) (exps (t.call (n (codes "toString") 50) (exps []) ∷ [])))) None ∷ []))
    ∷ [])) ≡ Some (UndefinedName, sp 50 8)
unfolding duplicate_name unknown_super cycle_in_super super_is_builtin undefined_name mixed_name tear_off bad_override abstract_made final_written bad_return_place shadowed wrong_arguments_of_static
nothing_in_passed = refl

-- class A { m() => 1; } main() { §m(); }
a_member_in_a_function : failing (tree_of
    (t.a_class (class_of false (n (codes "A") 6) None [] (t.method (n (codes "m") 10) [] (Some (t.arrow (t.int (pos 1) (sp 17 1)))) ∷ []))
    ∷ t.a_function (function_of false (n (codes "main") 22) [] (t.code (stas (t.run (t.call (n (codes "m") 31) (exps [])) ∷ []))))
    ∷ [])) ≡ Some (UndefinedName, sp 31 1)
unfolding duplicate_name unknown_super cycle_in_super super_is_builtin undefined_name mixed_name tear_off bad_override abstract_made final_written bad_return_place shadowed wrong_arguments_of_static
a_member_in_a_function = refl

-- class A { A(this.§x); }
no_field : failing (tree_of (t.a_class (class_of false (n (codes "A") 6) None [] (t.constructor (n (codes "A") 10) (a_param false true (n (codes "x") 17) ∷ []) None None ∷ [])) ∷ [])) ≡ Some (UndefinedName, sp 17 1)
unfolding duplicate_name unknown_super cycle_in_super super_is_builtin undefined_name mixed_name tear_off bad_override abstract_made final_written bad_return_place shadowed wrong_arguments_of_static
no_field = refl

-- class A { get x => 1; A(this.§x); }
a_getter_is_no_field : failing (tree_of
    (t.a_class
    (class_of false (n (codes "A") 6) None []
    (t.getter (n (codes "x") 14) (Some (t.arrow (t.int (pos 1) (sp 19 1))))
    ∷ t.constructor (n (codes "A") 22) (a_param false true (n (codes "x") 29) ∷ []) None None
    ∷ []))
    ∷ [])) ≡ Some (UndefinedName, sp 29 1)
unfolding duplicate_name unknown_super cycle_in_super super_is_builtin undefined_name mixed_name tear_off bad_override abstract_made final_written bad_return_place shadowed wrong_arguments_of_static
a_getter_is_no_field = refl

-- class A { var x; } class B extends A { B(this.§x); }
a_field_above : failing (tree_of
    (t.a_class (class_of false (n (codes "A") 6) None [] (t.field (a_local false (n (codes "x") 14) None) ∷ []))
    ∷ t.a_class
    (class_of false (n (codes "B") 25) (Some (n (codes "A") 35)) [] (t.constructor (n (codes "B") 39) (a_param false true (n (codes "x") 46) ∷ []) None None ∷ []))
    ∷ [])) ≡ Some (UndefinedName, sp 46 1)
unfolding duplicate_name unknown_super cycle_in_super super_is_builtin undefined_name mixed_name tear_off bad_override abstract_made final_written bad_return_place shadowed wrong_arguments_of_static
a_field_above = refl

-- class A { m() => super.§f(); }
no_super_member : failing (tree_of
    (t.a_class (class_of false (n (codes "A") 6) None [] (t.method (n (codes "m") 10) [] (Some (t.arrow (t.super_call (sp 17 5) (n (codes "f") 23) (exps [])))) ∷ []))
    ∷ [])) ≡ Some (UndefinedName, sp 23 1)
unfolding duplicate_name unknown_super cycle_in_super super_is_builtin undefined_name mixed_name tear_off bad_override abstract_made final_written bad_return_place shadowed wrong_arguments_of_static
no_super_member = refl

-- class A { f() => 1; m() => super.§f(); }
super_member_of_the_class_itself : failing (tree_of
    (t.a_class
    (class_of false (n (codes "A") 6) None []
    (t.method (n (codes "f") 10) [] (Some (t.arrow (t.int (pos 1) (sp 17 1))))
    ∷ t.method (n (codes "m") 20) [] (Some (t.arrow (t.super_call (sp 27 5) (n (codes "f") 33) (exps []))))
    ∷ []))
    ∷ [])) ≡ Some (UndefinedName, sp 33 1)
unfolding duplicate_name unknown_super cycle_in_super super_is_builtin undefined_name mixed_name tear_off bad_override abstract_made final_written bad_return_place shadowed wrong_arguments_of_static
super_member_of_the_class_itself = refl

-- abstract class A { f(); } class B extends A { f() => super.§f(); }
super_member_without_a_body : failing (tree_of
    (t.a_class (class_of true (n (codes "A") 15) None [] (t.method (n (codes "f") 19) [] None ∷ []))
    ∷ t.a_class
    (class_of false (n (codes "B") 32) (Some (n (codes "A") 42)) []
    (t.method (n (codes "f") 46) [] (Some (t.arrow (t.super_call (sp 53 5) (n (codes "f") 59) (exps [])))) ∷ []))
    ∷ [])) ≡ Some (UndefinedName, sp 59 1)
unfolding duplicate_name unknown_super cycle_in_super super_is_builtin undefined_name mixed_name tear_off bad_override abstract_made final_written bad_return_place shadowed wrong_arguments_of_static
super_member_without_a_body = refl

-- class A { m() => 1; } class B extends A { n() => super.§m; }
super_read_of_a_method : failing (tree_of
    (t.a_class (class_of false (n (codes "A") 6) None [] (t.method (n (codes "m") 10) [] (Some (t.arrow (t.int (pos 1) (sp 17 1)))) ∷ []))
    ∷ t.a_class
    (class_of false (n (codes "B") 28) (Some (n (codes "A") 38)) []
    (t.method (n (codes "n") 42) [] (Some (t.arrow (t.super_get (sp 49 5) (n (codes "m") 55)))) ∷ []))
    ∷ [])) ≡ Some (UndefinedName, sp 55 1)
unfolding duplicate_name unknown_super cycle_in_super super_is_builtin undefined_name mixed_name tear_off bad_override abstract_made final_written bad_return_place shadowed wrong_arguments_of_static
super_read_of_a_method = refl

-- class A { var f; } class B extends A { n() => super.§f(); }
super_call_of_a_field : failing (tree_of
    (t.a_class (class_of false (n (codes "A") 6) None [] (t.field (a_local false (n (codes "f") 14) None) ∷ []))
    ∷ t.a_class
    (class_of false (n (codes "B") 25) (Some (n (codes "A") 35)) []
    (t.method (n (codes "n") 39) [] (Some (t.arrow (t.super_call (sp 46 5) (n (codes "f") 52) (exps [])))) ∷ []))
    ∷ [])) ≡ Some (UndefinedName, sp 52 1)
unfolding duplicate_name unknown_super cycle_in_super super_is_builtin undefined_name mixed_name tear_off bad_override abstract_made final_written bad_return_place shadowed wrong_arguments_of_static
super_call_of_a_field = refl

-- class A { final x = 1; } class B extends A { n() { super.§x = 2; } }
super_write_without_a_setter : failing (tree_of
    (t.a_class (class_of false (n (codes "A") 6) None [] (t.field (a_local true (n (codes "x") 16) (Some (t.int (pos 1) (sp 20 1)))) ∷ []))
    ∷ t.a_class
    (class_of false (n (codes "B") 31) (Some (n (codes "A") 41)) []
    (t.method (n (codes "n") 45) []
    (Some (t.code (stas (t.run (t.assign (t.super_get (sp 51 5) (n (codes "x") 57)) a.Plain (sp 59 1) (t.int (pos 2) (sp 61 1))) ∷ []))))
    ∷ []))
    ∷ [])) ≡ Some (UndefinedName, sp 57 1)
unfolding duplicate_name unknown_super cycle_in_super super_is_builtin undefined_name mixed_name tear_off bad_override abstract_made final_written bad_return_place shadowed wrong_arguments_of_static
super_write_without_a_setter = refl

-- class A { set x(v) {} } class B extends A { n() { super.§x++; } }
super_step_without_a_getter : failing (tree_of
    (t.a_class (class_of false (n (codes "A") 6) None [] (t.setter (n (codes "x") 14) (a_param false false (n (codes "v") 16)) (Some (t.code (stas []))) ∷ []))
    ∷ t.a_class
    (class_of false (n (codes "B") 30) (Some (n (codes "A") 40)) []
    (t.method (n (codes "n") 44) [] (Some (t.code (stas (t.run (t.step false st.Increment (sp 57 2) (t.super_get (sp 50 5) (n (codes "x") 56))) ∷ [])))) ∷ []))
    ∷ [])) ≡ Some (UndefinedName, sp 56 1)
unfolding duplicate_name unknown_super cycle_in_super super_is_builtin undefined_name mixed_name tear_off bad_override abstract_made final_written bad_return_place shadowed wrong_arguments_of_static
super_step_without_a_getter = refl

-- class A { f() => 1; } class B implements A { f() => super.§f(); }
super_member_of_an_interface : failing (tree_of
    (t.a_class (class_of false (n (codes "A") 6) None [] (t.method (n (codes "f") 10) [] (Some (t.arrow (t.int (pos 1) (sp 17 1)))) ∷ []))
    ∷ t.a_class
    (class_of false (n (codes "B") 28) None (n (codes "A") 41 ∷ [])
    (t.method (n (codes "f") 45) [] (Some (t.arrow (t.super_call (sp 52 5) (n (codes "f") 58) (exps [])))) ∷ []))
    ∷ [])) ≡ Some (UndefinedName, sp 58 1)
unfolding duplicate_name unknown_super cycle_in_super super_is_builtin undefined_name mixed_name tear_off bad_override abstract_made final_written bad_return_place shadowed wrong_arguments_of_static
super_member_of_an_interface = refl

-- class A { m() => x; }
accepted-no_member_is_this_x : failing (tree_of (t.a_class (class_of false (n (codes "A") 6) None [] (t.method (n (codes "m") 10) [] (Some (t.arrow (t.bare (n (codes "x") 17)))) ∷ [])) ∷ [])) ≡ None
unfolding duplicate_name unknown_super cycle_in_super super_is_builtin undefined_name mixed_name tear_off bad_override abstract_made final_written bad_return_place shadowed wrong_arguments_of_static
accepted-no_member_is_this_x = refl

-- class A { m() { x = 1; y(2); } }
accepted-written_and_called_too : failing (tree_of
    (t.a_class
    (class_of false (n (codes "A") 6) None []
    (t.method (n (codes "m") 10) []
    (Some
    (t.code
    (stas
    (t.run (t.assign (t.bare (n (codes "x") 16)) a.Plain (sp 18 1) (t.int (pos 1) (sp 20 1)))
    ∷ t.run (t.call (n (codes "y") 23) (exps (t.int (pos 2) (sp 25 1) ∷ [])))
    ∷ []))))
    ∷ []))
    ∷ [])) ≡ None
unfolding duplicate_name unknown_super cycle_in_super super_is_builtin undefined_name mixed_name tear_off bad_override abstract_made final_written bad_return_place shadowed wrong_arguments_of_static
accepted-written_and_called_too = refl

-- main() { var x = 1; { print(x); } }
accepted-a_local : failing (tree_of
    (t.a_function
    (function_of false (n (codes "main") 0) []
    (t.code
    (stas
    (t.local (a_local false (n (codes "x") 13) (Some (t.int (pos 1) (sp 17 1))))
    ∷ t.block (stas (t.run (t.call (n (codes "print") 22) (exps (t.bare (n (codes "x") 28) ∷ []))) ∷ []))
    ∷ []))))
    ∷ [])) ≡ None
unfolding duplicate_name unknown_super cycle_in_super super_is_builtin undefined_name mixed_name tear_off bad_override abstract_made final_written bad_return_place shadowed wrong_arguments_of_static
accepted-a_local = refl

-- var v = 1; f(a) => print(a + v);
accepted-a_parameter_and_a_variable : failing (tree_of
    (t.a_variable (a_local false (n (codes "v") 4) (Some (t.int (pos 1) (sp 8 1))))
    ∷ t.a_function
    (function_of false (n (codes "f") 11)
    (a_param false false (n (codes "a") 13) ∷ [])
    (t.arrow (t.call (n (codes "print") 19) (exps (t.chain (t.bare (n (codes "a") 25)) (links (a_link b.Add (sp 27 1) (t.bare (n (codes "v") 29)) ∷ [])) ∷ [])))))
    ∷ [])) ≡ None
unfolding duplicate_name unknown_super cycle_in_super super_is_builtin undefined_name mixed_name tear_off bad_override abstract_made final_written bad_return_place shadowed wrong_arguments_of_static
accepted-a_parameter_and_a_variable = refl

-- class A { var x; m() => x; n() => m(); }
accepted-a_member_of_its_class : failing (tree_of
    (t.a_class
    (class_of false (n (codes "A") 6) None []
    (t.field (a_local false (n (codes "x") 14) None)
    ∷ t.method (n (codes "m") 17) [] (Some (t.arrow (t.bare (n (codes "x") 24))))
    ∷ t.method (n (codes "n") 27) [] (Some (t.arrow (t.call (n (codes "m") 34) (exps []))))
    ∷ []))
    ∷ [])) ≡ None
unfolding duplicate_name unknown_super cycle_in_super super_is_builtin undefined_name mixed_name tear_off bad_override abstract_made final_written bad_return_place shadowed wrong_arguments_of_static
accepted-a_member_of_its_class = refl

-- class A { m() => f(); } f() => 1;
accepted-a_later_function : failing (tree_of
    (t.a_class (class_of false (n (codes "A") 6) None [] (t.method (n (codes "m") 10) [] (Some (t.arrow (t.call (n (codes "f") 17) (exps [])))) ∷ []))
    ∷ t.a_function (function_of false (n (codes "f") 24) [] (t.arrow (t.int (pos 1) (sp 31 1))))
    ∷ [])) ≡ None
unfolding duplicate_name unknown_super cycle_in_super super_is_builtin undefined_name mixed_name tear_off bad_override abstract_made final_written bad_return_place shadowed wrong_arguments_of_static
accepted-a_later_function = refl

-- class A { final x; A(this.x) { print(x); } }
accepted-a_constructor_means_the_field : failing (tree_of
    (t.a_class
    (class_of false (n (codes "A") 6) None []
    (t.field (a_local true (n (codes "x") 16) None)
    ∷ t.constructor (n (codes "A") 19)
    (a_param false true (n (codes "x") 26) ∷ [])
    None
    (Some (stas (t.run (t.call (n (codes "print") 31) (exps (t.bare (n (codes "x") 37) ∷ []))) ∷ [])))
    ∷ []))
    ∷ [])) ≡ None
unfolding duplicate_name unknown_super cycle_in_super super_is_builtin undefined_name mixed_name tear_off bad_override abstract_made final_written bad_return_place shadowed wrong_arguments_of_static
accepted-a_constructor_means_the_field = refl

-- class A { A(y); } class B extends A { var x; B(this.x) : super(x); }
accepted-a_parameter_in_passed : failing (tree_of
    (t.a_class (class_of false (n (codes "A") 6) None [] (t.constructor (n (codes "A") 10) (a_param false false (n (codes "y") 12) ∷ []) None None ∷ []))
    ∷ t.a_class
    (class_of false (n (codes "B") 24) (Some (n (codes "A") 34)) []
    (t.field (a_local false (n (codes "x") 42) None)
    ∷ t.constructor (n (codes "B") 45) (a_param false true (n (codes "x") 52) ∷ []) (Some (passing (sp 57 5) (exps (t.bare (n (codes "x") 63) ∷ [])))) None
    ∷ []))
    ∷ [])) ≡ None
unfolding duplicate_name unknown_super cycle_in_super super_is_builtin undefined_name mixed_name tear_off bad_override abstract_made final_written bad_return_place shadowed wrong_arguments_of_static
accepted-a_parameter_in_passed = refl

-- var v; class A { A(y); } class B extends A { B() : super(v); }
accepted-a_variable_in_passed : failing (tree_of
    (t.a_variable (a_local false (n (codes "v") 4) None)
    ∷ t.a_class (class_of false (n (codes "A") 13) None [] (t.constructor (n (codes "A") 17) (a_param false false (n (codes "y") 19) ∷ []) None None ∷ []))
    ∷ t.a_class
    (class_of false (n (codes "B") 31) (Some (n (codes "A") 41)) []
    (t.constructor (n (codes "B") 45) [] (Some (passing (sp 51 5) (exps (t.bare (n (codes "v") 57) ∷ [])))) None ∷ []))
    ∷ [])) ≡ None
unfolding duplicate_name unknown_super cycle_in_super super_is_builtin undefined_name mixed_name tear_off bad_override abstract_made final_written bad_return_place shadowed wrong_arguments_of_static
accepted-a_variable_in_passed = refl

-- class A { toString() => super.toString(); }
accepted-super_member_of_object : failing (tree_of
    (t.a_class
    (class_of false (n (codes "A") 6) None []
    (t.method (n (codes "toString") 10) [] (Some (t.arrow (t.super_call (sp 24 5) (n (codes "toString") 30) (exps [])))) ∷ []))
    ∷ [])) ≡ None
unfolding duplicate_name unknown_super cycle_in_super super_is_builtin undefined_name mixed_name tear_off bad_override abstract_made final_written bad_return_place shadowed wrong_arguments_of_static
accepted-super_member_of_object = refl

-- class A { f() => 1; } class B extends A {} class C extends B { f() => super.f(); }
accepted-super_member_far_above : failing (tree_of
    (t.a_class (class_of false (n (codes "A") 6) None [] (t.method (n (codes "f") 10) [] (Some (t.arrow (t.int (pos 1) (sp 17 1)))) ∷ []))
    ∷ t.a_class (class_of false (n (codes "B") 28) (Some (n (codes "A") 38)) [] [])
    ∷ t.a_class
    (class_of false (n (codes "C") 49) (Some (n (codes "B") 59)) []
    (t.method (n (codes "f") 63) [] (Some (t.arrow (t.super_call (sp 70 5) (n (codes "f") 76) (exps [])))) ∷ []))
    ∷ [])) ≡ None
unfolding duplicate_name unknown_super cycle_in_super super_is_builtin undefined_name mixed_name tear_off bad_override abstract_made final_written bad_return_place shadowed wrong_arguments_of_static
accepted-super_member_far_above = refl

-- class A { f() => 1; } abstract class B extends A { f(); } class C extends B { f() => super.f(); }
accepted-super_member_past_an_abstract_one : failing (tree_of
    (t.a_class (class_of false (n (codes "A") 6) None [] (t.method (n (codes "f") 10) [] (Some (t.arrow (t.int (pos 1) (sp 17 1)))) ∷ []))
    ∷ t.a_class (class_of true (n (codes "B") 37) (Some (n (codes "A") 47)) [] (t.method (n (codes "f") 51) [] None ∷ []))
    ∷ t.a_class
    (class_of false (n (codes "C") 64) (Some (n (codes "B") 74)) []
    (t.method (n (codes "f") 78) [] (Some (t.arrow (t.super_call (sp 85 5) (n (codes "f") 91) (exps [])))) ∷ []))
    ∷ [])) ≡ None
unfolding duplicate_name unknown_super cycle_in_super super_is_builtin undefined_name mixed_name tear_off bad_override abstract_made final_written bad_return_place shadowed wrong_arguments_of_static
accepted-super_member_past_an_abstract_one = refl

-- class A { var x; } class B extends A { n() { super.x = 1; super.x += super.x; } }
accepted-super_reads_and_writes : failing (tree_of
    (t.a_class (class_of false (n (codes "A") 6) None [] (t.field (a_local false (n (codes "x") 14) None) ∷ []))
    ∷ t.a_class
    (class_of false (n (codes "B") 25) (Some (n (codes "A") 35)) []
    (t.method (n (codes "n") 39) []
    (Some
    (t.code
    (stas
    (t.run (t.assign (t.super_get (sp 45 5) (n (codes "x") 51)) a.Plain (sp 53 1) (t.int (pos 1) (sp 55 1)))
    ∷ t.run (t.assign (t.super_get (sp 58 5) (n (codes "x") 64)) a.Add (sp 66 2) (t.super_get (sp 69 5) (n (codes "x") 75)))
    ∷ []))))
    ∷ []))
    ∷ [])) ≡ None
unfolding duplicate_name unknown_super cycle_in_super super_is_builtin undefined_name mixed_name tear_off bad_override abstract_made final_written bad_return_place shadowed wrong_arguments_of_static
accepted-super_reads_and_writes = refl

-- class A {} main() { print(1 is int); print(A() is! A); print(1 is Object); }
accepted-behind_is_a_class : failing (tree_of
    (t.a_class (class_of false (n (codes "A") 6) None [] [])
    ∷ t.a_function
    (function_of false (n (codes "main") 11) []
    (t.code
    (stas
    (t.run (t.call (n (codes "print") 20) (exps (t.is (t.int (pos 1) (sp 26 1)) false (sp 28 2) (n (codes "int") 31) ∷ [])))
    ∷ t.run (t.call (n (codes "print") 37) (exps (t.is (t.call (n (codes "A") 43) (exps [])) true (sp 47 2) (n (codes "A") 51) ∷ [])))
    ∷ t.run (t.call (n (codes "print") 55) (exps (t.is (t.int (pos 1) (sp 61 1)) false (sp 63 2) (n (codes "Object") 66) ∷ [])))
    ∷ []))))
    ∷ [])) ≡ None
unfolding duplicate_name unknown_super cycle_in_super super_is_builtin undefined_name mixed_name tear_off bad_override abstract_made final_written bad_return_place shadowed wrong_arguments_of_static
accepted-behind_is_a_class = refl

-- main() { for (var i = 0; i < 3; i++) print(i); }
accepted-a_for_and_its_local : failing (tree_of
    (t.a_function
    (function_of false (n (codes "main") 0) []
    (t.code
    (stas
    (t.for
    (t.local_first (a_local false (n (codes "i") 18) (Some (t.int (pos 0) (sp 22 1)))))
    (Some (t.chain (t.bare (n (codes "i") 25)) (links (a_link b.Less (sp 27 1) (t.int (pos 3) (sp 29 1)) ∷ []))))
    (exps (t.step false st.Increment (sp 33 2) (t.bare (n (codes "i") 32)) ∷ []))
    (t.run (t.call (n (codes "print") 37) (exps (t.bare (n (codes "i") 43) ∷ []))))
    ∷ []))))
    ∷ [])) ≡ None
unfolding duplicate_name unknown_super cycle_in_super super_is_builtin undefined_name mixed_name tear_off bad_override abstract_made final_written bad_return_place shadowed wrong_arguments_of_static
accepted-a_for_and_its_local = refl

-- class A { get x => 1; } class B extends A { m() => super.x; }
accepted-a_getter_of_the_superclass : failing (tree_of
    (t.a_class (class_of false (n (codes "A") 6) None [] (t.getter (n (codes "x") 14) (Some (t.arrow (t.int (pos 1) (sp 19 1)))) ∷ []))
    ∷ t.a_class
    (class_of false (n (codes "B") 30) (Some (n (codes "A") 40)) []
    (t.method (n (codes "m") 44) [] (Some (t.arrow (t.super_get (sp 51 5) (n (codes "x") 57)))) ∷ []))
    ∷ [])) ≡ None
unfolding duplicate_name unknown_super cycle_in_super super_is_builtin undefined_name mixed_name tear_off bad_override abstract_made final_written bad_return_place shadowed wrong_arguments_of_static
accepted-a_getter_of_the_superclass = refl

-- main() { print(1 is int); }
accepted-behind_is_a_built_in_class : failing (tree_of
    (t.a_function
    (function_of false (n (codes "main") 0) []
    (t.code (stas (t.run (t.call (n (codes "print") 9) (exps (t.is (t.int (pos 1) (sp 15 1)) false (sp 17 2) (n (codes "int") 20) ∷ []))) ∷ []))))
    ∷ [])) ≡ None
unfolding duplicate_name unknown_super cycle_in_super super_is_builtin undefined_name mixed_name tear_off bad_override abstract_made final_written bad_return_place shadowed wrong_arguments_of_static
accepted-behind_is_a_built_in_class = refl
