-- The call sites of texts, in the order of their numbers.
use Rattle.std.proofs.Common.{◌≡◌, refl}
use Rattle.std.specs.Prelude.{[], ◌∷◌, Some, None, codes, true, false, pos}
use Rattle.dart_syntax.specs.declared.tree.Unary.TheVariants as u
use Rattle.dart_syntax.specs.declared.tree.Binary.TheVariants as b
use Rattle.dart_syntax.specs.declared.tree.Step.TheVariants as st
use Rattle.dart_syntax.specs.declared.tree.Assignment.TheVariants as a
use Rattle.dart_syntax.specs.Syntax as t
use Rattle.dart_syntax.specs.Syntax.{exps, pieces, links, selectors, stas, a_piece, a_local, a_link, a_param, passing, function_of, class_of, tree_of}
use Rattle.std.specs.Prelude.{map}
use Rattle.dart_meaning.specs.Place.{reading, writing, in_print, in_list}
use Rattle.dart_meaning.specs.Program.{calling, getting, setting, to_string}
use Rattle.dart_meaning.specs.Sites.{site, site_at, text_sites}
use Rattle.static_rules.proofs.cases.Words.{n, sp}

-- class A { m() => 7; }
-- main() { print(A().m()); }
first_run : map (site_at (tree_of
    (t.a_class (class_of false (n (codes "A") 6) None [] (t.method (n (codes "m") 10) [] (Some (t.arrow (t.int (pos 7) (sp 17 1)))) ∷ []))
    ∷ t.a_function
    (function_of false (n (codes "main") 22) []
    (t.code
    (stas
    (t.run
    (t.call (n (codes "print") 31) (exps (t.postfix (t.call (n (codes "A") 37) (exps [])) (selectors (t.send (n (codes "m") 41) (exps []) ∷ [])) ∷ [])))
    ∷ []))))
    ∷ []))) (0 ∷ 1 ∷ 2 ∷ 3 ∷ []) ≡
    Some (site (reading 41) (calling (codes "m") 0))
    ∷ Some (site in_print to_string)
    ∷ Some (site in_list to_string)
    ∷ None
    ∷ []
unfolding text_sites
first_run = refl

-- class A { m() => 1; }
-- class B extends A {}
-- class C extends A {}
-- f(o) => print(o.m());
-- main() { f(B()); f(C()); }
single_target : map (site_at (tree_of
    (t.a_class (class_of false (n (codes "A") 6) None [] (t.method (n (codes "m") 10) [] (Some (t.arrow (t.int (pos 1) (sp 17 1)))) ∷ []))
    ∷ t.a_class (class_of false (n (codes "B") 28) (Some (n (codes "A") 38)) [] [])
    ∷ t.a_class (class_of false (n (codes "C") 49) (Some (n (codes "A") 59)) [] [])
    ∷ t.a_function
    (function_of false (n (codes "f") 64)
    (a_param false false (n (codes "o") 66) ∷ [])
    (t.arrow (t.call (n (codes "print") 72) (exps (t.postfix (t.bare (n (codes "o") 78)) (selectors (t.send (n (codes "m") 80) (exps []) ∷ [])) ∷ [])))))
    ∷ t.a_function
    (function_of false (n (codes "main") 86) []
    (t.code
    (stas
    (t.run (t.call (n (codes "f") 95) (exps (t.call (n (codes "B") 97) (exps []) ∷ [])))
    ∷ t.run (t.call (n (codes "f") 103) (exps (t.call (n (codes "C") 105) (exps []) ∷ [])))
    ∷ []))))
    ∷ []))) (0 ∷ 1 ∷ 2 ∷ 3 ∷ []) ≡
    Some (site (reading 80) (calling (codes "m") 0))
    ∷ Some (site in_print to_string)
    ∷ Some (site in_list to_string)
    ∷ None
    ∷ []
unfolding text_sites
single_target = refl

-- class A {
--   noSuchMethod(i) { print('${i.memberName} ${i.positionalArguments}'); return 5; }
-- }
-- main() { var a = A(); print(a.foo(1, 2)); a.x = 3; print(a.x); }
no_such_method : map (site_at (tree_of
    (t.a_class
    (class_of false (n (codes "A") 6) None []
    (t.method (n (codes "noSuchMethod") 12)
    (a_param false false (n (codes "i") 25) ∷ [])
    (Some
    (t.code
    (stas
    (t.run
    (t.call (n (codes "print") 30)
    (exps
    (t.joined (codes "") (sp 36 3)
    (pieces
    (a_piece (t.postfix (t.bare (n (codes "i") 39)) (selectors (t.get (n (codes "memberName") 41) ∷ []))) (codes " ") (sp 51 4)
    ∷ a_piece (t.postfix (t.bare (n (codes "i") 55)) (selectors (t.get (n (codes "positionalArguments") 57) ∷ []))) (codes "") (sp 76 2)
    ∷ []))
    ∷ [])))
    ∷ t.return (sp 81 6) (Some (t.int (pos 5) (sp 88 1)))
    ∷ []))))
    ∷ []))
    ∷ t.a_function
    (function_of false (n (codes "main") 95) []
    (t.code
    (stas
    (t.local (a_local false (n (codes "a") 108) (Some (t.call (n (codes "A") 112) (exps []))))
    ∷ t.run
    (t.call (n (codes "print") 117)
    (exps
    (t.postfix (t.bare (n (codes "a") 123))
    (selectors (t.send (n (codes "foo") 125) (exps (t.int (pos 1) (sp 129 1) ∷ t.int (pos 2) (sp 132 1) ∷ [])) ∷ []))
    ∷ [])))
    ∷ t.run (t.assign (t.postfix (t.bare (n (codes "a") 137)) (selectors (t.get (n (codes "x") 139) ∷ []))) a.Plain (sp 141 1) (t.int (pos 3) (sp 143 1)))
    ∷ t.run (t.call (n (codes "print") 146) (exps (t.postfix (t.bare (n (codes "a") 152)) (selectors (t.get (n (codes "x") 154) ∷ [])) ∷ [])))
    ∷ []))))
    ∷ []))) (0 ∷ 1 ∷ 2 ∷ 3 ∷ 4 ∷ 5 ∷ 6 ∷ 7 ∷ 8 ∷ 9 ∷ []) ≡
    Some (site (reading 36) to_string)
    ∷ Some (site (reading 41) (getting (codes "memberName")))
    ∷ Some (site (reading 51) to_string)
    ∷ Some (site (reading 57) (getting (codes "positionalArguments")))
    ∷ Some (site (reading 125) (calling (codes "foo") 2))
    ∷ Some (site (writing 139) (setting (codes "x")))
    ∷ Some (site (reading 154) (getting (codes "x")))
    ∷ Some (site in_print to_string)
    ∷ Some (site in_list to_string)
    ∷ None
    ∷ []
unfolding text_sites
no_such_method = refl

-- class A {}
-- main() { print(null == A()); print(null.foo()); }
null_receiver : map (site_at (tree_of
    (t.a_class (class_of false (n (codes "A") 6) None [] [])
    ∷ t.a_function
    (function_of false (n (codes "main") 11) []
    (t.code
    (stas
    (t.run
    (t.call (n (codes "print") 20) (exps (t.chain (t.null (sp 26 4)) (links (a_link b.Equal (sp 31 2) (t.call (n (codes "A") 34) (exps [])) ∷ [])) ∷ [])))
    ∷ t.run (t.call (n (codes "print") 40) (exps (t.postfix (t.null (sp 46 4)) (selectors (t.send (n (codes "foo") 51) (exps []) ∷ [])) ∷ [])))
    ∷ []))))
    ∷ []))) (0 ∷ 1 ∷ 2 ∷ 3 ∷ 4 ∷ []) ≡
    Some (site (reading 31) (calling (codes "==") 1))
    ∷ Some (site (reading 51) (calling (codes "foo") 0))
    ∷ Some (site in_print to_string)
    ∷ Some (site in_list to_string)
    ∷ None
    ∷ []
unfolding text_sites
null_receiver = refl

-- f() { print('f'); return 0; }
-- main() { var a = [1]; a[f()] += 1; print(a); }
compound_assignment : map (site_at (tree_of
    (t.a_function
    (function_of false (n (codes "f") 0) []
    (t.code (stas (t.run (t.call (n (codes "print") 6) (exps (t.str (codes "f") (sp 12 3) ∷ []))) ∷ t.return (sp 18 6) (Some (t.int (pos 0) (sp 25 1))) ∷ []))))
    ∷ t.a_function
    (function_of false (n (codes "main") 30) []
    (t.code
    (stas
    (t.local (a_local false (n (codes "a") 43) (Some (t.list (sp 47 1) (exps (t.int (pos 1) (sp 48 1) ∷ [])))))
    ∷ t.run
    (t.assign
    (t.postfix (t.bare (n (codes "a") 52)) (selectors (t.index (sp 53 1) (t.call (n (codes "f") 54) (exps [])) ∷ [])))
    a.Add
    (sp 59 2)
    (t.int (pos 1) (sp 62 1)))
    ∷ t.run (t.call (n (codes "print") 65) (exps (t.bare (n (codes "a") 71) ∷ [])))
    ∷ []))))
    ∷ []))) (0 ∷ 1 ∷ 2 ∷ 3 ∷ 4 ∷ 5 ∷ []) ≡
    Some (site (reading 53) (calling (codes "[]") 1))
    ∷ Some (site (writing 53) (calling (codes "[]=") 2))
    ∷ Some (site (reading 59) (calling (codes "+") 1))
    ∷ Some (site in_print to_string)
    ∷ Some (site in_list to_string)
    ∷ None
    ∷ []
unfolding text_sites
compound_assignment = refl

-- abstract class Shape {
--   area();
--   toString() => 'area ${area()}';
-- }
-- class Square extends Shape {
--   final side;
--   Square(this.side);
--   @override
--   area() => side * side;
-- }
-- class Rect extends Shape {
--   final w;
--   final h;
--   Rect(this.w, this.h);
--   @override
--   area() => w * h;
-- }
-- main() {
--   var shapes = [Square(3), Rect(2, 5)];
--   for (var i = 0; i < shapes.length; i++) {
--     print(shapes[i]);
--   }
-- }
shapes : map (site_at (tree_of
    (t.a_class
    (class_of true (n (codes "Shape") 15) None []
    (t.method (n (codes "area") 25) [] None
    ∷ t.method (n (codes "toString") 35) []
    (Some (t.arrow (t.joined (codes "area ") (sp 49 8) (pieces (a_piece (t.call (n (codes "area") 57) (exps [])) (codes "") (sp 63 2) ∷ [])))))
    ∷ []))
    ∷ t.a_class
    (class_of false (n (codes "Square") 75) (Some (n (codes "Shape") 90)) []
    (t.field (a_local true (n (codes "side") 106) None)
    ∷ t.constructor (n (codes "Square") 114) (a_param false true (n (codes "side") 126) ∷ []) None None
    ∷ t.method (n (codes "area") 147) []
    (Some (t.arrow (t.chain (t.bare (n (codes "side") 157)) (links (a_link b.Multiply (sp 162 1) (t.bare (n (codes "side") 164)) ∷ [])))))
    ∷ []))
    ∷ t.a_class
    (class_of false (n (codes "Rect") 178) (Some (n (codes "Shape") 191)) []
    (t.field (a_local true (n (codes "w") 207) None)
    ∷ t.field (a_local true (n (codes "h") 218) None)
    ∷ t.constructor (n (codes "Rect") 223) (a_param false true (n (codes "w") 233) ∷ a_param false true (n (codes "h") 241) ∷ []) None None
    ∷ t.method (n (codes "area") 259) []
    (Some (t.arrow (t.chain (t.bare (n (codes "w") 269)) (links (a_link b.Multiply (sp 271 1) (t.bare (n (codes "h") 273)) ∷ [])))))
    ∷ []))
    ∷ t.a_function
    (function_of false (n (codes "main") 278) []
    (t.code
    (stas
    (t.local
    (a_local false (n (codes "shapes") 293)
    (Some
    (t.list (sp 302 1)
    (exps
    (t.call (n (codes "Square") 303) (exps (t.int (pos 3) (sp 310 1) ∷ []))
    ∷ t.call (n (codes "Rect") 314) (exps (t.int (pos 2) (sp 319 1) ∷ t.int (pos 5) (sp 322 1) ∷ []))
    ∷ [])))))
    ∷ t.for
    (t.local_first (a_local false (n (codes "i") 338) (Some (t.int (pos 0) (sp 342 1)))))
    (Some
    (t.chain (t.bare (n (codes "i") 345))
    (links (a_link b.Less (sp 347 1) (t.postfix (t.bare (n (codes "shapes") 349)) (selectors (t.get (n (codes "length") 356) ∷ []))) ∷ []))))
    (exps (t.step false st.Increment (sp 365 2) (t.bare (n (codes "i") 364)) ∷ []))
    (t.block
    (stas
    (t.run
    (t.call (n (codes "print") 375)
    (exps (t.postfix (t.bare (n (codes "shapes") 381)) (selectors (t.index (sp 387 1) (t.bare (n (codes "i") 388)) ∷ [])) ∷ [])))
    ∷ [])))
    ∷ []))))
    ∷ []))) (0 ∷ 1 ∷ 2 ∷ 3 ∷ 4 ∷ 5 ∷ 6 ∷ 7 ∷ 8 ∷ 9 ∷ 10 ∷ 11 ∷ 12 ∷ 13 ∷ 14 ∷ []) ≡
    Some (site (reading 49) to_string)
    ∷ Some (site (reading 57) (calling (codes "area") 0))
    ∷ Some (site (reading 157) (getting (codes "side")))
    ∷ Some (site (reading 162) (calling (codes "*") 1))
    ∷ Some (site (reading 164) (getting (codes "side")))
    ∷ Some (site (reading 269) (getting (codes "w")))
    ∷ Some (site (reading 271) (calling (codes "*") 1))
    ∷ Some (site (reading 273) (getting (codes "h")))
    ∷ Some (site (reading 347) (calling (codes "<") 1))
    ∷ Some (site (reading 356) (getting (codes "length")))
    ∷ Some (site (reading 365) (calling (codes "+") 1))
    ∷ Some (site (reading 387) (calling (codes "[]") 1))
    ∷ Some (site in_print to_string)
    ∷ Some (site in_list to_string)
    ∷ None
    ∷ []
unfolding text_sites
shapes = refl

-- main() { print(-0x10); print(-9223372036854775808); }
a_minus_before_a_number : map (site_at (tree_of
    (t.a_function
    (function_of false (n (codes "main") 0) []
    (t.code
    (stas
    (t.run (t.call (n (codes "print") 9) (exps (t.unary u.Minus (sp 15 1) (t.int (pos 16) (sp 16 4)) ∷ [])))
    ∷ t.run (t.call (n (codes "print") 23) (exps (t.unary u.Minus (sp 29 1) (t.min_int (sp 30 19)) ∷ [])))
    ∷ []))))
    ∷ []))) (0 ∷ 1 ∷ 2 ∷ []) ≡
    Some (site in_print to_string)
    ∷ Some (site in_list to_string)
    ∷ None
    ∷ []
unfolding text_sites
a_minus_before_a_number = refl

-- f(x) => -(5) + -5.isEven + - -x;
a_minus_before_something_else : map (site_at (tree_of
    (t.a_function
    (function_of false (n (codes "f") 0)
    (a_param false false (n (codes "x") 2) ∷ [])
    (t.arrow
    (t.chain
    (t.unary u.Minus (sp 8 1) (t.paren (t.int (pos 5) (sp 10 1))))
    (links
    (a_link b.Add (sp 13 1) (t.unary u.Minus (sp 15 1) (t.postfix (t.int (pos 5) (sp 16 1)) (selectors (t.get (n (codes "isEven") 18) ∷ []))))
    ∷ a_link b.Add (sp 25 1) (t.unary u.Minus (sp 27 1) (t.unary u.Minus (sp 29 1) (t.bare (n (codes "x") 30))))
    ∷ [])))))
    ∷ []))) (0 ∷ 1 ∷ 2 ∷ 3 ∷ 4 ∷ 5 ∷ 6 ∷ 7 ∷ 8 ∷ 9 ∷ []) ≡
    Some (site (reading 8) (calling (codes "unary-") 0))
    ∷ Some (site (reading 13) (calling (codes "+") 1))
    ∷ Some (site (reading 15) (calling (codes "unary-") 0))
    ∷ Some (site (reading 18) (getting (codes "isEven")))
    ∷ Some (site (reading 25) (calling (codes "+") 1))
    ∷ Some (site (reading 27) (calling (codes "unary-") 0))
    ∷ Some (site (reading 29) (calling (codes "unary-") 0))
    ∷ Some (site in_print to_string)
    ∷ Some (site in_list to_string)
    ∷ None
    ∷ []
unfolding text_sites
a_minus_before_something_else = refl

-- f(x, y) => !(~x != y) && (x == y || x >>> 1 < y);
other_signs : map (site_at (tree_of
    (t.a_function
    (function_of false (n (codes "f") 0)
    (a_param false false (n (codes "x") 2) ∷ a_param false false (n (codes "y") 5) ∷ [])
    (t.arrow
    (t.chain
    (t.unary u.Not (sp 11 1)
    (t.paren (t.chain (t.unary u.Complement (sp 13 1) (t.bare (n (codes "x") 14))) (links (a_link b.NotEqual (sp 16 2) (t.bare (n (codes "y") 19)) ∷ [])))))
    (links
    (a_link b.And (sp 22 2)
    (t.paren
    (t.chain
    (t.chain (t.bare (n (codes "x") 26)) (links (a_link b.Equal (sp 28 2) (t.bare (n (codes "y") 31)) ∷ [])))
    (links
    (a_link b.Or (sp 33 2)
    (t.chain
    (t.chain (t.bare (n (codes "x") 36)) (links (a_link b.ShiftUnsigned (sp 38 3) (t.int (pos 1) (sp 42 1)) ∷ [])))
    (links (a_link b.Less (sp 44 1) (t.bare (n (codes "y") 46)) ∷ [])))
    ∷ []))))
    ∷ [])))))
    ∷ []))) (0 ∷ 1 ∷ 2 ∷ 3 ∷ 4 ∷ 5 ∷ 6 ∷ 7 ∷ []) ≡
    Some (site (reading 13) (calling (codes "~") 0))
    ∷ Some (site (reading 16) (calling (codes "==") 1))
    ∷ Some (site (reading 28) (calling (codes "==") 1))
    ∷ Some (site (reading 38) (calling (codes ">>>") 1))
    ∷ Some (site (reading 44) (calling (codes "<") 1))
    ∷ Some (site in_print to_string)
    ∷ Some (site in_list to_string)
    ∷ None
    ∷ []
unfolding text_sites
other_signs = refl

-- class A { var x; m(k) { x = n; x += 1; ++x; y(k, 2); } get n => 1; }
bare_members : map (site_at (tree_of
    (t.a_class
    (class_of false (n (codes "A") 6) None []
    (t.field (a_local false (n (codes "x") 14) None)
    ∷ t.method (n (codes "m") 17)
    (a_param false false (n (codes "k") 19) ∷ [])
    (Some
    (t.code
    (stas
    (t.run (t.assign (t.bare (n (codes "x") 24)) a.Plain (sp 26 1) (t.bare (n (codes "n") 28)))
    ∷ t.run (t.assign (t.bare (n (codes "x") 31)) a.Add (sp 33 2) (t.int (pos 1) (sp 36 1)))
    ∷ t.run (t.step true st.Increment (sp 39 2) (t.bare (n (codes "x") 41)))
    ∷ t.run (t.call (n (codes "y") 44) (exps (t.bare (n (codes "k") 46) ∷ t.int (pos 2) (sp 49 1) ∷ [])))
    ∷ []))))
    ∷ t.getter (n (codes "n") 59) (Some (t.arrow (t.int (pos 1) (sp 64 1))))
    ∷ []))
    ∷ []))) (0 ∷ 1 ∷ 2 ∷ 3 ∷ 4 ∷ 5 ∷ 6 ∷ 7 ∷ 8 ∷ 9 ∷ 10 ∷ 11 ∷ []) ≡
    Some (site (writing 24) (setting (codes "x")))
    ∷ Some (site (reading 28) (getting (codes "n")))
    ∷ Some (site (reading 31) (getting (codes "x")))
    ∷ Some (site (writing 31) (setting (codes "x")))
    ∷ Some (site (reading 33) (calling (codes "+") 1))
    ∷ Some (site (reading 39) (calling (codes "+") 1))
    ∷ Some (site (reading 41) (getting (codes "x")))
    ∷ Some (site (writing 41) (setting (codes "x")))
    ∷ Some (site (reading 44) (calling (codes "y") 2))
    ∷ Some (site in_print to_string)
    ∷ Some (site in_list to_string)
    ∷ None
    ∷ []
unfolding text_sites
bare_members = refl

-- f(o) { o.x -= 1; o.y--; o.z.w = o[1][2]; }
members : map (site_at (tree_of
    (t.a_function
    (function_of false (n (codes "f") 0)
    (a_param false false (n (codes "o") 2) ∷ [])
    (t.code
    (stas
    (t.run (t.assign (t.postfix (t.bare (n (codes "o") 7)) (selectors (t.get (n (codes "x") 9) ∷ []))) a.Subtract (sp 11 2) (t.int (pos 1) (sp 14 1)))
    ∷ t.run (t.step false st.Decrement (sp 20 2) (t.postfix (t.bare (n (codes "o") 17)) (selectors (t.get (n (codes "y") 19) ∷ []))))
    ∷ t.run
    (t.assign
    (t.postfix (t.bare (n (codes "o") 24)) (selectors (t.get (n (codes "z") 26) ∷ t.get (n (codes "w") 28) ∷ [])))
    a.Plain
    (sp 30 1)
    (t.postfix (t.bare (n (codes "o") 32)) (selectors (t.index (sp 33 1) (t.int (pos 1) (sp 34 1)) ∷ t.index (sp 36 1) (t.int (pos 2) (sp 37 1)) ∷ []))))
    ∷ []))))
    ∷ []))) (0 ∷ 1 ∷ 2 ∷ 3 ∷ 4 ∷ 5 ∷ 6 ∷ 7 ∷ 8 ∷ 9 ∷ 10 ∷ 11 ∷ 12 ∷ []) ≡
    Some (site (reading 9) (getting (codes "x")))
    ∷ Some (site (writing 9) (setting (codes "x")))
    ∷ Some (site (reading 11) (calling (codes "-") 1))
    ∷ Some (site (reading 19) (getting (codes "y")))
    ∷ Some (site (writing 19) (setting (codes "y")))
    ∷ Some (site (reading 20) (calling (codes "-") 1))
    ∷ Some (site (reading 26) (getting (codes "z")))
    ∷ Some (site (writing 28) (setting (codes "w")))
    ∷ Some (site (reading 33) (calling (codes "[]") 1))
    ∷ Some (site (reading 36) (calling (codes "[]") 1))
    ∷ Some (site in_print to_string)
    ∷ Some (site in_list to_string)
    ∷ None
    ∷ []
unfolding text_sites
members = refl

-- class A { var x; m(a) => a; }
-- class B extends A { n() { super.x += 1; super.x++; super.m(super.x); this.m(2); } }
super_has_no_cell : map (site_at (tree_of
    (t.a_class
    (class_of false (n (codes "A") 6) None []
    (t.field (a_local false (n (codes "x") 14) None)
    ∷ t.method (n (codes "m") 17) (a_param false false (n (codes "a") 19) ∷ []) (Some (t.arrow (t.bare (n (codes "a") 25))))
    ∷ []))
    ∷ t.a_class
    (class_of false (n (codes "B") 36) (Some (n (codes "A") 46)) []
    (t.method (n (codes "n") 50) []
    (Some
    (t.code
    (stas
    (t.run (t.assign (t.super_get (sp 56 5) (n (codes "x") 62)) a.Add (sp 64 2) (t.int (pos 1) (sp 67 1)))
    ∷ t.run (t.step false st.Increment (sp 77 2) (t.super_get (sp 70 5) (n (codes "x") 76)))
    ∷ t.run (t.super_call (sp 81 5) (n (codes "m") 87) (exps (t.super_get (sp 89 5) (n (codes "x") 95) ∷ [])))
    ∷ t.run (t.postfix (t.this (sp 99 4)) (selectors (t.send (n (codes "m") 104) (exps (t.int (pos 2) (sp 106 1) ∷ [])) ∷ [])))
    ∷ []))))
    ∷ []))
    ∷ []))) (0 ∷ 1 ∷ 2 ∷ 3 ∷ 4 ∷ 5 ∷ []) ≡
    Some (site (reading 64) (calling (codes "+") 1))
    ∷ Some (site (reading 77) (calling (codes "+") 1))
    ∷ Some (site (reading 104) (calling (codes "m") 1))
    ∷ Some (site in_print to_string)
    ∷ Some (site in_list to_string)
    ∷ None
    ∷ []
unfolding text_sites
super_has_no_cell = refl

-- var v = 1; f(a) { var b = a; b += v; v++; f(b); }
locals_have_no_cell : map (site_at (tree_of
    (t.a_variable (a_local false (n (codes "v") 4) (Some (t.int (pos 1) (sp 8 1))))
    ∷ t.a_function
    (function_of false (n (codes "f") 11)
    (a_param false false (n (codes "a") 13) ∷ [])
    (t.code
    (stas
    (t.local (a_local false (n (codes "b") 22) (Some (t.bare (n (codes "a") 26))))
    ∷ t.run (t.assign (t.bare (n (codes "b") 29)) a.Add (sp 31 2) (t.bare (n (codes "v") 34)))
    ∷ t.run (t.step false st.Increment (sp 38 2) (t.bare (n (codes "v") 37)))
    ∷ t.run (t.call (n (codes "f") 42) (exps (t.bare (n (codes "b") 44) ∷ [])))
    ∷ []))))
    ∷ []))) (0 ∷ 1 ∷ 2 ∷ 3 ∷ 4 ∷ []) ≡
    Some (site (reading 31) (calling (codes "+") 1))
    ∷ Some (site (reading 38) (calling (codes "+") 1))
    ∷ Some (site in_print to_string)
    ∷ Some (site in_list to_string)
    ∷ None
    ∷ []
unfolding text_sites
locals_have_no_cell = refl

-- f(a) => '$a-${a.b}$a' + "${'x$a'}";
interpolations : map (site_at (tree_of
    (t.a_function
    (function_of false (n (codes "f") 0)
    (a_param false false (n (codes "a") 2) ∷ [])
    (t.arrow
    (t.chain
    (t.joined (codes "") (sp 8 2)
    (pieces
    (a_piece (t.bare (n (codes "a") 10)) (codes "-") (sp 11 3)
    ∷ a_piece (t.postfix (t.bare (n (codes "a") 14)) (selectors (t.get (n (codes "b") 16) ∷ []))) (codes "") (sp 17 2)
    ∷ a_piece (t.bare (n (codes "a") 19)) (codes "") (sp 20 1)
    ∷ [])))
    (links
    (a_link b.Add (sp 22 1)
    (t.joined (codes "") (sp 24 3)
    (pieces
    (a_piece (t.joined (codes "x") (sp 27 3) (pieces (a_piece (t.bare (n (codes "a") 30)) (codes "") (sp 31 1) ∷ []))) (codes "") (sp 32 2) ∷ [])))
    ∷ [])))))
    ∷ []))) (0 ∷ 1 ∷ 2 ∷ 3 ∷ 4 ∷ 5 ∷ 6 ∷ 7 ∷ 8 ∷ 9 ∷ []) ≡
    Some (site (reading 8) to_string)
    ∷ Some (site (reading 11) to_string)
    ∷ Some (site (reading 16) (getting (codes "b")))
    ∷ Some (site (reading 17) to_string)
    ∷ Some (site (reading 22) (calling (codes "+") 1))
    ∷ Some (site (reading 24) to_string)
    ∷ Some (site (reading 27) to_string)
    ∷ Some (site in_print to_string)
    ∷ Some (site in_list to_string)
    ∷ None
    ∷ []
unfolding text_sites
interpolations = refl

-- class A { var x; var y; A(this.x, z) : super() { y = x; print(z + y); } }
a_constructor : map (site_at (tree_of
    (t.a_class
    (class_of false (n (codes "A") 6) None []
    (t.field (a_local false (n (codes "x") 14) None)
    ∷ t.field (a_local false (n (codes "y") 21) None)
    ∷ t.constructor (n (codes "A") 24)
    (a_param false true (n (codes "x") 31) ∷ a_param false false (n (codes "z") 34) ∷ [])
    (Some (passing (sp 39 5) (exps [])))
    (Some
    (stas
    (t.run (t.assign (t.bare (n (codes "y") 49)) a.Plain (sp 51 1) (t.bare (n (codes "x") 53)))
    ∷ t.run
    (t.call (n (codes "print") 56)
    (exps (t.chain (t.bare (n (codes "z") 62)) (links (a_link b.Add (sp 64 1) (t.bare (n (codes "y") 66)) ∷ [])) ∷ [])))
    ∷ [])))
    ∷ []))
    ∷ []))) (0 ∷ 1 ∷ 2 ∷ 3 ∷ 4 ∷ 5 ∷ 6 ∷ []) ≡
    Some (site (writing 49) (setting (codes "y")))
    ∷ Some (site (reading 53) (getting (codes "x")))
    ∷ Some (site (reading 64) (calling (codes "+") 1))
    ∷ Some (site (reading 66) (getting (codes "y")))
    ∷ Some (site in_print to_string)
    ∷ Some (site in_list to_string)
    ∷ None
    ∷ []
unfolding text_sites
a_constructor = refl

-- class A { A(x); } class B extends A { B(x) : super(x + 1) { x.m(); } }
passed : map (site_at (tree_of
    (t.a_class (class_of false (n (codes "A") 6) None [] (t.constructor (n (codes "A") 10) (a_param false false (n (codes "x") 12) ∷ []) None None ∷ []))
    ∷ t.a_class
    (class_of false (n (codes "B") 24) (Some (n (codes "A") 34)) []
    (t.constructor (n (codes "B") 38)
    (a_param false false (n (codes "x") 40) ∷ [])
    (Some (passing (sp 45 5) (exps (t.chain (t.bare (n (codes "x") 51)) (links (a_link b.Add (sp 53 1) (t.int (pos 1) (sp 55 1)) ∷ [])) ∷ []))))
    (Some (stas (t.run (t.postfix (t.bare (n (codes "x") 60)) (selectors (t.send (n (codes "m") 62) (exps []) ∷ []))) ∷ [])))
    ∷ []))
    ∷ []))) (0 ∷ 1 ∷ 2 ∷ 3 ∷ 4 ∷ []) ≡
    Some (site (reading 53) (calling (codes "+") 1))
    ∷ Some (site (reading 62) (calling (codes "m") 0))
    ∷ Some (site in_print to_string)
    ∷ Some (site in_list to_string)
    ∷ None
    ∷ []
unfolding text_sites
passed = refl
