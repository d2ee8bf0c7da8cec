-- The texts of the worked programs.
use Rattle.std.specs.Prelude.{[], ◌∷◌, ◌++◌, codes}
use Rattle.dart_values.specs.Values.{Text}
use Rattle.worked_programs.specs.Reading.{source}

-- the bytes of U+1F600
abbrev pub smile : Text
smile = 240 ∷ 159 ∷ 152 ∷ 128 ∷ []

-- a class with one method, and a call of it
abbrev pub first_run : Text
first_run = source (
    codes "class A { m() => 7; }" ∷
    codes "main() { print(A().m()); }" ∷ [])

-- integers wrap at 64 bits, and a division by 0 is a trap
abbrev pub integer_edges : Text
integer_edges = source (
    codes "main() {" ∷
    codes "  print(-9223372036854775808 ~/ -1);" ∷
    codes "  print(-9223372036854775808 - 1);" ∷
    codes "  print(1 << 64);" ∷
    codes "  print(-1 >> 64);" ∷
    codes "  print(-1 >>> 60);" ∷
    codes "  print(-7 % -3);" ∷
    codes "  print(7 ~/ -2);" ∷
    codes "  print(1 ~/ 0);" ∷
    codes "}" ∷ [])

-- a character above U+FFFF is two units of a string
abbrev pub surrogates : Text
surrogates = source (
    (codes "main() { var s = '" ++ smile ++ codes "'; print(s.length); print(s[0]); print(s[0] + s[1]); }") ∷ [])

-- how tightly operators bind, and a minus before a number, a variable and parentheses
abbrev pub arithmetic : Text
arithmetic = source (
    codes "main() {" ∷
    codes "  print(1 + 2 * 3 - 4 ~/ 2 % 3);" ∷
    codes "  print(6 & 3 | 8 ^ 1);" ∷
    codes "  print(1 << 3 >> 1 >>> 1);" ∷
    codes "  print(~5);" ∷
    codes "  var a = 3;" ∷
    codes "  print(-a);" ∷
    codes "  print(-(3));" ∷
    codes "  print(-3);" ∷
    codes "}" ∷ [])

-- the four comparisons of ints, and `==` between values of one class and of several
abbrev pub comparisons : Text
comparisons = source (
    codes "main() {" ∷
    codes "  print(1 < 2);" ∷
    codes "  print(2 <= 1);" ∷
    codes "  print(3 > 2);" ∷
    codes "  print(2 >= 3);" ∷
    codes "  var s = 'a';" ∷
    codes "  print(s == 'a');" ∷
    codes "  print(s != 'a');" ∷
    codes "  print(1 == 'a');" ∷
    codes "  print(null == null);" ∷
    codes "  print(1 != null);" ∷
    codes "}" ∷ [])

-- a name, an expression and a string inside of a string
abbrev pub interpolations : Text
interpolations = source (
    codes "main() {" ∷
    codes "  var a = 1;" ∷
    codes "  print('$a and ${a + 1}${'in $a'}');" ∷
    codes "  print('x\\ny');" ∷
    codes "}" ∷ [])

-- what a list prints as, and its members
abbrev pub lists : Text
lists = source (
    codes "main() {" ∷
    codes "  var l = [1, 'a', null, [true]];" ∷
    codes "  print(l);" ∷
    codes "  l.add(l.removeLast().length);" ∷
    codes "  l[0] = l[1];" ∷
    codes "  print(l.isEmpty);" ∷
    codes "  print(l);" ∷
    codes "}" ∷ [])

-- `is` over `extends` and `implements`, and for null and built-in classes
abbrev pub tests_of_classes : Text
tests_of_classes = source (
    codes "class A {}" ∷
    codes "class B extends A {}" ∷
    codes "class C implements B {}" ∷
    codes "main() {" ∷
    codes "  print(B() is A);" ∷
    codes "  print(A() is B);" ∷
    codes "  print(C() is A);" ∷
    codes "  print(C() is! B);" ∷
    codes "  print(null is Null);" ∷
    codes "  print(null is Object);" ∷
    codes "  print(1 is Object);" ∷
    codes "  print('a' is! String);" ∷
    codes "}" ∷ [])

-- a method, a setter and a getter that no class has
abbrev pub no_such_method : Text
no_such_method = source (
    codes "class A {" ∷
    codes "  noSuchMethod(i) { print('${i.memberName} ${i.positionalArguments}'); return 5; }" ∷
    codes "}" ∷
    codes "main() { var a = A(); print(a.foo(1, 2)); a.x = 3; print(a.x); }" ∷ [])

-- a call with one argument too many
abbrev pub wrong_argument_count : Text
wrong_argument_count = source (
    codes "class B { m() => 1; }" ∷
    codes "main() { print(B().m(2)); }" ∷ [])

-- `==` with null asks no cell, and a method that Null has not
abbrev pub null_receiver : Text
null_receiver = source (
    codes "class A {}" ∷
    codes "main() { print(null == A()); print(null.foo()); }" ∷ [])

-- the index of a compound assignment is evaluated once
abbrev pub compound_assignment : Text
compound_assignment = source (
    codes "f() { print('f'); return 0; }" ∷
    codes "main() { var a = [1]; a[f()] += 1; print(a); }" ∷ [])

-- what an Invocation tells of each kind of call
abbrev pub kinds_of_calls : Text
kinds_of_calls = source (
    codes "class A {" ∷
    codes "  noSuchMethod(i) { print(i.memberName); print([i.isMethod, i.isGetter, i.isSetter]); }" ∷
    codes "}" ∷
    codes "main() {" ∷
    codes "  var a = A();" ∷
    codes "  a.m(1);" ∷
    codes "  a.g;" ∷
    codes "  print(a.s = 9);" ∷
    codes "  a + 1;" ∷
    codes "  -a;" ∷
    codes "  a[2] = 3;" ∷
    codes "}" ∷ [])

-- fields, getters, setters and operators of a class, read, written and called
abbrev pub members : Text
members = source (
    codes "class P {" ∷
    codes "  var x = 1;" ∷
    codes "  final y;" ∷
    codes "  P(this.y);" ∷
    codes "  get sum => x + y;" ∷
    codes "  set both(v) { x = v; }" ∷
    codes "  operator +(o) => P(x + o.x);" ∷
    codes "  operator [](i) => i == 0 ? x : y;" ∷
    codes "  operator []=(i, v) { x = v; }" ∷
    codes "  operator -() => P(0 - y);" ∷
    codes "}" ∷
    codes "main() {" ∷
    codes "  var p = P(5);" ∷
    codes "  p.x += 2;" ∷
    codes "  print(p.sum);" ∷
    codes "  p.both = 10;" ∷
    codes "  print((p + p).y);" ∷
    codes "  p[0] += 7;" ∷
    codes "  print(p[0]);" ∷
    codes "  print((-p).y);" ∷
    codes "  print(p.x++);" ∷
    codes "  print(++p.x);" ∷
    codes "}" ∷ [])

-- what `super` reaches: a method, a field, a getter, a setter and a `toString`
abbrev pub super_members : Text
super_members = source (
    codes "class A {" ∷
    codes "  var f = 1;" ∷
    codes "  get g => 2;" ∷
    codes "  set g(v) { print(v); }" ∷
    codes "  m(x) => x + 1;" ∷
    codes "  toString() => 'A';" ∷
    codes "}" ∷
    codes "class B extends A {" ∷
    codes "  m(x) => super.m(x) * 10;" ∷
    codes "  t() {" ∷
    codes "    super.g += super.f;" ∷
    codes "    super.f = 5;" ∷
    codes "    return super.f;" ∷
    codes "  }" ∷
    codes "  toString() => 'B' + super.toString();" ∷
    codes "}" ∷
    codes "main() {" ∷
    codes "  var b = B();" ∷
    codes "  print(b.m(2));" ∷
    codes "  print(b.t());" ∷
    codes "  print(b);" ∷
    codes "}" ∷ [])

-- bare names of variables, fields, methods and of what no class has
abbrev pub names : Text
names = source (
    codes "var count = 0;" ∷
    codes "final limit = -3;" ∷
    codes "var text;" ∷
    codes "class A {" ∷
    codes "  var v = 4;" ∷
    codes "  m(p) {" ∷
    codes "    count += p;" ∷
    codes "    v = v + 1;" ∷
    codes "    n();" ∷
    codes "    return other;" ∷
    codes "  }" ∷
    codes "  n() { print(v); }" ∷
    codes "  noSuchMethod(i) => i.memberName;" ∷
    codes "}" ∷
    codes "main() {" ∷
    codes "  var a = A();" ∷
    codes "  print(a.m(2));" ∷
    codes "  print(count);" ∷
    codes "  print(limit);" ∷
    codes "  print(text);" ∷
    codes "}" ∷ [])

-- an object's fields at first, then what the constructors do from the top class down
abbrev pub construction : Text
construction = source (
    codes "class A {" ∷
    codes "  var a;" ∷
    codes "  final b = 'b';" ∷
    codes "  A(this.a) { print('in A'); }" ∷
    codes "}" ∷
    codes "class B extends A {" ∷
    codes "  var c;" ∷
    codes "  B(x, this.c) : super(x + c) { c = c * 2; print('in B'); }" ∷
    codes "}" ∷
    codes "main() {" ∷
    codes "  var o = B(1, 2);" ∷
    codes "  print(o.a);" ∷
    codes "  print(o.b);" ∷
    codes "  print(o.c);" ∷
    codes "  print(Object());" ∷
    codes "}" ∷ [])

-- What the arguments of `super` do to a parameter is seen in the constructor's body.
abbrev pub parameters_of_a_constructor : Text
parameters_of_a_constructor = source (
    codes "class A { A(y); }" ∷
    codes "class B extends A { B(x) : super(x = 5) { print(x); } }" ∷
    codes "class C extends A { C(x) : super(x++) { print(x); } }" ∷
    codes "class D extends A { D(x) : super(x += 1) { print(x); } }" ∷
    codes "class E extends A { E(this.e, x) : super(x > 2 ? (x = 7) : 0) { e = e + x; print(e); } var e; }" ∷
    codes "main() { B(1); C(1); D(1); E(1, 3); E(1, 1); }" ∷ [])

-- indexes and reads that print, to show which comes first
abbrev pub calls_in_order : Text
calls_in_order = source (
    codes "class L {" ∷
    codes "  var n;" ∷
    codes "  L(this.n);" ∷
    codes "  operator [](i) { print('$n[$i]'); return L(n * 10 + i); }" ∷
    codes "  operator []=(i, v) { print('$n[$i]='); }" ∷
    codes "  get g { print('$n.g'); return L(n + 1); }" ∷
    codes "}" ∷
    codes "l(n) { print('l$n'); return L(n); }" ∷
    codes "i(n) { print('i$n'); return n; }" ∷
    codes "main() {" ∷
    codes "  print(l(1)[i(2)].g[i(3)].n);" ∷
    codes "  l(4)[i(5)] = i(6);" ∷
    codes "}" ∷ [])

-- one site that meets two classes
abbrev pub shapes : Text
shapes = source (
    codes "abstract class Shape {" ∷
    codes "  area();" ∷
    codes "  toString() => 'area ${area()}';" ∷
    codes "}" ∷
    codes "class Square extends Shape {" ∷
    codes "  final side;" ∷
    codes "  Square(this.side);" ∷
    codes "  @override" ∷
    codes "  area() => side * side;" ∷
    codes "}" ∷
    codes "class Rect extends Shape {" ∷
    codes "  final w;" ∷
    codes "  final h;" ∷
    codes "  Rect(this.w, this.h);" ∷
    codes "  @override" ∷
    codes "  area() => w * h;" ∷
    codes "}" ∷
    codes "main() {" ∷
    codes "  var shapes = [Square(3), Rect(2, 5)];" ∷
    codes "  for (var i = 0; i < shapes.length; i++) {" ∷
    codes "    print(shapes[i]);" ∷
    codes "  }" ∷
    codes "}" ∷ [])

-- which operands and branches are evaluated
abbrev pub conditions : Text
conditions = source (
    codes "f(x) { print(x); return x; }" ∷
    codes "main() {" ∷
    codes "  print(f(false) && f(true));" ∷
    codes "  print(f(true) || f(false));" ∷
    codes "  print(!f(true));" ∷
    codes "  print(f(true) ? 1 : f(2));" ∷
    codes "  if (f(false)) print(3); else print(4);" ∷
    codes "  if (f(true)) print(5);" ∷
    codes "  if (false) print(6);" ∷
    codes "}" ∷ [])

-- each kind of loop, with `break` and `continue`
abbrev pub loops : Text
loops = source (
    codes "main() {" ∷
    codes "  var i = 0;" ∷
    codes "  while (true) { i++; if (i == 2) continue; if (i > 3) break; print(i); }" ∷
    codes "  do { i--; if (i == 2) continue; print(i); } while (i > 1);" ∷
    codes "  for (;;) { break; }" ∷
    codes "  for (var j = 0; j < 3; j = j + 1, i += 10) { if (j == 1) continue; print(j); }" ∷
    codes "  print(i);" ∷
    codes "}" ∷ [])

-- what bodies answer, and locals of two blocks
abbrev pub returns : Text
returns = source (
    codes "a() { return 1; print(0); }" ∷
    codes "b() { return; }" ∷
    codes "c() { ; { var x = 2; print(x); } { var x = 3; print(x); } }" ∷
    codes "d(x) => x;" ∷
    codes "main() {" ∷
    codes "  print([a(), b(), c(), d(4)]);" ∷
    codes "}" ∷ [])

-- a loop that only the number of turns ends
abbrev pub endless_loop : Text
endless_loop = source (
    codes "main() { while (true) { print(1); } }" ∷ [])

-- recursion to the greatest depth, and one level deeper
abbrev pub depth_limit : Text
depth_limit = source (
    codes "f(n) { if (n == 0) return 0; return 1 + f(n - 1); }" ∷
    codes "main() { print(f(1998)); }" ∷
    codes "@pragma('vm:entry-point')" ∷
    codes "deeper() { print(f(1999)); }" ∷ [])

-- the same, for a greatest depth of 20
abbrev pub twenty_levels : Text
twenty_levels = source (
    codes "f(n) { if (n == 0) return 0; return 1 + f(n - 1); }" ∷
    codes "main() { print(f(18)); }" ∷
    codes "@pragma('vm:entry-point')" ∷
    codes "deeper() { print(f(19)); }" ∷ [])

-- a function that calls itself without an end
abbrev pub deepest : Text
deepest = source (
    codes "main() => main();" ∷ [])

-- an `if` on an int
abbrev pub condition_is_no_bool : Text
condition_is_no_bool = source (
    codes "main() { print(1); if (1) print(2); }" ∷ [])

-- an index that is the length of its list
abbrev pub index_is_not_there : Text
index_is_not_there = source (
    codes "main() { print([1][1]); }" ∷ [])

-- a shift by a negative count
abbrev pub shift_is_negative : Text
shift_is_negative = source (
    codes "main() { 1 << -1; }" ∷ [])

-- a `throw` of an object, whose `toString` is not called
abbrev pub throws_an_object : Text
throws_an_object = source (
    codes "class A { toString() => 'x'; }" ∷
    codes "main() { 1 is int; throw A(); }" ∷ [])

-- a `throw` of a string
abbrev pub throws_a_text : Text
throws_a_text = source (
    codes "main() { throw 'x' + 'y'; }" ∷ [])

-- a `throw` of null, which is a TypeFault
abbrev pub throws_null : Text
throws_null = source (
    codes "main() { throw null; }" ∷ [])

-- a `toString` that answers an int
abbrev pub text_is_no_string : Text
text_is_no_string = source (
    codes "class A { toString() => 1; }" ∷
    codes "main() { print(A()); }" ∷ [])

-- an `==` that answers an int
abbrev pub equal_is_no_bool : Text
equal_is_no_bool = source (
    codes "class A { operator ==(o) => 1; }" ∷
    codes "main() { print(A() == A()); }" ∷ [])

-- a `return` inside of a loop without an end
abbrev pub return_leaves_a_loop : Text
return_leaves_a_loop = source (
    codes "f() { while (true) { return 1; } return 2; }" ∷
    codes "main() { print(f()); }" ∷ [])

-- an int on the right of `&&`
abbrev pub right_sides_are_bools : Text
right_sides_are_bools = source (
    codes "main() { print(true && 1); }" ∷ [])

-- an int on the right of `||`
abbrev pub right_side_of_or : Text
right_side_of_or = source (
    codes "main() { print(false || 1); }" ∷ [])

-- the value of a call of `print`
abbrev pub print_answers_null : Text
print_answers_null = source (
    codes "main() { print(print(1)); }" ∷ [])

-- an object made and its field read
abbrev pub fields_spend_no_turn : Text
fields_spend_no_turn = source (
    codes "class A { var x = 1; }" ∷
    codes "main() { print(A().x); }" ∷ [])

-- a `toString` that adds to the list whose text is being made
abbrev pub lists_grow_while_shown : Text
lists_grow_while_shown = source (
    codes "class G { var l; G(this.l); toString() { if (l.length < 3) l.add(7); return 'g'; } }" ∷
    codes "main() { var l = []; l.add(G(l)); print(l); }" ∷ [])

-- a compound assignment reads before its right side is evaluated
abbrev pub old_value_first : Text
old_value_first = source (
    codes "var x = 1;" ∷
    codes "f() { x = 10; return 1; }" ∷
    codes "main() { x += f(); print(x); }" ∷ [])

-- a `this.x` is set before the constructor of the superclass runs
abbrev pub fields_before_super : Text
fields_before_super = source (
    codes "class A { A() { print(s()); } s() => 0; }" ∷
    codes "class B extends A { var x; B(this.x); s() => x; }" ∷
    codes "main() { B(1); }" ∷ [])

-- behind its block, a local's name means the field again
abbrev pub blocks_drop_their_locals : Text
blocks_drop_their_locals = source (
    codes "class A { var x = 1; m() { { var x = 2; } return x; } }" ∷
    codes "main() { print(A().m()); }" ∷ [])
