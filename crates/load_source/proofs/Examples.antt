-- A small load, run from the definition: a false number or a false text fails the check.
use Rattle.std.proofs.Common.{◌≡◌, refl, codes, ◌++◌}
use Rattle.std.specs.Fmt as fmt
use Rattle.load_source.specs.Generated.{numbered, generated}

first_number : numbered 7 1 ≡ 1282168116
first_number = refl

second_number : numbered 7 2 ≡ 642666333
second_number = refl

-- three classes and no call: the last class has no method of its own
three_classes :
    generated 7 3 0
    ≡ codes "class C0 { m(x) => x + 0; }\nclass C1 extends C0 { m(x) => x + 1; }\nclass C2 extends C0 {}\n"
    ++ codes "all() {\n  var a = [];\n  a.add(C0());\n  a.add(C1());\n  a.add(C2());\n  return a;\n}\n"
    ++ codes "work(s, n) {\n  var a = all();\n  var i = 0;\n  while (i < n) {\n    s = s + a[(i * 7 + s) % a.length].m(i);\n    i = i + 1;\n  }\n  return s;\n}\n"
    ++ codes "@pragma('vm:entry-point')\ne0() { print(work(0, 0)); }\n@pragma('vm:entry-point')\ne1() { print(work(1, 0)); }\n"
    ++ codes "@pragma('vm:entry-point')\ne2() { print(work(2, 0)); }\n@pragma('vm:entry-point')\ne3() { print(work(3, 0)); }\n"
unfolding fmt.digits
three_classes = refl
