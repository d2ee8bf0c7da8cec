-- The text of a generated program: a load of classes, and of calls on objects of all of them.
use Rattle.std.specs.Prelude.{ℕ, zero, suc, ◌+◌, ◌*◌, ◌/◌, ◌%◌, ◌==◌, if◌then◌else◌, List, [], ◌++◌, codes}
use Rattle.std.specs.Fmt.{decimal}

-- the pseudo-random number behind x, modulo 2^31
abbrev pub next : ℕ → ℕ
next x = (1103515245 * x + 12345) % 2147483648

-- the pseudo-random number k of those that begin with `number`
abbrev pub numbered : ℕ → ℕ → ℕ
numbered number zero = number
numbered number (suc k) = next (numbered number k)

-- what a function gives of 0, of 1, and so on, of so many numbers
abbrev pub each : (ℕ → List ℕ) → ℕ → List ℕ
each f zero = []
each f (suc n) = each f n ++ f n

-- ---- classes

-- the superclass of class k: one of the classes before it, by the pseudo-random number k
abbrev pub parent : ℕ → ℕ → ℕ
parent k x = x / 65536 % k

-- class 0 is below Object
abbrev pub superclass : ℕ → ℕ → List ℕ
superclass zero x = []
superclass (suc k) x = codes " extends C" ++ decimal (parent (suc k) x)

-- two classes of three declare m
abbrev pub members : ℕ → List ℕ
members k = if k % 3 == 2 then codes " {}\n" else codes " { m(x) => x + " ++ decimal k ++ codes "; }\n"

-- class k, where x is the pseudo-random number k: `class C1 extends C0 { m(x) => x + 1; }`
abbrev pub class_text : ℕ → ℕ → List ℕ
class_text k x = codes "class C" ++ decimal k ++ superclass k x ++ members k

abbrev pub class_line : ℕ → ℕ → List ℕ
class_line number k = class_text k (numbered number k)

-- ---- functions

-- `a.add(C1());`
abbrev pub add_line : ℕ → List ℕ
add_line k = codes "  a.add(C" ++ decimal k ++ codes "());\n"

-- a list with an object of each class
abbrev pub all_text : ℕ → List ℕ
all_text classes = codes "all() {\n  var a = [];\n" ++ each add_line classes ++ codes "  return a;\n}\n"

-- so many calls of m, each on an object that depends on what the calls before it answered
abbrev pub work_text : List ℕ
work_text = codes "work(s, n) {\n  var a = all();\n  var i = 0;\n  while (i < n) {\n    s = s + a[(i * 7 + s) % a.length].m(i);\n    i = i + 1;\n  }\n  return s;\n}\n"

-- `e1() { print(work(1, 4)); }`, which may be entered
abbrev pub entry : ℕ → ℕ → List ℕ
entry calls k = codes "@pragma('vm:entry-point')\ne" ++ decimal k ++ codes "() { print(work(" ++ decimal k ++ codes ", " ++ decimal calls ++ codes ")); }\n"

-- ---- the whole

-- the text of a load: its classes, the two functions, and four entry points
abbrev pub generated : ℕ → ℕ → ℕ → List ℕ
generated number classes calls = each (class_line number) classes ++ all_text classes ++ work_text ++ each (entry calls) 4
