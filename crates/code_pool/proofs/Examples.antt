-- The machine on small pools, by computing.
use Rattle.std.proofs.Common.{◌≡◌, ℕ, [], ◌∷◌, ◌++◌, refl, List}
use Rattle.std.specs.Prelude.{pos, zero, suc, Some, None, codes, slice_set, false}
use Rattle.std.specs.Int.{int_wrap}
use Rattle.std.specs.Fmt.{digits}
use Rattle.program.specs.declared.literal.Literal.TheVariants as l
use Rattle.program.specs.declared.ids.SiteId.{SiteId}
use Rattle.program.specs.declared.ids.ClassId.{ClassId}
use Rattle.program.specs.declared.ids.UnitId.{UnitId}
use Rattle.program.specs.declared.ids.SelectorId.{SelectorId}
use Rattle.program.specs.declared.numbered.Class.{Class}
use Rattle.program.specs.declared.numbered.Field.{Field}
use Rattle.program.specs.declared.numbered.Method.{Method}
use Rattle.program.specs.declared.numbered.MethodBody.TheVariants as does
use Rattle.program.specs.declared.numbered.Selector.{Selector}
use Rattle.program.specs.declared.numbered.SelectorKind.TheVariants as kind
use Rattle.program.specs.Hierarchy.{chain, is_subtype}
use Rattle.program.specs.Parts.{Parts}
use Rattle.program.specs.BuiltIn.{built_in_classes, built_in_members, to_string}
use Rattle.program.specs.Lookup.{lookup, resolve, no_such_method}
use Rattle.dart_values.specs.declared.fault.Trap.TheVariants as trap
use Rattle.dart_meaning.specs.Run.{done, threw, out_of_turns, stack_overflow}
use Rattle.code_unit.specs.declared.instr.Instr.{Instr}
use Rattle.code_unit.specs.declared.instr.Instr.TheVariants.{Const, Local, SetLocal, Pop, Jump, JumpIfFalse, LoopTurn, Call, CallStatic, CallMethod, Return, New, SetField, MakeList, Concat, ExpectString, Emit, ElementOr}
use Rattle.code_unit.specs.declared.unit.Unit.{Unit}
use Rattle.code_pool.specs.declared.pool.MethodBody.{MethodBody}
use Rattle.code_pool.specs.declared.pool.MethodBody.TheVariants.{Native, ReadField, Code}
use Rattle.code_pool.specs.Pool.{Pool}
use Rattle.code_pool.specs.Machine.{Outcome, ends, is_stuck, no_place, no_operand, no_slot, no_number, wrong_receiver, wrong_kind, wrong_class, machine, exec}

-- ---- small programs

abbrev calls : List ℕ → ℕ → Selector
calls name count = record { kind = kind.Call; name = name; count = count }

abbrev site : ℕ → SiteId
site k = record { 0 = k }

abbrev class : ℕ → ClassId
class c = record { 0 = c }

-- the classes and members of a program beside the built-in ones
abbrev program : List Class → List Method → Parts
program classes methods = record {
  classes = built_in_classes ++ classes;
  methods = built_in_members ++ methods;
  functions = [];
  selectors = to_string ∷ calls (codes "+") 1 ∷ calls (codes "<") 1 ∷ calls (codes "~/") 1 ∷ calls (codes "foo") 1 ∷ record { kind = kind.Get; name = codes "a"; count = 0 } ∷ [];
  sites = [];
  globals = [];
}

-- `toString` of print, the operators, `foo`, `toString` of a list's text, and the read of `a`
abbrev sites : List SelectorId
sites = record { 0 = 0 } ∷ record { 0 = 1 } ∷ record { 0 = 2 } ∷ record { 0 = 3 } ∷ record { 0 = 4 } ∷ record { 0 = 0 } ∷ record { 0 = 5 } ∷ []

abbrev natives : ℕ → ℕ → List MethodBody
natives zero k = []
natives (suc n) k = Native (record { 0 = k }) ∷ natives n (suc k)

abbrev unit : ℕ → ℕ → List Instr → Unit
unit params locals code = record { code = code; depths = []; params = params; defaults = []; locals = locals }

abbrev units_from : ℕ → List Unit → List UnitId
units_from k [] = []
units_from k (u ∷ more) = record { 0 = k } ∷ units_from (suc k) more

-- Static target k is unit k, and unit 0 is the entry point's. Constants 0 to 3 are these integers, 4 is null, 5 to 8 are the texts of a list.
abbrev pool : List Unit → List MethodBody → Pool
pool units more = record {
  units = units;
  constants =
      l.Int (pos 0) ∷ l.Int (pos 1) ∷ l.Int (pos 2) ∷ l.Int (pos 3) ∷ l.Null ∷ l.Str [] ∷ l.Str (codes ", ") ∷ l.Str (codes "[") ∷ l.Str (codes "]") ∷ [];
  statics = units_from 0 units;
  sites = sites;
  entries = record { 0 = 0 } ∷ [];
  methods = natives 49 0 ++ more;
}

-- print of what is on top
abbrev printing : List Instr
printing = Call (site 0) 0 ∷ ExpectString ∷ Emit ∷ []

-- ---- a print

-- main() { print(2); }
abbrev prints : Unit
prints = unit 0 0 (Const 2 ∷ (printing ++ Const 4 ∷ Return ∷ []))

pub prints_two : machine (program [] []) (pool (prints ∷ []) []) (resolve (program [] [])) 0 1
    ≡ ends (record { lines = codes "2" ∷ []; ending = done; asked = (0, 3) ∷ []; tests = [] })
unfolding exec int_wrap digits resolve lookup no_such_method chain is_subtype
prints_two = refl

-- ---- a call with arguments

-- f(x, y) => x + y; main() { print(f(1, 2)); }
abbrev calls_sum : List Unit
calls_sum = unit 0 0 (Const 1 ∷ Const 2 ∷ CallStatic 1 2 ∷ (printing ++ Const 4 ∷ Return ∷ [])) ∷ unit 2 2 (Local 0 ∷ Local 1 ∷ Call (site 1) 1 ∷ Return ∷ []) ∷ []

pub sums_arguments : machine (program [] []) (pool calls_sum []) (resolve (program [] [])) 0 2
    ≡ ends (record { lines = codes "3" ∷ []; ending = done; asked = (1, 3) ∷ (0, 3) ∷ []; tests = [] })
unfolding exec int_wrap digits resolve lookup no_such_method chain is_subtype
sums_arguments = refl

-- ---- a loop that ends by turns

-- main() { var i = 0; while (i < 3) { print(i); i = i + 1; } }
abbrev counts : Unit
counts = unit 0 1 (
    Const 0 ∷ SetLocal 0
    -- 2
    ∷ Local 0 ∷ Const 3 ∷ Call (site 2) 1 ∷ JumpIfFalse 16 ∷ LoopTurn
    -- 7
    ∷ Local 0 ∷ Call (site 0) 0 ∷ ExpectString ∷ Emit
    -- 11
    ∷ Local 0 ∷ Const 1 ∷ Call (site 1) 1 ∷ SetLocal 0 ∷ Jump 2
    -- 16
    ∷ Const 4 ∷ Return ∷ []
    )

-- One turn is for the entry, and one is left for the loop.
pub ends_by_turns : machine (program [] []) (pool (counts ∷ []) []) (resolve (program [] [])) 0 2
    ≡ ends (record { lines = codes "0" ∷ []; ending = out_of_turns; asked = (2, 3) ∷ (0, 3) ∷ (1, 3) ∷ (2, 3) ∷ []; tests = [] })
unfolding exec int_wrap digits resolve lookup no_such_method chain is_subtype
ends_by_turns = refl

-- ---- a `noSuchMethod`

abbrev declares : List ℕ → List Field → Class
declares name fields = record { name = name; parent = Some (class 0); interfaces = []; is_abstract = false; fields = fields; constructor = None }

abbrev member : List ℕ → ℕ → Method
member name count = record { owner = class 7; name = name; role = kind.Call; required = count; defaults = []; body = does.ReadField 0 }

-- class A { noSuchMethod(i) => 3; }
abbrev catches : Parts
catches = program (declares (codes "A") [] ∷ []) (member (codes "noSuchMethod") 1 ∷ [])

-- main() { print(A().foo(1)); }: unit 1 is the member, unit 2 the constructor
abbrev calls_foo : Pool
calls_foo = pool (
    unit 0 0 (New (class 7) ∷ CallStatic 2 1 ∷ Const 1 ∷ Call (site 4) 1 ∷ (printing ++ Const 4 ∷ Return ∷ []))
    ∷ unit 2 2 (Const 3 ∷ Return ∷ [])
    ∷ unit 1 1 (Local 0 ∷ Return ∷ [])
    ∷ []
    ) (Code (record { 0 = 1 }) ∷ [])

pub catches_foo : machine catches calls_foo (resolve catches) 0 3 ≡ ends (record { lines = codes "3" ∷ []; ending = done; asked = (4, 7) ∷ (0, 3) ∷ []; tests = [] })
unfolding exec int_wrap digits resolve lookup no_such_method chain is_subtype
catches_foo = refl

-- ---- a trap below two frames

-- f(x) => x ~/ 0; g() { f(1); } main() { g(); }
abbrev divides : List Unit
divides =
    unit 0 0 (CallStatic 1 0 ∷ Return ∷ []) ∷ unit 0 0 (Const 1 ∷ CallStatic 2 1 ∷ Return ∷ [])
    ∷ unit 1 1 (Local 0 ∷ Const 0 ∷ Call (site 3) 1 ∷ Return ∷ []) ∷ []

pub traps_below_two : machine (program [] []) (pool divides []) (resolve (program [] [])) 0 9
    ≡ ends (record { lines = []; ending = threw trap.DivideByZero; asked = (3, 3) ∷ []; tests = [] })
unfolding exec int_wrap digits resolve lookup no_such_method chain is_subtype
traps_below_two = refl

-- ---- the greatest depth

-- main() => main();
abbrev calls_itself : List Unit
calls_itself = unit 0 0 (CallStatic 0 0 ∷ Return ∷ []) ∷ []

-- 2,001 turns are spent, and the last entry has no level left.
pub overflows : machine (program [] []) (pool calls_itself []) (resolve (program [] [])) 0 2100
    ≡ ends (record { lines = []; ending = stack_overflow; asked = []; tests = [] })
unfolding exec int_wrap digits resolve lookup no_such_method chain is_subtype
overflows = refl

-- With 2,000 turns the entry of depth 2,001 is not begun.
pub runs_out_before : machine (program [] []) (pool calls_itself []) (resolve (program [] [])) 0 2000
    ≡ ends (record { lines = []; ending = out_of_turns; asked = []; tests = [] })
unfolding exec int_wrap digits resolve lookup no_such_method chain is_subtype
runs_out_before = refl

-- ---- a list's text with a list in it

-- Slot 0 is the list, 1 the number of the next element, 2 what stands before it. The text so far is the lowest operand.
abbrev list_text : Unit
list_text = unit 1 3 (
    Const 7 ∷ Const 0 ∷ SetLocal 1 ∷ Const 5 ∷ SetLocal 2
    -- 5: the next element, or on to the end
    ∷ Local 2 ∷ Local 0 ∷ Local 1 ∷ ElementOr 17 ∷ SetLocal 1
    -- 10: its turn and its text
    ∷ LoopTurn ∷ Call (site 5) 0 ∷ ExpectString ∷ Concat 3
    -- 14: a comma stands before the others
    ∷ Const 6 ∷ SetLocal 2 ∷ Jump 5
    -- 17: the end
    ∷ Pop ∷ Const 8 ∷ Concat 2 ∷ Return ∷ []
    )

-- main() { print([1, [2]]); }
abbrev lists : Pool
lists =
    let plain : Pool = pool (unit 0 0 (Const 1 ∷ Const 2 ∷ MakeList 1 ∷ MakeList 2 ∷ (printing ++ Const 4 ∷ Return ∷ [])) ∷ list_text ∷ []) [] in
    record plain { methods = slice_set plain.methods 43 (Code (record { 0 = 1 })) }

-- A turn for `main`, for each text of a list, and for each element.
pub lists_in_a_list : machine (program [] []) lists (resolve (program [] [])) 0 6
    ≡ ends (record { lines = codes "[1, [2]]" ∷ []; ending = done; asked = (0, 5) ∷ (5, 3) ∷ (5, 5) ∷ (5, 3) ∷ []; tests = [] })
unfolding exec int_wrap digits resolve lookup no_such_method chain is_subtype
lists_in_a_list = refl

-- ---- a constructor chain

abbrev field : List ℕ → Field
field name = record { name = name; value = l.Null }

-- class A { var a; A(this.a); } class B extends A { var b; B(x) : super(x + 1) { b = x; } }
abbrev chained : Parts
chained = program (
    declares (codes "A") (field (codes "a") ∷ [])
    ∷ record (declares (codes "B") (field (codes "b") ∷ [])) { parent = Some (class 7) }
    ∷ []
    ) (record { owner = class 7; name = codes "a"; role = kind.Get; required = 0; defaults = []; body = does.ReadField 0 } ∷ [])

-- main() { print(B(1).a); }: the argument goes into a slot, the object is made, and the constructor is entered with both.
abbrev constructs : Pool
constructs = pool (
    unit 0 1 (Const 1 ∷ SetLocal 0 ∷ New (class 8) ∷ Local 0 ∷ CallStatic 2 2 ∷ Call (site 6) 0 ∷ (printing ++ Const 4 ∷ Return ∷ []))
    ∷ unit 2 2 (Local 0 ∷ Local 1 ∷ SetField 0 ∷ Local 0 ∷ Return ∷ [])
    ∷ unit 2 2 (
    Local 0 ∷ Local 1 ∷ Const 1 ∷ Call (site 1) 1 ∷ CallStatic 1 2 ∷ Pop
    ∷ Local 0 ∷ Local 1 ∷ SetField 1 ∷ Local 0 ∷ Return ∷ []
    )
    ∷ []
    ) (ReadField 0 ∷ [])

-- A turn for `main` and for each of the two constructors.
pub constructs_a_chain : machine chained constructs (resolve chained) 0 3
    ≡ ends (record { lines = codes "2" ∷ []; ending = done; asked = (1, 3) ∷ (6, 8) ∷ (0, 3) ∷ []; tests = [] })
unfolding exec int_wrap digits resolve lookup no_such_method chain is_subtype
constructs_a_chain = refl

-- ---- the first example of the repository

-- class A { m() => 7; } main() { print(A().m()); }
abbrev first_parts : Parts
first_parts = record (program (declares (codes "A") [] ∷ []) (member (codes "m") 0 ∷ [])) { selectors = calls (codes "m") 0 ∷ to_string ∷ [] }

-- `main`, A's constructor and `m`, with the depths that they state
abbrev first_pool : Pool
first_pool = record {
  units =
      record {
        code = New (class 7) ∷ CallStatic 1 1 ∷ Call (site 0) 0 ∷ Call (site 1) 0 ∷ ExpectString ∷ Emit ∷ Const 1 ∷ Pop ∷ Const 1 ∷ Return ∷ [];
        depths = 0 ∷ 1 ∷ 1 ∷ 1 ∷ 1 ∷ 1 ∷ 0 ∷ 1 ∷ 0 ∷ 1 ∷ [];
        params = 0;
        defaults = [];
        locals = 0;
      }
      ∷ record { code = Local 0 ∷ Return ∷ []; depths = 0 ∷ 1 ∷ []; params = 1; defaults = []; locals = 1 }
      ∷ record { code = Const 0 ∷ Return ∷ []; depths = 0 ∷ 1 ∷ []; params = 1; defaults = []; locals = 1 }
      ∷ [];
  constants = l.Int (pos 7) ∷ l.Null ∷ [];
  statics = record { 0 = 0 } ∷ record { 0 = 1 } ∷ [];
  sites = record { 0 = 0 } ∷ record { 0 = 1 } ∷ record { 0 = 1 } ∷ [];
  entries = record { 0 = 0 } ∷ [];
  methods = natives 49 0 ++ Code (record { 0 = 2 }) ∷ [];
}

pub first_runs : machine first_parts first_pool (resolve first_parts) 0 3 ≡ ends (record { lines = codes "7" ∷ []; ending = done; asked = (0, 7) ∷ (1, 3) ∷ []; tests = [] })
unfolding exec int_wrap digits resolve lookup no_such_method chain is_subtype
first_runs = refl

-- `m` is called, and then no turn is left for it.
pub first_runs_two_turns : machine first_parts first_pool (resolve first_parts) 0 2 ≡ ends (record { lines = []; ending = out_of_turns; asked = (0, 7) ∷ []; tests = [] })
unfolding exec int_wrap digits resolve lookup no_such_method chain is_subtype
first_runs_two_turns = refl

-- ---- what is missing is stuck

-- an entry point with this code and so many slots
abbrev alone : ℕ → List Instr → Outcome
alone locals code = machine (program [] []) (pool (unit 0 locals code ∷ []) []) (resolve (program [] [])) 0 1

-- The code ends without `Return`.
pub lacks_a_place : alone 0 (Const 0 ∷ Pop ∷ []) ≡ is_stuck no_place
unfolding exec
lacks_a_place = refl

-- A slot is no operand.
pub lacks_an_operand : alone 1 (Pop ∷ Return ∷ []) ≡ is_stuck no_operand
unfolding exec
lacks_an_operand = refl

-- An operand is no slot.
pub lacks_a_slot : alone 0 (Const 0 ∷ Local 0 ∷ Return ∷ []) ≡ is_stuck no_slot
unfolding exec
lacks_a_slot = refl

pub lacks_a_constant : alone 0 (Const 99 ∷ Return ∷ []) ≡ is_stuck no_number
unfolding exec
lacks_a_constant = refl

-- `+` of int is called on null.
pub lacks_a_receiver : alone 0 (Const 4 ∷ Const 1 ∷ CallMethod (record { 0 = 8 }) 2 ∷ Return ∷ []) ≡ is_stuck wrong_receiver
unfolding exec is_subtype
lacks_a_receiver = refl

-- An int is no line.
pub lacks_a_text : alone 0 (Const 1 ∷ Emit ∷ Const 4 ∷ Return ∷ []) ≡ is_stuck wrong_kind
unfolding exec
lacks_a_text = refl

-- List is made by `MakeList` alone.
pub lacks_a_class : alone 0 (New (class 5) ∷ Return ∷ []) ≡ is_stuck wrong_class
unfolding exec
lacks_a_class = refl
