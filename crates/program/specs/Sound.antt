-- Bodies that are sound in a program: slots and numbers in range, and arguments, sites and places that fit.
use Rattle.std.specs.Prelude.{◌≡◌, ℕ, suc, ◌+◌, ◌<◌, ◌≤◌, Bool, true, false, IsTrue, not, List, length, map, slice_get, Option, None, Some, is_some, codes}
use Rattle.program.specs.declared.literal.Literal.TheVariants as literal
use Rattle.program.specs.declared.body.BinaryOperator.{BinaryOperator}
use Rattle.program.specs.declared.body.BinaryOperator.TheVariants as b
use Rattle.program.specs.declared.body.OperatorCall.{OperatorCall}
use Rattle.program.specs.declared.body.Joint.{Joint}
use Rattle.program.specs.declared.body.Joint.TheVariants as joint
use Rattle.program.specs.declared.body.Body.{Body}
use Rattle.program.specs.declared.body.Body.TheVariants as body
use Rattle.program.specs.declared.numbered.Class.{Class}
use Rattle.program.specs.declared.numbered.Constructor.{Constructor}
use Rattle.program.specs.declared.numbered.Method.{Method}
use Rattle.program.specs.declared.numbered.Function.{Function}
use Rattle.program.specs.declared.numbered.Selector.{Selector}
use Rattle.program.specs.declared.numbered.SelectorKind.{SelectorKind}
use Rattle.program.specs.declared.numbered.SelectorKind.TheVariants.{Call, Get, Set}
use Rattle.program.specs.Bodies as c
use Rattle.program.specs.Bodies.{Exp, Exps, Pieces, Calls, Links, Target, Update, First, Sta, Stas, count}
use Rattle.program.specs.Hierarchy.{above_chain}
use Rattle.program.specs.Parts.{Parts, parents, selector_at}
use Rattle.program.specs.Lookup.{same_kind, first_declared}
use Rattle.program.specs.BuiltIn.{is_open}

-- the member that an operator calls
abbrev pub binary_name : BinaryOperator → List ℕ
binary_name b.Equal = codes "=="
binary_name b.NotEqual = codes "=="
binary_name b.Less = codes "<"
binary_name b.LessEqual = codes "<="
binary_name b.Greater = codes ">"
binary_name b.GreaterEqual = codes ">="
binary_name b.BitOr = codes "|"
binary_name b.BitXor = codes "^"
binary_name b.BitAnd = codes "&"
binary_name b.ShiftLeft = codes "<<"
binary_name b.ShiftRight = codes ">>"
binary_name b.ShiftUnsigned = codes ">>>"
binary_name b.Add = codes "+"
binary_name b.Subtract = codes "-"
binary_name b.Multiply = codes "*"
binary_name b.Divide = codes "~/"
binary_name b.Remainder = codes "%"

-- an operator of `+=` and its like
abbrev pub assigns : BinaryOperator → Bool
assigns b.Equal = false
assigns b.NotEqual = false
assigns b.Less = false
assigns b.LessEqual = false
assigns b.Greater = false
assigns b.GreaterEqual = false
assigns _ = true

-- that of `++` or `--`
abbrev pub steps : BinaryOperator → Bool
steps b.Add = true
steps b.Subtract = true
steps _ = false

-- a selector of this kind, name and number of arguments
abbrev pub Is : SelectorKind → List ℕ → ℕ → Option Selector → Type 0
Is kind name n None = ⊥
Is kind name n (Some sel) = (sel.kind ≡ kind) × (sel.name ≡ name) × (sel.count ≡ n)

-- a selector of this kind that takes so many arguments
abbrev pub IsOf : SelectorKind → ℕ → Option Selector → Type 0
IsOf kind n None = ⊥
IsOf kind n (Some sel) = (sel.kind ≡ kind) × (sel.count ≡ n)

-- a call or a read with so many arguments
abbrev pub Asks : ℕ → Option Selector → Type 0
Asks n None = ⊥
Asks n (Some sel) = IsTrue (not (same_kind sel.kind Set)) × (sel.count ≡ n)

-- a number of arguments that fits the required parameters and those with a default
abbrev pub Accepts : ℕ → ℕ → ℕ → Type 0
Accepts required defaults n = (required ≤ n) × (n ≤ required + defaults)

-- a function that is there and takes so many arguments
abbrev pub FunctionAccepts : ℕ → Option Function → Type 0
FunctionAccepts n None = ⊥
FunctionAccepts n (Some f) = Accepts f.required (length f.defaults) n

-- a class without a written constructor has one without parameters
abbrev pub ConstructorAccepts : ℕ → Option Constructor → Type 0
ConstructorAccepts n None = n ≡ 0
ConstructorAccepts n (Some b) = Accepts b.required (length b.defaults) n

-- a class that may be constructed with so many arguments
abbrev pub MakeAccepts : ℕ → Option Class → Type 0
MakeAccepts n None = ⊥
MakeAccepts n (Some k) = (k.is_abstract ≡ false) × ConstructorAccepts n k.constructor

-- the slots that are open behind the first part of a `for`, and behind a statement
abbrev pub after_first : ℕ → First → ℕ
after_first slots (c.first_declares e) = suc slots
after_first slots _ = slots

-- the same behind a statement
abbrev pub after : ℕ → Sta → ℕ
after slots (c.declare e) = suc slots
after slots _ = slots

-- `here` is the class that holds the body, where there is a `this`.
module _ (p : Parts) (here : Option ℕ) where
  -- what `super` means for a kind and a name
  abbrev pub super_member : Option ℕ → SelectorKind → List ℕ → Option ℕ
  super_member None kind name = None
  super_member (Some class) kind name = first_declared p.methods kind name (above_chain (parents p.classes) class)

  -- method m is the member that `super` names by its name, and takes so many arguments
  abbrev pub AboveAccepts : ℕ → ℕ → Option Method → Type 0
  AboveAccepts m n None = ⊥
  AboveAccepts m n (Some k) = (super_member here k.role k.name ≡ Some m) × Accepts k.required (length k.defaults) n

  -- a member of this kind
  abbrev pub IsRole : SelectorKind → Option Method → Type 0
  IsRole kind None = ⊥
  IsRole kind (Some k) = k.role ≡ kind

  -- method m is such a member of `super`, of this kind
  abbrev pub IsAbove : SelectorKind → ℕ → ℕ → Type 0
  IsAbove kind n m = IsRole kind (slice_get p.methods m) × AboveAccepts m n (slice_get p.methods m)

  -- a member that is called or read
  abbrev pub IsNoSetter : Option Method → Type 0
  IsNoSetter None = ⊥
  IsNoSetter (Some k) = IsTrue (not (same_kind k.role Set))

  -- the site calls the operator, one of those that are allowed there
  abbrev pub Operates : (BinaryOperator → Bool) → OperatorCall → Type 0
  Operates allowed k = IsTrue (allowed k.operator) × Is Call (binary_name k.operator) 1 (selector_at p k.site.0)

  -- `&&` and `||` call nothing.
  abbrev pub Joins : Joint → Type 0
  Joins (joint.Operator k) = Is Call (binary_name k.operator) 1 (selector_at p k.site.0)
  Joins _ = Unit {0}

  -- So many slots are open.
  abbrev mutual
    pub Sound : ℕ → Exp → Type 0
    Sound slots (c.constant k) = Unit {0}
    Sound slots c.this = IsTrue (is_some here)
    Sound slots (c.local k) = k < slots
    Sound slots (c.global k) = k < length p.globals
    Sound slots (c.interpolation units more) = SoundPieces slots more
    Sound slots (c.call_function f args) = FunctionAccepts (count args) (slice_get p.functions f) × AllSound slots args
    Sound slots (c.print e) = Sound slots e
    Sound slots (c.new k args) = IsTrue (is_open k) × MakeAccepts (count args) (slice_get p.classes k) × AllSound slots args
    Sound slots (c.super m args) =
        IsNoSetter (slice_get p.methods m) × AboveAccepts m (count args) (slice_get p.methods m) × AllSound slots args
    Sound slots (c.list_of items) = AllSound slots items
    Sound slots (c.postfix e more) = Sound slots e × SoundCalls slots more
    Sound slots (c.chain e more) = Sound slots e × SoundLinks slots more
    Sound slots (c.not e) = Sound slots e
    Sound slots (c.is e denied k) = (k < length p.classes) × Sound slots e
    Sound slots (c.conditional x y z) = Sound slots x × Sound slots y × Sound slots z
    Sound slots (c.assign to e) = SoundTarget slots to × Sound slots e
    Sound slots (c.compound_assign to op e) = SoundUpdate slots to × Operates assigns op × Sound slots e
    Sound slots (c.increment before op to) = SoundUpdate slots to × Operates steps op
    Sound slots (c.throw e) = Sound slots e

    pub AllSound : ℕ → Exps → Type 0
    AllSound slots c.no_more = Unit {0}
    AllSound slots (c.also e more) = Sound slots e × AllSound slots more

    pub SoundPieces : ℕ → Pieces → Type 0
    SoundPieces slots c.no_piece = Unit {0}
    SoundPieces slots (c.piece s e after more) = Is Call (codes "toString") 0 (selector_at p s) × Sound slots e × SoundPieces slots more

    pub SoundCalls : ℕ → Calls → Type 0
    SoundCalls slots c.no_call = Unit {0}
    SoundCalls slots (c.call s args more) = Asks (count args) (selector_at p s) × AllSound slots args × SoundCalls slots more

    pub SoundLinks : ℕ → Links → Type 0
    SoundLinks slots c.no_link = Unit {0}
    SoundLinks slots (c.link op e more) = Joins op × Sound slots e × SoundLinks slots more

    pub SoundTarget : ℕ → Target → Type 0
    SoundTarget slots (c.to_local k) = k < slots
    SoundTarget slots (c.to_global k) = k < length p.globals
    SoundTarget slots (c.to_super m) = IsAbove Set 1 m
    SoundTarget slots (c.to_member e s) = IsOf Set 1 (selector_at p s) × Sound slots e
    SoundTarget slots (c.to_element e i s) = Is Call (codes "[]=") 2 (selector_at p s) × Sound slots e × Sound slots i

    pub SoundUpdate : ℕ → Update → Type 0
    SoundUpdate slots (c.of_local k) = k < slots
    SoundUpdate slots (c.of_global k) = k < length p.globals
    SoundUpdate slots (c.of_super g m) = IsAbove Get 0 g × IsAbove Set 1 m
    SoundUpdate slots (c.of_member e g s) = IsOf Get 0 (selector_at p g) × IsOf Set 1 (selector_at p s) × Sound slots e
    SoundUpdate slots (c.of_element e i g s) =
        Is Call (codes "[]") 1 (selector_at p g) × Is Call (codes "[]=") 2 (selector_at p s) × Sound slots e × Sound slots i

  abbrev pub SoundFirst : ℕ → First → Type 0
  SoundFirst slots c.no_first = Unit {0}
  SoundFirst slots (c.first_declares e) = Sound slots e
  SoundFirst slots (c.first_runs e) = Sound slots e

  -- `return` answers null in a constructor
  abbrev pub IsNull : Exp → Type 0
  IsNull (c.constant literal.Null) = Unit {0}
  IsNull _ = ⊥

  -- what `return` answers: null, where it may have no value
  abbrev pub Returns : Bool → ℕ → Exp → Type 0
  Returns true slots e = Sound slots e
  Returns false slots e = IsNull e

  -- whether a `return` may have a value, how many slots are open, and whether a loop is open
  module _ (answers : Bool) where
    abbrev mutual
      pub SoundSta : ℕ → Bool → Sta → Type 0
      SoundSta slots loops (c.block all) = SoundStas slots loops all
      SoundSta slots loops (c.declare e) = Sound slots e
      SoundSta slots loops (c.run e) = Sound slots e
      SoundSta slots loops c.empty = Unit {0}
      SoundSta slots loops (c.when e x) = Sound slots e × SoundSta slots loops x
      SoundSta slots loops (c.when_else e x y) = Sound slots e × SoundSta slots loops x × SoundSta slots loops y
      SoundSta slots loops (c.while e x) = Sound slots e × SoundSta slots true x
      SoundSta slots loops (c.for start e last x) = SoundFirst slots start × Sound (after_first slots start) e × AllSound (after_first slots start) last × SoundSta (after_first slots start) true x
      SoundSta slots loops (c.do_while x e) = SoundSta slots true x × Sound slots e
      SoundSta slots loops c.break = IsTrue loops
      SoundSta slots loops c.continue = IsTrue loops
      SoundSta slots loops (c.return e) = Returns answers slots e

      pub SoundStas : ℕ → Bool → Stas → Type 0
      SoundStas slots loops c.end_of = Unit {0}
      SoundStas slots loops (c.next x more) = SoundSta slots loops x × SoundStas (after slots x) loops more

  -- a body with so many slots, outside of any loop
  abbrev pub SoundBody : ℕ → Body → Type 0
  SoundBody slots (body.Arrow e) = Sound slots (c.exp e)
  SoundBody slots (body.Block all) = SoundStas true slots false (c.stas (map c.sta all))
