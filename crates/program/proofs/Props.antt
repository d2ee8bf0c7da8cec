-- That a body is sound has at most one proof.
use Rattle.std.proofs.Common.{◌≡◌, ℕ, suc, ◌<◌, ◌≤◌, Bool, true, false, List, Option, None, Some, IsTrue, slice_get, length, is_some, codes}
use Rattle.std.proofs.Props.{props}
use Rattle.std.specs.Coded.{Coded-set}
use Rattle.program.specs.contracts.numbered.SelectorKind as kinds
use Rattle.program.specs.declared.literal.Literal.TheVariants as literal
use Rattle.program.specs.declared.numbered.Selector.{Selector}
use Rattle.program.specs.declared.numbered.Function.{Function}
use Rattle.program.specs.declared.numbered.Method.{Method}
use Rattle.program.specs.declared.numbered.Class.{Class}
use Rattle.program.specs.declared.numbered.Constructor.{Constructor}
use Rattle.program.specs.declared.numbered.SelectorKind.{SelectorKind}
use Rattle.program.specs.declared.numbered.SelectorKind.TheVariants.{Call, Get, Set}
use Rattle.program.specs.declared.body.OperatorCall.{OperatorCall}
use Rattle.program.specs.declared.body.BinaryOperator.{BinaryOperator}
use Rattle.program.specs.declared.body.Joint.{Joint}
use Rattle.program.specs.declared.body.Joint.TheVariants as joint
use Rattle.program.specs.declared.body.Body.{Body}
use Rattle.program.specs.declared.body.Body.TheVariants as body
use Rattle.program.specs.Bodies as c
use Rattle.program.specs.Bodies.{Exp, Exps, Pieces, Calls, Links, Target, Update, First, Sta, Stas, count}
use Rattle.program.specs.Parts.{Parts, selector_at}
use Rattle.program.specs.Sound.{Is, IsOf, Asks, FunctionAccepts, ConstructorAccepts, MakeAccepts, AboveAccepts, IsRole, IsNoSetter, IsAbove, Operates, Joins, Sound, AllSound, SoundPieces, SoundCalls, SoundLinks, SoundTarget, SoundUpdate, SoundFirst, IsNull, Returns, SoundSta, SoundStas, SoundBody, after, after_first, binary_name, assigns, steps}

pub kind_prop : (a b : SelectorKind) → IsProp (a ≡ b)
kind_prop a b = Coded-set kinds.the_row.coded a b

pub Is-prop : (kind : SelectorKind) (name : List ℕ) (n : ℕ) (o : Option Selector) → IsProp (Is kind name n o)
Is-prop kind name n None = hlevel props
Is-prop kind name n (Some s) = hlevel (props, kind_prop s.kind kind)

IsOf-prop : (kind : SelectorKind) (n : ℕ) (o : Option Selector) → IsProp (IsOf kind n o)
IsOf-prop kind n None = hlevel props
IsOf-prop kind n (Some s) = hlevel (props, kind_prop s.kind kind)

Asks-prop : (n : ℕ) (o : Option Selector) → IsProp (Asks n o)
Asks-prop n None = hlevel props
Asks-prop n (Some s) = hlevel props

FunctionAccepts-prop : (n : ℕ) (o : Option Function) → IsProp (FunctionAccepts n o)
FunctionAccepts-prop n None = hlevel props
FunctionAccepts-prop n (Some f) = hlevel props

pub ConstructorAccepts-prop : (n : ℕ) (o : Option Constructor) → IsProp (ConstructorAccepts n o)
ConstructorAccepts-prop n None = hlevel props
ConstructorAccepts-prop n (Some b) = hlevel props

MakeAccepts-prop : (n : ℕ) (o : Option Class) → IsProp (MakeAccepts n o)
MakeAccepts-prop n None = hlevel props
MakeAccepts-prop n (Some k) = hlevel (props, ConstructorAccepts-prop n k.constructor)

module _ (p : Parts) (here : Option ℕ) where
  AboveAccepts-prop : (m n : ℕ) (o : Option Method) → IsProp (AboveAccepts p here m n o)
  AboveAccepts-prop m n None = hlevel props
  AboveAccepts-prop m n (Some k) = hlevel props

  IsRole-prop : (kind : SelectorKind) (o : Option Method) → IsProp (IsRole p here kind o)
  IsRole-prop kind None = hlevel props
  IsRole-prop kind (Some k) = kind_prop k.role kind

  IsNoSetter-prop : (o : Option Method) → IsProp (IsNoSetter p here o)
  IsNoSetter-prop None = hlevel props
  IsNoSetter-prop (Some k) = hlevel props

  IsAbove-prop : (kind : SelectorKind) (n m : ℕ) → IsProp (IsAbove p here kind n m)
  IsAbove-prop kind n m = hlevel (props, IsRole-prop kind (slice_get p.methods m), AboveAccepts-prop m n (slice_get p.methods m))

  Operates-prop : (allowed : BinaryOperator → Bool) (k : OperatorCall) → IsProp (Operates p here allowed k)
  Operates-prop allowed k = hlevel (props, Is-prop Call (binary_name k.operator) 1 (selector_at p k.site.0))

  Joins-prop : (op : Joint) → IsProp (Joins p here op)
  Joins-prop joint.And = hlevel props
  Joins-prop joint.Or = hlevel props
  Joins-prop (joint.Operator k) = Is-prop Call (binary_name k.operator) 1 (selector_at p k.site.0)

  mutual
    pub Sound-prop : (n : ℕ) (e : Exp) → IsProp (Sound p here n e)
    Sound-prop n (c.constant k) = hlevel props
    Sound-prop n c.this = hlevel props
    Sound-prop n (c.local k) = hlevel props
    Sound-prop n (c.global k) = hlevel props
    Sound-prop n (c.interpolation units more) = SoundPieces-prop n more
    Sound-prop n (c.call_function f args) = hlevel (props, FunctionAccepts-prop (count args) (slice_get p.functions f), AllSound-prop n args)
    Sound-prop n (c.print e) = Sound-prop n e
    Sound-prop n (c.new k args) = hlevel (props, MakeAccepts-prop (count args) (slice_get p.classes k), AllSound-prop n args)
    Sound-prop n (c.super m args) = hlevel (props, IsNoSetter-prop (slice_get p.methods m), AboveAccepts-prop m (count args) (slice_get p.methods m), AllSound-prop n args)
    Sound-prop n (c.list_of items) = AllSound-prop n items
    Sound-prop n (c.postfix e more) = hlevel (props, Sound-prop n e, SoundCalls-prop n more)
    Sound-prop n (c.chain e more) = hlevel (props, Sound-prop n e, SoundLinks-prop n more)
    Sound-prop n (c.not e) = Sound-prop n e
    Sound-prop n (c.is e denied k) = hlevel (props, Sound-prop n e)
    Sound-prop n (c.conditional x y z) = hlevel (props, Sound-prop n x, Sound-prop n y, Sound-prop n z)
    Sound-prop n (c.assign to e) = hlevel (props, SoundTarget-prop n to, Sound-prop n e)
    Sound-prop n (c.compound_assign to op e) = hlevel (props, SoundUpdate-prop n to, Operates-prop assigns op, Sound-prop n e)
    Sound-prop n (c.increment before op to) = hlevel (props, SoundUpdate-prop n to, Operates-prop steps op)
    Sound-prop n (c.throw e) = Sound-prop n e

    pub AllSound-prop : (n : ℕ) (es : Exps) → IsProp (AllSound p here n es)
    AllSound-prop n c.no_more = hlevel props
    AllSound-prop n (c.also e more) = hlevel (props, Sound-prop n e, AllSound-prop n more)

    SoundPieces-prop : (n : ℕ) (es : Pieces) → IsProp (SoundPieces p here n es)
    SoundPieces-prop n c.no_piece = hlevel props
    SoundPieces-prop n (c.piece s e after more) = hlevel (props, Is-prop Call (codes "toString") 0 (selector_at p s), Sound-prop n e, SoundPieces-prop n more)

    SoundCalls-prop : (n : ℕ) (es : Calls) → IsProp (SoundCalls p here n es)
    SoundCalls-prop n c.no_call = hlevel props
    SoundCalls-prop n (c.call s args more) = hlevel (props, Asks-prop (count args) (selector_at p s), AllSound-prop n args, SoundCalls-prop n more)

    SoundLinks-prop : (n : ℕ) (es : Links) → IsProp (SoundLinks p here n es)
    SoundLinks-prop n c.no_link = hlevel props
    SoundLinks-prop n (c.link op e more) = hlevel (props, Joins-prop op, Sound-prop n e, SoundLinks-prop n more)

    SoundTarget-prop : (n : ℕ) (to : Target) → IsProp (SoundTarget p here n to)
    SoundTarget-prop n (c.to_local k) = hlevel props
    SoundTarget-prop n (c.to_global k) = hlevel props
    SoundTarget-prop n (c.to_super m) = IsAbove-prop Set 1 m
    SoundTarget-prop n (c.to_member e s) = hlevel (props, IsOf-prop Set 1 (selector_at p s), Sound-prop n e)
    SoundTarget-prop n (c.to_element e i s) = hlevel (props, Is-prop Call (codes "[]=") 2 (selector_at p s), Sound-prop n e, Sound-prop n i)

    SoundUpdate-prop : (n : ℕ) (to : Update) → IsProp (SoundUpdate p here n to)
    SoundUpdate-prop n (c.of_local k) = hlevel props
    SoundUpdate-prop n (c.of_global k) = hlevel props
    SoundUpdate-prop n (c.of_super g m) = hlevel (props, IsAbove-prop Get 0 g, IsAbove-prop Set 1 m)
    SoundUpdate-prop n (c.of_member e g s) = hlevel (props, IsOf-prop Get 0 (selector_at p g), IsOf-prop Set 1 (selector_at p s), Sound-prop n e)
    SoundUpdate-prop n (c.of_element e i g s) =
        hlevel (props, Is-prop Call (codes "[]") 1 (selector_at p g), Is-prop Call (codes "[]=") 2 (selector_at p s), Sound-prop n e, Sound-prop n i)

  SoundFirst-prop : (n : ℕ) (start : First) → IsProp (SoundFirst p here n start)
  SoundFirst-prop n c.no_first = hlevel props
  SoundFirst-prop n (c.first_declares e) = Sound-prop n e
  SoundFirst-prop n (c.first_runs e) = Sound-prop n e

  IsNull-prop : (e : Exp) → IsProp (IsNull p here e)
  IsNull-prop (c.constant literal.Null) = hlevel props
  IsNull-prop _ = hlevel props

  Returns-prop : (answers : Bool) (n : ℕ) (e : Exp) → IsProp (Returns p here answers n e)
  Returns-prop true n e = Sound-prop n e
  Returns-prop false n e = IsNull-prop e

  module _ (answers : Bool) where
    mutual
      pub SoundSta-prop : (n : ℕ) (loops : Bool) (x : Sta) → IsProp (SoundSta p here answers n loops x)
      SoundSta-prop n loops (c.block all) = SoundStas-prop n loops all
      SoundSta-prop n loops (c.declare e) = Sound-prop n e
      SoundSta-prop n loops (c.run e) = Sound-prop n e
      SoundSta-prop n loops c.empty = hlevel props
      SoundSta-prop n loops (c.when e x) = hlevel (props, Sound-prop n e, SoundSta-prop n loops x)
      SoundSta-prop n loops (c.when_else e x y) = hlevel (props, Sound-prop n e, SoundSta-prop n loops x, SoundSta-prop n loops y)
      SoundSta-prop n loops (c.while e x) = hlevel (props, Sound-prop n e, SoundSta-prop n true x)
      SoundSta-prop n loops (c.for start e last x) =
          hlevel (props, SoundFirst-prop n start, Sound-prop (after_first n start) e, AllSound-prop (after_first n start) last, SoundSta-prop (after_first n start) true x)
      SoundSta-prop n loops (c.do_while x e) = hlevel (props, Sound-prop n e, SoundSta-prop n true x)
      SoundSta-prop n loops c.break = hlevel props
      SoundSta-prop n loops c.continue = hlevel props
      SoundSta-prop n loops (c.return e) = Returns-prop answers n e

      pub SoundStas-prop : (n : ℕ) (loops : Bool) (all : Stas) → IsProp (SoundStas p here answers n loops all)
      SoundStas-prop n loops c.end_of = hlevel props
      SoundStas-prop n loops (c.next x more) = hlevel (props, SoundSta-prop n loops x, SoundStas-prop (after n x) loops more)

  pub SoundBody-prop : (n : ℕ) (b : Body) → IsProp (SoundBody p here n b)
  SoundBody-prop n (body.Arrow e) = Sound-prop n (c.exp e)
  SoundBody-prop n (body.Block all) = SoundStas-prop true n false (c.stas (Rattle.std.proofs.Common.map c.sta all))
