-- Each use of a bare name in the bodies of a tree, with what the text knows of names there and with the variables that are open in the run.
use Rattle.std.specs.Prelude.{◌≡◌, List, [], ◌∷◌, map, reverse, Option, None, Some}
use Rattle.std.specs.Option.{option_map}
use Rattle.dart_syntax.specs.Syntax as t
use Rattle.dart_syntax.specs.Syntax.{ClassDecl, Member, Param, Passed, Top, Tree}
use Rattle.dart_values.specs.Values.{Text, Value}
use Rattle.dart_meaning.specs.declared.seen.Seen.TheVariants.{Late}
use Rattle.dart_meaning.specs.Meaning.{Bound, bind, unnamed}
use Rattle.dart_meaning.specs.Numbering as run
use Rattle.dart_meaning.specs.Numbering.{param_names, body_names}
use Rattle.dart_meaning.specs.Uses as uses
use Rattle.dart_meaning.specs.Uses.{Kind, of_function, of_member, of_passed, of_constructor, Part, part, Scope, declared, locals, nothing_seen, opened, with_seen, with_params, with_passed}
use Rattle.static_rules.specs.Accepted.{IsAccepted}
use Rattle.text_trees.specs.Written.{Each, IsWritten}
use Rattle.bare_names.specs.Owners.{UseAgrees}

-- ---- where a body begins

-- The variables of an entered body have the names of its parameters, of which the last is the newest.
abbrev pub BodiesBeginWithParameters : Type 0
BodiesBeginWithParameters = (params : List Param) (args : List Value) → map (λ b. b.name) (reverse (bind params args)) ≡ param_names params

-- In a constructor's body those of the parameters `this.x` have none.
abbrev pub FieldParametersLoseTheirNames : Type 0
FieldParametersLoseTheirNames = (params : List Param) (vars : List Bound) → map (λ b. b.name) vars ≡ param_names params → map (λ b. b.name) (unnamed (reverse params) vars) ≡ body_names params

-- ---- in a part that stands in the class `here`, if any

module _ (tree : Tree) (in_part : Part) (here : Option Text) where
  -- What the text knows of names is `scope`; the open variables have these names, the newest first. An expression opens none.
  abbrev pub ExpAgrees : Scope → List Text → t.Exp → Type 0
  ExpAgrees scope names e = Each (UseAgrees tree in_part here names) (uses.exp scope e)

  abbrev pub ExpsAgree : Scope → List Text → t.Exps → Type 0
  ExpsAgree scope names es = Each (UseAgrees tree in_part here names) (uses.exps scope es)

  abbrev pub ValueAgrees : Scope → List Text → Option t.Exp → Type 0
  ValueAgrees scope names e = Each (UseAgrees tree in_part here names) (uses.exp_if scope e)

  -- the first part of a `for`
  abbrev pub FirstAgrees : Scope → List Text → t.First → Type 0
  FirstAgrees scope names t.nothing = Unit {0}
  FirstAgrees scope names (t.local_first l) = ValueAgrees (with_seen l.name Late scope) names l.value
  FirstAgrees scope names (t.run_first e) = ExpAgrees scope names e

  -- To the text a block's locals belong to the whole block, and in the run each is open behind its declaration, up to the end of the block.
  abbrev mutual
    pub StaAgrees : Scope → List Text → t.Sta → Type 0
    StaAgrees scope names (t.block all) = StasAgree (opened (locals all) scope) names all
    StaAgrees scope names (t.local l) = ValueAgrees scope names l.value
    StaAgrees scope names (t.run e) = ExpAgrees scope names e
    StaAgrees scope names (t.when c x) = ExpAgrees scope names c × StaAgrees (opened (declared x) scope) names x
    StaAgrees scope names (t.when_else c x y) = ExpAgrees scope names c × StaAgrees (opened (declared x) scope) names x × StaAgrees (opened (declared y) scope) names y
    StaAgrees scope names (t.while c x) = ExpAgrees scope names c × StaAgrees (opened (declared x) scope) names x
    StaAgrees scope names (t.do_while x c) = StaAgrees (opened (declared x) scope) names x × ExpAgrees scope names c
    StaAgrees scope names (t.for first c last x) =
        FirstAgrees scope names first
        × ValueAgrees (uses.after_first first scope) (run.after_first names first) c
        × ExpsAgree (uses.after_first first scope) (run.after_first names first) last
        × StaAgrees (opened (declared x) (uses.after_first first scope)) (run.after_first names first) x
    StaAgrees scope names (t.return at e) = ValueAgrees scope names e
    StaAgrees scope names _ = Unit {0}

    pub StasAgree : Scope → List Text → t.Stas → Type 0
    StasAgree scope names t.done = Unit {0}
    StasAgree scope names (t.next x more) = StaAgrees scope names x × StasAgree (uses.after x scope) (run.after names x) more

  abbrev pub BlockAgrees : Scope → List Text → t.Stas → Type 0
  BlockAgrees scope names all = StasAgree (opened (locals all) scope) names all

  abbrev pub BodyAgrees : Scope → List Text → t.Body → Type 0
  BodyAgrees scope names (t.arrow e) = ExpAgrees scope names e
  BodyAgrees scope names (t.code all) = BlockAgrees scope names all

-- ---- in a tree

module _ (tree : Tree) where
  -- the body of a function or of a member
  abbrev pub CodeAgrees : Kind → Option ClassDecl → List Param → t.Body → Type 0
  CodeAgrees kind class params b =
      BodyAgrees tree (part kind class []) (option_map (λ (c : ClassDecl). c.name.text) class) (with_params params nothing_seen) (param_names params) b

  abbrev pub MemberBodyAgrees : ClassDecl → List Param → Option t.Body → Type 0
  MemberBodyAgrees c params None = Unit {0}
  MemberBodyAgrees c params (Some b) = CodeAgrees of_member (Some c) params b

  -- In what a constructor passes to its superclass a `this.x` is the parameter.
  abbrev pub PassedAgrees : ClassDecl → List Param → Option Passed → Type 0
  PassedAgrees c params None = Unit {0}
  PassedAgrees c params (Some p) = ExpsAgree tree (part of_passed (Some c) []) (Some c.name.text) (with_passed params nothing_seen) (param_names params) p.args

  -- In its body it is the field, and the parameter has no name.
  abbrev pub ConstructorBodyAgrees : ClassDecl → List Param → Option t.Stas → Type 0
  ConstructorBodyAgrees c params None = Unit {0}
  ConstructorBodyAgrees c params (Some all) =
      BlockAgrees tree (part of_constructor (Some c) []) (Some c.name.text) (with_params params nothing_seen) (body_names params) all

  abbrev pub MemberAgrees : ClassDecl → Member → Type 0
  MemberAgrees c (t.field l) = Unit {0}
  MemberAgrees c (t.method n params b) = MemberBodyAgrees c params b
  MemberAgrees c (t.getter n b) = MemberBodyAgrees c [] b
  MemberAgrees c (t.setter n param b) = MemberBodyAgrees c (param ∷ []) b
  MemberAgrees c (t.operator op at params b) = MemberBodyAgrees c params b
  MemberAgrees c (t.constructor n params passed b) = PassedAgrees c params passed × ConstructorBodyAgrees c params b

  abbrev pub TopAgrees : Top → Type 0
  TopAgrees (t.a_class c) = Each (MemberAgrees c) c.members
  TopAgrees (t.a_function f) = CodeAgrees of_function None f.params f.body
  TopAgrees (t.a_variable v) = Unit {0}

-- ---- the law

-- In an accepted tree each bare name is in the run what the text means by it.
abbrev pub NamesAgree : Type 0
NamesAgree = (tree : Tree) → IsAccepted tree → IsWritten tree → Each (TopAgrees tree) tree.tops
