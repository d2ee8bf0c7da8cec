-- The parts of declarations: words that are dropped, parameters, bodies.
use Rattle.std.proofs.Common.{◌≡◌, ◌+◌, ◌≤◌, Bool, true, false, List, [], ◌∷◌, length, Option, refl, arith}
use Rattle.dart_syntax.specs.declared.token.Span.{Span}
use Rattle.dart_syntax.specs.declared.token.Sign.TheVariants as s
use Rattle.dart_syntax.specs.declared.tree.Name.{Name}
use Rattle.dart_syntax.specs.declared.tree.Operator.{Operator}
use Rattle.dart_syntax.specs.Syntax.{Exp, Sta, Stas, Param, Body, Passed, ClassDecl, a_param}
use Rattle.dart_syntax.specs.Words.{Tokens}
use Rattle.dart_syntax.specs.Grammar.{Reading, Many}
use Rattle.dart_syntax.specs.Grammar as gr
use Rattle.dart_syntax.specs.Derivation.{Literal, Value, Listed, ParamText, Params, Ret, Meta, OperatorText, Parent, CommaName, Interfaces, Block, BodyText, SomeBody, SomeBlock, Rest}
use Rattle.dart_syntax.specs.Derivation as de
use Rattle.dart_meaning.specs.Uses.{Scope, nothing_seen, with_params, with_passed, body_uses, block_uses, some_block_uses, field_uses, member_part, constructor_parts}
use Rattle.dart_printer.specs.ReadsBack.{ArePossible}
use Rattle.text_trees.specs.Nodes.{body_nodes, some_body_nodes, some_block_nodes, passed_nodes, stas_nodes}
use Rattle.text_trees.specs.Written.{IsWrittenExp, IsWrittenValue, IsWrittenParam, IsPlainParam, AreWrittenParams, ArePlainParams, Each, IsWrittenBody, MayBeWrittenBody, MayBeWrittenBlock, MayBeWrittenPassed, AreWrittenStas}
use Rattle.text_trees.proofs.Weights.{Weight, split, weigh_parts, tokens, join, Fine}
use Rattle.text_trees.proofs.Expressions.{w, AreFine, args_fine}
use Rattle.text_trees.proofs.Statements.{AreFineStas, stas_fine, block_weight}

module _ (p : Weight) where
  -- what uses nothing and has no nodes
  abbrev pub Holds : Type 0 → Tokens → Tokens → Type 0
  Holds = Fine p (λ (i : Unit {0}). 0) 0

  holds : {P : Type 0} {ts rest : Tokens} → P → tokens p rest ≤ tokens p ts → length rest ≤ length ts → ArePossible rest → Holds P ts rest
  holds x h g ok = record { weight = λ i. omega (arith, h); size = omega (arith, g); is = x; behind = ok }

  -- ---- words that are dropped

  pub ret_fine : {r : Bool} {ts rest : Tokens} → Ret ts r rest → ArePossible ts → Holds (Unit {0}) ts rest
  ret_fine de.Ret.none ok = holds tt (omega arith) (omega arith) ok
  ret_fine (de.Ret.some is) ok = holds tt (omega arith) (omega arith) ok.1

  meta_fine : {b : Bool} {ts rest : Tokens} → Meta ts b rest → ArePossible ts → Holds (Unit {0}) ts rest
  meta_fine de.Meta.override ok = holds tt (omega arith) (omega arith) ok.1.1
  meta_fine de.Meta.pragma ok = holds tt (omega arith) (omega arith) ok.1.1.1.1.1

  pub metas_fine : {bs : List Bool} {ts rest : Tokens} → Many Meta ts bs rest → ArePossible ts → Holds (Unit {0}) ts rest
  metas_fine gr.Many.none ok = holds tt (omega arith) (omega arith) ok
  metas_fine (gr.Many.more d ds) ok =
      let a = meta_fine d ok in
      let b = metas_fine ds a.behind in
      holds tt (omega (arith, a.weight tt, b.weight tt)) (omega (arith, a.size, b.size)) b.behind

  pub operator_fine : {ts rest : Tokens} {o : Operator} {at : Span} → OperatorText ts o at rest → ArePossible ts → Holds (Unit {0}) ts rest
  operator_fine (de.OperatorText.one is) ok = holds tt (omega arith) (omega arith) ok.1
  operator_fine de.OperatorText.get ok = holds tt (omega arith) (omega arith) ok.1.1
  operator_fine de.OperatorText.set ok = holds tt (omega arith) (omega arith) ok.1.1.1

  pub parent_fine : {ts rest : Tokens} {o : Option Name} → Parent ts o rest → ArePossible ts → Holds (Unit {0}) ts rest
  parent_fine de.Parent.none ok = holds tt (omega arith) (omega arith) ok
  parent_fine de.Parent.some ok = holds tt (omega arith) (omega arith) ok.1.1

  names_fine : {ts rest : Tokens} {ns : List Name} → Many CommaName ts ns rest → ArePossible ts → Holds (Unit {0}) ts rest
  names_fine gr.Many.none ok = holds tt (omega arith) (omega arith) ok
  names_fine (gr.Many.more de.CommaName.name ds) ok =
      let a = names_fine ds ok.1.1 in
      holds tt (omega (arith, a.weight tt)) (omega (arith, a.size)) a.behind

  pub interfaces_fine : {ts rest : Tokens} {ns : List Name} → Interfaces ts ns rest → ArePossible ts → Holds (Unit {0}) ts rest
  interfaces_fine de.Interfaces.none ok = holds tt (omega arith) (omega arith) ok
  interfaces_fine (de.Interfaces.some ds) ok =
      let a = names_fine ds ok.1.1 in
      holds tt (omega (arith, a.weight tt)) (omega (arith, a.size)) a.behind

  -- ---- values of fields and variables at the top

  pub literal_fine : {ts rest : Tokens} {x : Exp} → Literal ts x rest → ArePossible ts → Holds (IsWrittenExp x) ts rest
  literal_fine de.Literal.null ok = holds tt (omega arith) (omega arith) ok.1
  literal_fine de.Literal.yes ok = holds tt (omega arith) (omega arith) ok.1
  literal_fine de.Literal.no ok = holds tt (omega arith) (omega arith) ok.1
  literal_fine de.Literal.int ok = holds tt (omega arith) (omega arith) ok.1
  literal_fine de.Literal.str ok = holds tt (omega arith) (omega arith) ok.1
  literal_fine de.Literal.minus ok = holds tt (omega arith) (omega arith) ok.1.1
  literal_fine de.Literal.least ok = holds tt (omega arith) (omega arith) ok.1.1

  pub value_fine : {ts rest : Tokens} {v : Option Exp} → Value ts v rest → ArePossible ts → Holds (IsWrittenValue v) ts rest
  value_fine de.Value.none ok = holds tt (omega arith) (omega arith) ok.1
  value_fine (de.Value.some d) ok =
      let a = literal_fine d ok.1 in
      holds a.is (omega (arith, a.weight tt)) (omega (arith, a.size)) a.behind.1

  -- ---- parameters

  abbrev FineParam : (Param → Type 0) → Param → Tokens → Tokens → Type 0
  FineParam P q = Fine p (λ (i : Unit {0}). 0) 1 (P q)

  is_required : {is_final is_field : Bool} {n : Name} → IsWrittenParam (a_param is_final is_field n)
  is_required = record { required = refl; no_default = refl }

  is_plain : {is_final : Bool} {n : Name} → IsPlainParam (a_param is_final false n)
  is_plain = record { written = is_required; no_field = refl }

  pub plain_fine : {ts rest : Tokens} {q : Param} → ParamText false ts q rest → ArePossible ts → FineParam IsPlainParam q ts rest
  plain_fine de.ParamText.plain ok = record { weight = λ i. omega arith; size = omega arith; is = is_plain; behind = ok.1 }
  plain_fine (de.ParamText.typed is) ok = record { weight = λ i. omega arith; size = omega arith; is = is_plain; behind = ok.1.1 }
  plain_fine de.ParamText.final ok = record { weight = λ i. omega arith; size = omega arith; is = is_plain; behind = ok.1.1 }

  own_fine : {ts rest : Tokens} {q : Param} → ParamText true ts q rest → ArePossible ts → FineParam IsWrittenParam q ts rest
  own_fine de.ParamText.plain ok = record { weight = λ i. omega arith; size = omega arith; is = is_required; behind = ok.1 }
  own_fine (de.ParamText.typed is) ok = record { weight = λ i. omega arith; size = omega arith; is = is_required; behind = ok.1.1 }
  own_fine de.ParamText.final ok = record { weight = λ i. omega arith; size = omega arith; is = is_required; behind = ok.1.1 }
  own_fine de.ParamText.field ok = record { weight = λ i. omega arith; size = omega arith; is = is_required; behind = ok.1.1.1 }

  module _ (P : Param → Type 0) (c : Bool) (one : (ts rest : Tokens) (q : Param) → ParamText c ts q rest → ArePossible ts → FineParam P q ts rest) where
    abbrev FineParams : List Param → Tokens → Tokens → Type 0
    FineParams ps = Fine p (λ (i : Unit {0}). 0) (length ps) (Each P ps)

    listed_fine : {ts rest : Tokens} {q : Param} → Listed s.ParenClose (ParamText c) ts q rest → ArePossible ts → FineParam P q ts rest
    listed_fine (de.Listed.comma d) ok =
        let a = one _ _ _ d ok in
        record { weight = λ i. omega (arith, a.weight tt); size = omega (arith, a.size); is = a.is; behind = a.behind.1 }
    listed_fine (de.Listed.last d) ok = one _ _ _ d ok

    list_fine : {ts rest : Tokens} {ps : List Param} → Many (Listed s.ParenClose (ParamText c)) ts ps rest → ArePossible ts → FineParams ps ts rest
    list_fine gr.Many.none ok = record { weight = λ i. omega arith; size = omega arith; is = tt; behind = ok }
    list_fine (gr.Many.more d ds) ok =
        let a = listed_fine d ok in
        let b = list_fine ds a.behind in
        record { weight = λ i. omega (arith, a.weight tt, b.weight tt); size = omega (arith, a.size, b.size); is = (a.is, b.is); behind = b.behind }

    params_fine : {ts rest : Tokens} {ps : List Param} → Params c ts ps rest → ArePossible ts → FineParams ps ts rest
    params_fine (de.Params.params d) ok =
        let a = list_fine d ok in
        record { weight = λ i. omega (arith, a.weight tt); size = omega (arith, a.size); is = a.is; behind = a.behind.1 }

  -- of functions and members, and of constructors
  pub plain_params : {ts rest : Tokens} {ps : List Param} → Params false ts ps rest → ArePossible ts → Fine p (λ (i : Unit {0}). 0) (length ps) (ArePlainParams ps) ts rest
  plain_params = params_fine IsPlainParam false (λ ts rest q d ok. plain_fine d ok)

  pub own_params : {ts rest : Tokens} {ps : List Param} → Params true ts ps rest → ArePossible ts → Fine p (λ (i : Unit {0}). 0) (length ps) (AreWrittenParams ps) ts rest
  own_params = params_fine IsWrittenParam true (λ ts rest q d ok. own_fine d ok)

  pub fields_none : (ps : List Param) → w p (field_uses ps) ≡ 0
  fields_none [] = refl
  fields_none (q ∷ ps) = split q.is_field (λ e. rw e (omega (arith, fields_none ps))) (λ e. rw e (fields_none ps))

  -- ---- bodies

  module _ (I : Reading Sta) (inner : AreFineStas p I) (W : Reading Exp) (whole : AreFine p W) where
    block_fine : {ts rest : Tokens} {b : Stas} → Block I W ts b rest → ArePossible ts → Fine p (λ (scope : Scope). w p (block_uses scope b)) (stas_nodes b) (AreWrittenStas b) ts rest
    block_fine (de.Block.block {xs = xs} d) ok =
        let a = stas_fine p I inner d ok.1 in
        record { weight = λ scope. omega (arith, block_weight p I inner scope xs false a); size = omega (arith, a.size); is = a.is; behind = a.behind.1 }

    pub body_fine : {ts rest : Tokens} {b : Body} → BodyText I W ts b rest → ArePossible ts → Fine p (λ (scope : Scope). w p (body_uses scope b)) (body_nodes b) (IsWrittenBody b) ts rest
    body_fine (de.BodyText.arrow d) ok =
        let a = whole.fine d ok.1 in
        record { weight = λ scope. omega (arith, a.weight scope); size = omega (arith, a.size); is = a.is; behind = a.behind.1 }
    body_fine (de.BodyText.code d) ok =
        let a = block_fine d ok in
        record { weight = a.weight; size = omega (arith, a.size); is = a.is; behind = a.behind }

    pub some_body_fine : {ts rest : Tokens} {b : Option Body} → SomeBody I W ts b rest → ArePossible ts
        → Fine p (λ (i : ClassDecl × List Param). weigh_parts p (member_part i.0 i.1 b)) (some_body_nodes b) (MayBeWrittenBody b) ts rest
    some_body_fine de.SomeBody.none ok = record { weight = λ i. omega arith; size = omega arith; is = tt; behind = ok.1 }
    some_body_fine (de.SomeBody.some d) ok =
        let a = body_fine d ok in
        record { weight = λ i. omega (arith, a.weight (with_params i.1 nothing_seen)); size = omega (arith, a.size); is = a.is; behind = a.behind }

    some_block_fine : {ts rest : Tokens} {b : Option Stas} → SomeBlock I W ts b rest → ArePossible ts
        → Fine p (λ (scope : Scope). w p (some_block_uses scope b)) (some_block_nodes b) (MayBeWrittenBlock b) ts rest
    some_block_fine de.SomeBlock.none ok = record { weight = λ scope. omega arith; size = omega arith; is = tt; behind = ok.1 }
    some_block_fine (de.SomeBlock.some d) ok =
        let a = block_fine d ok in
        record { weight = a.weight; size = omega (arith, a.size); is = a.is; behind = a.behind }

    -- what a constructor passes on, and its body
    pub rest_fine : {ts rest : Tokens} {xs : Option Passed} {b : Option Stas} → Rest I W ts xs b rest → ArePossible ts
        → Fine p (λ (i : ClassDecl × List Param). weigh_parts p (constructor_parts i.0 i.1 xs b)) (passed_nodes xs + some_block_nodes b) (MayBeWrittenPassed xs × MayBeWrittenBlock b) ts rest
    rest_fine (de.Rest.plain {b = b} d) ok =
        let a = some_block_fine d ok in
        record {
          weight = λ i. let scope = with_params i.1 nothing_seen in omega (arith, a.weight scope, fields_none i.1, join p (field_uses i.1) (some_block_uses scope b));
          size = omega (arith, a.size);
          is = (tt, a.is);
          behind = a.behind;
        }
    rest_fine (de.Rest.passes {xs = xs} {y = y} d e) ok =
        let a = args_fine p W whole d ok.1.1.1 in
        let b = some_block_fine e a.behind in
        record {
          weight = λ i.
              let scope = with_params i.1 nothing_seen in
              omega (arith, a.weight (with_passed i.1 nothing_seen), b.weight scope, fields_none i.1, join p (field_uses i.1) (some_block_uses scope y));
          size = omega (arith, a.size, b.size);
          is = (a.is, b.is);
          behind = b.behind;
        }
