-- The parts of declarations.
use Rattle.std.proofs.Common.{◌≡◌, Bool, List, [], ◌∷◌, ◌++◌, map, Option, Some, None, option_map, refl, codes}
use Rattle.dart_syntax.specs.declared.token.Span.{Span}
use Rattle.dart_syntax.specs.declared.token.Sign.TheVariants as s
use Rattle.dart_syntax.specs.declared.token.TokenKind.TheVariants as tk
use Rattle.dart_syntax.specs.declared.token.Keyword.TheVariants as k
use Rattle.dart_syntax.specs.declared.tree.Name.{Name}
use Rattle.dart_syntax.specs.declared.tree.Operator.{Operator}
use Rattle.dart_syntax.specs.Syntax as tree
use Rattle.dart_syntax.specs.Syntax.{Exp, Sta, Stas, exps, stas, Param, Body, Passed, passing, a_param}
use Rattle.dart_syntax.specs.Words.{Tokens, sign}
use Rattle.dart_syntax.specs.Operators.{named}
use Rattle.dart_syntax.specs.Text.{word, exp_text, value_text, commas, listed, name_text, param_text, block_text, body_text, some_body_text, some_block_text, passed_text, parent_text, interfaces_text, operator_text}
use Rattle.dart_syntax.specs.Grammar.{Reading, Many}
use Rattle.dart_syntax.specs.Grammar as gr
use Rattle.dart_syntax.specs.Derivation.{Literal, Value, Listed, ParamText, Params, Ret, Meta, OperatorText, Parent, CommaName, Interfaces, Block, BodyText, SomeBody, SomeBlock, Rest}
use Rattle.dart_syntax.specs.Derivation as de
use Rattle.dart_printer.specs.Spans.{nowhere, bare_name, bare_exp, bare_stas, bare_param, bare_params, bare_body, bare_passed}
use Rattle.dart_printer.specs.ReadsBack.{ArePossible}
use Rattle.dart_printer.proofs.Lists.{Kinds, nothing, one, both, put}
use Rattle.dart_printer.proofs.Cuts.{Cuts, Closed, cuts_of, cuts_none, cuts_then, cuts_right, closed_then, closed_left}
use Rattle.dart_printer.proofs.Marks.{name_word}
use Rattle.dart_printer.proofs.Keywords.{null_word, true_word, false_word, this_word, super_word, final_word, extends_word, implements_word}
use Rattle.dart_printer.proofs.SignTexts.{paren_open, paren_close, bracket_open, bracket_close, comma, semicolon, assign, minus, dot, arrow, colon, operator_sign, in_braces, braces}
use Rattle.dart_printer.proofs.Numbers.{int_word, least_word}
use Rattle.dart_printer.proofs.StringTexts.{string_word}
use Rattle.dart_printer.proofs.Back.{Found, found, Back, GivesBack, many_back}
use Rattle.dart_printer.proofs.Terms.{paren_args}
use Rattle.dart_printer.proofs.Statements.{none_else, GivesStaBack, stas_back}

-- ---- values

literal_back : {ts rest : Tokens} {x : Exp} → Literal ts x rest → ArePossible ts → Back Literal (Cuts (exp_text x)) (λ y. bare_exp y ≡ bare_exp x) rest
literal_back de.Literal.null ok = record { kinds = one (tk.Keyword k.Null); cuts = cuts_of null_word; reads = λ f more. found _ de.Literal.null refl; behind = ok.1 }
literal_back de.Literal.yes ok = record { kinds = one (tk.Keyword k.True); cuts = cuts_of true_word; reads = λ f more. found _ de.Literal.yes refl; behind = ok.1 }
literal_back de.Literal.no ok = record { kinds = one (tk.Keyword k.False); cuts = cuts_of false_word; reads = λ f more. found _ de.Literal.no refl; behind = ok.1 }
literal_back (de.Literal.int {n = n}) ok = record { kinds = one (tk.Int n); cuts = cuts_of (int_word n ok.0); reads = λ f more. found _ de.Literal.int refl; behind = ok.1 }
literal_back (de.Literal.str {v = v}) ok = record { kinds = one (tk.Str v); cuts = cuts_of (string_word v ok.0); reads = λ f more. found _ de.Literal.str refl; behind = ok.1 }
literal_back (de.Literal.minus {n = n}) ok = record { kinds = both (one (tk.Sign s.Minus)) (one (tk.Int n)); cuts = cuts_then (cuts_of minus) (cuts_of (int_word n ok.1.0)); reads = λ f more. found _ de.Literal.minus refl; behind = ok.1.1 }
literal_back de.Literal.least ok = record { kinds = both (one (tk.Sign s.Minus)) (one tk.MinInt); cuts = cuts_then (cuts_of minus) (cuts_of least_word); reads = λ f more. found _ de.Literal.least refl; behind = ok.1.1 }

-- a value that has to stand, behind the `=`
pub record GivenBack (x : Exp) (rest : Tokens) : Type 0 where
  pub kinds : Kinds
  pub cuts : Closed (exp_text x ++ word (codes ";")) kinds
  pub reads : (f : Tokens → Span) (more : Tokens) → (at : Span) × Found Literal (λ y. bare_exp y ≡ bare_exp x) (put f kinds more) (sign s.Semicolon at ∷ more)
  pub behind : ArePossible rest

pub given_back : {ts rest : Tokens} {x : Exp} {at : Span} → Literal ts x (sign s.Semicolon at ∷ rest) → ArePossible ts → GivenBack x rest
given_back d ok =
    let a = literal_back d ok in
    record {
      kinds = both a.kinds (one (tk.Sign s.Semicolon));
      cuts = closed_then a.cuts semicolon;
      reads = λ f more. (_, a.reads f (put f (one (tk.Sign s.Semicolon)) more));
      behind = a.behind.1;
    }

pub value_back : {ts rest : Tokens} {v : Option Exp} → Value ts v rest → ArePossible ts → Back Value (Closed (value_text v ++ word (codes ";"))) (λ u. option_map bare_exp u ≡ option_map bare_exp v) rest
value_back de.Value.none ok = record { kinds = one (tk.Sign s.Semicolon); cuts = semicolon; reads = λ f more. found _ de.Value.none refl; behind = ok.1 }
value_back (de.Value.some {x = x} d) ok =
    let a = given_back d ok.1 in
    record {
      kinds = both (one (tk.Sign s.Assign)) a.kinds;
      cuts = closed_left (word (codes "=")) (exp_text x) (word (codes ";")) (closed_then (cuts_of assign) a.cuts);
      reads = λ f more. let p = a.reads f more in found _ (de.Value.some p.1.reads) (λ i. Some (p.1.same i));
      behind = a.behind;
    }

-- ---- parameters

pub param_back : {c : Bool} {ts rest : Tokens} {p : Param} → ParamText c ts p rest → ArePossible ts → Back (ParamText c) (Cuts (param_text p)) (λ q. bare_param q ≡ bare_param p) rest
param_back (de.ParamText.plain {n = n}) ok = record { kinds = one (tk.Name n); cuts = cuts_of (name_word n ok.0); reads = λ f more. found _ de.ParamText.plain refl; behind = ok.1 }
param_back (de.ParamText.typed {n = n} is) ok = record { kinds = one (tk.Name n); cuts = cuts_of (name_word n ok.1.0); reads = λ f more. found _ de.ParamText.plain refl; behind = ok.1.1 }
param_back (de.ParamText.final {n = n}) ok = record {
  kinds = both (one (tk.Keyword k.Final)) (one (tk.Name n));
  cuts = cuts_then (cuts_of final_word) (cuts_of (name_word n ok.1.0));
  reads = λ f more. found _ de.ParamText.final refl;
  behind = ok.1.1;
}
param_back (de.ParamText.field {n = n}) ok = record {
  kinds = both (both (one (tk.Keyword k.This)) (one (tk.Sign s.Dot))) (one (tk.Name n));
  cuts = cuts_then (cuts_then (cuts_of this_word) (cuts_of dot)) (cuts_of (name_word n ok.1.1.0));
  reads = λ f more. found _ de.ParamText.field refl;
  behind = ok.1.1.1;
}

abbrev ListedParams : Bool → Reading (List Param)
ListedParams c = Many (Listed s.ParenClose (ParamText c))

listed_param : {c : Bool} {ts rest : Tokens} {p : Param} → Listed s.ParenClose (ParamText c) ts p rest → ArePossible ts → Back (ParamText c) (Cuts (param_text p)) (λ q. bare_param q ≡ bare_param p) rest
listed_param (de.Listed.comma d) ok = let a = param_back d ok in record { kinds = a.kinds; cuts = a.cuts; reads = a.reads; behind = a.behind.1 }
listed_param (de.Listed.last d) ok = param_back d ok

-- parameters before the `)`
record ListBack (c : Bool) (ps : List Param) (rest : Tokens) : Type 0 where
  kinds : Kinds
  cuts : Cuts (listed param_text ps) kinds
  reads : (f : Tokens → Span) (at : Span) (more : Tokens) → Found (ListedParams c) (λ qs. bare_params qs ≡ bare_params ps) (put f kinds (sign s.ParenClose at ∷ more)) (sign s.ParenClose at ∷ more)
  behind : ArePossible rest

join_params : {c : Bool} {mid rest : Tokens} (p : Param) (ps : List Param) → Back (ParamText c) (Cuts (param_text p)) (λ q. bare_param q ≡ bare_param p) mid → ListBack c ps rest → ListBack c (p ∷ ps) rest
join_params p [] a b = record {
  kinds = both a.kinds nothing;
  cuts = cuts_then a.cuts cuts_none;
  reads = λ f at more. let q = a.reads f (sign s.ParenClose at ∷ more) in found _ (gr.Many.more (de.Listed.last q.reads) gr.Many.none) (λ i. q.same i ∷ []);
  behind = b.behind;
}
join_params p (o ∷ ps) a b = record {
  kinds = both a.kinds (both (one (tk.Sign s.Comma)) b.kinds);
  cuts = cuts_then a.cuts (cuts_then (cuts_of comma) b.cuts);
  reads = λ f at more. let r = b.reads f at more in let q = a.reads f (put f (both (one (tk.Sign s.Comma)) b.kinds) (sign s.ParenClose at ∷ more)) in
      found _ (gr.Many.more (de.Listed.comma q.reads) r.reads) (λ i. q.same i ∷ r.same i);
  behind = b.behind;
}

list_back : {c : Bool} {ts rest : Tokens} {ps : List Param} → ListedParams c ts ps rest → ArePossible ts → ListBack c ps rest
list_back gr.Many.none ok = record { kinds = nothing; cuts = cuts_none; reads = λ f at more. found _ gr.Many.none refl; behind = ok }
list_back (gr.Many.more {x = p} {xs = ps} d ds) ok = let a = listed_param d ok in join_params p ps a (list_back ds a.behind)

-- behind the `(`
pub params_back : {c : Bool} {ts rest : Tokens} {ps : List Param} → Params c ts ps rest → ArePossible ts
    → Back (Params c) (Cuts (listed param_text ps ++ word (codes ")"))) (λ qs. bare_params qs ≡ bare_params ps) rest
params_back (de.Params.params d) ok =
    let a = list_back d ok in
    record {
      kinds = both a.kinds (one (tk.Sign s.ParenClose));
      cuts = cuts_then a.cuts (cuts_of paren_close);
      reads = λ f more. let p = a.reads f (f more) more in found _ (de.Params.params p.reads) p.same;
      behind = a.behind.1;
    }

-- ---- words that are dropped

pub ret_behind : {r : Bool} {ts rest : Tokens} → Ret ts r rest → ArePossible ts → ArePossible rest
ret_behind de.Ret.none ok = ok
ret_behind (de.Ret.some is) ok = ok.1

meta_behind : {b : Bool} {ts rest : Tokens} → Meta ts b rest → ArePossible ts → ArePossible rest
meta_behind de.Meta.override ok = ok.1.1
meta_behind de.Meta.pragma ok = ok.1.1.1.1.1

pub metas_behind : {bs : List Bool} {ts rest : Tokens} → Many Meta ts bs rest → ArePossible ts → ArePossible rest
metas_behind gr.Many.none ok = ok
metas_behind (gr.Many.more d ds) ok = metas_behind ds (meta_behind d ok)

-- ---- operators

pub record OperatorBack (o : Operator) (rest : Tokens) : Type 0 where
  pub kinds : Kinds
  pub cuts : Cuts (operator_text o) kinds
  pub reads : (f : Tokens → Span) (at : Span) (more : Tokens) → (b : Span) × OperatorText (put f kinds (sign s.ParenOpen at ∷ more)) o b (sign s.ParenOpen at ∷ more)
  pub behind : ArePossible rest

pub operator_back : {ts rest : Tokens} {o : Operator} {b : Span} → OperatorText ts o b rest → ArePossible ts → OperatorBack o rest
operator_back (de.OperatorText.one {c = c} {o = o} is) ok = record { kinds = one (tk.Sign c); cuts = cuts_of (operator_sign c o is); reads = λ f at more. (_, de.OperatorText.one is); behind = ok.1 }
operator_back de.OperatorText.get ok = record {
  kinds = both (one (tk.Sign s.BracketOpen)) (one (tk.Sign s.BracketClose));
  cuts = cuts_then (cuts_of bracket_open) (cuts_of bracket_close);
  reads = λ f at more. (_, de.OperatorText.get);
  behind = ok.1.1;
}
operator_back de.OperatorText.set ok = record {
  kinds = both (one (tk.Sign s.BracketOpen)) (both (one (tk.Sign s.BracketClose)) (one (tk.Sign s.Assign)));
  cuts = cuts_then (cuts_of bracket_open) (cuts_then (cuts_of bracket_close) (cuts_of assign));
  reads = λ f at more. (_, de.OperatorText.set);
  behind = ok.1.1.1;
}

-- ---- the head of a class

pub parent_back : {ts rest : Tokens} {p : Option Name} → Parent ts p rest → ArePossible ts → Back Parent (Cuts (parent_text p)) (λ q. option_map bare_name q ≡ option_map bare_name p) rest
parent_back de.Parent.none ok = record { kinds = nothing; cuts = cuts_none; reads = λ f more. found _ de.Parent.none refl; behind = ok }
parent_back (de.Parent.some {n = n}) ok = record {
  kinds = both (one (tk.Keyword k.Extends)) (one (tk.Name n));
  cuts = cuts_then (cuts_of extends_word) (cuts_of (name_word n ok.1.0));
  reads = λ f more. found _ de.Parent.some refl;
  behind = ok.1.1;
}

comma_name : (ts rest : Tokens) (n : Name) → CommaName ts n rest → ArePossible ts → Back CommaName (Cuts (word (codes ",") ++ name_text n)) (λ m. bare_name m ≡ bare_name n) rest
comma_name _ _ _ (de.CommaName.name {n = n}) ok = record {
  kinds = both (one (tk.Sign s.Comma)) (one (tk.Name n));
  cuts = cuts_then (cuts_of comma) (cuts_of (name_word n ok.1.0));
  reads = λ f more. found _ de.CommaName.name refl;
  behind = ok.1.1;
}

comma_names : {ts rest : Tokens} {ns : List Name} → Many CommaName ts ns rest → ArePossible ts → Back (Many CommaName) (Cuts (commas name_text ns)) (λ ms. map bare_name ms ≡ map bare_name ns) rest
comma_names = many_back CommaName (λ n. word (codes ",") ++ name_text n) (commas name_text) (λ m n. bare_name m ≡ bare_name n) (λ ms ns. map bare_name ms ≡ map bare_name ns)
    cuts_none (λ n ns ks ls a b. cuts_right (word (codes ",")) (name_text n) (commas name_text ns) (cuts_then a b)) refl (λ m n ms ns p q i. p i ∷ q i) comma_name

pub interfaces_back : {ts rest : Tokens} {ns : List Name} → Interfaces ts ns rest → ArePossible ts → Back Interfaces (Cuts (interfaces_text ns)) (λ ms. map bare_name ms ≡ map bare_name ns) rest
interfaces_back de.Interfaces.none ok = record { kinds = nothing; cuts = cuts_none; reads = λ f more. found _ de.Interfaces.none refl; behind = ok }
interfaces_back (de.Interfaces.some {n = n} d) ok =
    let a = comma_names d ok.1.1 in
    record {
      kinds = both (one (tk.Keyword k.Implements)) (both (one (tk.Name n)) a.kinds);
      cuts = cuts_then (cuts_of implements_word) (cuts_then (cuts_of (name_word n ok.1.0)) a.cuts);
      reads = λ f more. let p = a.reads f more in found _ (de.Interfaces.some p.reads) (λ i. named n nowhere ∷ p.same i);
      behind = a.behind;
    }

-- ---- bodies

module _ (I : Reading Sta) (inner : GivesStaBack I) (W : Reading Exp) (whole : GivesBack W) where
  block_back : {ts rest : Tokens} {b : Stas} → Block I W ts b rest → ArePossible ts → Back (Block I W) (Closed (block_text b)) (λ c. bare_stas c ≡ bare_stas b) rest
  block_back (de.Block.block d) ok =
      let a = stas_back I inner d ok.1 in
      record {
        kinds = in_braces a.kinds;
        cuts = braces a.cuts;
        reads = λ f more. let p = a.reads f (put f (one (tk.Sign s.BraceClose)) more) (λ g. none_else _ refl) in found _ (de.Block.block p.reads) p.same;
        behind = a.behind.1;
      }

  pub body_back : {ts rest : Tokens} {b : Body} → BodyText I W ts b rest → ArePossible ts → Back (BodyText I W) (Closed (body_text b)) (λ c. bare_body c ≡ bare_body b) rest
  body_back (de.BodyText.arrow d) ok =
      let a = whole.back d ok.1 in
      record {
        kinds = both (one (tk.Sign s.Arrow)) (both a.kinds (one (tk.Sign s.Semicolon)));
        cuts = closed_then (cuts_of arrow) (closed_then a.cuts semicolon);
        reads = λ f more. let p = a.reads f (put f (one (tk.Sign s.Semicolon)) more) in found _ (de.BodyText.arrow p.reads) (λ i. tree.arrow (p.same i));
        behind = a.behind.1;
      }
  body_back (de.BodyText.code d) ok =
      let a = block_back d ok in
      record { kinds = a.kinds; cuts = a.cuts; reads = λ f more. let p = a.reads f more in found _ (de.BodyText.code p.reads) (λ i. tree.code (p.same i)); behind = a.behind }

  pub some_body_back : {ts rest : Tokens} {b : Option Body} → SomeBody I W ts b rest → ArePossible ts
      → Back (SomeBody I W) (Cuts (some_body_text b)) (λ c. option_map bare_body c ≡ option_map bare_body b) rest
  some_body_back de.SomeBody.none ok = record { kinds = one (tk.Sign s.Semicolon); cuts = cuts_of semicolon; reads = λ f more. found _ de.SomeBody.none refl; behind = ok.1 }
  some_body_back (de.SomeBody.some d) ok =
      let a = body_back d ok in
      record { kinds = a.kinds; cuts = cuts_of a.cuts; reads = λ f more. let p = a.reads f more in found _ (de.SomeBody.some p.reads) (λ i. Some (p.same i)); behind = a.behind }

  some_block_back : {ts rest : Tokens} {b : Option Stas} → SomeBlock I W ts b rest → ArePossible ts
      → Back (SomeBlock I W) (Cuts (some_block_text b)) (λ c. option_map bare_stas c ≡ option_map bare_stas b) rest
  some_block_back de.SomeBlock.none ok = record { kinds = one (tk.Sign s.Semicolon); cuts = cuts_of semicolon; reads = λ f more. found _ de.SomeBlock.none refl; behind = ok.1 }
  some_block_back (de.SomeBlock.some d) ok =
      let a = block_back d ok in
      record { kinds = a.kinds; cuts = cuts_of a.cuts; reads = λ f more. let p = a.reads f more in found _ (de.SomeBlock.some p.reads) (λ i. Some (p.same i)); behind = a.behind }

  -- what a constructor passes on, and its body
  pub record RestFound (xs : Option Passed) (b : Option Stas) (ts rest : Tokens) : Type 0 where
    pub passed : Option Passed
    pub body : Option Stas
    pub reads : Rest I W ts passed body rest
    pub same_passed : option_map bare_passed passed ≡ option_map bare_passed xs
    pub same_body : option_map bare_stas body ≡ option_map bare_stas b

  pub record RestBack (xs : Option Passed) (b : Option Stas) (rest : Tokens) : Type 0 where
    pub kinds : Kinds
    pub cuts : Cuts (passed_text xs ++ some_block_text b) kinds
    pub reads : (f : Tokens → Span) (more : Tokens) → RestFound xs b (put f kinds more) more
    pub behind : ArePossible rest

  pub rest_back : {ts rest : Tokens} {xs : Option Passed} {b : Option Stas} → Rest I W ts xs b rest → ArePossible ts → RestBack xs b rest
  rest_back (de.Rest.plain d) ok =
      let a = some_block_back d ok in
      record {
        kinds = a.kinds;
        cuts = a.cuts;
        reads = λ f more. let p = a.reads f more in record { passed = None; body = p.it; reads = de.Rest.plain p.reads; same_passed = refl; same_body = p.same };
        behind = a.behind;
      }
  rest_back (de.Rest.passes d d1) ok =
      let a = paren_args W whole d ok.1.1.1 in
      let b = some_block_back d1 a.behind in
      record {
        kinds = both (both (one (tk.Sign s.Colon)) (both (one (tk.Keyword k.Super)) (both (one (tk.Sign s.ParenOpen)) a.kinds))) b.kinds;
        cuts = cuts_then (cuts_then (cuts_of colon) (cuts_then (cuts_of super_word) (cuts_then (cuts_of paren_open) a.cuts))) b.cuts;
        reads = λ f more. let q = b.reads f more in let p = a.reads f (put f b.kinds more) in
            record { passed = Some (passing _ (exps p.it)); body = q.it; reads = de.Rest.passes p.reads q.reads; same_passed = λ i. Some (passing nowhere (p.same i)); same_body = q.same };
        behind = b.behind;
      }
