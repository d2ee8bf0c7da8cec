-- The tree that a value of src/ holds.
use Rattle.std.specs.Prelude.{List, Option, Some, None, map, option_map}
use Rattle.dart_syntax.specs.declared.tree.Expr.{Expr}
use Rattle.dart_syntax.specs.declared.tree.Expr.TheOpen.{Expr-F, Selector-F}
use Rattle.dart_syntax.specs.declared.tree.Expr.TheFolds.{fold-Expr, fold-Selector}
use Rattle.dart_syntax.specs.declared.tree.Piece.{Piece}
use Rattle.dart_syntax.specs.declared.tree.Link.{Link}
use Rattle.dart_syntax.specs.declared.tree.Selector.{Selector}
use Rattle.dart_syntax.specs.declared.tree.Local.{Local}
use Rattle.dart_syntax.specs.declared.tree.First.{First}
use Rattle.dart_syntax.specs.declared.tree.First.TheVariants as first
use Rattle.dart_syntax.specs.declared.tree.Stmt.{Stmt}
use Rattle.dart_syntax.specs.declared.tree.Stmt.TheOpen.{Stmt-F}
use Rattle.dart_syntax.specs.declared.tree.Stmt.TheFolds.{fold-Stmt}
use Rattle.dart_syntax.specs.declared.tree.Param.{Param}
use Rattle.dart_syntax.specs.declared.tree.Body.{Body}
use Rattle.dart_syntax.specs.declared.tree.Body.TheVariants as body_
use Rattle.dart_syntax.specs.declared.tree.Function.{Function}
use Rattle.dart_syntax.specs.declared.tree.Passed.{Passed}
use Rattle.dart_syntax.specs.declared.tree.Member.{Member}
use Rattle.dart_syntax.specs.declared.tree.Member.TheVariants as member_
use Rattle.dart_syntax.specs.declared.tree.ClassDecl.{ClassDecl}
use Rattle.dart_syntax.specs.declared.tree.Top.{Top}
use Rattle.dart_syntax.specs.declared.tree.Top.TheVariants as top_
use Rattle.dart_syntax.specs.declared.tree.Tree.{Tree}
use Rattle.dart_syntax.specs.Syntax as tree
use Rattle.dart_syntax.specs.Syntax.{Exp, Sta, Exps, Stas, exps, pieces, links, selectors, stas, a_piece, a_link}

-- one selector, where the expressions in it are read already
abbrev pub selector_step : Selector-F Exp tree.Selector → tree.Selector
selector_step (Selector-F.Member name) = tree.get name
selector_step (Selector-F.Invoke name args) = tree.send name (exps args)
selector_step (Selector-F.Index span e) = tree.index span e

-- one expression, where those inside it are read already; `Cond` is `c ? a : b`
abbrev pub exp_step : Expr-F Exp tree.Selector → Exp
exp_step (Expr-F.Null span) = tree.null span
exp_step (Expr-F.Bool b span) = tree.bool b span
exp_step (Expr-F.Int n span) = tree.int n span
exp_step (Expr-F.MinInt span) = tree.min_int span
exp_step (Expr-F.This span) = tree.this span
exp_step (Expr-F.Str units span) = tree.str units span
exp_step (Expr-F.Joined units span more) = tree.joined units span (pieces more)
exp_step (Expr-F.Name name) = tree.bare name
exp_step (Expr-F.Call name args) = tree.call name (exps args)
exp_step (Expr-F.SuperGet span name) = tree.super_get span name
exp_step (Expr-F.SuperCall span name args) = tree.super_call span name (exps args)
exp_step (Expr-F.Paren e) = tree.paren e
exp_step (Expr-F.List span items) = tree.list span (exps items)
exp_step (Expr-F.Postfix e more) = tree.postfix e (selectors more)
exp_step (Expr-F.Step before op span e) = tree.step before op span e
exp_step (Expr-F.Unary op span e) = tree.unary op span e
exp_step (Expr-F.Chain e more) = tree.chain e (links more)
exp_step (Expr-F.Is e negated span name) = tree.is e negated span name
exp_step (Expr-F.Cond c a b) = tree.choice c a b
exp_step (Expr-F.Assign to op span e) = tree.assign to op span e
exp_step (Expr-F.Throw span e) = tree.throw span e

-- the expression that an `Expr` of src/ stands for
abbrev pub exp : Expr → Exp
exp = fold-Expr Exp tree.Selector exp_step selector_step

-- the selector that one of src/ stands for
abbrev pub selector : Selector → tree.Selector
selector = fold-Selector Exp tree.Selector exp_step selector_step

abbrev pub link : Link Expr → Link Exp
link l = a_link l.operator l.span (exp l.operand)

abbrev pub piece : Piece Expr → Piece Exp
piece p = a_piece (exp p.value) p.then p.span

abbrev pub local : Local → tree.Local
local l = tree.a_local l.is_final l.name (option_map exp l.value)

abbrev pub first_part : First → tree.First
first_part first.Nothing = tree.nothing
first_part (first.Local l) = tree.local_first (local l)
first_part (first.Run e) = tree.run_first (exp e)

-- an `if`, with an `else` or without
abbrev pub branch : Exp → Sta → Option Sta → Sta
branch c a None = tree.when c a
branch c a (Some b) = tree.when_else c a b

-- one statement, where those inside it are read already
abbrev pub sta_step : Stmt-F Sta → Sta
sta_step (Stmt-F.Block all) = tree.block (stas all)
sta_step (Stmt-F.Local l) = tree.local (local l)
sta_step (Stmt-F.Run e) = tree.run (exp e)
sta_step Stmt-F.Empty = tree.empty
sta_step (Stmt-F.If c a b) = branch (exp c) a b
sta_step (Stmt-F.While c s) = tree.while (exp c) s
sta_step (Stmt-F.Do s c) = tree.do_while s (exp c)
sta_step (Stmt-F.For start c last s) = tree.for (first_part start) (option_map exp c) (exps (map exp last)) s
sta_step (Stmt-F.Break span) = tree.break span
sta_step (Stmt-F.Continue span) = tree.continue span
sta_step (Stmt-F.Return span e) = tree.return span (option_map exp e)

-- the statement that a `Stmt` of src/ stands for
abbrev pub sta : Stmt → Sta
sta = fold-Stmt Sta sta_step

-- ---- declarations

-- the arguments that a constructor passes on
abbrev pub all_exps : List Expr → Exps
all_exps xs = exps (map exp xs)

abbrev pub all_stas : List Stmt → Stas
all_stas xs = stas (map sta xs)

abbrev pub param : Param → tree.Param
param p = record { name = p.name; is_final = p.is_final; is_field = p.is_field; optional = p.optional; default = option_map exp p.default }

abbrev pub body : Body → tree.Body
body (body_.Arrow x) = tree.arrow (exp x)
body (body_.Block xs) = tree.code (all_stas xs)

abbrev pub function : Function → tree.Function
function f = tree.function_of f.is_entry f.name (map param f.params) (body f.body)

abbrev pub passed : Passed → tree.Passed
passed p = tree.passing p.span (all_exps p.args)

abbrev pub member : Member → tree.Member
member (member_.Field l) = tree.field (local l)
member (member_.Method n ps b) = tree.method n (map param ps) (option_map body b)
member (member_.Getter n b) = tree.getter n (option_map body b)
member (member_.Setter n p b) = tree.setter n (param p) (option_map body b)
member (member_.Operator op at ps b) = tree.operator op at (map param ps) (option_map body b)
member (member_.Constructor n ps xs b) = tree.constructor n (map param ps) (option_map passed xs) (option_map all_stas b)

abbrev pub class : ClassDecl → tree.ClassDecl
class c = tree.class_of c.is_abstract c.name c.parent c.interfaces (map member c.members)

abbrev pub top : Top → tree.Top
top (top_.Class c) = tree.a_class (class c)
top (top_.Function f) = tree.a_function (function f)
top (top_.Variable v) = tree.a_variable (local v)

-- the tree that the parser's answer stands for
abbrev pub unit : Tree → tree.Tree
unit t = tree.tree_of (map top t.tops)
