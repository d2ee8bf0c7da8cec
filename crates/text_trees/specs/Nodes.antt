-- A size of trees: no numbered form of a tree has more nodes.
use Rattle.std.specs.Prelude.{ℕ, suc, ◌+◌, List, [], ◌∷◌, length, Option, None, Some}
use Rattle.dart_syntax.specs.Syntax as t
use Rattle.dart_syntax.specs.Syntax.{Exp, Exps, Pieces, Links, Selectors, Selector, First, Sta, Stas, Body, Passed, Member, ClassDecl, Function, Top, Tree}

-- A name may mean a member of `this`, and is two nodes then.
abbrev mutual
  pub exp_nodes : Exp → ℕ
  exp_nodes (t.null at) = 1
  exp_nodes (t.bool b at) = 1
  exp_nodes (t.int n at) = 1
  exp_nodes (t.min_int at) = 1
  exp_nodes (t.this at) = 1
  exp_nodes (t.str units at) = 1
  exp_nodes (t.joined units at more) = suc (pieces_nodes more)
  exp_nodes (t.bare n) = 2
  exp_nodes (t.call n args) = suc (suc (exps_nodes args))
  exp_nodes (t.super_get at n) = 1
  exp_nodes (t.super_call at n args) = suc (exps_nodes args)
  exp_nodes (t.paren e) = exp_nodes e
  exp_nodes (t.list at items) = suc (exps_nodes items)
  exp_nodes (t.postfix e more) = exp_nodes e + selectors_nodes more
  exp_nodes (t.step before op at to) = suc (exp_nodes to)
  exp_nodes (t.unary op at e) = suc (exp_nodes e)
  exp_nodes (t.chain e more) = suc (exp_nodes e + links_nodes more)
  exp_nodes (t.is e denied at n) = suc (exp_nodes e)
  exp_nodes (t.choice x y z) = suc (exp_nodes x + exp_nodes y + exp_nodes z)
  exp_nodes (t.assign to op at e) = suc (exp_nodes to + exp_nodes e)
  exp_nodes (t.throw at e) = suc (exp_nodes e)

  pub exps_nodes : Exps → ℕ
  exps_nodes t.no_more = 0
  exps_nodes (t.also e more) = exp_nodes e + exps_nodes more

  pub pieces_nodes : Pieces → ℕ
  pieces_nodes t.no_piece = 0
  pieces_nodes (t.piece e units at more) = exp_nodes e + pieces_nodes more

  pub links_nodes : Links → ℕ
  links_nodes t.no_link = 0
  links_nodes (t.link op at e more) = exp_nodes e + links_nodes more

  pub selectors_nodes : Selectors → ℕ
  selectors_nodes t.no_selector = 0
  selectors_nodes (t.select s more) = selector_nodes s + selectors_nodes more

  pub selector_nodes : Selector → ℕ
  selector_nodes (t.get n) = 1
  selector_nodes (t.send n args) = suc (exps_nodes args)
  selector_nodes (t.index at e) = suc (exp_nodes e)

-- Where a value is not written, a constant stands for it.
abbrev pub value_nodes : Option Exp → ℕ
value_nodes None = 1
value_nodes (Some e) = exp_nodes e

abbrev pub first_nodes : First → ℕ
first_nodes t.nothing = 0
first_nodes (t.local_first l) = value_nodes l.value
first_nodes (t.run_first e) = exp_nodes e

abbrev mutual
  pub sta_nodes : Sta → ℕ
  sta_nodes (t.block all) = suc (stas_nodes all)
  sta_nodes (t.local l) = suc (value_nodes l.value)
  sta_nodes (t.run e) = suc (exp_nodes e)
  sta_nodes t.empty = 1
  sta_nodes (t.when e x) = suc (exp_nodes e + sta_nodes x)
  sta_nodes (t.when_else e x y) = suc (exp_nodes e + sta_nodes x + sta_nodes y)
  sta_nodes (t.while e x) = suc (exp_nodes e + sta_nodes x)
  sta_nodes (t.do_while x e) = suc (sta_nodes x + exp_nodes e)
  sta_nodes (t.for start e last x) = suc (first_nodes start + value_nodes e + exps_nodes last + sta_nodes x)
  sta_nodes (t.break at) = 1
  sta_nodes (t.continue at) = 1
  sta_nodes (t.return at e) = suc (value_nodes e)

  pub stas_nodes : Stas → ℕ
  stas_nodes t.done = 0
  stas_nodes (t.next x more) = sta_nodes x + stas_nodes more

-- ---- declarations

-- the nodes of all items of a list
abbrev pub all_nodes : {A : Type 0} → (A → ℕ) → List A → ℕ
all_nodes nodes [] = 0
all_nodes nodes (x ∷ more) = nodes x + all_nodes nodes more

abbrev pub body_nodes : Body → ℕ
body_nodes (t.arrow e) = exp_nodes e
body_nodes (t.code all) = stas_nodes all

abbrev pub some_body_nodes : Option Body → ℕ
some_body_nodes None = 0
some_body_nodes (Some b) = body_nodes b

abbrev pub some_block_nodes : Option Stas → ℕ
some_block_nodes None = 0
some_block_nodes (Some all) = stas_nodes all

-- what a constructor passes to its superclass
abbrev pub passed_nodes : Option Passed → ℕ
passed_nodes None = 0
passed_nodes (Some p) = exps_nodes p.args

-- A parameter is a node; a field has a setter with one.
abbrev pub member_nodes : Member → ℕ
member_nodes (t.field l) = 1
member_nodes (t.method n params b) = length params + some_body_nodes b
member_nodes (t.getter n b) = some_body_nodes b
member_nodes (t.setter n param b) = suc (some_body_nodes b)
member_nodes (t.operator op at params b) = length params + some_body_nodes b
member_nodes (t.constructor n params passed b) = length params + passed_nodes passed + some_block_nodes b

abbrev pub class_nodes : ClassDecl → ℕ
class_nodes c = all_nodes member_nodes c.members

abbrev pub function_nodes : Function → ℕ
function_nodes f = length f.params + body_nodes f.body

abbrev pub top_nodes : Top → ℕ
top_nodes (t.a_class c) = class_nodes c
top_nodes (t.a_function f) = function_nodes f
top_nodes (t.a_variable v) = 1

-- the nodes of a whole tree
abbrev pub tree_nodes : Tree → ℕ
tree_nodes tree = all_nodes top_nodes tree.tops
