-- Trees without their places: each span is 0..0.
use Rattle.std.specs.Prelude.{List, map, option_map}
use Rattle.dart_syntax.specs.declared.token.Span.{Span}
use Rattle.dart_syntax.specs.declared.tree.Name.{Name}
use Rattle.dart_syntax.specs.Operators.{named}
use Rattle.dart_syntax.specs.Syntax as tree
use Rattle.dart_syntax.specs.Syntax.{Exp, Exps, Pieces, Links, Selectors, Selector, Local, First, Sta, Stas, Param, Body, Member, Passed, passing, Function, ClassDecl, Top, Tree, a_local, function_of, class_of, tree_of}

-- the one place that is left
abbrev pub nowhere : Span
nowhere = record { start = 0; end = 0 }

abbrev pub bare_name : Name → Name
bare_name n = named n.text nowhere

-- ---- expressions

abbrev mutual
  pub bare_exp : Exp → Exp
  bare_exp (tree.null at) = tree.null nowhere
  bare_exp (tree.bool b at) = tree.bool b nowhere
  bare_exp (tree.int n at) = tree.int n nowhere
  bare_exp (tree.min_int at) = tree.min_int nowhere
  bare_exp (tree.this at) = tree.this nowhere
  bare_exp (tree.str units at) = tree.str units nowhere
  bare_exp (tree.joined units at more) = tree.joined units nowhere (bare_pieces more)
  bare_exp (tree.bare name) = tree.bare (bare_name name)
  bare_exp (tree.call name args) = tree.call (bare_name name) (bare_exps args)
  bare_exp (tree.super_get at name) = tree.super_get nowhere (bare_name name)
  bare_exp (tree.super_call at name args) = tree.super_call nowhere (bare_name name) (bare_exps args)
  bare_exp (tree.paren x) = tree.paren (bare_exp x)
  bare_exp (tree.list at items) = tree.list nowhere (bare_exps items)
  bare_exp (tree.postfix x more) = tree.postfix (bare_exp x) (bare_selectors more)
  bare_exp (tree.step before op at x) = tree.step before op nowhere (bare_exp x)
  bare_exp (tree.unary op at x) = tree.unary op nowhere (bare_exp x)
  bare_exp (tree.chain x more) = tree.chain (bare_exp x) (bare_links more)
  bare_exp (tree.is x negated at name) = tree.is (bare_exp x) negated nowhere (bare_name name)
  bare_exp (tree.choice x y z) = tree.choice (bare_exp x) (bare_exp y) (bare_exp z)
  bare_exp (tree.assign x op at y) = tree.assign (bare_exp x) op nowhere (bare_exp y)
  bare_exp (tree.throw at x) = tree.throw nowhere (bare_exp x)

  pub bare_exps : Exps → Exps
  bare_exps tree.no_more = tree.no_more
  bare_exps (tree.also x more) = tree.also (bare_exp x) (bare_exps more)

  pub bare_pieces : Pieces → Pieces
  bare_pieces tree.no_piece = tree.no_piece
  bare_pieces (tree.piece x units at more) = tree.piece (bare_exp x) units nowhere (bare_pieces more)

  pub bare_links : Links → Links
  bare_links tree.no_link = tree.no_link
  bare_links (tree.link op at x more) = tree.link op nowhere (bare_exp x) (bare_links more)

  pub bare_selectors : Selectors → Selectors
  bare_selectors tree.no_selector = tree.no_selector
  bare_selectors (tree.select x more) = tree.select (bare_selector x) (bare_selectors more)

  pub bare_selector : Selector → Selector
  bare_selector (tree.get name) = tree.get (bare_name name)
  bare_selector (tree.send name args) = tree.send (bare_name name) (bare_exps args)
  bare_selector (tree.index at x) = tree.index nowhere (bare_exp x)

-- ---- statements

abbrev pub bare_local : Local → Local
bare_local l = a_local l.is_final (bare_name l.name) (option_map bare_exp l.value)

abbrev pub bare_first : First → First
bare_first tree.nothing = tree.nothing
bare_first (tree.local_first l) = tree.local_first (bare_local l)
bare_first (tree.run_first x) = tree.run_first (bare_exp x)

abbrev mutual
  pub bare_sta : Sta → Sta
  bare_sta (tree.block all) = tree.block (bare_stas all)
  bare_sta (tree.local l) = tree.local (bare_local l)
  bare_sta (tree.run x) = tree.run (bare_exp x)
  bare_sta tree.empty = tree.empty
  bare_sta (tree.when x y) = tree.when (bare_exp x) (bare_sta y)
  bare_sta (tree.when_else x y z) = tree.when_else (bare_exp x) (bare_sta y) (bare_sta z)
  bare_sta (tree.while x y) = tree.while (bare_exp x) (bare_sta y)
  bare_sta (tree.do_while y x) = tree.do_while (bare_sta y) (bare_exp x)
  bare_sta (tree.for f x ys z) = tree.for (bare_first f) (option_map bare_exp x) (bare_exps ys) (bare_sta z)
  bare_sta (tree.break at) = tree.break nowhere
  bare_sta (tree.continue at) = tree.continue nowhere
  bare_sta (tree.return at x) = tree.return nowhere (option_map bare_exp x)

  pub bare_stas : Stas → Stas
  bare_stas tree.done = tree.done
  bare_stas (tree.next x more) = tree.next (bare_sta x) (bare_stas more)

-- ---- declarations

abbrev pub bare_param : Param → Param
bare_param p = record { name = bare_name p.name; is_final = p.is_final; is_field = p.is_field; optional = p.optional; default = option_map bare_exp p.default }

abbrev pub bare_params : List Param → List Param
bare_params = map bare_param

abbrev pub bare_body : Body → Body
bare_body (tree.arrow x) = tree.arrow (bare_exp x)
bare_body (tree.code all) = tree.code (bare_stas all)

abbrev pub bare_passed : Passed → Passed
bare_passed p = passing nowhere (bare_exps p.args)

abbrev pub bare_member : Member → Member
bare_member (tree.field l) = tree.field (bare_local l)
bare_member (tree.method name ps b) = tree.method (bare_name name) (bare_params ps) (option_map bare_body b)
bare_member (tree.getter name b) = tree.getter (bare_name name) (option_map bare_body b)
bare_member (tree.setter name p b) = tree.setter (bare_name name) (bare_param p) (option_map bare_body b)
bare_member (tree.operator op at ps b) = tree.operator op nowhere (bare_params ps) (option_map bare_body b)
bare_member (tree.constructor name ps args b) = tree.constructor (bare_name name) (bare_params ps) (option_map bare_passed args) (option_map bare_stas b)

abbrev pub bare_class : ClassDecl → ClassDecl
bare_class c = class_of c.is_abstract (bare_name c.name) (option_map bare_name c.parent) (map bare_name c.interfaces) (map bare_member c.members)

abbrev pub bare_function : Function → Function
bare_function f = function_of f.is_entry (bare_name f.name) (bare_params f.params) (bare_body f.body)

abbrev pub bare_top : Top → Top
bare_top (tree.a_class c) = tree.a_class (bare_class c)
bare_top (tree.a_function f) = tree.a_function (bare_function f)
bare_top (tree.a_variable l) = tree.a_variable (bare_local l)

-- the tree with each span 0..0
abbrev pub without_spans : Tree → Tree
without_spans t = tree_of (map bare_top t.tops)
