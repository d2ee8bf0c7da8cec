-- No numbered form of a part of a tree has more nodes than the part.
use Rattle.std.proofs.Common.{ℕ, suc, ◌+◌, ◌≤◌, true, List, Option, Some, None, codes, arith}
use Rattle.std.specs.Str.{bytes_eq}
use Rattle.dart_syntax.specs.declared.token.Span.{Span}
use Rattle.dart_syntax.specs.declared.tree.Name.{Name}
use Rattle.dart_syntax.specs.declared.tree.Unary.{Unary}
use Rattle.dart_syntax.specs.declared.tree.Unary.TheVariants as unary
use Rattle.dart_syntax.specs.Bytes.{Text}
use Rattle.dart_syntax.specs.Syntax as t
use Rattle.dart_syntax.specs.Syntax.{Tree, Param}
use Rattle.program.specs.declared.literal.Literal.{Literal}
use Rattle.program.specs.declared.literal.Literal.TheVariants as l
use Rattle.program.specs.declared.body.BinaryOperator.{BinaryOperator}
use Rattle.program.specs.Bodies as c
use Rattle.program.specs.Sizes.{exp_size, exps_size, pieces_size, calls_size, links_size, target_size, update_size, first_size, sta_size, stas_size}
use Rattle.dart_meaning.specs.Place.{Place}
use Rattle.dart_meaning.specs.Classes.{class_declares, is_constructed}
use Rattle.dart_meaning.specs.Literals.{negated}
use Rattle.dart_meaning.specs.Operators.{compound}
use Rattle.dart_meaning.specs.Meaning.{Owner, of_body, of_this, of_unit}
use Rattle.dart_meaning.specs.Numbering as num
use Rattle.dart_meaning.specs.Numbering.{Assignable}
use Rattle.text_trees.specs.Nodes.{exp_nodes, exps_nodes, pieces_nodes, links_nodes, selectors_nodes, selector_nodes, value_nodes, first_nodes, sta_nodes, stas_nodes}
use Rattle.text_trees.proofs.Weights.{split}

-- the expressions of what is assigned to
abbrev assignable_size : Assignable → ℕ
assignable_size (num.a_local k) = 0
assignable_size (num.a_global k) = 0
assignable_size (num.a_super name) = 0
assignable_size (num.a_member e span) = exp_size e
assignable_size (num.an_element e i span) = exp_size e + exp_size i

printed_size : (args : c.Exps) → exp_size (num.printed args) ≤ suc (exps_size args)
printed_size c.no_more = omega arith
printed_size (c.also e more) = omega arith

module _ (tree : Tree) (site_of : Place → ℕ) (here : Option Text) where
  bare_size : (names : List Text) (what : Owner) (x : Name) → exp_size (num.bare tree site_of here names what x) ≤ 2
  bare_size names of_body x = omega arith
  bare_size names of_unit x = omega arith
  bare_size names of_this x = omega arith

  bare_assignable_size : (names : List Text) (what : Owner) (x : Name) → assignable_size (num.bare_assignable tree site_of here names what x) ≤ 2
  bare_assignable_size names of_body x = omega arith
  bare_assignable_size names of_unit x = omega arith
  bare_assignable_size names of_this x = omega arith

  target_fits : (to : Assignable) → target_size (num.target_of tree site_of here to) ≤ assignable_size to
  target_fits (num.a_local k) = omega arith
  target_fits (num.a_global k) = omega arith
  target_fits (num.a_super name) = omega arith
  target_fits (num.a_member e span) = omega arith
  target_fits (num.an_element e i span) = omega arith

  update_fits : (to : Assignable) → update_size (num.update_of tree site_of here to) ≤ assignable_size to
  update_fits (num.a_local k) = omega arith
  update_fits (num.a_global k) = omega arith
  update_fits (num.a_super name) = omega arith
  update_fits (num.a_member e span) = omega arith
  update_fits (num.an_element e i span) = omega arith

  assigned_size : (op : Option BinaryOperator) (span : Span) (to : Assignable) (e : c.Exp) → exp_size (num.assigned tree site_of here op span to e) ≤ suc (assignable_size to + exp_size e)
  assigned_size None span to e = omega (arith, target_fits to)
  assigned_size (Some op) span to e = omega (arith, update_fits to)

  prefixed_size : (op : Unary) (span : Span) (e : c.Exp) → exp_size (num.prefixed tree site_of here op span e) ≤ suc (exp_size e)
  prefixed_size unary.Minus span e = omega arith
  prefixed_size unary.Complement span e = omega arith
  prefixed_size unary.Not span e = omega arith

  unary_size : (k : Option Literal) (e : c.Exp) (n : ℕ) → exp_size e ≤ suc n → exp_size (num.unary tree site_of here k e) ≤ suc n
  unary_size None e n h = h
  unary_size (Some k) e n h = omega arith

  call_unit_size : (x : Name) (args : c.Exps) (f : Option ℕ) → exp_size (num.call_unit tree site_of here x args f) ≤ suc (suc (exps_size args))
  call_unit_size x args (Some f) = omega arith
  call_unit_size x args None = split (is_constructed tree x.text)
      (λ e. rw e (omega arith))
      (λ e. split (bytes_eq x.text (codes "print"))
      (λ f. rw (e, f) (omega (arith, printed_size args)))
      (λ f. rw (e, f) (omega arith)))

  call_size : (x : Name) (args : c.Exps) → exp_size (num.call tree site_of here x args) ≤ suc (suc (exps_size args))
  call_size x args = split (class_declares tree here x.text)
      (λ e. rw e (omega arith))
      (λ e. rw e (call_unit_size x args (num.function_number tree x.text)))

  mutual
    pub exp_fits : (names : List Text) (e : t.Exp) → exp_size (num.exp tree site_of here names e) ≤ exp_nodes e
    exp_fits names (t.null span) = omega arith
    exp_fits names (t.bool x span) = omega arith
    exp_fits names (t.int n span) = omega arith
    exp_fits names (t.min_int span) = omega arith
    exp_fits names (t.this span) = omega arith
    exp_fits names (t.str units span) = omega arith
    exp_fits names (t.joined units span more) = omega (arith, pieces_fit names span more)
    exp_fits names (t.bare x) = bare_size names (num.owner tree site_of here names x.text) x
    exp_fits names (t.call x args) = omega (arith, call_size x (num.exps tree site_of here names args), exps_fit names args)
    exp_fits names (t.super_get span x) = omega arith
    exp_fits names (t.super_call span x args) = omega (arith, exps_fit names args)
    exp_fits names (t.paren e) = exp_fits names e
    exp_fits names (t.list span items) = omega (arith, exps_fit names items)
    exp_fits names (t.postfix e more) = omega (arith, exp_fits names e, selected_fits names more)
    exp_fits names (t.step is_before op span to) = omega (arith, assignable_fits names to, update_fits (num.assignable tree site_of here names to))
    exp_fits names (t.unary op span e) =
        let x = num.exp tree site_of here names e in
        unary_size (negated op e) (num.prefixed tree site_of here op span x) (exp_nodes e) (omega (arith, prefixed_size op span x, exp_fits names e))
    exp_fits names (t.chain e more) = omega (arith, exp_fits names e, links_fit names more)
    exp_fits names (t.is e denied span x) = omega (arith, exp_fits names e)
    exp_fits names (t.choice x y z) = omega (arith, exp_fits names x, exp_fits names y, exp_fits names z)
    exp_fits names (t.assign to op span e) =
        omega (arith, assigned_size (compound op) span (num.assignable tree site_of here names to) (num.exp tree site_of here names e), assignable_fits names to, exp_fits names e)
    exp_fits names (t.throw span e) = omega (arith, exp_fits names e)

    pub exps_fit : (names : List Text) (es : t.Exps) → exps_size (num.exps tree site_of here names es) ≤ exps_nodes es
    exps_fit names t.no_more = omega arith
    exps_fit names (t.also e more) = omega (arith, exp_fits names e, exps_fit names more)

    pub pieces_fit : (names : List Text) (span : Span) (more : t.Pieces) → pieces_size (num.pieces tree site_of here names span more) ≤ pieces_nodes more
    pieces_fit names span t.no_piece = omega arith
    pieces_fit names span (t.piece e after next more) = omega (arith, exp_fits names e, pieces_fit names next more)

    pub links_fit : (names : List Text) (more : t.Links) → links_size (num.links tree site_of here names more) ≤ links_nodes more
    links_fit names t.no_link = omega arith
    links_fit names (t.link op span e more) = omega (arith, exp_fits names e, links_fit names more)

    pub selected_fits : (names : List Text) (more : t.Selectors) → calls_size (num.selected tree site_of here names more) ≤ selectors_nodes more
    selected_fits names t.no_selector = omega arith
    selected_fits names (t.select s more) = omega (arith, select_fits names s (num.selected tree site_of here names more), selected_fits names more)

    pub select_fits : (names : List Text) (s : t.Selector) (more : c.Calls) → calls_size (num.select tree site_of here names s more) ≤ selector_nodes s + calls_size more
    select_fits names (t.get x) more = omega arith
    select_fits names (t.send x args) more = omega (arith, exps_fit names args)
    select_fits names (t.index span i) more = omega (arith, exp_fits names i)

    pub assignable_fits : (names : List Text) (e : t.Exp) → assignable_size (num.assignable tree site_of here names e) ≤ exp_nodes e
    assignable_fits names (t.bare x) = bare_assignable_size names (num.owner tree site_of here names x.text) x
    assignable_fits names (t.super_get span x) = omega arith
    assignable_fits names (t.postfix e more) =
        omega (arith, exp_fits names e, last_fits names (c.postfix (num.exp tree site_of here names e) (num.all_but_last tree site_of here names more)) more)
    assignable_fits names _ = omega arith

    -- a receiver with all selectors but the last, and what the last one names
    pub last_fits : (names : List Text) (e : c.Exp) (more : t.Selectors)
        → assignable_size (num.last_of tree site_of here names e more) + calls_size (num.all_but_last tree site_of here names more) ≤ exp_size e + selectors_nodes more
    last_fits names e t.no_selector = omega arith
    last_fits names e (t.select s t.no_selector) = omega (arith, named_fits names e s)
    last_fits names e (t.select s (t.select x more)) =
        omega (arith, select_fits names s (num.all_but_last tree site_of here names (t.select x more)), last_fits names e (t.select x more))

    pub named_fits : (names : List Text) (e : c.Exp) (s : t.Selector) → assignable_size (num.named_by tree site_of here names e s) ≤ exp_size e + selector_nodes s
    named_fits names e (t.get x) = omega arith
    named_fits names e (t.send x args) = omega arith
    named_fits names e (t.index span i) = omega (arith, exp_fits names i)

  pub value_fits : (names : List Text) (other : Literal) (v : Option t.Exp) → exp_size (num.exp_or tree site_of here names other v) ≤ value_nodes v
  value_fits names other None = omega arith
  value_fits names other (Some e) = exp_fits names e

  pub first_fits : (names : List Text) (f : t.First) → first_size (num.first tree site_of here names f) ≤ first_nodes f
  first_fits names t.nothing = omega arith
  first_fits names (t.local_first x) = value_fits names _ x.value
  first_fits names (t.run_first e) = exp_fits names e

  mutual
    pub sta_fits : (names : List Text) (x : t.Sta) → sta_size (num.sta tree site_of here names x) ≤ sta_nodes x
    sta_fits names (t.block all) = omega (arith, stas_fit names all)
    sta_fits names (t.local x) = omega (arith, value_fits names l.Null x.value)
    sta_fits names (t.run e) = omega (arith, exp_fits names e)
    sta_fits names t.empty = omega arith
    sta_fits names (t.when e x) = omega (arith, exp_fits names e, sta_fits names x)
    sta_fits names (t.when_else e x y) = omega (arith, exp_fits names e, sta_fits names x, sta_fits names y)
    sta_fits names (t.while e x) = omega (arith, exp_fits names e, sta_fits names x)
    sta_fits names (t.do_while x e) = omega (arith, exp_fits names e, sta_fits names x)
    sta_fits names (t.for start e last x) =
        let inner = num.after_first names start in
        omega (arith, first_fits names start, value_fits inner (l.Bool true) e, exps_fit inner last, sta_fits inner x)
    sta_fits names (t.break span) = omega arith
    sta_fits names (t.continue span) = omega arith
    sta_fits names (t.return span e) = omega (arith, value_fits names l.Null e)

    pub stas_fit : (names : List Text) (xs : t.Stas) → stas_size (num.stas tree site_of here names xs) ≤ stas_nodes xs
    stas_fit names t.done = omega arith
    stas_fit names (t.next x more) = omega (arith, sta_fits names x, stas_fit (num.after names x) more)
