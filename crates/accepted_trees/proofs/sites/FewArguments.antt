-- No site passes more arguments than its tree has nodes.
use Rattle.std.proofs.Common.{◌≡◌, ℕ, ◌<◌, ◌≤◌, ◌^◌, Bool, true, false, cond, List, [], ◌∷◌, ◌++◌, flat_map, Option, Some, None, is_some, slice_get, arith}
use Rattle.std.specs.List.{AllByRecursion, list_any}
use Rattle.dart_syntax.specs.declared.token.Span.{Span}
use Rattle.dart_syntax.specs.declared.tree.Name.{Name}
use Rattle.dart_syntax.specs.declared.tree.Unary.{Unary}
use Rattle.dart_syntax.specs.declared.tree.Unary.TheVariants as unary
use Rattle.dart_syntax.specs.Syntax as t
use Rattle.dart_syntax.specs.Syntax.{Exp, Exps, Pieces, Links, Selectors, Selector, First, Sta, Stas, Param, Body, Passed, Member, ClassDecl, Top, Tree}
use Rattle.program.specs.declared.body.BinaryOperator.{BinaryOperator}
use Rattle.dart_meaning.specs.Operators.{operator_of, compound, step_operator}
use Rattle.dart_meaning.specs.Uses as u
use Rattle.dart_meaning.specs.Uses.{Use, Part, Scope, parts}
use Rattle.dart_meaning.specs.Means.{means, is_of_this}
use Rattle.dart_meaning.specs.Sites.{Site, if_of_this, sites_of_use, text_sites}
use Rattle.text_trees.specs.Nodes.{exp_nodes, exps_nodes, pieces_nodes, links_nodes, selectors_nodes, selector_nodes, value_nodes, first_nodes, sta_nodes, stas_nodes, all_nodes, body_nodes, some_body_nodes, some_block_nodes, passed_nodes, member_nodes, class_nodes, top_nodes, tree_nodes}
use Rattle.accepted_trees.proofs.sites.TextSites.{all_at, all_append}

exp_some : (e : Exp) → 1 ≤ exp_nodes e
exp_some (t.null at) = omega arith
exp_some (t.bool b at) = omega arith
exp_some (t.int n at) = omega arith
exp_some (t.min_int at) = omega arith
exp_some (t.this at) = omega arith
exp_some (t.str units at) = omega arith
exp_some (t.joined units at more) = omega arith
exp_some (t.bare n) = omega arith
exp_some (t.call n args) = omega arith
exp_some (t.super_get at n) = omega arith
exp_some (t.super_call at n args) = omega arith
exp_some (t.paren e) = exp_some e
exp_some (t.list at items) = omega arith
exp_some (t.postfix e more) = omega (arith, exp_some e)
exp_some (t.step before op at to) = omega arith
exp_some (t.unary op at e) = omega arith
exp_some (t.chain e more) = omega arith
exp_some (t.is e denied at n) = omega arith
exp_some (t.choice x y z) = omega arith
exp_some (t.assign to op at e) = omega arith
exp_some (t.throw at e) = omega arith

arguments_fit : (es : Exps) → u.count es ≤ exps_nodes es
arguments_fit t.no_more = omega arith
arguments_fit (t.also e more) = omega (arith, exp_some e, arguments_fit more)

module _ (most : ℕ) where
  -- it passes fewer arguments
  abbrev pub Few : Use → Type 0
  Few (u.calls n seen k) = k < most
  Few (u.member_calls n k) = k < most
  Few _ = Unit {0}

  abbrev pub AreFew : List Use → Type 0
  AreFew = AllByRecursion Few

  join : (xs ys : List Use) → AreFew xs → AreFew ys → AreFew (xs ++ ys)
  join xs ys a b = all_append Few xs ys a b

  -- ---- expressions

  prefix_few : (op : Unary) (at : Span) (x : Exp) → AreFew (u.prefix_use op at x)
  prefix_few unary.Not at x = tt
  prefix_few unary.Complement at x = (tt, tt)
  prefix_few unary.Minus at x = (elim (u.is_number x) as (λ b. AreFew (cond b [] (u.prefixes unary.Minus at ∷ []))) [ true ↦ tt | false ↦ (tt, tt) ])

  operator_few : (op : Option BinaryOperator) (at : Span) → AreFew (u.operator_use op at)
  operator_few None at = tt
  operator_few (Some op) at = (tt, tt)

  changes_few : (reads : Bool) (a b : Use) → Few a → Few b → AreFew (u.changes reads a b)
  changes_few false a b x y = (y, tt)
  changes_few true a b x y = (x, (y, tt))

  module _ (scope : Scope) where
    mutual
      exp_few : (e : Exp) → exp_nodes e < most → AreFew (u.exp scope e)
      exp_few (t.null at) h = tt
      exp_few (t.bool b at) h = tt
      exp_few (t.int n at) h = tt
      exp_few (t.min_int at) h = tt
      exp_few (t.this at) h = (tt, tt)
      exp_few (t.str units at) h = tt
      exp_few (t.joined units at more) h = pieces_few at more (omega (arith, h))
      exp_few (t.bare n) h = (tt, tt)
      exp_few (t.call n args) h = (omega (arith, h, arguments_fit args), exps_few args (omega (arith, h)))
      exp_few (t.super_get at n) h = (tt, tt)
      exp_few (t.super_call at n args) h = (tt, exps_few args (omega (arith, h)))
      exp_few (t.paren e) h = exp_few e h
      exp_few (t.list at items) h = exps_few items (omega (arith, h))
      exp_few (t.postfix e more) h = join (u.exp scope e) (u.selectors scope more) (exp_few e (omega (arith, h))) (selectors_few more (omega (arith, h)))
      exp_few (t.step before op at to) h = join (u.target scope true to) (u.operates (step_operator op) at ∷ []) (target_few true to (omega (arith, h))) (tt, tt)
      exp_few (t.unary op at e) h = join (u.prefix_use op at e) (u.exp scope e) (prefix_few op at e) (exp_few e (omega (arith, h)))
      exp_few (t.chain e more) h = join (u.exp scope e) (u.links scope more) (exp_few e (omega (arith, h))) (links_few more (omega (arith, h)))
      exp_few (t.is e denied at n) h = join (u.exp scope e) (u.names_class n ∷ []) (exp_few e (omega (arith, h))) (tt, tt)
      exp_few (t.choice x y z) h =
          join (u.exp scope x) (u.exp scope y ++ u.exp scope z) (exp_few x (omega (arith, h))) (join (u.exp scope y) (u.exp scope z) (exp_few y (omega (arith, h))) (exp_few z (omega (arith, h))))
      exp_few (t.assign to op at e) h =
          join (u.target scope (is_some (compound op)) to) (u.operator_use (compound op) at ++ u.exp scope e) (target_few (is_some (compound op)) to (omega (arith, h)))
          (join (u.operator_use (compound op) at) (u.exp scope e) (operator_few (compound op) at) (exp_few e (omega (arith, h))))
      exp_few (t.throw at e) h = exp_few e (omega (arith, h))

      exps_few : (es : Exps) → exps_nodes es < most → AreFew (u.exps scope es)
      exps_few t.no_more h = tt
      exps_few (t.also e more) h = join (u.exp scope e) (u.exps scope more) (exp_few e (omega (arith, h))) (exps_few more (omega (arith, h)))

      pieces_few : (at : Span) (more : Pieces) → pieces_nodes more < most → AreFew (u.pieces scope at more)
      pieces_few at t.no_piece h = tt
      pieces_few at (t.piece e units next more) h = (tt, join (u.exp scope e) (u.pieces scope next more) (exp_few e (omega (arith, h))) (pieces_few next more (omega (arith, h))))

      links_few : (more : Links) → links_nodes more < most → AreFew (u.links scope more)
      links_few t.no_link h = tt
      links_few (t.link op at e more) h =
          join (u.operator_use (operator_of op) at) (u.exp scope e ++ u.links scope more) (operator_few (operator_of op) at) (join (u.exp scope e) (u.links scope more) (exp_few e (omega (arith, h))) (links_few more (omega (arith, h))))

      selector_few : (s : Selector) → selector_nodes s < most → AreFew (u.selector scope s)
      selector_few (t.get n) h = (tt, tt)
      selector_few (t.send n args) h = (omega (arith, h, arguments_fit args), exps_few args (omega (arith, h)))
      selector_few (t.index at e) h = (tt, exp_few e (omega (arith, h)))

      selectors_few : (more : Selectors) → selectors_nodes more < most → AreFew (u.selectors scope more)
      selectors_few t.no_selector h = tt
      selectors_few (t.select s more) h = join (u.selector scope s) (u.selectors scope more) (selector_few s (omega (arith, h))) (selectors_few more (omega (arith, h)))

      changed_few : (reads : Bool) (s : Selector) → selector_nodes s < most → AreFew (u.changed scope reads s)
      changed_few reads (t.get n) h = changes_few reads (u.member_reads n) (u.member_writes n) tt tt
      changed_few reads (t.send n args) h = tt
      changed_few reads (t.index at e) h = join (u.exp scope e) (u.changes reads (u.index_reads at) (u.index_writes at)) (exp_few e (omega (arith, h))) (changes_few reads (u.index_reads at) (u.index_writes at) tt tt)

      up_to_few : (reads : Bool) (more : Selectors) → selectors_nodes more < most → AreFew (u.up_to_changed scope reads more)
      up_to_few reads t.no_selector h = tt
      up_to_few reads (t.select s more) h =
          let front = join (u.selector scope s) (u.up_to_changed scope reads more) (selector_few s (omega (arith, h))) (up_to_few reads more (omega (arith, h))) in
          let last = changed_few reads s (omega (arith, h)) in
          (elim (u.has_more more) as (λ b. AreFew (cond b (u.selector scope s ++ u.up_to_changed scope reads more) (u.changed scope reads s))) [ true ↦ front | false ↦ last ])

      target_few : (reads : Bool) (e : Exp) → exp_nodes e < most → AreFew (u.target scope reads e)
      target_few reads (t.bare n) h = changes_few reads (u.reads n (scope n.text)) (u.writes n (scope n.text)) tt tt
      target_few reads (t.super_get at n) h = changes_few reads (u.super_reads at n) (u.super_writes at n) tt tt
      target_few reads (t.postfix e more) h = join (u.exp scope e) (u.up_to_changed scope reads more) (exp_few e (omega (arith, h))) (up_to_few reads more (omega (arith, h)))
      target_few reads _ h = tt

    if_few : (e : Option Exp) → value_nodes e < most → AreFew (u.exp_if scope e)
    if_few None h = tt
    if_few (Some e) h = exp_few e h

  -- ---- statements

  declared_few : (scope : Scope) (names : List Name) → AreFew (u.declared_uses scope names)
  declared_few scope [] = tt
  declared_few scope (n ∷ more) = (tt, declared_few scope more)

  first_few : (scope : Scope) (x : First) → first_nodes x < most → AreFew (u.first_uses scope x)
  first_few scope t.nothing h = tt
  first_few scope (t.local_first l) h = (tt, if_few _ l.value h)
  first_few scope (t.run_first e) h = exp_few scope e h

  branch : (loops : Bool) (scope : Scope) (x : Sta) → AreFew (u.sta loops (u.opened (u.declared x) scope) x) → AreFew (u.declared_uses scope (u.declared x) ++ u.sta loops (u.opened (u.declared x) scope) x)
  branch loops scope x h = join (u.declared_uses scope (u.declared x)) (u.sta loops (u.opened (u.declared x) scope) x) (declared_few scope (u.declared x)) h

  block : (loops : Bool) (scope : Scope) (all : Stas) → AreFew (u.stas loops (u.opened (u.locals all) scope) all) → AreFew (u.declared_uses scope (u.locals all) ++ u.stas loops (u.opened (u.locals all) scope) all)
  block loops scope all h = join (u.declared_uses scope (u.locals all)) (u.stas loops (u.opened (u.locals all) scope) all) (declared_few scope (u.locals all)) h

  mutual
    sta_few : (loops : Bool) (scope : Scope) (x : Sta) → sta_nodes x < most → AreFew (u.sta loops scope x)
    sta_few loops scope (t.block all) h = block loops scope all (stas_few loops (u.opened (u.locals all) scope) all (omega (arith, h)))
    sta_few loops scope (t.local l) h = if_few scope l.value (omega (arith, h))
    sta_few loops scope (t.run e) h = exp_few scope e (omega (arith, h))
    sta_few loops scope t.empty h = tt
    sta_few loops scope (t.when c x) h = join (u.exp scope c) _ (exp_few scope c (omega (arith, h))) (branch loops scope x (sta_few loops (u.opened (u.declared x) scope) x (omega (arith, h))))
    sta_few loops scope (t.when_else c x y) h =
        join (u.exp scope c) _ (exp_few scope c (omega (arith, h)))
        (join (u.declared_uses scope (u.declared x)) _ (declared_few scope (u.declared x))
        (join (u.sta loops (u.opened (u.declared x) scope) x) _ (sta_few loops (u.opened (u.declared x) scope) x (omega (arith, h)))
        (branch loops scope y (sta_few loops (u.opened (u.declared y) scope) y (omega (arith, h))))))
    sta_few loops scope (t.while c x) h = join (u.exp scope c) _ (exp_few scope c (omega (arith, h))) (branch true scope x (sta_few true (u.opened (u.declared x) scope) x (omega (arith, h))))
    sta_few loops scope (t.do_while x c) h =
        join (u.declared_uses scope (u.declared x)) _ (declared_few scope (u.declared x))
        (join (u.sta true (u.opened (u.declared x) scope) x) (u.exp scope c) (sta_few true (u.opened (u.declared x) scope) x (omega (arith, h))) (exp_few scope c (omega (arith, h))))
    sta_few loops scope (t.for start c last x) h =
        join (u.first_uses scope start) _ (first_few scope start (omega (arith, h)))
        (join (u.exp_if (u.after_first start scope) c) _ (if_few (u.after_first start scope) c (omega (arith, h)))
        (join (u.exps (u.after_first start scope) last) _ (exps_few (u.after_first start scope) last (omega (arith, h)))
        (branch true (u.after_first start scope) x (sta_few true (u.opened (u.declared x) (u.after_first start scope)) x (omega (arith, h))))))
    sta_few loops scope (t.break at) h = (tt, tt)
    sta_few loops scope (t.continue at) h = (tt, tt)
    sta_few loops scope (t.return at None) h = tt
    sta_few loops scope (t.return at (Some e)) h = (tt, exp_few scope e (omega (arith, h)))

    stas_few : (loops : Bool) (scope : Scope) (all : Stas) → stas_nodes all < most → AreFew (u.stas loops scope all)
    stas_few loops scope t.done h = tt
    stas_few loops scope (t.next x more) h =
        join (u.sta loops scope x) (u.stas loops (u.after x scope) more) (sta_few loops scope x (omega (arith, h))) (stas_few loops (u.after x scope) more (omega (arith, h)))

  body_few : (scope : Scope) (b : Body) → body_nodes b < most → AreFew (u.body_uses scope b)
  body_few scope (t.arrow e) h = exp_few scope e h
  body_few scope (t.code all) h = block false scope all (stas_few false (u.opened (u.locals all) scope) all h)

  -- ---- parts

  abbrev pub FewOf : Part → Type 0
  FewOf part = AreFew part.uses

  abbrev pub AllFew : List Part → Type 0
  AllFew = AllByRecursion FewOf

  member_few : (c : ClassDecl) (params : List Param) (b : Option Body) → some_body_nodes b < most → AllFew (u.member_part c params b)
  member_few c params None h = tt
  member_few c params (Some b) h = (body_few _ b h, tt)

  passed_few : (c : ClassDecl) (params : List Param) (p : Option Passed) → passed_nodes p < most → AreFew (u.passed_uses c params p)
  passed_few c params None h = (tt, tt)
  passed_few c params (Some p) h = (tt, exps_few _ p.args h)

  fields_few : (params : List Param) → AreFew (u.field_uses params)
  fields_few [] = tt
  fields_few (p ∷ more) =
      let rest = fields_few more in
      (elim p.is_field as (λ b. AreFew (cond b (u.sets_field p.name ∷ u.field_uses more) (u.field_uses more))) [ true ↦ (tt, rest) | false ↦ rest ])

  some_block_few : (scope : Scope) (all : Option Stas) → some_block_nodes all < most → AreFew (u.some_block_uses scope all)
  some_block_few scope None h = tt
  some_block_few scope (Some all) h = block false scope all (stas_few false (u.opened (u.locals all) scope) all h)

  constructor_few : (c : ClassDecl) (params : List Param) (p : Option Passed) (b : Option Stas) → passed_nodes p < most → some_block_nodes b < most → AllFew (u.constructor_parts c params p b)
  constructor_few c params p b h k = (passed_few c params p h, (join (u.field_uses params) _ (fields_few params) (some_block_few _ b k), tt))

  each_few : (c : ClassDecl) (m : Member) → member_nodes m < most → AllFew (u.member_parts c m)
  each_few c (t.field l) h = tt
  each_few c (t.method n params b) h = member_few c params b (omega (arith, h))
  each_few c (t.getter n b) h = member_few c [] b h
  each_few c (t.setter n param b) h = member_few c (param ∷ []) b (omega (arith, h))
  each_few c (t.operator op at params b) h = member_few c params b (omega (arith, h))
  each_few c (t.constructor n params passed b) h = constructor_few c params passed b (omega (arith, h)) (omega (arith, h))

  members_few : (c : ClassDecl) (all : List Member) → all_nodes member_nodes all < most → AllFew (flat_map (u.member_parts c) all)
  members_few c [] h = tt
  members_few c (m ∷ more) h = all_append FewOf (u.member_parts c m) (flat_map (u.member_parts c) more) (each_few c m (omega (arith, h))) (members_few c more (omega (arith, h)))

  class_few : (c : ClassDecl) → class_nodes c < most → AllFew (u.class_parts c)
  class_few c h =
      let members = members_few c c.members h in
      let plain = constructor_few c [] None None (omega (arith, h)) (omega (arith, h)) in
      (elim (list_any u.is_constructor c.members) as (λ b. AllFew (cond b (flat_map (u.member_parts c) c.members) (u.constructor_parts c [] None None ++ flat_map (u.member_parts c) c.members))) [
        | true ↦ members
        | false ↦ all_append FewOf (u.constructor_parts c [] None None) (flat_map (u.member_parts c) c.members) plain members
      ])

  top_few : (x : Top) → top_nodes x < most → AllFew (u.top_parts x)
  top_few (t.a_class c) h = class_few c h
  top_few (t.a_function f) h = (body_few _ f.body (omega (arith, h)), tt)
  top_few (t.a_variable v) h = tt

  tops_few : (all : List Top) → all_nodes top_nodes all < most → AllFew (flat_map u.top_parts all)
  tops_few [] h = tt
  tops_few (x ∷ more) h = all_append FewOf (u.top_parts x) (flat_map u.top_parts more) (top_few x (omega (arith, h))) (tops_few more (omega (arith, h)))

  -- ---- sites

  abbrev pub Passes : Site → Type 0
  Passes s = s.selector.count < most

  passes_if : (b : Bool) (s : Site) → Passes s → AllByRecursion Passes (if_of_this b s)
  passes_if true s h = (h, tt)
  passes_if false s h = tt

  use_passes : 2 < most → (tree : Tree) (part : Part) (one : Use) → Few one → AllByRecursion Passes (sites_of_use tree part one)
  use_passes two tree part (u.reads n seen) h = passes_if (is_of_this (means tree part n seen)) _ (omega (arith, two))
  use_passes two tree part (u.writes n seen) h = passes_if (is_of_this (means tree part n seen)) _ (omega (arith, two))
  use_passes two tree part (u.calls n seen k) h = passes_if (is_of_this (means tree part n seen)) _ h
  use_passes two tree part (u.member_reads n) h = (omega (arith, two), tt)
  use_passes two tree part (u.member_writes n) h = (omega (arith, two), tt)
  use_passes two tree part (u.member_calls n k) h = (h, tt)
  use_passes two tree part (u.index_reads at) h = (omega (arith, two), tt)
  use_passes two tree part (u.index_writes at) h = (omega (arith, two), tt)
  use_passes two tree part (u.operates op at) h = (omega (arith, two), tt)
  use_passes two tree part (u.prefixes op at) h = (omega (arith, two), tt)
  use_passes two tree part (u.shows at) h = (omega (arith, two), tt)
  use_passes two tree part _ h = tt

  uses_pass : 2 < most → (tree : Tree) (part : Part) (all : List Use) → AreFew all → AllByRecursion Passes (flat_map (sites_of_use tree part) all)
  uses_pass two tree part [] h = tt
  uses_pass two tree part (x ∷ more) h = all_append Passes (sites_of_use tree part x) (flat_map (sites_of_use tree part) more) (use_passes two tree part x h.0) (uses_pass two tree part more h.1)

  parts_pass : 2 < most → (tree : Tree) (all : List Part) → AllFew all → AllByRecursion Passes (flat_map (λ part. flat_map (sites_of_use tree part) part.uses) all)
  parts_pass two tree [] h = tt
  parts_pass two tree (x ∷ more) h =
      all_append Passes (flat_map (sites_of_use tree x) x.uses) (flat_map (λ part. flat_map (sites_of_use tree part) part.uses) more) (uses_pass two tree x x.uses h.0) (parts_pass two tree more h.1)

  pub sites_pass : 2 < most → (tree : Tree) → tree_nodes tree < most → AllByRecursion Passes (text_sites tree)
  unfolding text_sites
  sites_pass two tree h = parts_pass two tree (parts tree) (tops_few tree.tops h)

-- In a tree that is small enough the numbers of arguments are small.
pub few_arguments : (tree : Tree) → tree_nodes tree < 2 ^ 25 → (i : ℕ) (s : Site) → slice_get (text_sites tree) i ≡ Some s → s.selector.count < 2 ^ 32
few_arguments tree h i s e = all_at (Passes (2 ^ 32)) (text_sites tree) (sites_pass (2 ^ 32) (omega arith) tree (omega (arith, h))) i s e
