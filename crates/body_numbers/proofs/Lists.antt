-- Lists that are numbered item by item: what was found so far, and then the rest, is the whole.
use Rattle.std.proofs.Common.{◌≡◌, ℕ, ◌+◌, ◌<◌, ◌≤◌, reverse, List, [], ◌∷◌, ◌++◌, Option, length, map, drop, get_or, refl, sym, ap, ◌∙◌, arith, append_assoc, length-drop}
use Rattle.std.proofs.lemmas.List.{map-append, drop_more, drop_all, reverse-append}
use Rattle.dart_syntax.specs.declared.token.Span.{Span}
use Rattle.dart_syntax.specs.declared.tree.Expr.{Expr}
use Rattle.dart_syntax.specs.declared.tree.Expr.TheVariants as v
use Rattle.dart_syntax.specs.declared.tree.Expr.TheFolds.{fold_out-Expr}
use Rattle.dart_syntax.specs.declared.tree.Piece as tree_piece
use Rattle.dart_syntax.specs.declared.tree.Link as tree_link
use Rattle.dart_syntax.specs.declared.tree.Selector.{Selector}
use Rattle.dart_syntax.specs.declared.tree.Stmt.{Stmt}
use Rattle.dart_syntax.specs.declared.tree.Param.{Param}
use Rattle.dart_syntax.specs.Syntax as t
use Rattle.dart_syntax.specs.Syntax.{Tree, exps, pieces, links, selectors, stas}
use Rattle.dart_syntax.specs.View.{exp, exp_step, selector_step, piece, link, selector, sta, param}
use Rattle.program.specs.declared.body.Expression.{Expression}
use Rattle.program.specs.declared.body.Expression.TheVariants as w
use Rattle.program.specs.declared.body.Piece.{Piece}
use Rattle.program.specs.declared.body.SiteCall.{SiteCall}
use Rattle.program.specs.declared.body.Link.{Link}
use Rattle.program.specs.declared.body.Statement.{Statement}
use Rattle.program.specs.Bodies as c
use Rattle.dart_values.specs.Values.{Text}
use Rattle.dart_meaning.specs.Place.{Place}
use Rattle.dart_meaning.specs.Operators.{joint_of}
use Rattle.dart_meaning.specs.Numbering as num
use Rattle.dart_meaning.specs.Numbering.{param_names, body_name, body_names}
use Rattle.body_numbers.specs.Assigned.{named_last}
use Rattle.body_numbers.specs.Views.{exps_of, piece_of, call_of, link_of, pieces_of, calls_of, links_of}
use Rattle.body_numbers.proofs.Views.{interpolation_is, chain_is}

-- what is left of a list begins with the item here
pub cut : {A : Type 0} (xs : List A) (i : ℕ) (x : A) → i < length xs → x ≡ get_or xs i x → drop i xs ≡ x ∷ drop (i + 1) xs
cut xs i x lt is = drop_more xs i x lt ∙ ap (λ y. y ∷ drop (i + 1) xs) (sym is)

-- these, and then the rest
abbrev pub with_exps : List c.Exp → c.Exps → c.Exps
with_exps [] rest = rest
with_exps (x ∷ xs) rest = c.also x (with_exps xs rest)

abbrev pub with_pieces : List (Piece c.Exp) → c.Pieces → c.Pieces
with_pieces [] rest = rest
with_pieces (p ∷ ps) rest = c.piece p.site.0 p.value p.then (with_pieces ps rest)

abbrev pub with_links : List (Link c.Exp) → c.Links → c.Links
with_links [] rest = rest
with_links (l ∷ ls) rest = c.link l.joint l.operand (with_links ls rest)

abbrev pub with_calls : List (SiteCall c.Exp) → c.Calls → c.Calls
with_calls [] rest = rest
with_calls (k ∷ ks) rest = c.call k.site.0 (c.exps k.arguments) (with_calls ks rest)

abbrev pub with_stas : List c.Sta → c.Stas → c.Stas
with_stas [] rest = rest
with_stas (x ∷ xs) rest = c.next x (with_stas xs rest)

pub all_exps : (xs : List c.Exp) → with_exps xs c.no_more ≡ c.exps xs
all_exps [] = refl
all_exps (x ∷ xs) = ap (c.also x) (all_exps xs)

pub all_pieces : (ps : List (Piece c.Exp)) → with_pieces ps c.no_piece ≡ c.pieces ps
all_pieces [] = refl
all_pieces (p ∷ ps) = ap (c.piece p.site.0 p.value p.then) (all_pieces ps)

pub all_links : (ls : List (Link c.Exp)) → with_links ls c.no_link ≡ c.links ls
all_links [] = refl
all_links (l ∷ ls) = ap (c.link l.joint l.operand) (all_links ls)

pub all_calls : (ks : List (SiteCall c.Exp)) → with_calls ks c.no_call ≡ c.calls ks
all_calls [] = refl
all_calls (k ∷ ks) = ap (c.call k.site.0 (c.exps k.arguments)) (all_calls ks)

pub all_stas : (xs : List c.Sta) → with_stas xs c.end_of ≡ c.stas xs
all_stas [] = refl
all_stas (x ∷ xs) = ap (c.next x) (all_stas xs)

one_exp : (xs : List c.Exp) (x : c.Exp) (rest : c.Exps) → with_exps (xs ++ x ∷ []) rest ≡ with_exps xs (c.also x rest)
one_exp [] x rest = refl
one_exp (y ∷ xs) x rest = ap (c.also y) (one_exp xs x rest)

one_piece : (ps : List (Piece c.Exp)) (p : Piece c.Exp) (rest : c.Pieces) → with_pieces (ps ++ p ∷ []) rest ≡ with_pieces ps (c.piece p.site.0 p.value p.then rest)
one_piece [] p rest = refl
one_piece (q ∷ ps) p rest = ap (c.piece q.site.0 q.value q.then) (one_piece ps p rest)

one_link : (ls : List (Link c.Exp)) (l : Link c.Exp) (rest : c.Links) → with_links (ls ++ l ∷ []) rest ≡ with_links ls (c.link l.joint l.operand rest)
one_link [] l rest = refl
one_link (k ∷ ls) l rest = ap (c.link k.joint k.operand) (one_link ls l rest)

one_call : (ks : List (SiteCall c.Exp)) (k : SiteCall c.Exp) (rest : c.Calls) → with_calls (ks ++ k ∷ []) rest ≡ with_calls ks (c.call k.site.0 (c.exps k.arguments) rest)
one_call [] k rest = refl
one_call (j ∷ ks) k rest = ap (c.call j.site.0 (c.exps j.arguments)) (one_call ks k rest)

one_sta : (xs : List c.Sta) (x : c.Sta) (rest : c.Stas) → with_stas (xs ++ x ∷ []) rest ≡ with_stas xs (c.next x rest)
one_sta [] x rest = refl
one_sta (y ∷ xs) x rest = ap (c.next y) (one_sta xs x rest)

exp_joined : (us : List ℕ) (at : Span) (more : List (tree_piece.Piece Expr)) → exp (v.Joined us at more) ≡ t.joined us at (pieces (map piece more))
exp_joined us at more = fold_out-Expr t.Exp t.Selector exp_step selector_step (v.Joined us at more) ∙ rw (v.outs-Joined us at more)

exp_chain : (x : Expr) (more : List (tree_link.Link Expr)) → exp (v.Chain x more) ≡ t.chain (exp x) (links (map link more))
exp_chain x more = fold_out-Expr t.Exp t.Selector exp_step selector_step (v.Chain x more) ∙ rw (v.outs-Chain x more)

-- a call, in front of others
abbrev in_front : c.Calls → c.Calls → c.Calls
in_front c.no_call rest = rest
in_front (c.call s args more) rest = c.call s args rest

module _ (tree : Tree) (site_of : Place → ℕ) (here : Option Text) where
  abbrev exp_at : List Text → t.Exp → c.Exp
  exp_at = num.exp tree site_of here

  abbrev rest_exps : List Text → List Expr → c.Exps
  rest_exps names xs = num.exps tree site_of here names (exps (map exp xs))

  abbrev rest_pieces : List Text → Span → List (tree_piece.Piece Expr) → c.Pieces
  rest_pieces names at ps = num.pieces tree site_of here names at (pieces (map piece ps))

  abbrev rest_links : List Text → List (tree_link.Link Expr) → c.Links
  rest_links names ls = num.links tree site_of here names (links (map link ls))

  abbrev rest_calls : List Text → List Selector → c.Calls
  rest_calls names ss = num.selected tree site_of here names (selectors (map selector ss))

  abbrev call_at : List Text → t.Selector → c.Calls → c.Calls
  call_at = num.select tree site_of here

  abbrev rest_stas : List Text → List Stmt → c.Stas
  rest_stas names xs = num.stas tree site_of here names (stas (map sta xs))

  pub exps_next : (names : List Text) (all : List Expr) (i : ℕ) (e : Expr) (found : List Expression) (x : Expression) (whole : c.Exps) → drop i all ≡ e ∷ drop (i + 1) all → c.exp x ≡ exp_at names (exp e) →
      with_exps (map c.exp found) (rest_exps names (drop i all)) ≡ whole → with_exps (map c.exp (found ++ x ∷ [])) (rest_exps names (drop (i + 1) all)) ≡ whole
  exps_next names all i e found x whole is one was =
      let rest = rest_exps names (drop (i + 1) all) in
      ap (λ xs. with_exps xs rest) (map-append c.exp found (x ∷ [])) ∙ one_exp (map c.exp found) (c.exp x) rest ∙ ap (λ y. with_exps (map c.exp found) (c.also y rest)) one
      ∙ sym (ap (λ es. with_exps (map c.exp found) (rest_exps names es)) is) ∙ was

  pub pieces_next : (names : List Text) (all : List (tree_piece.Piece Expr)) (i : ℕ) (at : Span) (q : tree_piece.Piece Expr) (found : List (Piece Expression)) (p : Piece Expression) (whole : c.Pieces) → drop i all ≡ q ∷ drop (i + 1) all →
      p.site.0 ≡ num.site tree site_of here at → c.exp p.value ≡ exp_at names (exp q.value) → p.then ≡ q.then →
      with_pieces (map piece_of found) (rest_pieces names at (drop i all)) ≡ whole → with_pieces (map piece_of (found ++ p ∷ [])) (rest_pieces names q.span (drop (i + 1) all)) ≡ whole
  pieces_next names all i at q found p whole is site value then was =
      let rest = rest_pieces names q.span (drop (i + 1) all) in
      let f = map piece_of found in
      ap (λ ps. with_pieces ps rest) (map-append piece_of found (p ∷ [])) ∙ one_piece f (piece_of p) rest
      ∙ ap (λ k. with_pieces f (c.piece k (c.exp p.value) p.then rest)) site ∙ ap (λ y. with_pieces f (c.piece (num.site tree site_of here at) y p.then rest)) value
      ∙ ap (λ us. with_pieces f (c.piece (num.site tree site_of here at) (exp_at names (exp q.value)) us rest)) then
      ∙ sym (ap (λ ps. with_pieces f (rest_pieces names at ps)) is) ∙ was

  pub links_next : (names : List Text) (all : List (tree_link.Link Expr)) (i : ℕ) (k : tree_link.Link Expr) (found : List (Link Expression)) (l : Link Expression) (whole : c.Links) → drop i all ≡ k ∷ drop (i + 1) all →
      l.joint ≡ joint_of k.operator (num.site tree site_of here k.span) → c.exp l.operand ≡ exp_at names (exp k.operand) →
      with_links (map link_of found) (rest_links names (drop i all)) ≡ whole → with_links (map link_of (found ++ l ∷ [])) (rest_links names (drop (i + 1) all)) ≡ whole
  links_next names all i k found l whole is joint operand was =
      let rest = rest_links names (drop (i + 1) all) in
      let f = map link_of found in
      ap (λ ls. with_links ls rest) (map-append link_of found (l ∷ [])) ∙ one_link f (link_of l) rest
      ∙ ap (λ o. with_links f (c.link o (c.exp l.operand) rest)) joint
      ∙ ap (λ x. with_links f (c.link (joint_of k.operator (num.site tree site_of here k.span)) x rest)) operand
      ∙ sym (ap (λ ls. with_links f (rest_links names ls)) is) ∙ was

  front_is : (names : List Text) (s : t.Selector) (rest : c.Calls) → in_front (call_at names s c.no_call) rest ≡ call_at names s rest
  front_is names (t.get x) rest = refl
  front_is names (t.send x args) rest = refl
  front_is names (t.index span i) rest = refl

  -- one more call, and then the rest
  one_select : (names : List Text) (s : t.Selector) (found : List (SiteCall Expression)) (k : SiteCall Expression) (rest : c.Calls) → calls_of (k ∷ []) ≡ call_at names s c.no_call →
      with_calls (map call_of (found ++ k ∷ [])) rest ≡ with_calls (map call_of found) (call_at names s rest)
  one_select names s found k rest one =
      let f = map call_of found in
      ap (λ ks. with_calls ks rest) (map-append call_of found (k ∷ [])) ∙ one_call f (call_of k) rest
      ∙ ap (with_calls f) (ap (λ ks. in_front ks rest) one ∙ front_is names s rest)

  pub calls_next : (names : List Text) (all : List Selector) (i : ℕ) (s : Selector) (found : List (SiteCall Expression)) (k : SiteCall Expression) (whole : c.Calls) → drop i all ≡ s ∷ drop (i + 1) all →
      calls_of (k ∷ []) ≡ call_at names (selector s) c.no_call →
      with_calls (map call_of found) (rest_calls names (drop i all)) ≡ whole → with_calls (map call_of (found ++ k ∷ [])) (rest_calls names (drop (i + 1) all)) ≡ whole
  calls_next names all i s found k whole is one was =
      one_select names (selector s) found k (rest_calls names (drop (i + 1) all)) one
      ∙ sym (ap (λ ss. with_calls (map call_of found) (rest_calls names ss)) is) ∙ was

  pub exps_done : (names : List Text) (all : List Expr) (i : ℕ) (found : List Expression) (whole : c.Exps) → length all ≤ i → with_exps (map c.exp found) (rest_exps names (drop i all)) ≡ whole → c.exps (map c.exp found) ≡ whole
  exps_done names all i found whole le was = sym (all_exps (map c.exp found)) ∙ sym (ap (λ es. with_exps (map c.exp found) (rest_exps names es)) (drop_all i all le)) ∙ was

  pub pieces_done : (names : List Text) (all : List (tree_piece.Piece Expr)) (i : ℕ) (at : Span) (found : List (Piece Expression)) (whole : c.Pieces) → length all ≤ i → with_pieces (map piece_of found) (rest_pieces names at (drop i all)) ≡ whole → c.pieces (map piece_of found) ≡ whole
  pieces_done names all i at found whole le was = sym (all_pieces (map piece_of found)) ∙ sym (ap (λ ps. with_pieces (map piece_of found) (rest_pieces names at ps)) (drop_all i all le)) ∙ was

  pub links_done : (names : List Text) (all : List (tree_link.Link Expr)) (i : ℕ) (found : List (Link Expression)) (whole : c.Links) → length all ≤ i → with_links (map link_of found) (rest_links names (drop i all)) ≡ whole → c.links (map link_of found) ≡ whole
  links_done names all i found whole le was = sym (all_links (map link_of found)) ∙ sym (ap (λ ls. with_links (map link_of found) (rest_links names ls)) (drop_all i all le)) ∙ was

  pub calls_done : (names : List Text) (all : List Selector) (i : ℕ) (found : List (SiteCall Expression)) (whole : c.Calls) → length all ≤ i → with_calls (map call_of found) (rest_calls names (drop i all)) ≡ whole → c.calls (map call_of found) ≡ whole
  calls_done names all i found whole le was = sym (all_calls (map call_of found)) ∙ sym (ap (λ ss. with_calls (map call_of found) (rest_calls names ss)) (drop_all i all le)) ∙ was

  pub stas_done : (names : List Text) (all : List Stmt) (i : ℕ) (found : List Statement) (whole : c.Stas) → length all ≤ i → with_stas (map c.sta found) (rest_stas names (drop i all)) ≡ whole → c.stas (map c.sta found) ≡ whole
  stas_done names all i found whole le was = sym (all_stas (map c.sta found)) ∙ sym (ap (λ xs. with_stas (map c.sta found) (rest_stas names xs)) (drop_all i all le)) ∙ was

  pub stas_next : (now mid next : List Text) (all : List Stmt) (i : ℕ) (x : Stmt) (found : List Statement) (s : Statement) (whole : c.Stas) → drop i all ≡ x ∷ drop (i + 1) all →
      c.sta s ≡ num.sta tree site_of here now (sta x) → mid ≡ now → next ≡ num.after mid (sta x) →
      with_stas (map c.sta found) (rest_stas now (drop i all)) ≡ whole → with_stas (map c.sta (found ++ s ∷ [])) (rest_stas next (drop (i + 1) all)) ≡ whole
  stas_next now mid next all i x found s whole is one same passed was =
      let f = map c.sta found in
      let rest = drop (i + 1) all in
      let names : next ≡ num.after now (sta x) = passed ∙ ap (λ n. num.after n (sta x)) same in
      ap (λ xs. with_stas xs (rest_stas next rest)) (map-append c.sta found (s ∷ [])) ∙ one_sta f (c.sta s) (rest_stas next rest)
      ∙ ap (λ y. with_stas f (c.next y (rest_stas next rest))) one ∙ ap (λ n. with_stas f (c.next (num.sta tree site_of here now (sta x)) (rest_stas n rest))) names
      ∙ sym (ap (λ xs. with_stas f (rest_stas now xs)) is) ∙ was

  -- ---- the selectors of a target

  abbrev last_at : List Text → c.Exp → List Selector → num.Assignable
  last_at names e ss = num.last_of tree site_of here names e (selectors (map selector ss))

  abbrev before_last : List Text → List Selector → c.Calls
  before_last names ss = num.all_but_last tree site_of here names (selectors (map selector ss))

  -- what is left of a target behind these calls
  abbrev pub left : List Text → c.Exp → List (SiteCall c.Exp) → List Selector → num.Assignable
  left names e ks ss = last_at names (c.postfix e (with_calls ks (before_last names ss))) ss

  not_last : (names : List Text) (e : c.Exp) (ks : List (SiteCall c.Exp)) (s : Selector) (ss : List Selector) → 0 < length ss → left names e ks (s ∷ ss) ≡ last_at names (c.postfix e (with_calls ks (call_at names (selector s) (before_last names ss)))) ss
  not_last names e ks s [] lt = absurd (omega arith)
  not_last names e ks s (x ∷ ss) lt = refl

  pub last_next : (names : List Text) (all : List Selector) (i : ℕ) (s : Selector) (e : c.Exp) (found : List (SiteCall Expression)) (k : SiteCall Expression) (whole : num.Assignable) → drop i all ≡ s ∷ drop (i + 1) all → i + 1 < length all →
      calls_of (k ∷ []) ≡ call_at names (selector s) c.no_call →
      left names e (map call_of found) (drop i all) ≡ whole → left names e (map call_of (found ++ k ∷ [])) (drop (i + 1) all) ≡ whole
  last_next names all i s e found k whole is lt one was =
      let rest = drop (i + 1) all in
      let some : 0 < length rest = rw (length-drop (i + 1) all) (omega arith) in
      ap (λ ks. last_at names (c.postfix e ks) rest) (one_select names (selector s) found k (before_last names rest) one)
      ∙ sym (not_last names e (map call_of found) s rest some) ∙ sym (ap (left names e (map call_of found)) is) ∙ was

  pub last_here : (names : List Text) (all : List Selector) (i : ℕ) (s : Selector) (e : c.Exp) (found : List (SiteCall Expression)) (to : c.Exp) (whole : num.Assignable) → drop i all ≡ s ∷ drop (i + 1) all → length all ≤ i + 1 →
      to ≡ c.postfix e (calls_of found) →
      left names e (map call_of found) (drop i all) ≡ whole → num.named_by tree site_of here names to (selector s) ≡ whole
  last_here names all i s e found to whole is le one was =
      let none : drop (i + 1) all ≡ [] = drop_all (i + 1) all le in
      ap (λ x. num.named_by tree site_of here names x (selector s)) (one ∙ ap (c.postfix e) (sym (all_calls (map call_of found))))
      ∙ sym (ap (left names e (map call_of found)) (is ∙ ap (λ ss. s ∷ ss) none)) ∙ was

  pub last_none : (names : List Text) (all : List Selector) (i : ℕ) (e : c.Exp) (ks : List (SiteCall c.Exp)) (whole : num.Assignable) → length all ≤ i → left names e ks (drop i all) ≡ whole → num.no_target tree site_of here ≡ whole
  last_none names all i e ks whole le was = sym (ap (left names e ks) (drop_all i all le)) ∙ was

  -- ---- expressions whose parts hold others

  pub joined_form : (names : List Text) (us vs : List ℕ) (at : Span) (more slice : List (tree_piece.Piece Expr)) (found : List (Piece Expression)) (e : Expr) → e ≡ v.Joined us at more → vs ≡ us → slice ≡ more →
      pieces_of found ≡ rest_pieces names at slice → c.exp (w.Interpolation vs found) ≡ exp_at names (exp e)
  joined_form names us vs at more slice found e is same whole one =
      interpolation_is vs found ∙ ap (λ us. c.interpolation us (pieces_of found)) same ∙ ap (c.interpolation us) (one ∙ ap (rest_pieces names at) whole)
      ∙ sym (ap (λ e. exp_at names (exp e)) is ∙ ap (exp_at names) (exp_joined us at more))

  pub chain_form : (names : List Text) (x y : Expr) (first : Expression) (more slice : List (tree_link.Link Expr)) (found : List (Link Expression)) (e : Expr) → e ≡ v.Chain x more → y ≡ x → slice ≡ more →
      c.exp first ≡ exp_at names (exp y) → links_of found ≡ rest_links names slice → c.exp (w.Chain first found) ≡ exp_at names (exp e)
  chain_form names x y first more slice found e is same whole one ones =
      chain_is first found ∙ ap (λ z. c.chain z (links_of found)) (one ∙ ap (λ z. exp_at names (exp z)) same) ∙ ap (c.chain (exp_at names (exp x))) (ones ∙ ap (rest_links names) whole)
      ∙ sym (ap (λ e. exp_at names (exp e)) is ∙ ap (exp_at names) (exp_chain x more))

-- ---- parameters

pub params_done : (xs : List Param) (i : ℕ) (now whole : List Text) → length xs ≤ i → param_names (map param (drop i xs)) ++ now ≡ whole → now ≡ whole
params_done xs i now whole le was = sym (ap (λ ps. param_names (map param ps) ++ now) (drop_all i xs le)) ∙ was

pub body_names_done : (xs : List Param) (i : ℕ) (now whole : List Text) → length xs ≤ i → body_names (map param (drop i xs)) ++ now ≡ whole → now ≡ whole
body_names_done xs i now whole le was = sym (ap (λ ps. body_names (map param ps) ++ now) (drop_all i xs le)) ∙ was

one_name : (names : List Text) (name : Text) (slots : List Text) → reverse (name ∷ names) ++ slots ≡ reverse names ++ (name ∷ slots)
one_name names name slots = ap (λ ns. ns ++ slots) (reverse-append (name ∷ []) names) ∙ append_assoc (reverse names) (name ∷ []) slots

name_next : (name_of : t.Param → Text) (xs : List Param) (i : ℕ) (x : Param) (now next whole : List Text) → drop i xs ≡ x ∷ drop (i + 1) xs → next ≡ name_of (param x) ∷ now →
    reverse (map name_of (map param (drop i xs))) ++ now ≡ whole → reverse (map name_of (map param (drop (i + 1) xs))) ++ next ≡ whole
name_next name_of xs i x now next whole is opened was =
    let names = map name_of (map param (drop (i + 1) xs)) in
    ap (λ ns. reverse names ++ ns) opened ∙ sym (one_name names (name_of (param x)) now)
    ∙ sym (ap (λ ps. reverse (map name_of (map param ps)) ++ now) is) ∙ was

pub param_next : (xs : List Param) (i : ℕ) (x : Param) (now next whole : List Text) → drop i xs ≡ x ∷ drop (i + 1) xs → next ≡ x.name.text ∷ now → param_names (map param (drop i xs)) ++ now ≡ whole → param_names (map param (drop (i + 1) xs)) ++ next ≡ whole
param_next = name_next (λ (p : t.Param). p.name.text)

pub body_name_next : (xs : List Param) (i : ℕ) (x : Param) (now next whole : List Text) → drop i xs ≡ x ∷ drop (i + 1) xs → next ≡ body_name (param x) ∷ now → body_names (map param (drop i xs)) ++ now ≡ whole → body_names (map param (drop (i + 1) xs)) ++ next ≡ whole
body_name_next = name_next body_name
