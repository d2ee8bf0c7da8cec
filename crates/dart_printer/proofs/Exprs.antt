-- The texts of expressions by their variants.
use Rattle.std.proofs.Common.{◌≡◌, ℕ, true, false, List, ◌++◌, map, ap, codes, ◌∙◌}
use Rattle.dart_syntax.specs.declared.token.Span.{Span}
use Rattle.dart_syntax.specs.declared.tree.Name.{Name}
use Rattle.dart_syntax.specs.declared.tree.Unary.{Unary}
use Rattle.dart_syntax.specs.declared.tree.Step.{Step}
use Rattle.dart_syntax.specs.declared.tree.Assignment.{Assignment}
use Rattle.dart_syntax.specs.declared.tree.Link.{Link}
use Rattle.dart_syntax.specs.declared.tree.Piece.{Piece}
use Rattle.dart_syntax.specs.declared.tree.Selector.{Selector}
use Rattle.dart_syntax.specs.declared.tree.Expr.{Expr}
use Rattle.dart_syntax.specs.declared.tree.Expr.TheVariants as e
use Rattle.dart_syntax.specs.declared.tree.Expr.TheFolds.{fold_out-Expr}
use Rattle.dart_syntax.specs.Syntax as tree
use Rattle.dart_syntax.specs.Syntax.{Exp, exps, pieces, links, selectors}
use Rattle.dart_syntax.specs.View.{exp, exp_step, selector_step, piece, link, selector}
use Rattle.dart_syntax.specs.Text.{word, exp_text, exps_text, pieces_text, links_text, selectors_text, units_text, closing, step_text, unary_text, assignment_text}

exp_joined : (u : List ℕ) (at : Span) (more : List (Piece Expr)) → exp (e.Joined u at more) ≡ tree.joined u at (pieces (map piece more))
exp_joined u at more = fold_out-Expr Exp tree.Selector exp_step selector_step (e.Joined u at more) ∙ rw (e.outs-Joined u at more)

pub text_joined : (u : List ℕ) (at : Span) (more : List (Piece Expr)) → exp_text (exp (e.Joined u at more)) ≡ word (codes "'" ++ (units_text u ++ closing (pieces (map piece more)))) ++ pieces_text (pieces (map piece more))
text_joined u at more = ap exp_text (exp_joined u at more)

exp_call : (n : Name) (xs : List Expr) → exp (e.Call n xs) ≡ tree.call n (exps (map exp xs))
exp_call n xs = fold_out-Expr Exp tree.Selector exp_step selector_step (e.Call n xs) ∙ rw (e.outs-Call n xs)

pub text_call : (n : Name) (xs : List Expr) → exp_text (exp (e.Call n xs)) ≡ word n.text ++ (word (codes "(") ++ (exps_text (exps (map exp xs)) ++ word (codes ")")))
text_call n xs = ap exp_text (exp_call n xs)

exp_super_get : (at : Span) (n : Name) → exp (e.SuperGet at n) ≡ tree.super_get at n
exp_super_get at n = fold_out-Expr Exp tree.Selector exp_step selector_step (e.SuperGet at n) ∙ rw (e.outs-SuperGet at n)

pub text_super_get : (at : Span) (n : Name) → exp_text (exp (e.SuperGet at n)) ≡ word (codes "super") ++ (word (codes ".") ++ word n.text)
text_super_get at n = ap exp_text (exp_super_get at n)

exp_super_call : (at : Span) (n : Name) (xs : List Expr) → exp (e.SuperCall at n xs) ≡ tree.super_call at n (exps (map exp xs))
exp_super_call at n xs = fold_out-Expr Exp tree.Selector exp_step selector_step (e.SuperCall at n xs) ∙ rw (e.outs-SuperCall at n xs)

pub text_super_call : (at : Span) (n : Name) (xs : List Expr) → exp_text (exp (e.SuperCall at n xs)) ≡ word (codes "super") ++ (word (codes ".") ++ (word n.text ++ (word (codes "(") ++ (exps_text (exps (map exp xs)) ++ word (codes ")")))))
text_super_call at n xs = ap exp_text (exp_super_call at n xs)

exp_paren : (x : Expr) → exp (e.Paren x) ≡ tree.paren (exp x)
exp_paren x = fold_out-Expr Exp tree.Selector exp_step selector_step (e.Paren x) ∙ rw (e.outs-Paren x)

pub text_paren : (x : Expr) → exp_text (exp (e.Paren x)) ≡ word (codes "(") ++ (exp_text (exp x) ++ word (codes ")"))
text_paren x = ap exp_text (exp_paren x)

exp_list : (at : Span) (xs : List Expr) → exp (e.List at xs) ≡ tree.list at (exps (map exp xs))
exp_list at xs = fold_out-Expr Exp tree.Selector exp_step selector_step (e.List at xs) ∙ rw (e.outs-List at xs)

pub text_list : (at : Span) (xs : List Expr) → exp_text (exp (e.List at xs)) ≡ word (codes "[") ++ (exps_text (exps (map exp xs)) ++ word (codes "]"))
text_list at xs = ap exp_text (exp_list at xs)

exp_postfix : (x : Expr) (more : List Selector) → exp (e.Postfix x more) ≡ tree.postfix (exp x) (selectors (map selector more))
exp_postfix x more = fold_out-Expr Exp tree.Selector exp_step selector_step (e.Postfix x more) ∙ rw (e.outs-Postfix x more)

pub text_postfix : (x : Expr) (more : List Selector) → exp_text (exp (e.Postfix x more)) ≡ exp_text (exp x) ++ selectors_text (selectors (map selector more))
text_postfix x more = ap exp_text (exp_postfix x more)

exp_before : (op : Step) (at : Span) (x : Expr) → exp (e.Step true op at x) ≡ tree.step true op at (exp x)
exp_before op at x = fold_out-Expr Exp tree.Selector exp_step selector_step (e.Step true op at x) ∙ rw (e.outs-Step true op at x)

pub text_before : (op : Step) (at : Span) (x : Expr) → exp_text (exp (e.Step true op at x)) ≡ word (step_text op) ++ exp_text (exp x)
text_before op at x = ap exp_text (exp_before op at x)

exp_after : (op : Step) (at : Span) (x : Expr) → exp (e.Step false op at x) ≡ tree.step false op at (exp x)
exp_after op at x = fold_out-Expr Exp tree.Selector exp_step selector_step (e.Step false op at x) ∙ rw (e.outs-Step false op at x)

pub text_after : (op : Step) (at : Span) (x : Expr) → exp_text (exp (e.Step false op at x)) ≡ exp_text (exp x) ++ word (step_text op)
text_after op at x = ap exp_text (exp_after op at x)

exp_unary : (op : Unary) (at : Span) (x : Expr) → exp (e.Unary op at x) ≡ tree.unary op at (exp x)
exp_unary op at x = fold_out-Expr Exp tree.Selector exp_step selector_step (e.Unary op at x) ∙ rw (e.outs-Unary op at x)

pub text_unary : (op : Unary) (at : Span) (x : Expr) → exp_text (exp (e.Unary op at x)) ≡ word (unary_text op) ++ exp_text (exp x)
text_unary op at x = ap exp_text (exp_unary op at x)

exp_chain : (x : Expr) (more : List (Link Expr)) → exp (e.Chain x more) ≡ tree.chain (exp x) (links (map link more))
exp_chain x more = fold_out-Expr Exp tree.Selector exp_step selector_step (e.Chain x more) ∙ rw (e.outs-Chain x more)

pub text_chain : (x : Expr) (more : List (Link Expr)) → exp_text (exp (e.Chain x more)) ≡ exp_text (exp x) ++ links_text (links (map link more))
text_chain x more = ap exp_text (exp_chain x more)

exp_is : (x : Expr) (at : Span) (n : Name) → exp (e.Is x false at n) ≡ tree.is (exp x) false at n
exp_is x at n = fold_out-Expr Exp tree.Selector exp_step selector_step (e.Is x false at n) ∙ rw (e.outs-Is x false at n)

pub text_is : (x : Expr) (at : Span) (n : Name) → exp_text (exp (e.Is x false at n)) ≡ exp_text (exp x) ++ (word (codes "is") ++ word n.text)
text_is x at n = ap exp_text (exp_is x at n)

exp_is_not : (x : Expr) (at : Span) (n : Name) → exp (e.Is x true at n) ≡ tree.is (exp x) true at n
exp_is_not x at n = fold_out-Expr Exp tree.Selector exp_step selector_step (e.Is x true at n) ∙ rw (e.outs-Is x true at n)

pub text_is_not : (x : Expr) (at : Span) (n : Name) → exp_text (exp (e.Is x true at n)) ≡ exp_text (exp x) ++ (word (codes "is") ++ (word (codes "!") ++ word n.text))
text_is_not x at n = ap exp_text (exp_is_not x at n)

exp_cond : (x : Expr) (y : Expr) (z : Expr) → exp (e.Cond x y z) ≡ tree.choice (exp x) (exp y) (exp z)
exp_cond x y z = fold_out-Expr Exp tree.Selector exp_step selector_step (e.Cond x y z) ∙ rw (e.outs-Cond x y z)

pub text_cond : (x : Expr) (y : Expr) (z : Expr) → exp_text (exp (e.Cond x y z)) ≡ exp_text (exp x) ++ (word (codes "?") ++ (exp_text (exp y) ++ (word (codes ":") ++ exp_text (exp z))))
text_cond x y z = ap exp_text (exp_cond x y z)

exp_assign : (x : Expr) (op : Assignment) (at : Span) (y : Expr) → exp (e.Assign x op at y) ≡ tree.assign (exp x) op at (exp y)
exp_assign x op at y = fold_out-Expr Exp tree.Selector exp_step selector_step (e.Assign x op at y) ∙ rw (e.outs-Assign x op at y)

pub text_assign : (x : Expr) (op : Assignment) (at : Span) (y : Expr) → exp_text (exp (e.Assign x op at y)) ≡ exp_text (exp x) ++ (word (assignment_text op) ++ exp_text (exp y))
text_assign x op at y = ap exp_text (exp_assign x op at y)

exp_throw : (at : Span) (x : Expr) → exp (e.Throw at x) ≡ tree.throw at (exp x)
exp_throw at x = fold_out-Expr Exp tree.Selector exp_step selector_step (e.Throw at x) ∙ rw (e.outs-Throw at x)

pub text_throw : (at : Span) (x : Expr) → exp_text (exp (e.Throw at x)) ≡ word (codes "throw") ++ exp_text (exp x)
text_throw at x = ap exp_text (exp_throw at x)
