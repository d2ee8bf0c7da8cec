-- What the view of a list says of the list.
use Rattle.std.proofs.Common.{◌≡◌, suc, ◌-◌, Bool, true, false, List, [], ◌∷◌, length, map, slice_get, Option, Some, None, refl, sym, ◌∙◌, option_map, arith}
use Rattle.dart_syntax.specs.declared.tree.Expr.{Expr}
use Rattle.dart_syntax.specs.declared.tree.Expr.TheVariants as e
use Rattle.dart_syntax.specs.declared.tree.Expr.TheFolds.{fold_out-Expr}
use Rattle.dart_syntax.specs.declared.tree.Link.{Link}
use Rattle.dart_syntax.specs.declared.tree.Selector.{Selector}
use Rattle.dart_syntax.specs.Syntax as tree
use Rattle.dart_syntax.specs.Syntax.{Exp}
use Rattle.dart_syntax.specs.View.{link, selector, selector_step, exp, exp_step}
use Rattle.dart_syntax.specs.Grammar.{written, last_is_written}
use Rattle.dart_expr.specs.Input.{Parser}
use Rattle.dart_expr.specs.Model.{with_links, with_selectors}

exp_chain : (x : Expr) (xs : List (Link Expr)) → exp (e.Chain x xs) ≡ tree.chain (exp x) (tree.links (map link xs))
exp_chain x xs = fold_out-Expr Exp tree.Selector exp_step selector_step (e.Chain x xs) ∙ rw (e.outs-Chain x xs)

pub some_links : (x : Expr) (xs : List (Link Expr)) → (xs ≡ [] → false ≡ true) → with_links (exp x) (map link xs) ≡ exp (e.Chain x xs)
some_links x [] h = let f = h refl in cc
some_links x (y ∷ ys) h = sym (exp_chain x (y ∷ ys))

abbrev pub some_written : Option tree.Selector → Bool
some_written None = false
some_written (Some x) = written x

pub last_written : (xs : List Selector) → last_is_written (tree.selectors (map selector xs)) ≡ some_written (option_map selector (slice_get xs (length xs - 1)))
last_written [] = refl
last_written (x ∷ []) = refl
last_written (x ∷ y ∷ ys) = let e : length (x ∷ y ∷ ys) - 1 ≡ suc (length (y ∷ ys) - 1) = omega arith in rw e (last_written (y ∷ ys))

exp_postfix : (x : Expr) (xs : List Selector) → exp (e.Postfix x xs) ≡ tree.postfix (exp x) (tree.selectors (map selector xs))
exp_postfix x xs = fold_out-Expr Exp tree.Selector exp_step selector_step (e.Postfix x xs) ∙ rw (e.outs-Postfix x xs)

pub some_selectors : (w : Parser Exp) (x : Expr) (xs : List Selector) → (xs ≡ [] → false ≡ true) → with_selectors w (exp x) (map selector xs) ≡ exp (e.Postfix x xs)
some_selectors w x [] h = let f = h refl in cc
some_selectors w x (y ∷ ys) h = sym (exp_postfix x (y ∷ ys))
