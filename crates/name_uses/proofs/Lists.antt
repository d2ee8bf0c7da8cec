-- Lists of a tree and of src/.
use Rattle.std.proofs.Common.{◌≡◌, ◌<◌, ◌≤◌, ◌+◌, ℕ, Bool, List, [], ◌∷◌, ◌++◌, Some, suc, length, map, drop, get_or, ap, sym, ◌∙◌, refl, arith, append_assoc, append-nil, length-drop}
use Rattle.std.proofs.lemmas.List.{drop_more, drop_all}
use Rattle.dart_syntax.specs.declared.token.Span.{Span}
use Rattle.dart_syntax.specs.declared.tree.Expr.{Expr}
use Rattle.dart_syntax.specs.declared.tree.Expr.TheVariants as e
use Rattle.dart_syntax.specs.declared.tree.Expr.TheFolds.{fold_out-Expr}
use Rattle.dart_syntax.specs.declared.tree.Link.{Link}
use Rattle.dart_syntax.specs.declared.tree.Piece.{Piece}
use Rattle.dart_syntax.specs.declared.tree.Selector.{Selector}
use Rattle.dart_syntax.specs.Syntax as tree
use Rattle.dart_syntax.specs.Syntax.{Exp, exps, pieces, links, selectors}
use Rattle.dart_syntax.specs.View.{exp, exp_step, selector_step, piece, link, selector}
use Rattle.dart_meaning.specs.Uses as u
use Rattle.dart_meaning.specs.Uses.{Scope, Use, count}

-- a tree has as many arguments as src/ holds
pub count_exps : (xs : List Expr) → count (exps (map exp xs)) ≡ length xs
count_exps [] = refl
count_exps (x ∷ xs) = ap (λ n. suc n) (count_exps xs)

exp_joined : (us : List ℕ) (at : Span) (more : List (Piece Expr)) → exp (e.Joined us at more) ≡ tree.joined us at (pieces (map piece more))
exp_joined us at more = fold_out-Expr Exp tree.Selector exp_step selector_step (e.Joined us at more) ∙ rw (e.outs-Joined us at more)

pub uses_joined : (m : Scope) (us : List ℕ) (at : Span) (more : List (Piece Expr)) → u.exp m (exp (e.Joined us at more)) ≡ u.pieces m at (pieces (map piece more))
uses_joined m us at more = ap (u.exp m) (exp_joined us at more)

exp_chain : (x : Expr) (more : List (Link Expr)) → exp (e.Chain x more) ≡ tree.chain (exp x) (links (map link more))
exp_chain x more = fold_out-Expr Exp tree.Selector exp_step selector_step (e.Chain x more) ∙ rw (e.outs-Chain x more)

pub uses_chain : (m : Scope) (x : Expr) (more : List (Link Expr)) → u.exp m (exp (e.Chain x more)) ≡ u.exp m (exp x) ++ u.links m (links (map link more))
uses_chain m x more = ap (u.exp m) (exp_chain x more)

-- what a constructor passes to its superclass
pub uses_passed : (c : tree.ClassDecl) (ps : List tree.Param) (at : Span) (args : List Expr) (m : Scope) (k : ℕ) (out mid new : List Use) → k ≡ length args → m ≡ u.with_passed ps u.nothing_seen → mid ≡ out ++ u.enters_super at k ∷ [] → new ≡ mid ++ u.exps m (exps (map exp args)) → new ≡ out ++ u.passed_uses c ps (Some (tree.passing at (exps (map exp args))))
uses_passed c ps at args m k out mid new count_is m_is pushed more =
    more ∙ ap (λ o. o ++ u.exps m (exps (map exp args))) pushed ∙ append_assoc out (u.enters_super at k ∷ []) (u.exps m (exps (map exp args)))
    ∙ ap (λ n. out ++ u.enters_super at n ∷ u.exps m (exps (map exp args))) (count_is ∙ sym (count_exps args))
    ∙ ap (λ s. out ++ u.enters_super at (count (exps (map exp args))) ∷ u.exps s (exps (map exp args))) m_is

-- what is left of a list begins with the element here
pub cut : {A : Type 0} (xs : List A) (i : ℕ) (x : A) → i < length xs → x ≡ get_or xs i x → drop i xs ≡ x ∷ drop (i + 1) xs
cut xs i x lt is = drop_more xs i x lt ∙ ap (λ y. y ∷ drop (i + 1) xs) (sym is)

-- ---- the selectors of a target

module _ (m : Scope) (reads_too : Bool) where
  abbrev left : List Selector → List Use
  left xs = u.up_to_changed m reads_too (selectors (map selector xs))

  not_last : (x : Selector) (ys : List Selector) → 0 < length ys → left (x ∷ ys) ≡ u.selector m (selector x) ++ left ys
  not_last x [] lt = absurd (omega arith)
  not_last x (y ∷ ys) lt = refl

  pub one_more : (xs : List Selector) (i : ℕ) (x : Selector) (out next whole : List Use) → drop i xs ≡ x ∷ drop (i + 1) xs → i + 1 < length xs → next ≡ out ++ u.selector m (selector x) → out ++ left (drop i xs) ≡ whole → next ++ left (drop (i + 1) xs) ≡ whole
  one_more xs i x out next whole is lt grown was =
      let rest = drop (i + 1) xs in
      let some : 0 < length rest = rw (length-drop (i + 1) xs) (omega arith) in
      ap (λ o. o ++ left rest) grown ∙ append_assoc out (u.selector m (selector x)) (left rest)
      ∙ sym (ap (λ ys. out ++ left ys) is ∙ ap (λ o. out ++ o) (not_last x rest some)) ∙ was

  pub the_last : (xs : List Selector) (i : ℕ) (x : Selector) (out next whole : List Use) → drop i xs ≡ x ∷ drop (i + 1) xs → length xs ≤ i + 1 → next ≡ out ++ u.changed m reads_too (selector x) → out ++ left (drop i xs) ≡ whole → next ++ left (drop (i + 1) xs) ≡ whole
  the_last xs i x out next whole is le grown was =
      let none : drop (i + 1) xs ≡ [] = drop_all (i + 1) xs le in
      ap (λ ys. next ++ left ys) none ∙ append-nil next ∙ grown ∙ sym (ap (λ ys. out ++ left ys) (is ∙ ap (λ ys. x ∷ ys) none)) ∙ was
