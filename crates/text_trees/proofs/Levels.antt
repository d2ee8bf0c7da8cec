-- Operators, and whole expressions within their levels.
use Rattle.std.proofs.Common.{ℕ, zero, suc, ◌+◌, true, List, [], ◌∷◌, ◌++◌, length, is_some, arith}
use Rattle.dart_syntax.specs.declared.tree.Link.{Link}
use Rattle.dart_syntax.specs.Syntax.{Exp, links}
use Rattle.dart_syntax.specs.Words.{Tokens}
use Rattle.dart_syntax.specs.Operators.{named}
use Rattle.dart_syntax.specs.Grammar.{Reading, Many, Unary, Under, Links, Level, Chain, Cond, Expression, ExprWithin, UnderWithin}
use Rattle.dart_syntax.specs.Grammar as gr
use Rattle.dart_meaning.specs.Operators.{operator_of, compound, step_operator}
use Rattle.dart_meaning.specs.Uses as u
use Rattle.dart_meaning.specs.Uses.{Scope}
use Rattle.dart_printer.specs.ReadsBack.{ArePossible}
use Rattle.text_trees.specs.Nodes.{links_nodes}
use Rattle.text_trees.specs.Written.{AreWrittenLinks}
use Rattle.text_trees.proofs.Weights.{Weight, join, prefix_weight, operator_weight, Fine}
use Rattle.text_trees.proofs.Expressions.{w, FineExp, AreFine, postfix_fine}

module _ (p : Weight) where
  module _ (W O : Reading Exp) (whole : AreFine p W) (operand : AreFine p O) where
    unary_fine : {ts rest : Tokens} {x : Exp} → Unary W O ts x rest → ArePossible ts → FineExp p x ts rest
    unary_fine (gr.Unary.signed {op = op} {at = at} {x = x} is may d) ok =
        let a = operand.fine d ok.1 in
        record {
          weight = λ scope. omega (arith, a.weight scope, prefix_weight p op at x, join p (u.prefix_use op at x) (u.exp scope x));
          size = omega (arith, a.size);
          is = a.is;
          behind = a.behind;
        }
    unary_fine (gr.Unary.before {op = op} {at = at} {x = x} is d target) ok =
        let a = postfix_fine p W whole d ok.1 in
        record {
          weight = λ scope. omega (arith, a.target true scope, join p (u.target scope true x) (u.operates (step_operator op) at ∷ []));
          size = omega (arith, a.plain.size);
          is = a.is target;
          behind = a.plain.behind;
        }
    unary_fine (gr.Unary.after {op = op} {at = at} {x = x} is d target) ok =
        let a = postfix_fine p W whole d ok in
        record {
          weight = λ scope. omega (arith, a.target true scope, join p (u.target scope true x) (u.operates (step_operator op) at ∷ []));
          size = omega (arith, a.plain.size);
          is = a.is target;
          behind = a.plain.behind.1;
        }
    unary_fine (gr.Unary.postfix d) ok = (postfix_fine p W whole d ok).plain

    under_fine : {ts rest : Tokens} {x : Exp} → Under W O ts x rest → ArePossible ts → FineExp p x ts rest
    under_fine gr.Under.least ok = record { weight = λ scope. omega arith; size = omega arith; is = tt; behind = ok.1 }
    under_fine (gr.Under.plain d) ok = unary_fine d ok

  module _ (n : ℕ) (R : Reading Exp) (r : AreFine p R) where
    -- each link has a token of its own
    many_links : {ts rest : Tokens} {xs : List (Link Exp)} → Many (Links n R) ts xs rest → ArePossible ts
        → Fine p (λ (scope : Scope). w p (u.links scope (links xs))) (links_nodes (links xs) + length xs) (AreWrittenLinks (links xs)) ts rest
    many_links gr.Many.none ok = record { weight = λ scope. omega arith; size = omega arith; is = tt; behind = ok }
    many_links (gr.Many.more {xs = xs} (gr.Links.linked {op = op} {at = at} {x = x} is low d) ds) ok =
        let a = r.fine d ok.1 in
        let b = many_links ds a.behind in
        record {
          weight = λ scope.
              omega (arith, a.weight scope, b.weight scope, operator_weight p (operator_of op) at, join p (u.operator_use (operator_of op) at) (u.exp scope x ++ u.links scope (links xs)), join p (u.exp scope x) (u.links scope (links xs)));
          size = omega (arith, a.size, b.size);
          is = (a.is, b.is);
          behind = b.behind;
        }

    level_fine : {ts rest : Tokens} {x : Exp} → Level n R ts x rest → ArePossible ts → FineExp p x ts rest
    level_fine (gr.Level.one d) ok = r.fine d ok
    level_fine (gr.Level.chain {x = x} {y = y} {ys = ys} d ds few) ok =
        let a = r.fine d ok in
        let b = many_links ds a.behind in
        record {
          weight = λ scope. omega (arith, a.weight scope, b.weight scope, join p (u.exp scope x) (u.links scope (links (y ∷ ys))));
          size = omega (arith, a.size, b.size);
          is = (a.is, b.is);
          behind = b.behind;
        }
    level_fine (gr.Level.is {n = n} {x = x} {b = b} seven d) ok =
        let a = r.fine d ok in
        record { weight = λ scope. omega (arith, a.weight scope, join p (u.exp scope x) (u.names_class (named n b) ∷ [])); size = omega (arith, a.size); is = a.is; behind = a.behind.1.1 }
    level_fine (gr.Level.is_not {n = n} {x = x} {c = c} seven d) ok =
        let a = r.fine d ok in
        record { weight = λ scope. omega (arith, a.weight scope, join p (u.exp scope x) (u.names_class (named n c) ∷ [])); size = omega (arith, a.size); is = a.is; behind = a.behind.1.1.1 }

  module _ (W O : Reading Exp) (whole : AreFine p W) (operand : AreFine p O) where
    chain_fine : (n : ℕ) → AreFine p (Chain W O n)
    chain_fine zero = record { fine = unary_fine W O whole operand }
    chain_fine (suc n) = record { fine = level_fine (suc n) (Chain W O n) (chain_fine n) }

    cond_fine : {ts rest : Tokens} {x : Exp} → Cond W O ts x rest → ArePossible ts → FineExp p x ts rest
    cond_fine (gr.Cond.one d) ok = (chain_fine 10).fine d ok
    cond_fine (gr.Cond.cond {x = x} {y = y} {z = z} d e f) ok =
        let a = (chain_fine 10).fine d ok in
        let b = whole.fine e a.behind.1 in
        let c = whole.fine f b.behind.1 in
        record {
          weight = λ scope. omega (arith, a.weight scope, b.weight scope, c.weight scope, join p (u.exp scope x) (u.exp scope y ++ u.exp scope z), join p (u.exp scope y) (u.exp scope z));
          size = omega (arith, a.size, b.size, c.size);
          is = (a.is, b.is, c.is);
          behind = c.behind;
        }

    expression_fine : {ts rest : Tokens} {x : Exp} → Expression W O ts x rest → ArePossible ts → FineExp p x ts rest
    expression_fine (gr.Expression.throw d) ok =
        let a = whole.fine d ok.1 in
        record { weight = λ scope. omega (arith, a.weight scope); size = omega (arith, a.size); is = a.is; behind = a.behind }
    expression_fine (gr.Expression.cond d) ok = cond_fine d ok
    expression_fine (gr.Expression.assign {op = op} {at = at} {x = x} {y = y} d target is e) ok =
        let a = postfix_fine p W whole d ok in
        let b = whole.fine e a.plain.behind.1 in
        let change = compound op in
        record {
          weight = λ scope.
              omega (arith, a.target (is_some change) scope, b.weight scope, operator_weight p change at, join p (u.target scope (is_some change) x) (u.operator_use change at ++ u.exp scope y), join p (u.operator_use change at) (u.exp scope y));
          size = omega (arith, a.plain.size, b.size);
          is = (a.is target, b.is);
          behind = b.behind;
        }

  mutual
    pub within_fine : (n : ℕ) → AreFine p (ExprWithin n)
    within_fine zero = record { fine = λ d ok. elim d [ ] }
    within_fine (suc n) = record { fine = expression_fine (ExprWithin n) (UnderWithin n) (within_fine n) (beneath_fine n) }

    beneath_fine : (n : ℕ) → AreFine p (UnderWithin n)
    beneath_fine zero = record { fine = λ d ok. elim d [ ] }
    beneath_fine (suc n) = record { fine = under_fine (ExprWithin n) (UnderWithin n) (within_fine n) (beneath_fine n) }
