-- Expressions: their uses weigh no more than their tokens, they have few nodes, and what is assigned to can be.
use Rattle.std.proofs.Common.{◌≡◌, ℕ, suc, ◌+◌, ◌≤◌, Bool, true, List, [], ◌∷◌, arith}
use Rattle.dart_syntax.specs.declared.token.Span.{Span}
use Rattle.dart_syntax.specs.declared.token.Sign.{Sign}
use Rattle.dart_syntax.specs.declared.token.TokenKind.TheVariants as kind
use Rattle.dart_syntax.specs.declared.tree.Piece.{Piece}
use Rattle.dart_syntax.specs.Syntax.{Exp, Selector, exps, pieces, selectors}
use Rattle.dart_syntax.specs.Words.{Tokens, token}
use Rattle.dart_syntax.specs.Operators.{named}
use Rattle.dart_syntax.specs.Grammar.{Reading, Many, More, Args, Pieces, Primary, Selects, Postfix, written, last_is_written, is_target}
use Rattle.dart_syntax.specs.Grammar as gr
use Rattle.dart_meaning.specs.Uses as u
use Rattle.dart_meaning.specs.Uses.{Use, Scope}
use Rattle.dart_printer.specs.ReadsBack.{ArePossible}
use Rattle.text_trees.specs.Nodes.{exp_nodes, exps_nodes, pieces_nodes, selectors_nodes, selector_nodes}
use Rattle.text_trees.specs.Written.{IsWrittenExp, AreWrittenExps, AreWrittenPieces, AreWrittenSelectors, IsWrittenSelector, IsTarget, EndsAsTarget, IsLastOfTarget}
use Rattle.text_trees.proofs.Weights.{Weight, weigh, tokens, join, changes_weight, Fine}

module _ (p : Weight) where
  abbrev pub w : List Use → ℕ
  w = weigh p

  abbrev pub FineExp : Exp → Tokens → Tokens → Type 0
  FineExp x = Fine p (λ (scope : Scope). w (u.exp scope x)) (exp_nodes x) (IsWrittenExp x)

  abbrev pub FineExps : List Exp → Tokens → Tokens → Type 0
  FineExps xs = Fine p (λ (scope : Scope). w (u.exps scope (exps xs))) (exps_nodes (exps xs)) (AreWrittenExps (exps xs))

  pub record AreFine (R : Reading Exp) : Type 0 where
    pub fine : {ts rest : Tokens} {x : Exp} → R ts x rest → ArePossible ts → FineExp x ts rest

  module _ (W : Reading Exp) (whole : AreFine W) where
    more_fine : {close : Sign} {ts rest : Tokens} {xs : List Exp} → More W close ts xs rest → ArePossible ts → FineExps xs ts rest
    more_fine gr.More.last ok = record { weight = λ scope. omega arith; size = omega arith; is = tt; behind = ok.1 }
    more_fine gr.More.comma ok = record { weight = λ scope. omega arith; size = omega arith; is = tt; behind = ok.1.1 }
    more_fine (gr.More.more {x = x} {xs = xs} d ds) ok =
        let a = whole.fine d ok.1 in
        let b = more_fine ds a.behind in
        record {
          weight = λ scope. omega (arith, a.weight scope, b.weight scope, join p (u.exp scope x) (u.exps scope (exps xs)));
          size = omega (arith, a.size, b.size);
          is = (a.is, b.is);
          behind = b.behind;
        }

    pub args_fine : {close : Sign} {ts rest : Tokens} {xs : List Exp} → Args W close ts xs rest → ArePossible ts → FineExps xs ts rest
    args_fine gr.Args.empty ok = record { weight = λ scope. omega arith; size = omega arith; is = tt; behind = ok.1 }
    args_fine (gr.Args.some {x = x} {xs = xs} d ds) ok =
        let a = whole.fine d ok in
        let b = more_fine ds a.behind in
        record {
          weight = λ scope. omega (arith, a.weight scope, b.weight scope, join p (u.exp scope x) (u.exps scope (exps xs)));
          size = omega (arith, a.size, b.size);
          is = (a.is, b.is);
          behind = b.behind;
        }

    -- The piece of the string before an interpolation weighs what its text does.
    abbrev FinePieces : Span → List (Piece Exp) → Tokens → Tokens → Type 0
    FinePieces at xs ts = Fine p (λ (scope : Scope). w (u.pieces scope at (pieces xs))) (suc (pieces_nodes (pieces xs))) (AreWrittenPieces (pieces xs)) (token (kind.StrOpen []) at ∷ ts)

    pieces_fine : (at : Span) {ts rest : Tokens} {xs : List (Piece Exp)} → Pieces W ts xs rest → ArePossible ts → FinePieces at xs ts rest
    pieces_fine at (gr.Pieces.close {x = x} d) ok =
        let a = whole.fine d ok in
        record {
          weight = λ scope. omega (arith, a.weight scope, join p (u.exp scope x) []);
          size = omega (arith, a.size);
          is = (a.is, tt);
          behind = a.behind.1;
        }
    pieces_fine at (gr.Pieces.mid {at = next} {x = x} {xs = xs} d ds) ok =
        let a = whole.fine d ok in
        let b = pieces_fine next ds a.behind.1 in
        record {
          weight = λ scope. omega (arith, a.weight scope, b.weight scope, join p (u.exp scope x) (u.pieces scope next (pieces xs)));
          size = omega (arith, a.size, b.size);
          is = (a.is, b.is);
          behind = b.behind;
        }

    primary_fine : {ts rest : Tokens} {x : Exp} → Primary W ts x rest → ArePossible ts → FineExp x ts rest
    primary_fine gr.Primary.null ok = record { weight = λ scope. omega arith; size = omega arith; is = tt; behind = ok.1 }
    primary_fine gr.Primary.yes ok = record { weight = λ scope. omega arith; size = omega arith; is = tt; behind = ok.1 }
    primary_fine gr.Primary.no ok = record { weight = λ scope. omega arith; size = omega arith; is = tt; behind = ok.1 }
    primary_fine gr.Primary.this ok = record { weight = λ scope. omega arith; size = omega arith; is = tt; behind = ok.1 }
    primary_fine gr.Primary.int ok = record { weight = λ scope. omega arith; size = omega arith; is = tt; behind = ok.1 }
    primary_fine gr.Primary.str ok = record { weight = λ scope. omega arith; size = omega arith; is = tt; behind = ok.1 }
    primary_fine (gr.Primary.joined {at = at} d) ok =
        let a = pieces_fine at d ok.1 in
        record { weight = λ scope. omega (arith, a.weight scope); size = omega (arith, a.size); is = a.is; behind = a.behind }
    primary_fine gr.Primary.name ok = record { weight = λ scope. omega arith; size = omega arith; is = tt; behind = ok.1 }
    primary_fine (gr.Primary.call d) ok =
        let a = args_fine d ok.1.1 in
        record { weight = λ scope. omega (arith, a.weight scope); size = omega (arith, a.size); is = a.is; behind = a.behind }
    primary_fine gr.Primary.super_get ok = record { weight = λ scope. omega arith; size = omega arith; is = tt; behind = ok.1.1.1 }
    primary_fine (gr.Primary.super_call d) ok =
        let a = args_fine d ok.1.1.1.1 in
        record { weight = λ scope. omega (arith, a.weight scope); size = omega (arith, a.size); is = a.is; behind = a.behind }
    primary_fine (gr.Primary.paren d) ok =
        let a = whole.fine d ok.1 in
        record { weight = λ scope. omega (arith, a.weight scope); size = omega (arith, a.size); is = a.is; behind = a.behind.1 }
    primary_fine (gr.Primary.list d) ok =
        let a = args_fine d ok.1 in
        record { weight = λ scope. omega (arith, a.weight scope); size = omega (arith, a.size); is = a.is; behind = a.behind }

    -- ---- selectors

    record FineSelector (x : Selector) (ts rest : Tokens) : Type 0 where
      plain : Fine p (λ (scope : Scope). w (u.selector scope x)) (selector_nodes x) (IsWrittenSelector x) ts rest
      changed : (reads : Bool) (scope : Scope) → w (u.changed scope reads x) + tokens p rest ≤ tokens p ts
      last : written x ≡ true → IsLastOfTarget x

    selects_fine : {ts rest : Tokens} {x : Selector} → Selects W ts x rest → ArePossible ts → FineSelector x ts rest
    selects_fine (gr.Selects.member {n = n} {b = b}) ok = record {
      plain = record { weight = λ scope. omega arith; size = omega arith; is = tt; behind = ok.1.1 };
      changed = λ reads scope. omega (arith, changes_weight p reads (u.member_reads (named n b)) (u.member_writes (named n b)));
      last = λ h. tt;
    }
    selects_fine (gr.Selects.invoke d) ok =
        let a = args_fine d ok.1.1.1 in
        record {
          plain = record { weight = λ scope. omega (arith, a.weight scope); size = omega (arith, a.size); is = a.is; behind = a.behind };
          changed = λ reads scope. omega (arith, a.weight scope);
          last = λ h. cc;
        }
    selects_fine (gr.Selects.index {a = at} {x = x} d) ok =
        let a = whole.fine d ok.1 in
        record {
          plain = record { weight = λ scope. omega (arith, a.weight scope); size = omega (arith, a.size); is = a.is; behind = a.behind.1 };
          changed = λ reads scope.
              omega (arith, a.weight scope, changes_weight p reads (u.index_reads at) (u.index_writes at), join p (u.exp scope x) (u.changes reads (u.index_reads at) (u.index_writes at)));
          last = λ h. a.is;
        }

    record FineSelectors (xs : List Selector) (ts rest : Tokens) : Type 0 where
      plain : Fine p (λ (scope : Scope). w (u.selectors scope (selectors xs))) (selectors_nodes (selectors xs)) (AreWrittenSelectors (selectors xs)) ts rest
      changed : (reads : Bool) (scope : Scope) → w (u.up_to_changed scope reads (selectors xs)) + tokens p rest ≤ tokens p ts
      last : last_is_written (selectors xs) ≡ true → EndsAsTarget (selectors xs)

    many_selects : {ts rest : Tokens} {xs : List Selector} → Many (Selects W) ts xs rest → ArePossible ts → FineSelectors xs ts rest
    many_selects gr.Many.none ok = record {
      plain = record { weight = λ scope. omega arith; size = omega arith; is = tt; behind = ok };
      changed = λ reads scope. omega arith;
      last = λ h. cc;
    }
    many_selects (gr.Many.more {x = x} d gr.Many.none) ok =
        let a = selects_fine d ok in
        record {
          plain = record { weight = λ scope. omega (arith, a.plain.weight scope, join p (u.selector scope x) []); size = omega (arith, a.plain.size); is = (a.plain.is, tt); behind = a.plain.behind };
          changed = a.changed;
          last = a.last;
        }
    many_selects (gr.Many.more {x = x} d (gr.Many.more {x = y} {xs = ys} d1 ds)) ok =
        let a = selects_fine d ok in
        let b = many_selects (gr.Many.more d1 ds) a.plain.behind in
        record {
          plain = record {
            weight = λ scope. omega (arith, a.plain.weight scope, b.plain.weight scope, join p (u.selector scope x) (u.selectors scope (selectors (y ∷ ys))));
            size = omega (arith, a.plain.size, b.plain.size);
            is = (a.plain.is, b.plain.is);
            behind = b.plain.behind;
          };
          changed = λ reads scope. omega (arith, a.plain.weight scope, b.changed reads scope, join p (u.selector scope x) (u.up_to_changed scope reads (selectors (y ∷ ys))));
          last = λ h. (a.plain.is, b.last h);
        }

    -- ---- what may be assigned to

    pub record FinePostfix (x : Exp) (ts rest : Tokens) : Type 0 where
      pub plain : FineExp x ts rest
      pub target : (reads : Bool) (scope : Scope) → w (u.target scope reads x) + tokens p rest ≤ tokens p ts
      pub is : is_target x ≡ true → IsTarget x

    as_postfix : {ts rest : Tokens} {x : Exp} → Primary W ts x rest → FineExp x ts rest → FinePostfix x ts rest
    as_postfix (gr.Primary.name {n = n} {at = at}) a = record {
      plain = a;
      target = λ reads scope. omega (arith, changes_weight p reads (u.reads (named n at) (scope n)) (u.writes (named n at) (scope n)));
      is = λ h. tt;
    }
    as_postfix (gr.Primary.super_get {n = n} {a = at} {c = c}) a = record {
      plain = a;
      target = λ reads scope. omega (arith, a.weight scope, changes_weight p reads (u.super_reads at (named n c)) (u.super_writes at (named n c)));
      is = λ h. tt;
    }
    as_postfix _ a = record { plain = a; target = λ reads scope. omega (arith, a.weight scope); is = λ h. cc }

    pub postfix_fine : {ts rest : Tokens} {x : Exp} → Postfix W ts x rest → ArePossible ts → FinePostfix x ts rest
    postfix_fine (gr.Postfix.primary d) ok = as_postfix d (primary_fine d ok)
    postfix_fine (gr.Postfix.selected {x = x} {y = y} {ys = ys} d ds) ok =
        let a = primary_fine d ok in
        let b = many_selects ds a.behind in
        record {
          plain = record {
            weight = λ scope. omega (arith, a.weight scope, b.plain.weight scope, join p (u.exp scope x) (u.selectors scope (selectors (y ∷ ys))));
            size = omega (arith, a.size, b.plain.size);
            is = (a.is, b.plain.is);
            behind = b.plain.behind;
          };
          target = λ reads scope. omega (arith, a.weight scope, b.changed reads scope, join p (u.exp scope x) (u.up_to_changed scope reads (selectors (y ∷ ys))));
          is = λ h. (a.is, b.last h);
        }
