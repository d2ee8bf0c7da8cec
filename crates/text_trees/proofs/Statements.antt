-- Statements: their uses weigh no more than their tokens, and they have few nodes.
use Rattle.std.proofs.Common.{◌≡◌, ℕ, zero, suc, ◌+◌, ◌≤◌, Bool, true, List, [], ◌∷◌, ◌++◌, Option, Some, None, refl, arith}
use Rattle.dart_syntax.specs.declared.tree.Name.{Name}
use Rattle.dart_syntax.specs.Syntax as tree
use Rattle.dart_syntax.specs.Syntax.{Exp, Sta, exps, stas}
use Rattle.dart_syntax.specs.Words.{Tokens}
use Rattle.dart_syntax.specs.Grammar.{Reading, Many, Valued, Initial, Comma, Last, Locals, First, Statement, ExprWithin, StmtWithin}
use Rattle.dart_syntax.specs.Grammar as gr
use Rattle.dart_meaning.specs.declared.seen.Seen.TheVariants.{Late}
use Rattle.dart_meaning.specs.Uses as u
use Rattle.dart_meaning.specs.Uses.{Scope, declared_uses, declared, locals, opened, after, after_first, exp_if}
use Rattle.dart_printer.specs.ReadsBack.{ArePossible}
use Rattle.text_trees.specs.Nodes.{value_nodes, first_nodes, sta_nodes, stas_nodes}
use Rattle.text_trees.specs.Written.{IsWrittenValue, IsWrittenFirst, IsWrittenSta, AreWrittenStas}
use Rattle.text_trees.proofs.Weights.{Weight, tokens, join, Fine}
use Rattle.text_trees.proofs.Expressions.{w, FineExps, AreFine}
use Rattle.text_trees.proofs.Levels.{within_fine}

module _ (p : Weight) where
  -- what a block declares calls nothing
  pub declared_none : (scope : Scope) (ns : List Name) → w p (declared_uses scope ns) ≡ 0
  declared_none scope [] = refl
  declared_none scope (n ∷ ns) = omega (arith, declared_none scope ns)

  abbrev pub FineSta : Sta → Tokens → Tokens → Type 0
  FineSta x = Fine p (λ (i : Bool × Scope). w p (u.sta i.0 i.1 x)) (sta_nodes x) (IsWrittenSta x)

  abbrev pub FineStas : List Sta → Tokens → Tokens → Type 0
  FineStas xs = Fine p (λ (i : Bool × Scope). w p (u.stas i.0 i.1 (stas xs))) (stas_nodes (stas xs)) (AreWrittenStas (stas xs))

  abbrev FineValue : Option Exp → Tokens → Tokens → Type 0
  FineValue v = Fine p (λ (scope : Scope). w p (exp_if scope v)) (value_nodes v) (IsWrittenValue v)

  pub record AreFineStas (R : Reading Sta) : Type 0 where
    pub fine : {ts rest : Tokens} {x : Sta} → R ts x rest → ArePossible ts → FineSta x ts rest

  -- a block of its own: what it declares, and the statement
  blocked : (loops : Bool) (scope : Scope) (x : Sta) {ts rest : Tokens} → FineSta x ts rest
      → w p (declared_uses scope (declared x) ++ u.sta loops (opened (declared x) scope) x) + tokens p rest ≤ tokens p ts
  blocked loops scope x a = omega (arith, a.weight (loops, opened (declared x) scope), declared_none scope (declared x), join p (declared_uses scope (declared x)) (u.sta loops (opened (declared x) scope) x))

  module _ (W : Reading Exp) (whole : AreFine p W) where
    valued_fine : {ts rest : Tokens} {v : Option Exp} → Valued W ts v rest → ArePossible ts → FineValue v ts rest
    valued_fine gr.Valued.none ok = record { weight = λ scope. omega arith; size = omega arith; is = tt; behind = ok.1 }
    valued_fine (gr.Valued.some d) ok =
        let a = whole.fine d ok in
        record { weight = λ scope. omega (arith, a.weight scope); size = omega (arith, a.size); is = a.is; behind = a.behind.1 }

    initial_fine : {ts rest : Tokens} {v : Option Exp} → Initial W ts v rest → ArePossible ts → FineValue v ts rest
    initial_fine gr.Initial.none ok = record { weight = λ scope. omega arith; size = omega arith; is = tt; behind = ok.1 }
    initial_fine (gr.Initial.some d) ok =
        let a = whole.fine d ok.1 in
        record { weight = λ scope. omega (arith, a.weight scope); size = omega (arith, a.size); is = a.is; behind = a.behind.1 }

    -- Two tokens stand before the value.
    locals_fine : {ts rest : Tokens} {l : tree.Local} → Locals W ts l rest → ArePossible ts
        → Fine p (λ (scope : Scope). w p (exp_if scope l.value)) (suc (value_nodes l.value)) (IsWrittenValue l.value) ts rest
    locals_fine (gr.Locals.variable is d) ok =
        let a = initial_fine d ok.1.1 in
        record { weight = λ scope. omega (arith, a.weight scope); size = omega (arith, a.size); is = a.is; behind = a.behind }
    locals_fine (gr.Locals.final d) ok =
        let a = whole.fine d ok.1.1.1 in
        record { weight = λ scope. omega (arith, a.weight scope); size = omega (arith, a.size); is = a.is; behind = a.behind.1 }

    first_fine : {ts rest : Tokens} {f : tree.First} → First W ts f rest → ArePossible ts → Fine p (λ (scope : Scope). w p (u.first_uses scope f)) (first_nodes f) (IsWrittenFirst f) ts rest
    first_fine gr.First.nothing ok = record { weight = λ scope. omega arith; size = omega arith; is = tt; behind = ok.1 }
    first_fine (gr.First.local {l = l} d) ok =
        let a = locals_fine d ok in
        record { weight = λ scope. omega (arith, a.weight (u.with_seen l.name Late scope)); size = omega (arith, a.size); is = a.is; behind = a.behind }
    first_fine (gr.First.run d) ok =
        let a = whole.fine d ok in
        record { weight = λ scope. omega (arith, a.weight scope); size = omega (arith, a.size); is = a.is; behind = a.behind.1 }

    commas_fine : {ts rest : Tokens} {xs : List Exp} → Many (Comma W) ts xs rest → ArePossible ts → FineExps p xs ts rest
    commas_fine gr.Many.none ok = record { weight = λ scope. omega arith; size = omega arith; is = tt; behind = ok }
    commas_fine (gr.Many.more {xs = xs} (gr.Comma.comma {x = x} d) ds) ok =
        let a = whole.fine d ok.1 in
        let b = commas_fine ds a.behind in
        record {
          weight = λ scope. omega (arith, a.weight scope, b.weight scope, join p (u.exp scope x) (u.exps scope (exps xs)));
          size = omega (arith, a.size, b.size);
          is = (a.is, b.is);
          behind = b.behind;
        }

    last_fine : {ts rest : Tokens} {xs : List Exp} → Last W ts xs rest → ArePossible ts → FineExps p xs ts rest
    last_fine gr.Last.none ok = record { weight = λ scope. omega arith; size = omega arith; is = tt; behind = ok.1 }
    last_fine (gr.Last.some {x = x} {xs = xs} d ds) ok =
        let a = whole.fine d ok in
        let b = commas_fine ds a.behind in
        record {
          weight = λ scope. omega (arith, a.weight scope, b.weight scope, join p (u.exp scope x) (u.exps scope (exps xs)));
          size = omega (arith, a.size, b.size);
          is = (a.is, b.is);
          behind = b.behind.1;
        }

  module _ (I : Reading Sta) (inner : AreFineStas I) where
    pub stas_fine : {ts rest : Tokens} {xs : List Sta} → Many I ts xs rest → ArePossible ts → FineStas xs ts rest
    stas_fine gr.Many.none ok = record { weight = λ i. omega arith; size = omega arith; is = tt; behind = ok }
    stas_fine (gr.Many.more {x = x} {xs = xs} d ds) ok =
        let a = inner.fine d ok in
        let b = stas_fine ds a.behind in
        record {
          weight = λ i. omega (arith, a.weight i, b.weight (i.0, after x i.1), join p (u.sta i.0 i.1 x) (u.stas i.0 (after x i.1) (stas xs)));
          size = omega (arith, a.size, b.size);
          is = (a.is, b.is);
          behind = b.behind;
        }

    -- the same with the names that it declares
    pub block_weight : (scope : Scope) (xs : List Sta) {ts rest : Tokens} (loops : Bool) → FineStas xs ts rest
        → w p (declared_uses scope (locals (stas xs)) ++ u.stas loops (opened (locals (stas xs)) scope) (stas xs)) + tokens p rest ≤ tokens p ts
    block_weight scope xs loops a =
        let names = locals (stas xs) in
        omega (arith, a.weight (loops, opened names scope), declared_none scope names, join p (declared_uses scope names) (u.stas loops (opened names scope) (stas xs)))

    module _ (W : Reading Exp) (whole : AreFine p W) where
      statement_fine : {ts rest : Tokens} {x : Sta} → Statement I W ts x rest → ArePossible ts → FineSta x ts rest
      statement_fine (gr.Statement.block {xs = xs} d) ok =
          let a = stas_fine d ok.1 in
          record { weight = λ i. omega (arith, block_weight i.1 xs i.0 a); size = omega (arith, a.size); is = a.is; behind = a.behind.1 }
      statement_fine (gr.Statement.local d) ok =
          let a = locals_fine W whole d ok in
          record { weight = λ i. omega (arith, a.weight i.1); size = omega (arith, a.size); is = a.is; behind = a.behind }
      statement_fine (gr.Statement.run d) ok =
          let a = whole.fine d ok in
          record { weight = λ i. omega (arith, a.weight i.1); size = omega (arith, a.size); is = a.is; behind = a.behind.1 }
      statement_fine gr.Statement.empty ok = record { weight = λ i. omega arith; size = omega arith; is = tt; behind = ok.1 }
      statement_fine (gr.Statement.if {x = x} {y = y} d e no_else) ok =
          let a = whole.fine d ok.1.1 in
          let b = inner.fine e a.behind.1 in
          record {
            weight = λ i. omega (arith, a.weight i.1, blocked i.0 i.1 y b, join p (u.exp i.1 x) (declared_uses i.1 (declared y) ++ u.sta i.0 (opened (declared y) i.1) y));
            size = omega (arith, a.size, b.size);
            is = (a.is, b.is);
            behind = b.behind;
          }
      statement_fine (gr.Statement.if_else {x = x} {y = y} {z = z} d e f) ok =
          let a = whole.fine d ok.1.1 in
          let b = inner.fine e a.behind.1 in
          let c = inner.fine f b.behind.1 in
          record {
            weight = λ i.
                let first = declared_uses i.1 (declared y) in
                let then = u.sta i.0 (opened (declared y) i.1) y in
                let other = declared_uses i.1 (declared z) ++ u.sta i.0 (opened (declared z) i.1) z in
                omega (arith, a.weight i.1, blocked i.0 i.1 y b, blocked i.0 i.1 z c, join p (u.exp i.1 x) (first ++ (then ++ other)), join p first (then ++ other), join p then other, join p first then);
            size = omega (arith, a.size, b.size, c.size);
            is = (a.is, b.is, c.is);
            behind = c.behind;
          }
      statement_fine (gr.Statement.while {x = x} {y = y} d e) ok =
          let a = whole.fine d ok.1.1 in
          let b = inner.fine e a.behind.1 in
          record {
            weight = λ i. omega (arith, a.weight i.1, blocked true i.1 y b, join p (u.exp i.1 x) (declared_uses i.1 (declared y) ++ u.sta true (opened (declared y) i.1) y));
            size = omega (arith, a.size, b.size);
            is = (a.is, b.is);
            behind = b.behind;
          }
      statement_fine (gr.Statement.do_while {x = x} {y = y} d e) ok =
          let a = inner.fine d ok.1 in
          let b = whole.fine e a.behind.1.1 in
          record {
            weight = λ i.
                let first = declared_uses i.1 (declared y) in
                let then = u.sta true (opened (declared y) i.1) y in
                omega (arith, blocked true i.1 y a, b.weight i.1, join p first (then ++ u.exp i.1 x), join p then (u.exp i.1 x), join p first then);
            size = omega (arith, a.size, b.size);
            is = (a.is, b.is);
            behind = b.behind.1.1;
          }
      statement_fine (gr.Statement.for {f = f} {c = c} {xs = xs} {y = y} d e g h) ok =
          let first = first_fine W whole d ok.1.1 in
          let test = valued_fine W whole e first.behind in
          let last = last_fine W whole g test.behind in
          let body = inner.fine h last.behind in
          record {
            weight = λ i.
                let scope = after_first f i.1 in
                let tests = exp_if scope c in
                let lasts = u.exps scope (exps xs) in
                let block = declared_uses scope (declared y) ++ u.sta true (opened (declared y) scope) y in
                omega (arith, first.weight i.1, test.weight scope, last.weight scope, blocked true scope y body, join p (u.first_uses i.1 f) (tests ++ (lasts ++ block)), join p tests (lasts ++ block), join p lasts block);
            size = omega (arith, first.size, test.size, last.size, body.size);
            is = (first.is, test.is, last.is, body.is);
            behind = body.behind;
          }
      statement_fine gr.Statement.break ok = record { weight = λ i. omega arith; size = omega arith; is = tt; behind = ok.1.1 }
      statement_fine gr.Statement.continue ok = record { weight = λ i. omega arith; size = omega arith; is = tt; behind = ok.1.1 }
      statement_fine (gr.Statement.return {v = None} d) ok =
          let a = valued_fine W whole d ok.1 in
          record { weight = λ i. omega (arith, a.weight i.1); size = omega (arith, a.size); is = tt; behind = a.behind }
      statement_fine (gr.Statement.return {v = Some x} d) ok =
          let a = valued_fine W whole d ok.1 in
          record { weight = λ i. omega (arith, a.weight i.1); size = omega (arith, a.size); is = a.is; behind = a.behind }

  pub stmt_fine : (n : ℕ) → AreFineStas (StmtWithin n)
  stmt_fine zero = record { fine = λ d ok. elim d [ ] }
  stmt_fine (suc n) = record { fine = statement_fine (StmtWithin n) (stmt_fine n) (ExprWithin n) (within_fine p n) }
