-- Statements within their levels.
use Rattle.std.proofs.Common.{◌≡◌, ℕ, zero, suc, true, false, List, ◌++◌, Option, Some, option_map, refl, ap, sym, ◌∙◌, codes}
use Rattle.dart_syntax.specs.declared.token.Span.{Span}
use Rattle.dart_syntax.specs.declared.token.Sign.TheVariants as s
use Rattle.dart_syntax.specs.declared.token.TokenKind.TheVariants as tk
use Rattle.dart_syntax.specs.declared.token.Keyword.TheVariants as k
use Rattle.dart_syntax.specs.Syntax as tree
use Rattle.dart_syntax.specs.Syntax.{Exp, Sta, exps, stas, a_local}
use Rattle.dart_syntax.specs.Words.{Tokens}
use Rattle.dart_syntax.specs.Operators.{named}
use Rattle.dart_syntax.specs.Text.{word, exp_text, exps_text, more_text, option_text, value_text, local_text, first_text, test_text, sta_text, stas_text}
use Rattle.dart_syntax.specs.Grammar.{Reading, Many, Valued, Initial, Comma, Last, NoElse, Locals, First, Statement, ExprWithin, StmtWithin}
use Rattle.dart_syntax.specs.Grammar as gr
use Rattle.dart_printer.specs.Spans.{nowhere, bare_exp, bare_exps, bare_local, bare_first, bare_sta, bare_stas}
use Rattle.dart_printer.specs.ReadsBack.{ArePossible}
use Rattle.dart_printer.proofs.Lists.{Kinds, nothing, one, both, put}
use Rattle.dart_printer.proofs.Cuts.{Cuts, cuts_of, cuts_none, cuts_then, cuts_left, cuts_right}
use Rattle.dart_printer.proofs.Marks.{name_word}
use Rattle.dart_printer.proofs.Keywords.{var_word, final_word, if_word, else_word, while_word, do_word, for_word, break_word, continue_word, return_word}
use Rattle.dart_printer.proofs.SignTexts.{paren_open, paren_close, comma, semicolon, assign, in_braces, braces}
use Rattle.dart_printer.proofs.Back.{starts_else, Found, found, Back, GivesBack, many_back}
use Rattle.dart_printer.proofs.Expressions.{expr_back}

pub none_else : (ts : Tokens) → starts_else ts ≡ false → NoElse ts
none_else ts h at us e = let g : true ≡ false = sym (ap starts_else e) ∙ h in cc

-- ---- in parentheses

abbrev in_parens : Kinds → Kinds
in_parens kinds = both (one (tk.Sign s.ParenOpen)) (both kinds (one (tk.Sign s.ParenClose)))

test_cuts : (x : Exp) (kinds : Kinds) → Cuts (exp_text x) kinds → Cuts (test_text x) (in_parens kinds)
test_cuts x kinds h = cuts_then (cuts_of paren_open) (cuts_then h (cuts_of paren_close))

module _ (W : Reading Exp) (whole : GivesBack W) where
  -- ---- parts

  valued_back : {ts rest : Tokens} {v : Option Exp} → Valued W ts v rest → ArePossible ts
      → Back (Valued W) (Cuts (option_text v ++ word (codes ";"))) (λ u. option_map bare_exp u ≡ option_map bare_exp v) rest
  valued_back gr.Valued.none ok = record { kinds = one (tk.Sign s.Semicolon); cuts = cuts_of semicolon; reads = λ f more. found _ gr.Valued.none refl; behind = ok.1 }
  valued_back (gr.Valued.some d) ok =
      let a = whole.back d ok in
      record {
        kinds = both a.kinds (one (tk.Sign s.Semicolon));
        cuts = cuts_then a.cuts (cuts_of semicolon);
        reads = λ f more. let p = a.reads f (put f (one (tk.Sign s.Semicolon)) more) in found _ (gr.Valued.some p.reads) (λ i. Some (p.same i));
        behind = a.behind.1;
      }

  initial_back : {ts rest : Tokens} {v : Option Exp} → Initial W ts v rest → ArePossible ts
      → Back (Initial W) (Cuts (value_text v ++ word (codes ";"))) (λ u. option_map bare_exp u ≡ option_map bare_exp v) rest
  initial_back gr.Initial.none ok = record { kinds = one (tk.Sign s.Semicolon); cuts = cuts_of semicolon; reads = λ f more. found _ gr.Initial.none refl; behind = ok.1 }
  initial_back (gr.Initial.some {x = x} d) ok =
      let a = whole.back d ok.1 in
      record {
        kinds = both (one (tk.Sign s.Assign)) (both a.kinds (one (tk.Sign s.Semicolon)));
        cuts = cuts_left (word (codes "=")) (exp_text x) (word (codes ";")) (cuts_then (cuts_of assign) (cuts_then a.cuts (cuts_of semicolon)));
        reads = λ f more. let p = a.reads f (put f (one (tk.Sign s.Semicolon)) more) in found _ (gr.Initial.some p.reads) (λ i. Some (p.same i));
        behind = a.behind.1;
      }

  comma_back : (ts rest : Tokens) (x : Exp) → Comma W ts x rest → ArePossible ts → Back (Comma W) (Cuts (word (codes ",") ++ exp_text x)) (λ y. bare_exp y ≡ bare_exp x) rest
  comma_back _ _ _ (gr.Comma.comma d) ok =
      let a = whole.back d ok.1 in
      record {
        kinds = both (one (tk.Sign s.Comma)) a.kinds;
        cuts = cuts_then (cuts_of comma) a.cuts;
        reads = λ f more. let p = a.reads f more in found _ (gr.Comma.comma p.reads) p.same;
        behind = a.behind;
      }

  many_commas : {ts rest : Tokens} {xs : List Exp} → Many (Comma W) ts xs rest → ArePossible ts
      → Back (Many (Comma W)) (Cuts (more_text (exps xs))) (λ ys. bare_exps (exps ys) ≡ bare_exps (exps xs)) rest
  many_commas = many_back (Comma W) (λ x. word (codes ",") ++ exp_text x) (λ xs. more_text (exps xs)) (λ y x. bare_exp y ≡ bare_exp x) (λ ys xs. bare_exps (exps ys) ≡ bare_exps (exps xs))
      cuts_none (λ x xs ks ls a b. cuts_right (word (codes ",")) (exp_text x) (more_text (exps xs)) (cuts_then a b)) refl (λ y x ys xs p q i. tree.also (p i) (q i)) comma_back

  last_back : {ts rest : Tokens} {xs : List Exp} → Last W ts xs rest → ArePossible ts
      → Back (Last W) (Cuts (exps_text (exps xs) ++ word (codes ")"))) (λ ys. bare_exps (exps ys) ≡ bare_exps (exps xs)) rest
  last_back gr.Last.none ok = record { kinds = one (tk.Sign s.ParenClose); cuts = cuts_of paren_close; reads = λ f more. found _ gr.Last.none refl; behind = ok.1 }
  last_back (gr.Last.some {x = x} {xs = xs} d ds) ok =
      let a = whole.back d ok in
      let b = many_commas ds a.behind in
      record {
        kinds = both a.kinds (both b.kinds (one (tk.Sign s.ParenClose)));
        cuts = cuts_left (exp_text x) (more_text (exps xs)) (word (codes ")")) (cuts_then a.cuts (cuts_then b.cuts (cuts_of paren_close)));
        reads = λ f more. let q = b.reads f (put f (one (tk.Sign s.ParenClose)) more) in let p = a.reads f (put f (both b.kinds (one (tk.Sign s.ParenClose))) more) in
            found _ (gr.Last.some p.reads q.reads) (λ i. tree.also (p.same i) (q.same i));
        behind = b.behind.1;
      }

  record LocalBack (l : tree.Local) (rest : Tokens) : Type 0 where
    back : Back (Locals W) (Cuts (local_text l)) (λ m. bare_local m ≡ bare_local l) rest
    no_else : (f : Tokens → Span) (more : Tokens) → starts_else (put f back.kinds more) ≡ false

  locals_back : {ts rest : Tokens} {l : tree.Local} → Locals W ts l rest → ArePossible ts → LocalBack l rest
  locals_back (gr.Locals.variable {n = n} is d) ok =
      let a = initial_back d ok.1.1 in
      record {
        back = record {
          kinds = both (one (tk.Keyword k.Var)) (both (one (tk.Name n)) a.kinds);
          cuts = cuts_then (cuts_of var_word) (cuts_then (cuts_of (name_word n ok.1.0)) a.cuts);
          reads = λ f more. let p = a.reads f more in found _ (gr.Locals.variable refl p.reads) (λ i. a_local false (named n nowhere) (p.same i));
          behind = a.behind;
        };
        no_else = λ f more. refl;
      }
  locals_back (gr.Locals.final {n = n} {x = x} d) ok =
      let a = whole.back d ok.1.1.1 in
      record {
        back = record {
          kinds = both (one (tk.Keyword k.Final)) (both (one (tk.Name n)) (both (one (tk.Sign s.Assign)) (both a.kinds (one (tk.Sign s.Semicolon)))));
          cuts = cuts_then (cuts_of final_word) (cuts_then (cuts_of (name_word n ok.1.0)) (cuts_left (word (codes "=")) (exp_text x) (word (codes ";")) (cuts_then (cuts_of assign) (cuts_then a.cuts (cuts_of semicolon)))));
          reads = λ f more. let p = a.reads f (put f (one (tk.Sign s.Semicolon)) more) in found _ (gr.Locals.final p.reads) (λ i. a_local true (named n nowhere) (Some (p.same i)));
          behind = a.behind.1;
        };
        no_else = λ f more. refl;
      }

  first_back : {ts rest : Tokens} {x : tree.First} → First W ts x rest → ArePossible ts → Back (First W) (Cuts (first_text x)) (λ y. bare_first y ≡ bare_first x) rest
  first_back gr.First.nothing ok = record { kinds = one (tk.Sign s.Semicolon); cuts = cuts_of semicolon; reads = λ f more. found _ gr.First.nothing refl; behind = ok.1 }
  first_back (gr.First.local d) ok =
      let a = locals_back d ok in
      record { kinds = a.back.kinds; cuts = a.back.cuts; reads = λ f more. let p = a.back.reads f more in found _ (gr.First.local p.reads) (λ i. tree.local_first (p.same i)); behind = a.back.behind }
  first_back (gr.First.run d) ok =
      let a = whole.back d ok in
      record {
        kinds = both a.kinds (one (tk.Sign s.Semicolon));
        cuts = cuts_then a.cuts (cuts_of semicolon);
        reads = λ f more. let p = a.reads f (put f (one (tk.Sign s.Semicolon)) more) in found _ (gr.First.run p.reads) (λ i. tree.run_first (p.same i));
        behind = a.behind.1;
      }

-- ---- statements

-- As of expressions. It is read where no `else` follows, if none follows the first reading.
pub record StaBack (R : Reading Sta) (x : Sta) (rest : Tokens) : Type 0 where
  pub kinds : Kinds
  pub cuts : Cuts (sta_text x) kinds
  pub reads : (f : Tokens → Span) (more : Tokens) → (NoElse rest → NoElse more) → Found R (λ y. bare_sta y ≡ bare_sta x) (put f kinds more) more
  pub no_else : (f : Tokens → Span) (more : Tokens) → starts_else (put f kinds more) ≡ false
  pub behind : ArePossible rest

pub record GivesStaBack (R : Reading Sta) : Type 0 where
  pub back : {ts rest : Tokens} {x : Sta} → R ts x rest → ArePossible ts → StaBack R x rest

pub record StasBack (I : Reading Sta) (ts : Tokens) (xs : List Sta) (rest : Tokens) : Type 0 where
  pub kinds : Kinds
  pub cuts : Cuts (stas_text (stas xs)) kinds
  pub reads : (f : Tokens → Span) (more : Tokens) → (NoElse rest → NoElse more) → Found (Many I) (λ ys. bare_stas (stas ys) ≡ bare_stas (stas xs)) (put f kinds more) more
  pub follows : (f : Tokens → Span) (more : Tokens) → (NoElse rest → NoElse more) → NoElse ts → NoElse (put f kinds more)
  pub behind : ArePossible rest

module _ (I : Reading Sta) (inner : GivesStaBack I) where
  pub stas_back : {ts rest : Tokens} {xs : List Sta} → Many I ts xs rest → ArePossible ts → StasBack I ts xs rest
  stas_back gr.Many.none ok = record { kinds = nothing; cuts = cuts_none; reads = λ f more h. found _ gr.Many.none refl; follows = λ f more h g. h g; behind = ok }
  stas_back (gr.Many.more d ds) ok =
      let a = inner.back d ok in
      let b = stas_back ds a.behind in
      record {
        kinds = both a.kinds b.kinds;
        cuts = cuts_then a.cuts b.cuts;
        reads = λ f more h. let q = b.reads f more h in let p = a.reads f (put f b.kinds more) (b.follows f more h) in found _ (gr.Many.more p.reads q.reads) (λ i. tree.next (p.same i) (q.same i));
        follows = λ f more h g. none_else _ (a.no_else f (put f b.kinds more));
        behind = b.behind;
      }

  module _ (W : Reading Exp) (whole : GivesBack W) where
    statement_back : {ts rest : Tokens} {x : Sta} → Statement I W ts x rest → ArePossible ts → StaBack (Statement I W) x rest
    statement_back (gr.Statement.block d) ok =
        let a = stas_back d ok.1 in
        record {
          kinds = in_braces a.kinds;
          cuts = cuts_of (braces a.cuts);
          reads = λ f more h. let p = a.reads f (put f (one (tk.Sign s.BraceClose)) more) (λ g. none_else _ refl) in found _ (gr.Statement.block p.reads) (λ i. tree.block (p.same i));
          no_else = λ f more. refl;
          behind = a.behind.1;
        }
    statement_back (gr.Statement.local d) ok =
        let a = locals_back W whole d ok in
        record { kinds = a.back.kinds; cuts = a.back.cuts; reads = λ f more h. let p = a.back.reads f more in found _ (gr.Statement.local p.reads) (λ i. tree.local (p.same i)); no_else = a.no_else; behind = a.back.behind }
    statement_back (gr.Statement.run d) ok =
        let a = whole.back d ok in
        record {
          kinds = both a.kinds (one (tk.Sign s.Semicolon));
          cuts = cuts_then a.cuts (cuts_of semicolon);
          reads = λ f more h. let p = a.reads f (put f (one (tk.Sign s.Semicolon)) more) in found _ (gr.Statement.run p.reads) (λ i. tree.run (p.same i));
          no_else = λ f more. a.no_else f (put f (one (tk.Sign s.Semicolon)) more);
          behind = a.behind.1;
        }
    statement_back gr.Statement.empty ok = record { kinds = one (tk.Sign s.Semicolon); cuts = cuts_of semicolon; reads = λ f more h. found _ gr.Statement.empty refl; no_else = λ f more. refl; behind = ok.1 }
    statement_back (gr.Statement.if {x = x} d d1 none) ok =
        let a = whole.back d ok.1.1 in
        let b = inner.back d1 a.behind.1 in
        record {
          kinds = both (one (tk.Keyword k.If)) (both (in_parens a.kinds) b.kinds);
          cuts = cuts_then (cuts_of if_word) (cuts_then (test_cuts x a.kinds a.cuts) b.cuts);
          reads = λ f more h. let q = b.reads f more h in let p = a.reads f (put f (both (one (tk.Sign s.ParenClose)) b.kinds) more) in
              found _ (gr.Statement.if p.reads q.reads (h none)) (λ i. tree.when (p.same i) (q.same i));
          no_else = λ f more. refl;
          behind = b.behind;
        }
    statement_back (gr.Statement.if_else {d = at} {x = x} {vs = vs} d d1 d2) ok =
        let a = whole.back d ok.1.1 in
        let b = inner.back d1 a.behind.1 in
        let c = inner.back d2 b.behind.1 in
        record {
          kinds = both (one (tk.Keyword k.If)) (both (in_parens a.kinds) (both b.kinds (both (one (tk.Keyword k.Else)) c.kinds)));
          cuts = cuts_then (cuts_of if_word) (cuts_then (test_cuts x a.kinds a.cuts) (cuts_then b.cuts (cuts_then (cuts_of else_word) c.cuts)));
          reads = λ f more h. let r = c.reads f more h in let q = b.reads f (put f (both (one (tk.Keyword k.Else)) c.kinds) more) (λ g. absurd (g at vs refl)) in
              let p = a.reads f (put f (both (one (tk.Sign s.ParenClose)) (both b.kinds (both (one (tk.Keyword k.Else)) c.kinds))) more) in
              found _ (gr.Statement.if_else p.reads q.reads r.reads) (λ i. tree.when_else (p.same i) (q.same i) (r.same i));
          no_else = λ f more. refl;
          behind = c.behind;
        }
    statement_back (gr.Statement.while {x = x} d d1) ok =
        let a = whole.back d ok.1.1 in
        let b = inner.back d1 a.behind.1 in
        record {
          kinds = both (one (tk.Keyword k.While)) (both (in_parens a.kinds) b.kinds);
          cuts = cuts_then (cuts_of while_word) (cuts_then (test_cuts x a.kinds a.cuts) b.cuts);
          reads = λ f more h. let q = b.reads f more h in let p = a.reads f (put f (both (one (tk.Sign s.ParenClose)) b.kinds) more) in
              found _ (gr.Statement.while p.reads q.reads) (λ i. tree.while (p.same i) (q.same i));
          no_else = λ f more. refl;
          behind = b.behind;
        }
    statement_back (gr.Statement.do_while {x = x} d d1) ok =
        let a = inner.back d ok.1 in
        let b = whole.back d1 a.behind.1.1 in
        let kinds = both (one (tk.Keyword k.While)) (both (in_parens b.kinds) (one (tk.Sign s.Semicolon))) in
        record {
          kinds = both (one (tk.Keyword k.Do)) (both a.kinds kinds);
          cuts = cuts_then (cuts_of do_word) (cuts_then a.cuts (cuts_then (cuts_of while_word) (cuts_then (test_cuts x b.kinds b.cuts) (cuts_of semicolon))));
          reads = λ f more h. let q = b.reads f (put f (both (one (tk.Sign s.ParenClose)) (one (tk.Sign s.Semicolon))) more) in let p = a.reads f (put f kinds more) (λ g. none_else _ refl) in
              found _ (gr.Statement.do_while p.reads q.reads) (λ i. tree.do_while (p.same i) (q.same i));
          no_else = λ f more. refl;
          behind = b.behind.1.1;
        }
    statement_back (gr.Statement.for {f = first} {c = v} {xs = xs} {y = y} d d1 d2 d3) ok =
        let a = first_back W whole d ok.1.1 in
        let b = valued_back W whole d1 a.behind in
        let c = last_back W whole d2 b.behind in
        let e = inner.back d3 c.behind in
        record {
          kinds = both (one (tk.Keyword k.For)) (both (one (tk.Sign s.ParenOpen)) (both a.kinds (both b.kinds (both c.kinds e.kinds))));
          cuts = cuts_then (cuts_of for_word) (cuts_then (cuts_of paren_open) (cuts_then a.cuts (cuts_right (option_text v) (word (codes ";")) (exps_text (exps xs) ++ (word (codes ")") ++ sta_text y))
              (cuts_then b.cuts (cuts_right (exps_text (exps xs)) (word (codes ")")) (sta_text y) (cuts_then c.cuts e.cuts))))));
          reads = λ f more h. let z = e.reads f more h in let r = c.reads f (put f e.kinds more) in let q = b.reads f (put f (both c.kinds e.kinds) more) in let p = a.reads f (put f (both b.kinds (both c.kinds e.kinds)) more) in
              found _ (gr.Statement.for p.reads q.reads r.reads z.reads) (λ i. tree.for (p.same i) (q.same i) (r.same i) (z.same i));
          no_else = λ f more. refl;
          behind = e.behind;
        }
    statement_back gr.Statement.break ok = record {
      kinds = both (one (tk.Keyword k.Break)) (one (tk.Sign s.Semicolon));
      cuts = cuts_then (cuts_of break_word) (cuts_of semicolon);
      reads = λ f more h. found _ gr.Statement.break refl;
      no_else = λ f more. refl;
      behind = ok.1.1;
    }
    statement_back gr.Statement.continue ok = record {
      kinds = both (one (tk.Keyword k.Continue)) (one (tk.Sign s.Semicolon));
      cuts = cuts_then (cuts_of continue_word) (cuts_of semicolon);
      reads = λ f more h. found _ gr.Statement.continue refl;
      no_else = λ f more. refl;
      behind = ok.1.1;
    }
    statement_back (gr.Statement.return d) ok =
        let a = valued_back W whole d ok.1 in
        record {
          kinds = both (one (tk.Keyword k.Return)) a.kinds;
          cuts = cuts_then (cuts_of return_word) a.cuts;
          reads = λ f more h. let p = a.reads f more in found _ (gr.Statement.return p.reads) (λ i. tree.return nowhere (p.same i));
          no_else = λ f more. refl;
          behind = a.behind;
        }

-- statements of at most so many levels
pub stmt_back : (n : ℕ) → GivesStaBack (StmtWithin n)
stmt_back zero = record { back = λ d ok. elim d [ ] }
stmt_back (suc n) = record { back = statement_back (StmtWithin n) (stmt_back n) (ExprWithin n) (expr_back n) }
