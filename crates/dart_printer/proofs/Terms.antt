-- Primary expressions and their selectors.
use Rattle.std.proofs.Common.{◌≡◌, List, ◌++◌, refl, sym, subst, codes}
use Rattle.dart_syntax.specs.declared.token.Span.{Span}
use Rattle.dart_syntax.specs.declared.token.Sign.{Sign}
use Rattle.dart_syntax.specs.declared.token.Sign.TheVariants as s
use Rattle.dart_syntax.specs.declared.token.TokenKind.TheVariants as tk
use Rattle.dart_syntax.specs.declared.token.Keyword.TheVariants as k
use Rattle.dart_syntax.specs.declared.tree.Piece.{Piece}
use Rattle.dart_syntax.specs.Syntax as tree
use Rattle.dart_syntax.specs.Syntax.{Exp, Selector, exps, pieces, selectors}
use Rattle.dart_syntax.specs.Words.{Tokens}
use Rattle.dart_syntax.specs.Bytes.{Text}
use Rattle.dart_syntax.specs.Operators.{named}
use Rattle.dart_syntax.specs.Text.{word, exp_text, exps_text, more_text, pieces_text, closing, selectors_text, selector_text, units_text}
use Rattle.dart_syntax.specs.Grammar.{Reading, Many, More, Args, Pieces, Primary, Selects, Postfix}
use Rattle.dart_syntax.specs.Grammar as gr
use Rattle.dart_printer.specs.Spans.{nowhere, bare_exps, bare_pieces, bare_selectors, bare_selector}
use Rattle.dart_printer.specs.ReadsBack.{ArePossible}
use Rattle.dart_printer.proofs.Lists.{Kinds, one, both, put}
use Rattle.dart_printer.proofs.Cuts.{Cuts, Closed, cuts_of, cuts_none, cuts_then, cuts_left}
use Rattle.dart_printer.proofs.Marks.{name_word}
use Rattle.dart_printer.proofs.Keywords.{null_word, true_word, false_word, this_word, super_word}
use Rattle.dart_printer.proofs.SignTexts.{paren_open, paren_close, bracket_open, bracket_close, comma, dot}
use Rattle.dart_printer.proofs.Numbers.{int_word}
use Rattle.dart_printer.proofs.StringTexts.{PieceCuts, string_word, pieces_close, pieces_mid, joined_cuts}
use Rattle.dart_printer.proofs.Back.{Found, found, Back, ExpBack, GivesBack, exp_as, many_back}

module _ (W : Reading Exp) (whole : GivesBack W) where
  -- ---- lists of expressions

  module _ (close : Sign) (w : Text) (closed : Closed (word w) (one (tk.Sign close))) where
    more_back : {ts rest : Tokens} {xs : List Exp} → More W close ts xs rest → ArePossible ts
        → Back (More W close) (Cuts (more_text (exps xs) ++ word w)) (λ ys. bare_exps (exps ys) ≡ bare_exps (exps xs)) rest
    more_back gr.More.last ok = record { kinds = one (tk.Sign close); cuts = cuts_of closed; reads = λ f more. found _ gr.More.last refl; behind = ok.1 }
    more_back gr.More.comma ok = record { kinds = one (tk.Sign close); cuts = cuts_of closed; reads = λ f more. found _ gr.More.last refl; behind = ok.1.1 }
    more_back (gr.More.more {x = x} {xs = xs} d ds) ok =
        let a = whole.back d ok.1 in
        let b = more_back ds a.behind in
        record {
          kinds = both (one (tk.Sign s.Comma)) (both a.kinds b.kinds);
          cuts = cuts_left (word (codes ",")) (exp_text x ++ more_text (exps xs)) (word w) (cuts_then (cuts_of comma) (cuts_left (exp_text x) (more_text (exps xs)) (word w) (cuts_then a.cuts b.cuts)));
          reads = λ f more. let p = a.reads f (put f b.kinds more) in let q = b.reads f more in found _ (gr.More.more p.reads q.reads) (λ i. tree.also (p.same i) (q.same i));
          behind = b.behind;
        }

    pub args_back : {ts rest : Tokens} {xs : List Exp} → Args W close ts xs rest → ArePossible ts
        → Back (Args W close) (Cuts (exps_text (exps xs) ++ word w)) (λ ys. bare_exps (exps ys) ≡ bare_exps (exps xs)) rest
    args_back gr.Args.empty ok = record { kinds = one (tk.Sign close); cuts = cuts_of closed; reads = λ f more. found _ gr.Args.empty refl; behind = ok.1 }
    args_back (gr.Args.some {x = x} {xs = xs} d ds) ok =
        let a = whole.back d ok in
        let b = more_back ds a.behind in
        record {
          kinds = both a.kinds b.kinds;
          cuts = cuts_left (exp_text x) (more_text (exps xs)) (word w) (cuts_then a.cuts b.cuts);
          reads = λ f more. let p = a.reads f (put f b.kinds more) in let q = b.reads f more in found _ (gr.Args.some p.reads q.reads) (λ i. tree.also (p.same i) (q.same i));
          behind = b.behind;
        }

  -- in parentheses, behind the `(`
  pub paren_args : {ts rest : Tokens} {xs : List Exp} → Args W s.ParenClose ts xs rest → ArePossible ts
      → Back (Args W s.ParenClose) (Cuts (exps_text (exps xs) ++ word (codes ")"))) (λ ys. bare_exps (exps ys) ≡ bare_exps (exps xs)) rest
  paren_args d ok = args_back s.ParenClose (codes ")") paren_close d ok

  bracket_args : {ts rest : Tokens} {xs : List Exp} → Args W s.BracketClose ts xs rest → ArePossible ts
      → Back (Args W s.BracketClose) (Cuts (exps_text (exps xs) ++ word (codes "]"))) (λ ys. bare_exps (exps ys) ≡ bare_exps (exps xs)) rest
  bracket_args d ok = args_back s.BracketClose (codes "]") bracket_close d ok

  -- ---- the pieces of a string

  record PiecesBack (xs : List (Piece Exp)) (rest : Tokens) : Type 0 where
    kinds : Kinds
    cuts : PieceCuts (pieces_text (pieces xs)) kinds
    opens : closing (pieces xs) ≡ codes "${"
    reads : (f : Tokens → Span) (more : Tokens) → Found (Pieces W) (λ ys. bare_pieces (pieces ys) ≡ bare_pieces (pieces xs)) (put f kinds more) more
    behind : ArePossible rest

  pieces_back : {ts rest : Tokens} {xs : List (Piece Exp)} → Pieces W ts xs rest → ArePossible ts → PiecesBack xs rest
  pieces_back (gr.Pieces.close {u = u} d) ok =
      let a = whole.back d ok in
      record {
        kinds = both a.kinds (one (tk.StrClose u));
        cuts = pieces_close u a.cuts a.behind.0;
        opens = refl;
        reads = λ f more. let p = a.reads f (put f (one (tk.StrClose u)) more) in found _ (gr.Pieces.close p.reads) (λ i. tree.piece (p.same i) u nowhere tree.no_piece);
        behind = a.behind.1;
      }
  pieces_back (gr.Pieces.mid {u = u} {x = x} {xs = xs} d ds) ok =
      let a = whole.back d ok in
      let b = pieces_back ds a.behind.1 in
      record {
        kinds = both a.kinds (both (one (tk.StrMid u)) b.kinds);
        cuts = subst (λ c. PieceCuts (exp_text x ++ (word (codes "}" ++ (units_text u ++ c)) ++ pieces_text (pieces xs))) (both a.kinds (both (one (tk.StrMid u)) b.kinds))) (sym b.opens) (pieces_mid u a.cuts a.behind.0 b.cuts);
        opens = refl;
        reads = λ f more. let q = b.reads f more in let p = a.reads f (put f (both (one (tk.StrMid u)) b.kinds) more) in found _ (gr.Pieces.mid p.reads q.reads) (λ i. tree.piece (p.same i) u nowhere (q.same i));
        behind = b.behind;
      }

  -- ---- primary expressions

  primary_back : {ts rest : Tokens} {x : Exp} → Primary W ts x rest → ArePossible ts → ExpBack (Primary W) x ts rest
  primary_back gr.Primary.null ok = record { kinds = one (tk.Keyword k.Null); cuts = cuts_of null_word; reads = λ f more. found _ gr.Primary.null refl; first = λ f more. refl; no_else = λ f more. refl; behind = ok.1 }
  primary_back gr.Primary.yes ok = record { kinds = one (tk.Keyword k.True); cuts = cuts_of true_word; reads = λ f more. found _ gr.Primary.yes refl; first = λ f more. refl; no_else = λ f more. refl; behind = ok.1 }
  primary_back gr.Primary.no ok = record { kinds = one (tk.Keyword k.False); cuts = cuts_of false_word; reads = λ f more. found _ gr.Primary.no refl; first = λ f more. refl; no_else = λ f more. refl; behind = ok.1 }
  primary_back gr.Primary.this ok = record { kinds = one (tk.Keyword k.This); cuts = cuts_of this_word; reads = λ f more. found _ gr.Primary.this refl; first = λ f more. refl; no_else = λ f more. refl; behind = ok.1 }
  primary_back (gr.Primary.int {n = n}) ok = record { kinds = one (tk.Int n); cuts = cuts_of (int_word n ok.0); reads = λ f more. found _ gr.Primary.int refl; first = λ f more. refl; no_else = λ f more. refl; behind = ok.1 }
  primary_back (gr.Primary.str {u = u}) ok = record { kinds = one (tk.Str u); cuts = cuts_of (string_word u ok.0); reads = λ f more. found _ gr.Primary.str refl; first = λ f more. refl; no_else = λ f more. refl; behind = ok.1 }
  primary_back (gr.Primary.joined {u = u} {xs = xs} d) ok =
      let a = pieces_back d ok.1 in
      record {
        kinds = both (one (tk.StrOpen u)) a.kinds;
        cuts = subst (λ c. Cuts (word (codes "'" ++ (units_text u ++ c)) ++ pieces_text (pieces xs)) (both (one (tk.StrOpen u)) a.kinds)) (sym a.opens) (joined_cuts u ok.0 a.cuts);
        reads = λ f more. let p = a.reads f more in found _ (gr.Primary.joined p.reads) (λ i. tree.joined u nowhere (p.same i));
        first = λ f more. refl;
        no_else = λ f more. refl;
        behind = a.behind;
      }
  primary_back (gr.Primary.name {n = n}) ok = record { kinds = one (tk.Name n); cuts = cuts_of (name_word n ok.0); reads = λ f more. found _ gr.Primary.name refl; first = λ f more. refl; no_else = λ f more. refl; behind = ok.1 }
  primary_back (gr.Primary.call {n = n} d) ok =
      let a = paren_args d ok.1.1 in
      record {
        kinds = both (one (tk.Name n)) (both (one (tk.Sign s.ParenOpen)) a.kinds);
        cuts = cuts_then (cuts_of (name_word n ok.0)) (cuts_then (cuts_of paren_open) a.cuts);
        reads = λ f more. let p = a.reads f more in found _ (gr.Primary.call p.reads) (λ i. tree.call (named n nowhere) (p.same i));
        first = λ f more. refl;
        no_else = λ f more. refl;
        behind = a.behind;
      }
  primary_back (gr.Primary.super_get {n = n}) ok = record {
    kinds = both (one (tk.Keyword k.Super)) (both (one (tk.Sign s.Dot)) (one (tk.Name n)));
    cuts = cuts_then (cuts_of super_word) (cuts_then (cuts_of dot) (cuts_of (name_word n ok.1.1.0)));
    reads = λ f more. found _ gr.Primary.super_get refl;
    first = λ f more. refl;
    no_else = λ f more. refl;
    behind = ok.1.1.1;
  }
  primary_back (gr.Primary.super_call {n = n} d) ok =
      let a = paren_args d ok.1.1.1.1 in
      record {
        kinds = both (one (tk.Keyword k.Super)) (both (one (tk.Sign s.Dot)) (both (one (tk.Name n)) (both (one (tk.Sign s.ParenOpen)) a.kinds)));
        cuts = cuts_then (cuts_of super_word) (cuts_then (cuts_of dot) (cuts_then (cuts_of (name_word n ok.1.1.0)) (cuts_then (cuts_of paren_open) a.cuts)));
        reads = λ f more. let p = a.reads f more in found _ (gr.Primary.super_call p.reads) (λ i. tree.super_call nowhere (named n nowhere) (p.same i));
        first = λ f more. refl;
        no_else = λ f more. refl;
        behind = a.behind;
      }
  primary_back (gr.Primary.paren d) ok =
      let a = whole.back d ok.1 in
      record {
        kinds = both (one (tk.Sign s.ParenOpen)) (both a.kinds (one (tk.Sign s.ParenClose)));
        cuts = cuts_then (cuts_of paren_open) (cuts_then a.cuts (cuts_of paren_close));
        reads = λ f more. let p = a.reads f (put f (one (tk.Sign s.ParenClose)) more) in found _ (gr.Primary.paren p.reads) (λ i. tree.paren (p.same i));
        first = λ f more. refl;
        no_else = λ f more. refl;
        behind = a.behind.1;
      }
  primary_back (gr.Primary.list d) ok =
      let a = bracket_args d ok.1 in
      record {
        kinds = both (one (tk.Sign s.BracketOpen)) a.kinds;
        cuts = cuts_then (cuts_of bracket_open) a.cuts;
        reads = λ f more. let p = a.reads f more in found _ (gr.Primary.list p.reads) (λ i. tree.list nowhere (p.same i));
        first = λ f more. refl;
        no_else = λ f more. refl;
        behind = a.behind;
      }

  -- ---- selectors

  selects_back : (ts rest : Tokens) (x : Selector) → Selects W ts x rest → ArePossible ts → Back (Selects W) (Cuts (selector_text x)) (λ y. bare_selector y ≡ bare_selector x) rest
  selects_back _ _ _ (gr.Selects.member {n = n}) ok = record {
    kinds = both (one (tk.Sign s.Dot)) (one (tk.Name n));
    cuts = cuts_then (cuts_of dot) (cuts_of (name_word n ok.1.0));
    reads = λ f more. found _ gr.Selects.member refl;
    behind = ok.1.1;
  }
  selects_back _ _ _ (gr.Selects.invoke {n = n} d) ok =
      let a = paren_args d ok.1.1.1 in
      record {
        kinds = both (one (tk.Sign s.Dot)) (both (one (tk.Name n)) (both (one (tk.Sign s.ParenOpen)) a.kinds));
        cuts = cuts_then (cuts_of dot) (cuts_then (cuts_of (name_word n ok.1.0)) (cuts_then (cuts_of paren_open) a.cuts));
        reads = λ f more. let p = a.reads f more in found _ (gr.Selects.invoke p.reads) (λ i. tree.send (named n nowhere) (p.same i));
        behind = a.behind;
      }
  selects_back _ _ _ (gr.Selects.index d) ok =
      let a = whole.back d ok.1 in
      record {
        kinds = both (one (tk.Sign s.BracketOpen)) (both a.kinds (one (tk.Sign s.BracketClose)));
        cuts = cuts_then (cuts_of bracket_open) (cuts_then a.cuts (cuts_of bracket_close));
        reads = λ f more. let p = a.reads f (put f (one (tk.Sign s.BracketClose)) more) in found _ (gr.Selects.index p.reads) (λ i. tree.index nowhere (p.same i));
        behind = a.behind.1;
      }

  many_selects : {ts rest : Tokens} {xs : List Selector} → Many (Selects W) ts xs rest → ArePossible ts
      → Back (Many (Selects W)) (Cuts (selectors_text (selectors xs))) (λ ys. bare_selectors (selectors ys) ≡ bare_selectors (selectors xs)) rest
  many_selects = many_back (Selects W) selector_text (λ xs. selectors_text (selectors xs)) (λ y x. bare_selector y ≡ bare_selector x) (λ ys xs. bare_selectors (selectors ys) ≡ bare_selectors (selectors xs))
      cuts_none (λ x xs ks ls a b. cuts_then a b) refl (λ y x ys xs p q i. tree.select (p i) (q i)) selects_back

  pub postfix_back : {ts rest : Tokens} {x : Exp} → Postfix W ts x rest → ArePossible ts → ExpBack (Postfix W) x ts rest
  postfix_back (gr.Postfix.primary d) ok = exp_as (λ us vs y r. gr.Postfix.primary r) (primary_back d ok)
  postfix_back (gr.Postfix.selected d (gr.Many.more {x = y} d1 ds)) ok =
      let a = primary_back d ok in
      let b = selects_back _ _ y d1 a.behind in
      let c = many_selects ds b.behind in
      record {
        kinds = both a.kinds (both b.kinds c.kinds);
        cuts = cuts_then a.cuts (cuts_then b.cuts c.cuts);
        reads = λ f more. let r = c.reads f more in let q = b.reads f (put f c.kinds more) in let p = a.reads f (put f (both b.kinds c.kinds) more) in
            found _ (gr.Postfix.selected p.reads (gr.Many.more q.reads r.reads)) (λ i. tree.postfix (p.same i) (tree.select (q.same i) (r.same i)));
        first = λ f more. a.first f (put f (both b.kinds c.kinds) more);
        no_else = λ f more. a.no_else f (put f (both b.kinds c.kinds) more);
        behind = c.behind;
      }
