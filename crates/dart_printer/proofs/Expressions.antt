-- Operators, and whole expressions within their levels.
use Rattle.std.proofs.Common.{◌≡◌, ℕ, zero, suc, true, false, ◌⊎◌, inl, inr, List, [], ◌∷◌, ◌++◌, refl, ap, sym, ◌∙◌, subst}
use Rattle.dart_syntax.specs.declared.token.Sign.TheVariants as s
use Rattle.dart_syntax.specs.declared.token.TokenKind.TheVariants as tk
use Rattle.dart_syntax.specs.declared.token.Keyword.TheVariants as k
use Rattle.dart_syntax.specs.declared.tree.Link.{Link}
use Rattle.dart_syntax.specs.Syntax as tree
use Rattle.dart_syntax.specs.Syntax.{Exp, links}
use Rattle.dart_syntax.specs.Words.{Tokens}
use Rattle.dart_syntax.specs.Bytes.{Text}
use Rattle.dart_syntax.specs.Operators.{named, may_precede}
use Rattle.dart_syntax.specs.Text.{word, exp_text, links_text, binary_text}
use Rattle.dart_syntax.specs.Grammar.{Reading, Many, Postfix, Unary, Under, Links, Level, Chain, Cond, Expression, ExprWithin, UnderWithin, is_target, last_is_written, repeats}
use Rattle.dart_syntax.specs.Grammar as gr
use Rattle.dart_printer.specs.Spans.{nowhere, bare_exp, bare_links, bare_selectors}
use Rattle.dart_printer.specs.ReadsBack.{ArePossible}
use Rattle.dart_printer.proofs.Lists.{one, both, put}
use Rattle.dart_printer.proofs.Cuts.{Cuts, cuts_of, cuts_none, cuts_then, cuts_right}
use Rattle.dart_printer.proofs.Marks.{name_word}
use Rattle.dart_printer.proofs.Keywords.{is_word, throw_word}
use Rattle.dart_printer.proofs.SignTexts.{unary_word, step_word, binary_word, assignment_word, not, question, colon}
use Rattle.dart_printer.proofs.Numbers.{least_word}
use Rattle.dart_printer.proofs.Back.{found, Back, ExpBack, GivesBack, exp_as, many_back}
use Rattle.dart_printer.proofs.Terms.{postfix_back}

-- ---- what may be written to

last_bare : (more : tree.Selectors) → last_is_written (bare_selectors more) ≡ last_is_written more
last_bare tree.no_selector = refl
last_bare (tree.select (tree.get n) tree.no_selector) = refl
last_bare (tree.select (tree.send n xs) tree.no_selector) = refl
last_bare (tree.select (tree.index at x) tree.no_selector) = refl
last_bare (tree.select x (tree.select y more)) = last_bare (tree.select y more)

target_bare : (x : Exp) → is_target (bare_exp x) ≡ is_target x
target_bare (tree.postfix x more) = last_bare more
target_bare _ = refl

again_target : (x y : Exp) → is_target x ≡ true → bare_exp y ≡ bare_exp x → is_target y ≡ true
again_target x y h same = sym (target_bare y) ∙ ap is_target same ∙ target_bare x ∙ h

-- ---- chains

no_links : (ys : List (Link Exp)) → bare_links (links ys) ≡ tree.no_link → ys ≡ []
no_links [] e = refl
no_links (y ∷ ys) e = cc

few_again : (p : ℕ) (ys zs : List (Link Exp)) → (repeats p ≡ true) ⊎ (ys ≡ []) → bare_links (links zs) ≡ bare_links (links ys) → (repeats p ≡ true) ⊎ (zs ≡ [])
few_again p ys zs (inl h) same = inl h
few_again p ys zs (inr e) same = inr (no_links zs (same ∙ ap (λ ys. bare_links (links ys)) e))

abbrev link_text : Link Exp → Text
link_text y = word (binary_text y.operator) ++ exp_text y.operand

abbrev SameLink : Link Exp → Link Exp → Type 0
SameLink y x = (y.operator ≡ x.operator) × (bare_exp y.operand ≡ bare_exp x.operand)

module _ (p : ℕ) (R : Reading Exp) (r : GivesBack R) where
  link_back : (ts rest : Tokens) (x : Link Exp) → Links p R ts x rest → ArePossible ts → Back (Links p R) (Cuts (link_text x)) (λ y. SameLink y x) rest
  link_back _ _ _ (gr.Links.linked {c = c} {op = op} is low d) ok =
      let a = r.back d ok.1 in
      record {
        kinds = both (one (tk.Sign c)) a.kinds;
        cuts = cuts_then (cuts_of (binary_word c op is)) a.cuts;
        reads = λ f more. let q = a.reads f more in found _ (gr.Links.linked is low q.reads) (refl, q.same);
        behind = a.behind;
      }

  many_links : {ts rest : Tokens} {xs : List (Link Exp)} → Many (Links p R) ts xs rest → ArePossible ts
      → Back (Many (Links p R)) (Cuts (links_text (links xs))) (λ ys. bare_links (links ys) ≡ bare_links (links xs)) rest
  many_links = many_back (Links p R) link_text (λ xs. links_text (links xs)) SameLink (λ ys xs. bare_links (links ys) ≡ bare_links (links xs))
      cuts_none (λ x xs ks ls a b. cuts_right (word (binary_text x.operator)) (exp_text x.operand) (links_text (links xs)) (cuts_then a b)) refl (λ y x ys xs p q i. tree.link (p.0 i) nowhere (p.1 i) (q i)) link_back

  level_back : {ts rest : Tokens} {x : Exp} → Level p R ts x rest → ArePossible ts → ExpBack (Level p R) x ts rest
  level_back (gr.Level.one d) ok = exp_as (λ us vs y r. gr.Level.one r) (r.back d ok)
  level_back (gr.Level.chain {x = x} {y = y} {ys = ys} d (gr.Many.more l ls) few) ok =
      let a = r.back d ok in
      let b = link_back _ _ y l a.behind in
      let c = many_links ls b.behind in
      record {
        kinds = both a.kinds (both b.kinds c.kinds);
        cuts = cuts_then a.cuts (cuts_right (word (binary_text y.operator)) (exp_text y.operand) (links_text (links ys)) (cuts_then b.cuts c.cuts));
        reads = λ f more. let z = c.reads f more in let q = b.reads f (put f c.kinds more) in let o = a.reads f (put f (both b.kinds c.kinds) more) in
            found _ (gr.Level.chain o.reads (gr.Many.more q.reads z.reads) (few_again p ys z.it few z.same)) (λ i. tree.chain (o.same i) (tree.link (q.same.0 i) nowhere (q.same.1 i) (z.same i)));
        first = λ f more. a.first f (put f (both b.kinds c.kinds) more);
        no_else = λ f more. a.no_else f (put f (both b.kinds c.kinds) more);
        behind = c.behind;
      }
  level_back (gr.Level.is {n = n} four d) ok =
      let a = r.back d ok in
      let kinds = both (one (tk.Keyword k.Is)) (one (tk.Name n)) in
      record {
        kinds = both a.kinds kinds;
        cuts = cuts_then a.cuts (cuts_then (cuts_of is_word) (cuts_of (name_word n a.behind.1.0)));
        reads = λ f more. let q = a.reads f (put f kinds more) in found _ (gr.Level.is four q.reads) (λ i. tree.is (q.same i) false nowhere (named n nowhere));
        first = λ f more. a.first f (put f kinds more);
        no_else = λ f more. a.no_else f (put f kinds more);
        behind = a.behind.1.1;
      }
  level_back (gr.Level.is_not {n = n} four d) ok =
      let a = r.back d ok in
      let kinds = both (one (tk.Keyword k.Is)) (both (one (tk.Sign s.Not)) (one (tk.Name n))) in
      record {
        kinds = both a.kinds kinds;
        cuts = cuts_then a.cuts (cuts_then (cuts_of is_word) (cuts_then (cuts_of not) (cuts_of (name_word n a.behind.1.1.0))));
        reads = λ f more. let q = a.reads f (put f kinds more) in found _ (gr.Level.is_not four q.reads) (λ i. tree.is (q.same i) true nowhere (named n nowhere));
        first = λ f more. a.first f (put f kinds more);
        no_else = λ f more. a.no_else f (put f kinds more);
        behind = a.behind.1.1.1;
      }

module _ (W O : Reading Exp) (whole : GivesBack W) (operand : GivesBack O) where
  unary_back : {ts rest : Tokens} {x : Exp} → Unary W O ts x rest → ArePossible ts → ExpBack (Unary W O) x ts rest
  unary_back (gr.Unary.signed {c = c} {op = op} is may d) ok =
      let a = operand.back d ok.1 in
      record {
        kinds = both (one (tk.Sign c)) a.kinds;
        cuts = cuts_then (cuts_of (unary_word c op is)) a.cuts;
        reads = λ f more. let q = a.reads f more in found _ (gr.Unary.signed is (subst (λ k. may_precede op k ≡ true) (sym (a.first f more)) may) q.reads) (λ i. tree.unary op nowhere (q.same i));
        first = λ f more. refl;
        no_else = λ f more. refl;
        behind = a.behind;
      }
  unary_back (gr.Unary.before {c = c} {op = op} {x = x} is d written) ok =
      let a = postfix_back W whole d ok.1 in
      record {
        kinds = both (one (tk.Sign c)) a.kinds;
        cuts = cuts_then (cuts_of (step_word c op is)) a.cuts;
        reads = λ f more. let q = a.reads f more in found _ (gr.Unary.before is q.reads (again_target x q.it written q.same)) (λ i. tree.step true op nowhere (q.same i));
        first = λ f more. refl;
        no_else = λ f more. refl;
        behind = a.behind;
      }
  unary_back (gr.Unary.after {c = c} {op = op} {x = x} is d written) ok =
      let a = postfix_back W whole d ok in
      record {
        kinds = both a.kinds (one (tk.Sign c));
        cuts = cuts_then a.cuts (cuts_of (step_word c op is));
        reads = λ f more. let q = a.reads f (put f (one (tk.Sign c)) more) in found _ (gr.Unary.after is q.reads (again_target x q.it written q.same)) (λ i. tree.step false op nowhere (q.same i));
        first = λ f more. a.first f (put f (one (tk.Sign c)) more);
        no_else = λ f more. a.no_else f (put f (one (tk.Sign c)) more);
        behind = a.behind.1;
      }
  unary_back (gr.Unary.postfix d) ok = exp_as (λ us vs y r. gr.Unary.postfix r) (postfix_back W whole d ok)

  under_back : {ts rest : Tokens} {x : Exp} → Under W O ts x rest → ArePossible ts → ExpBack (Under W O) x ts rest
  under_back gr.Under.least ok = record { kinds = one tk.MinInt; cuts = cuts_of least_word; reads = λ f more. found _ gr.Under.least refl; first = λ f more. refl; no_else = λ f more. refl; behind = ok.1 }
  under_back (gr.Under.plain d) ok = exp_as (λ us vs y r. gr.Under.plain r) (unary_back d ok)

  chain_back : (p : ℕ) → GivesBack (Chain W O p)
  chain_back zero = record { back = unary_back }
  chain_back (suc p) = record { back = level_back (suc p) (Chain W O p) (chain_back p) }

  cond_back : {ts rest : Tokens} {x : Exp} → Cond W O ts x rest → ArePossible ts → ExpBack (Cond W O) x ts rest
  cond_back (gr.Cond.one d) ok = exp_as (λ us vs y r. gr.Cond.one r) ((chain_back 10).back d ok)
  cond_back (gr.Cond.cond d d1 d2) ok =
      let a = (chain_back 10).back d ok in
      let b = whole.back d1 a.behind.1 in
      let c = whole.back d2 b.behind.1 in
      let kinds = both (one (tk.Sign s.Question)) (both b.kinds (both (one (tk.Sign s.Colon)) c.kinds)) in
      record {
        kinds = both a.kinds kinds;
        cuts = cuts_then a.cuts (cuts_then (cuts_of question) (cuts_then b.cuts (cuts_then (cuts_of colon) c.cuts)));
        reads = λ f more. let r = c.reads f more in let q = b.reads f (put f (both (one (tk.Sign s.Colon)) c.kinds) more) in let p = a.reads f (put f kinds more) in
            found _ (gr.Cond.cond p.reads q.reads r.reads) (λ i. tree.choice (p.same i) (q.same i) (r.same i));
        first = λ f more. a.first f (put f kinds more);
        no_else = λ f more. a.no_else f (put f kinds more);
        behind = c.behind;
      }

  expression_back : {ts rest : Tokens} {x : Exp} → Expression W O ts x rest → ArePossible ts → ExpBack (Expression W O) x ts rest
  expression_back (gr.Expression.throw d) ok =
      let a = whole.back d ok.1 in
      record {
        kinds = both (one (tk.Keyword k.Throw)) a.kinds;
        cuts = cuts_then (cuts_of throw_word) a.cuts;
        reads = λ f more. let p = a.reads f more in found _ (gr.Expression.throw p.reads) (λ i. tree.throw nowhere (p.same i));
        first = λ f more. refl;
        no_else = λ f more. refl;
        behind = a.behind;
      }
  expression_back (gr.Expression.cond d) ok = exp_as (λ us vs y r. gr.Expression.cond r) (cond_back d ok)
  expression_back (gr.Expression.assign {c = c} {op = op} {x = x} d written is d1) ok =
      let a = postfix_back W whole d ok in
      let b = whole.back d1 a.behind.1 in
      let kinds = both (one (tk.Sign c)) b.kinds in
      record {
        kinds = both a.kinds kinds;
        cuts = cuts_then a.cuts (cuts_then (cuts_of (assignment_word c op is)) b.cuts);
        reads = λ f more. let q = b.reads f more in let p = a.reads f (put f kinds more) in
            found _ (gr.Expression.assign p.reads (again_target x p.it written p.same) is q.reads) (λ i. tree.assign (p.same i) op nowhere (q.same i));
        first = λ f more. a.first f (put f kinds more);
        no_else = λ f more. a.no_else f (put f kinds more);
        behind = b.behind;
      }

within_back : (n : ℕ) → GivesBack (ExprWithin n) × GivesBack (UnderWithin n)
within_back zero = (record { back = λ d ok. elim d [ ] }, record { back = λ d ok. elim d [ ] })
within_back (suc n) = let (w, o) = within_back n in
    (record { back = expression_back (ExprWithin n) (UnderWithin n) w o }, record { back = under_back (ExprWithin n) (UnderWithin n) w o })

-- expressions of at most so many levels
pub expr_back : (n : ℕ) → GivesBack (ExprWithin n)
expr_back n = (within_back n).0
