-- Statements, at each number of levels.
use Rattle.std.proofs.Common.{◌≡◌, ℕ, zero, suc, ◌<◌, Bool, true, false, ◌&&◌, ◌==◌, List, [], ◌∷◌, length, Option, Some, None, Ok, Err, refl, inl, inr, ◌⊎◌, arith}
use Rattle.std.proofs.lemmas.Bool.{eqb-true}
use Rattle.dart_syntax.specs.declared.token.Span.{Span}
use Rattle.dart_syntax.specs.declared.token.Sign.TheVariants as s
use Rattle.dart_syntax.specs.declared.token.Keyword.{Keyword}
use Rattle.dart_syntax.specs.declared.token.Keyword.TheVariants as k
use Rattle.dart_syntax.specs.declared.token.TokenKind.{TokenKind}
use Rattle.dart_syntax.specs.declared.token.TokenKind.TheVariants as tk
use Rattle.dart_syntax.specs.Syntax as tree
use Rattle.dart_syntax.specs.Syntax.{Exp, Sta}
use Rattle.dart_syntax.specs.Words.{Tokens, token, sign, keyword}
use Rattle.dart_syntax.specs.Operators.{named}
use Rattle.dart_syntax.specs.Grammar as gr
use Rattle.dart_syntax.specs.Grammar.{Reading, Many, none, more, Valued, Initial, NoElse, is_var, Locals, Statement, StmtWithin, NoStmt, ExprWithin}
use Rattle.dart_expr.specs.Input.{Parser, Outcome, is_sign, and_then, many_from, same, sees, sees_keyword, after, expect, span, next, is_end, is_end_kind}
use Rattle.dart_expr.specs.Model.{name, expr}
use Rattle.dart_parser.specs.Statements as m
use Rattle.dart_parser.specs.Statements.{item, ended, valued, initial, block, variable, constant, local, first_by, first, comma_item, comma_items, last, condition, branches, repeated, do_repeated, counted, counted_by, broken, continued, returned, statement_by, statement, stmt}
use Rattle.dart_expr.proofs.Facts.{sees_it, after_it, after_not, after_seen, expect_it, seen, expect_ok, sees_keyword_it, after_keyword_it, after_keyword_not, seen_keyword, after_keyword_seen, same_ok, split, via, some_not_none, none_not_some}
use Rattle.dart_expr.specs.Firsts.{kind_starts}
use Rattle.dart_expr.proofs.Good.{Good, starts_other, grip, starts}
use Rattle.dart_expr.proofs.Many.{GoodStep, many_complete, many_via, many_after, many_shorter, many_grip}
use Rattle.dart_expr.proofs.Terms.{name_via}
use Rattle.dart_expr.proofs.Expressions.{expr_good}
use Rattle.dart_expr.specs.declared.refusal.Refusal.{Refusal}

-- what a statement doesn't begin with
abbrev pub kind_opens : TokenKind → Bool
kind_opens (tk.Sign s.BraceClose) = false
kind_opens tk.End = false
kind_opens _ = true

unfoldable pub opens : Tokens → Bool
opens [] = false
opens (t ∷ ts) = kind_opens t.kind

starts_opens_kind : (c : TokenKind) → kind_starts c ≡ true → kind_opens c ≡ true
starts_opens_kind (tk.Sign s.BraceClose) h = h
starts_opens_kind tk.End h = h
starts_opens_kind _ h = refl

starts_opens : (ts : Tokens) → starts ts ≡ true → opens ts ≡ true
unfolding starts opens
starts_opens [] h = h
starts_opens (t ∷ ts) h = starts_opens_kind t.kind h

pub record GoodStmt (R : Reading Sta) (parse : Parser Sta) : Type 0 where
  pub complete : {ts rest : Tokens} {x : Sta} → R ts x rest → parse ts ≡ Ok (x, rest)
  pub sound : (ts : Tokens) {x : Sta} {rest : Tokens} → parse ts ≡ Ok (x, rest) → R ts x rest
  pub shorter : {ts rest : Tokens} {x : Sta} → R ts x rest → length rest < length ts
  pub begins : {ts rest : Tokens} {x : Sta} → R ts x rest → opens ts ≡ true

abbrev Some_is : {A : Type 0} → (A → Type 0) → Option A → Type 0
Some_is P None = Unit {0}
Some_is P (Some x) = P x

-- ---- lists of statements, up to what ends them

module _ (R : Reading Sta) (r : Parser Sta) (good : GoodStmt R r) (ends : Tokens → Bool) (not_open : (ts : Tokens) → opens ts ≡ true → ends ts ≡ false) where
  item_sound : (ts : Tokens) {x : Sta} {rest : Tokens} → item ends r ts ≡ Ok (Some x, rest) → R ts x rest
  unfolding item
  item_sound ts e = split (ends ts)
      (λ h. absurd (none_not_some (rw h at e)))
      (λ h. via (r ts) _ (rw h at e) (λ y us e1 e2. same_ok (λ o rest. Some_is (λ x. R ts x rest) o) e2 (good.sound ts e1)))

  item_none : (ts : Tokens) {rest : Tokens} → item ends r ts ≡ Ok (None, rest) → rest ≡ ts
  unfolding item
  item_none ts e = split (ends ts)
      (λ h. same_ok (λ (o : Option Sta) rest. rest ≡ ts) (rw h at e) refl)
      (λ h. via (r ts) _ (rw h at e) (λ y us e1 e2. absurd (some_not_none e2)))

  pub items_good : GoodStep R (item ends r) (λ ts. ends ts ≡ true) (λ ts. Unit {0})
  unfolding item
  items_good = record {
    complete = λ {ts} d f. let other = not_open ts (good.begins d) in rw (other, good.complete d);
    stops = λ ts h. rw h;
    sound = item_sound;
    sound_none = item_none;
    shorter = good.shorter;
    begins = λ d. tt;
    lower = λ ts h. tt;
  }

-- ---- one statement over those one level deeper

not_closing_kind : (c : TokenKind) → kind_opens c ≡ true → (is_end_kind (Some c) ≡ false) × (is_sign s.BraceClose (Some c) ≡ false)
unfolding same
not_closing_kind (tk.Sign s.BraceClose) h = cc
not_closing_kind tk.End h = cc
not_closing_kind (tk.Sign c) h = (refl, refl)
not_closing_kind _ h = (refl, refl)

pub not_end : (ts : Tokens) → opens ts ≡ true → is_end ts ≡ false
unfolding opens is_end
not_end [] h = cc
not_end (t ∷ ts) h = (not_closing_kind t.kind h).0

pub not_brace : (ts : Tokens) → opens ts ≡ true → sees s.BraceClose ts ≡ false
unfolding opens sees
not_brace [] h = cc
not_brace (t ∷ ts) h = (not_closing_kind t.kind h).1

no_else : (ts : Tokens) → NoElse ts → sees_keyword k.Else ts ≡ false
no_else ts h = split (sees_keyword k.Else ts)
    (λ e. absurd (h (span ts) (next ts) (seen_keyword k.Else ts e)))
    (λ e. e)

else_none : (ts : Tokens) → sees_keyword k.Else ts ≡ false → NoElse ts
else_none ts h at us e = let f : sees_keyword k.Else ts ≡ true = rw e (sees_keyword_it k.Else at us) in cc

module _ (I : Reading Sta) (W : Reading Exp) (i : Parser Sta) (w : Parser Exp) (good_inner : GoodStmt I i) (good : Good W w 1) where
  braces : GoodStep I (item (sees s.BraceClose) i) (λ ts. sees s.BraceClose ts ≡ true) (λ ts. Unit {0})
  braces = items_good I i good_inner (sees s.BraceClose) not_brace

  ended_complete : {ts rest : Tokens} {x : Exp} {a : Span} → W ts x (sign s.Semicolon a ∷ rest) → ended i w ts ≡ Ok (x, rest)
  unfolding ended grip
  ended_complete {rest = rest} {a = a} d = rw (good.complete d (omega arith), expect_it s.Semicolon a rest)

  ended_sound : (ts : Tokens) {x : Exp} {rest : Tokens} → ended i w ts ≡ Ok (x, rest) → (a : Span) × W ts x (sign s.Semicolon a ∷ rest)
  unfolding ended
  ended_sound ts e = via (w ts) _ e (λ x us e1 e2. via (expect s.Semicolon us) _ e2 (λ a vs e3 e4.
      same_ok (λ x rest. (a : Span) × W ts x (sign s.Semicolon a ∷ rest)) e4 (a, rw (expect_ok s.Semicolon us e3) at (good.sound ts e1))))

  no_semicolon : (ts : Tokens) → starts ts ≡ true → sees s.Semicolon ts ≡ false
  no_semicolon ts h = starts_other s.Semicolon ts refl h

  valued_complete : {ts rest : Tokens} {v : Option Exp} → Valued W ts v rest → valued i w ts ≡ Ok (v, rest)
  unfolding valued
  valued_complete (gr.Valued.none {at} {rest}) = rw (sees_it s.Semicolon at rest, after_it s.Semicolon at rest)
  valued_complete (gr.Valued.some {a} {x} {ts} {rest} d) =
      let other = no_semicolon ts (good.begins d) in rw (other, after_not s.Semicolon ts other, ended_complete d)

  valued_sound : (ts : Tokens) {v : Option Exp} {rest : Tokens} → valued i w ts ≡ Ok (v, rest) → Valued W ts v rest
  unfolding valued
  valued_sound ts e = split (sees s.Semicolon ts)
      (λ h. rw (seen s.Semicolon ts h) (same_ok (λ v rest. Valued W (sign s.Semicolon (span ts) ∷ next ts) v rest) (rw (h, after_seen s.Semicolon ts h) at e) gr.Valued.none))
      (λ h. via (ended i w ts) _ (rw (h, after_not s.Semicolon ts h) at e) (λ x us e1 e2. let (a, d) = ended_sound ts e1 in
      same_ok (λ v rest. Valued W ts v rest) e2 (gr.Valued.some d)))

  initial_complete : {ts rest : Tokens} {v : Option Exp} → Initial W ts v rest → initial i w ts ≡ Ok (v, rest)
  unfolding initial sees same after
  initial_complete gr.Initial.none = refl
  initial_complete (gr.Initial.some {a} {b} {x} {ts} {rest} d) = rw (expect_it s.Assign a ts, ended_complete d)

  initial_sound : (ts : Tokens) {v : Option Exp} {rest : Tokens} → initial i w ts ≡ Ok (v, rest) → Initial W ts v rest
  unfolding initial
  initial_sound ts e = split (sees s.Semicolon ts)
      (λ h. rw (seen s.Semicolon ts h) (same_ok (λ v rest. Initial W (sign s.Semicolon (span ts) ∷ next ts) v rest) (rw (h, after_seen s.Semicolon ts h) at e) gr.Initial.none))
      (λ h. via (expect s.Assign ts) _ (rw (h, after_not s.Semicolon ts h) at e) (λ a us e1 e2. via (ended i w us) _ e2 (λ x vs e3 e4. let (b, d) = ended_sound us e3 in
      rw (expect_ok s.Assign ts e1) (same_ok (λ v rest. Initial W (sign s.Assign a ∷ us) v rest) e4 (gr.Initial.some d)))))

  locals_complete : {ts rest : Tokens} {l : tree.Local} → Locals W ts l rest → local i w ts ≡ Ok (l, rest)
  unfolding local variable constant name
  locals_complete (gr.Locals.variable {w = wd} {n} {a} {b} {v} {ts} {rest} is d) = var_complete wd is
    where
      var_complete : (wd : Keyword) → is_var wd ≡ true → local i w (keyword wd a ∷ token (tk.Name n) b ∷ ts) ≡ Ok (tree.a_local false (named n b) v, rest)
      var_complete k.Var is = rw (initial_complete d)
      var_complete k.Dynamic is = rw (initial_complete d)
      var_complete _ is = cc
  locals_complete (gr.Locals.final {n} {a} {b} {c} {d = at} {x} {ts} {rest} d) = rw (expect_it s.Assign c ts, ended_complete d)

  locals_shorter : {ts rest : Tokens} {l : tree.Local} → Locals W ts l rest → length rest < length ts
  locals_shorter (gr.Locals.variable is gr.Initial.none) = omega arith
  locals_shorter (gr.Locals.variable is (gr.Initial.some d)) = omega (arith, good.shorter d)
  locals_shorter (gr.Locals.final d) = omega (arith, good.shorter d)

  -- what follows is decided by the first token
  local_statement : {ts rest : Tokens} {l : tree.Local} → Locals W ts l rest → statement i w ts ≡ and_then (local i w ts) (λ l us. Ok (tree.local l, us))
  unfolding statement
  local_statement (gr.Locals.variable {w = wd} {n} {a} {b} {v} {ts} {rest} is d) = go wd is
    where
      go : (wd : Keyword) → is_var wd ≡ true → statement_by i w (Some (tk.Keyword wd)) (keyword wd a ∷ token (tk.Name n) b ∷ ts) ≡ and_then (local i w (keyword wd a ∷ token (tk.Name n) b ∷ ts)) (λ l us. Ok (tree.local l, us))
      go k.Var is = refl
      go k.Dynamic is = refl
      go _ is = cc
  local_statement (gr.Locals.final d) = refl

  local_first : {ts rest : Tokens} {l : tree.Local} → Locals W ts l rest → first i w ts ≡ and_then (local i w ts) (λ l us. Ok (tree.local_first l, us))
  unfolding first
  local_first (gr.Locals.variable {w = wd} {n} {a} {b} {v} {ts} {rest} is d) = go wd is
    where
      go : (wd : Keyword) → is_var wd ≡ true → first_by i w (Some (tk.Keyword wd)) (keyword wd a ∷ token (tk.Name n) b ∷ ts) ≡ and_then (local i w (keyword wd a ∷ token (tk.Name n) b ∷ ts)) (λ l us. Ok (tree.local_first l, us))
      go k.Var is = refl
      go k.Dynamic is = refl
      go _ is = cc
  local_first (gr.Locals.final d) = refl

  local_opens : {ts rest : Tokens} {l : tree.Local} → Locals W ts l rest → opens ts ≡ true
  unfolding opens
  local_opens (gr.Locals.variable is d) = refl
  local_opens (gr.Locals.final d) = refl

  first_run_kind : (c : TokenKind) (ts : Tokens) → kind_starts c ≡ true → first_by i w (Some c) ts ≡ and_then (ended i w ts) (λ x us. Ok (tree.run_first x, us))
  first_run_kind (tk.Sign s.Semicolon) ts h = cc
  first_run_kind (tk.Keyword k.Var) ts h = cc
  first_run_kind (tk.Keyword k.Dynamic) ts h = cc
  first_run_kind (tk.Keyword k.Final) ts h = cc
  first_run_kind _ ts h = refl

  first_runs : (ts : Tokens) → starts ts ≡ true → first i w ts ≡ and_then (ended i w ts) (λ x us. Ok (tree.run_first x, us))
  unfolding first starts
  first_runs [] h = cc
  first_runs (t ∷ ts) h = first_run_kind t.kind (t ∷ ts) h

  first_complete : {ts rest : Tokens} {f : tree.First} → gr.First W ts f rest → first i w ts ≡ Ok (f, rest)
  unfolding first
  first_complete gr.First.nothing = refl
  first_complete (gr.First.local d) = rw (local_first d, locals_complete d)
  first_complete (gr.First.run {a} {x} {ts} {rest} d) = rw (first_runs ts (good.begins d), ended_complete d)

  first_shorter : {ts rest : Tokens} {f : tree.First} → gr.First W ts f rest → length rest < length ts
  first_shorter gr.First.nothing = omega arith
  first_shorter (gr.First.local d) = locals_shorter d
  first_shorter (gr.First.run d) = omega (arith, good.shorter d)

  valued_shorter : {ts rest : Tokens} {v : Option Exp} → Valued W ts v rest → length rest < length ts
  valued_shorter gr.Valued.none = omega arith
  valued_shorter (gr.Valued.some d) = omega (arith, good.shorter d)

  comma_complete : {ts rest : Tokens} {x : Exp} → gr.Comma W ts x rest → grip rest < 1 → comma_item i w ts ≡ Ok (Some x, rest)
  unfolding comma_item
  comma_complete (gr.Comma.comma {a} {x} {ts} {rest} d) h = rw (sees_it s.Comma a ts, after_it s.Comma a ts, good.complete d h)

  comma_sound : (ts : Tokens) {x : Exp} {rest : Tokens} → comma_item i w ts ≡ Ok (Some x, rest) → gr.Comma W ts x rest
  unfolding comma_item
  comma_sound ts e = split (sees s.Comma ts)
      (λ h. via (w (next ts)) _ (rw (h, after_seen s.Comma ts h) at e) (λ y us e1 e2.
      rw (seen s.Comma ts h) (same_ok (λ o rest. Some_is (λ x. gr.Comma W (sign s.Comma (span ts) ∷ next ts) x rest) o) e2 (gr.Comma.comma (good.sound (next ts) e1)))))
      (λ h. absurd (none_not_some (rw (h, after_not s.Comma ts h) at e)))

  comma_none : (ts : Tokens) {rest : Tokens} → comma_item i w ts ≡ Ok (None, rest) → rest ≡ ts
  unfolding comma_item
  comma_none ts e = split (sees s.Comma ts)
      (λ h. via (w (next ts)) _ (rw (h, after_seen s.Comma ts h) at e) (λ y us e1 e2. absurd (some_not_none e2)))
      (λ h. same_ok (λ (o : Option Exp) rest. rest ≡ ts) (rw (h, after_not s.Comma ts h) at e) refl)

  comma_shorter : {ts rest : Tokens} {x : Exp} → gr.Comma W ts x rest → length rest < length ts
  comma_shorter (gr.Comma.comma d) = omega (arith, good.shorter d)

  comma_grip : {ts rest : Tokens} {x : Exp} → gr.Comma W ts x rest → grip ts < 1
  unfolding grip
  comma_grip (gr.Comma.comma d) = omega arith

  commas_good : GoodStep (gr.Comma W) (comma_item i w) (λ ts. (sees s.Comma ts ≡ false) × (grip ts < 1)) (λ ts. grip ts < 1)
  unfolding comma_item
  commas_good = record {
    complete = comma_complete;
    stops = λ ts h. rw (h.0, after_not s.Comma ts h.0);
    sound = comma_sound;
    sound_none = comma_none;
    shorter = comma_shorter;
    begins = comma_grip;
    lower = λ ts h. h.1;
  }

  close_stops : (at : Span) (ts : Tokens) → (sees s.Comma (sign s.ParenClose at ∷ ts) ≡ false) × (grip (sign s.ParenClose at ∷ ts) < 1)
  unfolding sees same grip
  close_stops at ts = (refl, omega arith)

  last_complete : {ts rest : Tokens} {xs : List Exp} → gr.Last W ts xs rest → last i w ts ≡ Ok (xs, rest)
  unfolding last comma_items
  last_complete (gr.Last.none {a} {rest}) = rw (sees_it s.ParenClose a rest, after_it s.ParenClose a rest)
  last_complete (gr.Last.some {a} {x} {xs} {ts} {mid} {rest} d ds) =
      let other = starts_other s.ParenClose ts refl (good.begins d) in
      rw (
        other,
        after_not s.ParenClose ts other,
        good.complete d (many_grip (gr.Comma W) (comma_item i w) _ _ commas_good ds (close_stops a rest)),
        many_complete (gr.Comma W) (comma_item i w) _ _ commas_good (length mid) (x ∷ []) ds (close_stops a rest) (omega (arith, many_shorter (gr.Comma W) (comma_item i w) _ _ commas_good ds)),
        expect_it s.ParenClose a rest,
      )

  last_sound : (ts : Tokens) {xs : List Exp} {rest : Tokens} → last i w ts ≡ Ok (xs, rest) → gr.Last W ts xs rest
  unfolding last comma_items
  last_sound ts e = split (sees s.ParenClose ts)
      (λ h. rw (seen s.ParenClose ts h) (same_ok (λ xs rest. gr.Last W (sign s.ParenClose (span ts) ∷ next ts) xs rest) (rw (h, after_seen s.ParenClose ts h) at e) gr.Last.none))
      (λ h. via (w ts) _ (rw (h, after_not s.ParenClose ts h) at e) (λ x us e1 e2. via (many_from (comma_item i w) (length us) (x ∷ []) us) _ e2 (λ ys vs e3 e4. via (expect s.ParenClose vs) _ e4 (λ b ws e5 e6.
      many_after (gr.Comma W) (comma_item i w) _ _ commas_good (length us) (x ∷ []) us e3 (λ zs is reads.
      same_ok (λ xs rest. gr.Last W ts xs rest) e6 (rw is (gr.Last.some (good.sound ts e1) (rw (expect_ok s.ParenClose vs e5) at reads))))))))

  last_shorter : {ts rest : Tokens} {xs : List Exp} → gr.Last W ts xs rest → length rest < length ts
  last_shorter gr.Last.none = omega arith
  last_shorter (gr.Last.some d ds) = omega (arith, good.shorter d, many_shorter (gr.Comma W) (comma_item i w) _ _ commas_good ds)

  run_kind : (c : TokenKind) (ts : Tokens) → kind_starts c ≡ true → statement_by i w (Some c) ts ≡ and_then (ended i w ts) (λ x us. Ok (tree.run x, us))
  run_kind (tk.Sign s.BraceOpen) ts h = cc
  run_kind (tk.Sign s.Semicolon) ts h = cc
  run_kind (tk.Keyword k.Var) ts h = cc
  run_kind (tk.Keyword k.Dynamic) ts h = cc
  run_kind (tk.Keyword k.Final) ts h = cc
  run_kind (tk.Keyword k.If) ts h = cc
  run_kind (tk.Keyword k.While) ts h = cc
  run_kind (tk.Keyword k.Do) ts h = cc
  run_kind (tk.Keyword k.For) ts h = cc
  run_kind (tk.Keyword k.Break) ts h = cc
  run_kind (tk.Keyword k.Continue) ts h = cc
  run_kind (tk.Keyword k.Return) ts h = cc
  run_kind _ ts h = refl

  runs : (ts : Tokens) → starts ts ≡ true → statement i w ts ≡ and_then (ended i w ts) (λ x us. Ok (tree.run x, us))
  unfolding statement starts
  runs [] h = cc
  runs (t ∷ ts) h = run_kind t.kind (t ∷ ts) h

  statement_complete : {ts rest : Tokens} {x : Sta} → Statement I W ts x rest → statement i w ts ≡ Ok (x, rest)
  unfolding statement block branches repeated do_repeated counted counted_by broken continued returned condition grip
  statement_complete (gr.Statement.block {a} {b} {xs} {ts} {rest} ds) =
      rw (many_complete I (item (sees s.BraceClose) i) _ _ braces (length ts) [] ds (sees_it s.BraceClose b rest) (omega (arith, many_shorter I (item (sees s.BraceClose) i) _ _ braces ds)), expect_it s.BraceClose b rest)
  statement_complete (gr.Statement.local d) = rw (local_statement d, locals_complete d)
  statement_complete (gr.Statement.run {a} {x} {ts} {rest} d) = rw (runs ts (good.begins d), ended_complete d)
  statement_complete gr.Statement.empty = refl
  statement_complete (gr.Statement.if {a} {b} {c} {x} {y} {ts} {us} {rest} d d1 free) =
      let other = no_else rest free in
      rw (expect_it s.ParenOpen b ts, good.complete d (omega arith), expect_it s.ParenClose c us, good_inner.complete d1, other, after_keyword_not k.Else rest other)
  statement_complete (gr.Statement.if_else {a} {b} {c} {d = at} {x} {y} {z} {ts} {us} {vs} {rest} d d1 d2) =
      rw (expect_it s.ParenOpen b ts, good.complete d (omega arith), expect_it s.ParenClose c us, good_inner.complete d1, sees_keyword_it k.Else at vs, after_keyword_it k.Else at vs, good_inner.complete d2)
  statement_complete (gr.Statement.while {a} {b} {c} {x} {y} {ts} {us} {rest} d d1) =
      rw (expect_it s.ParenOpen b ts, good.complete d (omega arith), expect_it s.ParenClose c us, good_inner.complete d1)
  statement_complete (gr.Statement.do_while {a} {b} {c} {d = e} {m} {x} {y} {ts} {us} {rest} d1 d) =
      rw (good_inner.complete d1, sees_keyword_it k.While b (sign s.ParenOpen c ∷ us), expect_it s.ParenOpen c us, good.complete d (omega arith), expect_it s.ParenClose e (sign s.Semicolon m ∷ rest), expect_it s.Semicolon m rest)
  statement_complete (gr.Statement.for {a} {b} {f} {c} {xs} {y} {ts} {us} {vs} {ws} {rest} d0 d1 d2 d) =
      rw (expect_it s.ParenOpen b ts, first_complete d0, valued_complete d1, last_complete d2, good_inner.complete d)
  statement_complete (gr.Statement.break {a} {b} {rest}) = rw (expect_it s.Semicolon b rest)
  statement_complete (gr.Statement.continue {a} {b} {rest}) = rw (expect_it s.Semicolon b rest)
  statement_complete (gr.Statement.return {at} {v} {ts} {rest} d) = rw (valued_complete d)

  statement_shorter : {ts rest : Tokens} {x : Sta} → Statement I W ts x rest → length rest < length ts
  statement_shorter (gr.Statement.block ds) = omega (arith, many_shorter I (item (sees s.BraceClose) i) _ _ braces ds)
  statement_shorter (gr.Statement.local d) = locals_shorter d
  statement_shorter (gr.Statement.run d) = omega (arith, good.shorter d)
  statement_shorter gr.Statement.empty = omega arith
  statement_shorter (gr.Statement.if d d1 free) = omega (arith, good.shorter d, good_inner.shorter d1)
  statement_shorter (gr.Statement.if_else d d1 d2) = omega (arith, good.shorter d, good_inner.shorter d1, good_inner.shorter d2)
  statement_shorter (gr.Statement.while d d1) = omega (arith, good.shorter d, good_inner.shorter d1)
  statement_shorter (gr.Statement.do_while d1 d) = omega (arith, good.shorter d, good_inner.shorter d1)
  statement_shorter (gr.Statement.for d0 d1 d2 d) = omega (arith, first_shorter d0, valued_shorter d1, last_shorter d2, good_inner.shorter d)
  statement_shorter gr.Statement.break = omega arith
  statement_shorter gr.Statement.continue = omega arith
  statement_shorter (gr.Statement.return gr.Valued.none) = omega arith
  statement_shorter (gr.Statement.return (gr.Valued.some d)) = omega (arith, good.shorter d)

  statement_opens : {ts rest : Tokens} {x : Sta} → Statement I W ts x rest → opens ts ≡ true
  unfolding opens
  statement_opens (gr.Statement.run d) = starts_opens _ (good.begins d)
  statement_opens (gr.Statement.local d) = local_opens d
  statement_opens (gr.Statement.block ds) = refl
  statement_opens _ = refl

  -- ---- what is read is in the grammar

  block_sound : (a : Span) (ts : Tokens) {x : Sta} {rest : Tokens} → block i w (sign s.BraceOpen a ∷ ts) ≡ Ok (x, rest) → Statement I W (sign s.BraceOpen a ∷ ts) x rest
  unfolding block
  block_sound a ts e = via (many_from (item (sees s.BraceClose) i) (length ts) [] ts) _ e (λ xs us e1 e2. via (expect s.BraceClose us) _ e2 (λ b vs e3 e4.
      many_via I (item (sees s.BraceClose) i) _ _ braces (length ts) ts e1 (λ zs is reads few.
      same_ok (λ x rest. Statement I W (sign s.BraceOpen a ∷ ts) x rest) e4 (rw is (gr.Statement.block (rw (expect_ok s.BraceClose us e3) at reads))))))

  variable_sound : (wd : Keyword) (a : Span) (ts : Tokens) {x : tree.Local} {rest : Tokens} → is_var wd ≡ true → variable i w (keyword wd a ∷ ts) ≡ Ok (x, rest) → Locals W (keyword wd a ∷ ts) x rest
  unfolding variable
  variable_sound wd a ts is e = via (name ts) _ e (λ n us e1 e2. via (initial i w us) _ e2 (λ v vs e3 e4.
      name_via ts e1 (λ text b at same_n.
      rw at (same_ok (λ x rest. Locals W (keyword wd a ∷ token (tk.Name text) b ∷ us) x rest) e4 (rw same_n (gr.Locals.variable is (initial_sound us e3)))))))

  constant_sound : (a : Span) (ts : Tokens) {x : tree.Local} {rest : Tokens} → constant i w (keyword k.Final a ∷ ts) ≡ Ok (x, rest) → Locals W (keyword k.Final a ∷ ts) x rest
  unfolding constant
  constant_sound a ts e = via (name ts) _ e (λ n us e1 e2. via (expect s.Assign us) _ e2 (λ c vs e3 e4. via (ended i w vs) _ e4 (λ x ws e5 e6.
      name_via ts e1 (λ text b at same_n. let (d, value) = ended_sound vs e5 in
      rw (at, expect_ok s.Assign us e3) (same_ok (λ x rest. Locals W (keyword k.Final a ∷ token (tk.Name text) b ∷ sign s.Assign c ∷ vs) x rest) e6 (rw same_n (gr.Locals.final value)))))))

  -- a local that a keyword begins
  local_sound : (c : Keyword) (at : Span) (ts : Tokens) {l : tree.Local} {rest : Tokens} → (c ≡ k.Final) ⊎ (is_var c ≡ true) → local i w (keyword c at ∷ ts) ≡ Ok (l, rest) → Locals W (keyword c at ∷ ts) l rest
  unfolding local
  local_sound k.Final at ts h e = constant_sound at ts e
  local_sound k.Var at ts h e = variable_sound k.Var at ts refl e
  local_sound k.Dynamic at ts h e = variable_sound k.Dynamic at ts refl e
  local_sound c at ts (inl h) e = cc
  local_sound c at ts (inr h) e = cc

  locals_sound : (c : Keyword) (at : Span) (ts : Tokens) {x : Sta} {rest : Tokens} → (c ≡ k.Final) ⊎ (is_var c ≡ true)
      → and_then (local i w (keyword c at ∷ ts)) (λ l us. Ok (tree.local l, us)) ≡ Ok (x, rest) → Statement I W (keyword c at ∷ ts) x rest
  locals_sound c at ts h e = via (local i w (keyword c at ∷ ts)) _ e (λ l us e1 e2.
      same_ok (λ x rest. Statement I W (keyword c at ∷ ts) x rest) e2 (gr.Statement.local (local_sound c at ts h e1)))

  first_locals : (c : Keyword) (at : Span) (ts : Tokens) {x : tree.First} {rest : Tokens} → (c ≡ k.Final) ⊎ (is_var c ≡ true)
      → and_then (local i w (keyword c at ∷ ts)) (λ l us. Ok (tree.local_first l, us)) ≡ Ok (x, rest) → gr.First W (keyword c at ∷ ts) x rest
  first_locals c at ts h e = via (local i w (keyword c at ∷ ts)) _ e (λ l us e1 e2.
      same_ok (λ x rest. gr.First W (keyword c at ∷ ts) x rest) e2 (gr.First.local (local_sound c at ts h e1)))

  first_run_sound : (ts : Tokens) {x : tree.First} {rest : Tokens} → and_then (ended i w ts) (λ x us. Ok (tree.run_first x, us)) ≡ Ok (x, rest) → gr.First W ts x rest
  first_run_sound ts e = via (ended i w ts) _ e (λ x us e1 e2. let (a, d) = ended_sound ts e1 in same_ok (λ x rest. gr.First W ts x rest) e2 (gr.First.run d))

  first_here : (c : TokenKind) (at : Span) (ts : Tokens) {x : tree.First} {rest : Tokens} → first_by i w (Some c) (token c at ∷ ts) ≡ Ok (x, rest) → gr.First W (token c at ∷ ts) x rest
  first_here (tk.Sign s.Semicolon) at ts e = same_ok (λ x rest. gr.First W (sign s.Semicolon at ∷ ts) x rest) e gr.First.nothing
  first_here (tk.Keyword k.Var) at ts e = first_locals k.Var at ts (inr refl) e
  first_here (tk.Keyword k.Dynamic) at ts e = first_locals k.Dynamic at ts (inr refl) e
  first_here (tk.Keyword k.Final) at ts e = first_locals k.Final at ts (inl refl) e
  first_here c at ts e = first_run_sound (token c at ∷ ts) e

  first_sound : (ts : Tokens) {x : tree.First} {rest : Tokens} → first i w ts ≡ Ok (x, rest) → gr.First W ts x rest
  unfolding first
  first_sound [] e = first_run_sound [] e
  first_sound (t ∷ ts) e = first_here t.kind t.span ts e

  record ReadsTest (a : TokenKind) (at : Span) (ts : Tokens) (x : Exp) (rest : Tokens) : Type 0 where
    b : Span
    us : Tokens
    c : Span
    opened : ts ≡ sign s.ParenOpen b ∷ us
    reads : W us x (sign s.ParenClose c ∷ rest)

  condition_sound : (a : TokenKind) (at : Span) (ts : Tokens) {x : Exp} {rest : Tokens} → condition i w (token a at ∷ ts) ≡ Ok (x, rest) → ReadsTest a at ts x rest
  unfolding condition
  condition_sound a at ts e = via (expect s.ParenOpen ts) _ e (λ b us e1 e2. via (w us) _ e2 (λ x vs e3 e4. via (expect s.ParenClose vs) _ e4 (λ c ws e5 e6.
      same_ok (λ x rest. ReadsTest a at ts x rest) e6 (record { b = b; us = us; c = c; opened = expect_ok s.ParenOpen ts e1; reads = rw (expect_ok s.ParenClose vs e5) at (good.sound us e3) }))))

  condition_via : {G : Type 0} (a : TokenKind) (at : Span) (ts : Tokens) {x : Exp} {rest : Tokens} → condition i w (token a at ∷ ts) ≡ Ok (x, rest)
      → ((b : Span) (us : Tokens) (c : Span) → ts ≡ sign s.ParenOpen b ∷ us → W us x (sign s.ParenClose c ∷ rest) → G) → G
  condition_via a at ts e go = let t = condition_sound a at ts e in go t.b t.us t.c t.opened t.reads

  branches_sound : (a : Span) (ts : Tokens) {x : Sta} {rest : Tokens} → branches i w (keyword k.If a ∷ ts) ≡ Ok (x, rest) → Statement I W (keyword k.If a ∷ ts) x rest
  unfolding branches
  branches_sound a ts e = via (condition i w (keyword k.If a ∷ ts)) _ e (λ x us e1 e2. via (i us) _ e2 (λ y vs e3 e4.
      let t = condition_sound (tk.Keyword k.If) a ts e1 in
      split (sees_keyword k.Else vs)
      (λ h. via (i (next vs)) _ (rw (h, after_keyword_seen k.Else vs h) at e4) (λ z ws e5 e6.
      rw t.opened (same_ok (λ x rest. Statement I W (keyword k.If a ∷ sign s.ParenOpen t.b ∷ t.us) x rest) e6
      (gr.Statement.if_else t.reads (rw (seen_keyword k.Else vs h) at (good_inner.sound us e3)) (good_inner.sound (next vs) e5)))))
      (λ h. rw t.opened (same_ok (λ x rest. Statement I W (keyword k.If a ∷ sign s.ParenOpen t.b ∷ t.us) x rest) (rw (h, after_keyword_not k.Else vs h) at e4)
      (gr.Statement.if t.reads (good_inner.sound us e3) (else_none vs h))))))

  repeated_sound : (a : Span) (ts : Tokens) {x : Sta} {rest : Tokens} → repeated i w (keyword k.While a ∷ ts) ≡ Ok (x, rest) → Statement I W (keyword k.While a ∷ ts) x rest
  unfolding repeated
  repeated_sound a ts e = via (condition i w (keyword k.While a ∷ ts)) _ e (λ x us e1 e2. via (i us) _ e2 (λ y vs e3 e4.
      let t = condition_sound (tk.Keyword k.While) a ts e1 in
      rw t.opened (same_ok (λ x rest. Statement I W (keyword k.While a ∷ sign s.ParenOpen t.b ∷ t.us) x rest) e4 (gr.Statement.while t.reads (good_inner.sound us e3)))))

  do_sound : (a : Span) (ts : Tokens) {x : Sta} {rest : Tokens} → do_repeated i w (keyword k.Do a ∷ ts) ≡ Ok (x, rest) → Statement I W (keyword k.Do a ∷ ts) x rest
  unfolding do_repeated
  do_sound a ts e = via (i ts) _ e (λ y us e1 e2. split (sees_keyword k.While us)
      (λ h. via (condition i w us) _ (rw h at e2) (λ x vs e3 e4. via (expect s.Semicolon vs) _ e4 (λ m ws e5 e6.
      condition_via (tk.Keyword k.While) (span us) (next us) (rw (seen_keyword k.While us h) at e3) (λ b zs c opened reads.
      same_ok (λ x rest. Statement I W (keyword k.Do a ∷ ts) x rest) e6
      (gr.Statement.do_while (rw (seen_keyword k.While us h, opened) at (good_inner.sound ts e1)) (rw (expect_ok s.Semicolon vs e5) at reads))))))
      (λ h. absurd (no_sta (rw h at e2))))
    where
      no_sta : {e : Refusal} {y : Sta × Tokens} → ◌≡◌ {A = Outcome Sta} (Err e) (Ok y) → ⊥
      no_sta e = cc

  counted_sound : (a : Span) (ts : Tokens) {x : Sta} {rest : Tokens} → counted i w (keyword k.For a ∷ ts) ≡ Ok (x, rest) → Statement I W (keyword k.For a ∷ ts) x rest
  unfolding counted counted_by
  counted_sound a ts e = via (expect s.ParenOpen ts) _ e (λ b us e1 e2. via (first i w us) _ e2 (λ f vs e3 e4. via (valued i w vs) _ e4 (λ c ws e5 e6. via (last i w ws) _ e6 (λ xs zs e7 e8. via (i zs) _ e8 (λ y qs e9 e10.
      rw (expect_ok s.ParenOpen ts e1) (same_ok (λ x rest. Statement I W (keyword k.For a ∷ sign s.ParenOpen b ∷ us) x rest) e10
      (gr.Statement.for (first_sound us e3) (valued_sound vs e5) (last_sound ws e7) (good_inner.sound zs e9))))))))

  broken_sound : (a : Span) (ts : Tokens) {x : Sta} {rest : Tokens} → broken i w (keyword k.Break a ∷ ts) ≡ Ok (x, rest) → Statement I W (keyword k.Break a ∷ ts) x rest
  unfolding broken
  broken_sound a ts e = via (expect s.Semicolon ts) _ e (λ b us e1 e2. rw (expect_ok s.Semicolon ts e1) (same_ok (λ x rest. Statement I W (keyword k.Break a ∷ sign s.Semicolon b ∷ us) x rest) e2 gr.Statement.break))

  continued_sound : (a : Span) (ts : Tokens) {x : Sta} {rest : Tokens} → continued i w (keyword k.Continue a ∷ ts) ≡ Ok (x, rest) → Statement I W (keyword k.Continue a ∷ ts) x rest
  unfolding continued
  continued_sound a ts e = via (expect s.Semicolon ts) _ e (λ b us e1 e2. rw (expect_ok s.Semicolon ts e1) (same_ok (λ x rest. Statement I W (keyword k.Continue a ∷ sign s.Semicolon b ∷ us) x rest) e2 gr.Statement.continue))

  returned_sound : (a : Span) (ts : Tokens) {x : Sta} {rest : Tokens} → returned i w (keyword k.Return a ∷ ts) ≡ Ok (x, rest) → Statement I W (keyword k.Return a ∷ ts) x rest
  unfolding returned
  returned_sound a ts e = via (valued i w ts) _ e (λ v us e1 e2. same_ok (λ x rest. Statement I W (keyword k.Return a ∷ ts) x rest) e2 (gr.Statement.return (valued_sound ts e1)))

  run_sound : (ts : Tokens) {x : Sta} {rest : Tokens} → and_then (ended i w ts) (λ x us. Ok (tree.run x, us)) ≡ Ok (x, rest) → Statement I W ts x rest
  run_sound ts e = via (ended i w ts) _ e (λ x us e1 e2. let (a, d) = ended_sound ts e1 in same_ok (λ x rest. Statement I W ts x rest) e2 (gr.Statement.run d))

  statement_here : (c : TokenKind) (at : Span) (ts : Tokens) {x : Sta} {rest : Tokens} → statement_by i w (Some c) (token c at ∷ ts) ≡ Ok (x, rest) → Statement I W (token c at ∷ ts) x rest
  statement_here (tk.Sign s.BraceOpen) at ts e = block_sound at ts e
  statement_here (tk.Sign s.Semicolon) at ts e = same_ok (λ x rest. Statement I W (sign s.Semicolon at ∷ ts) x rest) e gr.Statement.empty
  statement_here (tk.Keyword k.Var) at ts e = locals_sound k.Var at ts (inr refl) e
  statement_here (tk.Keyword k.Dynamic) at ts e = locals_sound k.Dynamic at ts (inr refl) e
  statement_here (tk.Keyword k.Final) at ts e = locals_sound k.Final at ts (inl refl) e
  statement_here (tk.Keyword k.Do) at ts e = do_sound at ts e
  statement_here (tk.Keyword k.For) at ts e = counted_sound at ts e
  statement_here (tk.Keyword k.Break) at ts e = broken_sound at ts e
  statement_here (tk.Keyword k.Continue) at ts e = continued_sound at ts e
  statement_here (tk.Keyword k.If) at ts e = branches_sound at ts e
  statement_here (tk.Keyword k.While) at ts e = repeated_sound at ts e
  statement_here (tk.Keyword k.Return) at ts e = returned_sound at ts e
  statement_here c at ts e = run_sound (token c at ∷ ts) e

  statement_sound : (ts : Tokens) {x : Sta} {rest : Tokens} → statement i w ts ≡ Ok (x, rest) → Statement I W ts x rest
  unfolding statement
  statement_sound [] e = run_sound [] e
  statement_sound (t ∷ ts) e = statement_here t.kind t.span ts e

  pub statement_good : GoodStmt (Statement I W) (statement i w)
  statement_good = record { complete = statement_complete; sound = statement_sound; shorter = statement_shorter; begins = statement_opens }

no_ok : {e : Refusal} {y : Sta × Tokens} → ◌≡◌ {A = Outcome Sta} (Err e) (Ok y) → ⊥
no_ok e = cc

pub stmt_good : (n : ℕ) → GoodStmt (StmtWithin n) (stmt n)
unfolding stmt
stmt_good zero = record { complete = λ d. elim d [ ]; sound = λ ts e. absurd (no_ok e); shorter = λ d. elim d [ ]; begins = λ d. elim d [ ] }
stmt_good (suc n) = statement_good (StmtWithin n) (ExprWithin n) (stmt n) (expr n) (stmt_good n) (expr_good n)

-- ---- whole lists

pub last_is : (ts : Tokens) → m.is_last ts ≡ true → ts ≡ token tk.End (span ts) ∷ []
unfolding m.is_last is_end
last_is [] h = cc
last_is (t ∷ []) h = go t.kind t.span h
  where
    go : (c : TokenKind) (at : Span) → (is_end_kind (Some c) && length (token c at ∷ []) == 1) ≡ true → token c at ∷ [] ≡ token tk.End at ∷ []
    go tk.End at h = refl
    go _ at h = cc
last_is (t ∷ u ∷ ts) h = go (is_end_kind (Some t.kind)) h
  where
    go : (b : Bool) → (b && length (t ∷ u ∷ ts) == 1) ≡ true → t ∷ u ∷ ts ≡ token tk.End t.span ∷ []
    go true h = let f = eqb-true (length (t ∷ u ∷ ts)) 1 h in absurd (omega arith)
    go false h = cc
