-- Whole expressions, at each number of levels.
use Rattle.std.proofs.Common.{◌≡◌, ℕ, zero, suc, ◌-◌, ◌<◌, Bool, true, false, [], ◌∷◌, length, Some, None, Ok, Err, refl, arith}
use Rattle.dart_syntax.specs.declared.token.Span.{Span}
use Rattle.dart_syntax.specs.declared.token.Sign.TheVariants as s
use Rattle.dart_syntax.specs.declared.token.Keyword.TheVariants as k
use Rattle.dart_syntax.specs.declared.token.TokenKind.{TokenKind}
use Rattle.dart_syntax.specs.declared.token.TokenKind.TheVariants as tk
use Rattle.dart_syntax.specs.Syntax.{Exp}
use Rattle.dart_syntax.specs.Words.{Tokens, token, sign, keyword}
use Rattle.dart_syntax.specs.Operators.{assignment_of}
use Rattle.dart_syntax.specs.Grammar as gr
use Rattle.dart_syntax.specs.Grammar.{Reading, Postfix, Unary, is_target, Chain, Cond, Expression, ExprWithin, UnderWithin, Nothing}
use Rattle.dart_expr.specs.Input.{Parser, Outcome, sees, sees_keyword, expect, kind, span, next}
use Rattle.dart_expr.specs.Model.{assignment_at, target, chain, branches, cond as cond_expr, assigned_by, assigned, expression, expr, operand}
use Rattle.dart_expr.proofs.Facts.{sees_it, after_it, after_not, after_seen, expect_it, seen, expect_ok, sees_keyword_it, after_keyword_it, after_keyword_not, seen_keyword, after_keyword_seen, same_ok, split, via, which}
use Rattle.dart_expr.proofs.Good.{Good, GoodUnder, grip, kind_grip, terms, starts, terms_starts, terms_no_throw, assignment_grip, grip_not}
use Rattle.dart_expr.proofs.Operators.{unary_good, under_good, unary_terms, level_good, target_is, target_ok}

assignment_none : (c : TokenKind) → kind_grip c < 1 → assignment_at (Some c) ≡ None
assignment_none (tk.Sign s.Assign) h = absurd (omega arith)
assignment_none (tk.Sign s.PlusAssign) h = absurd (omega arith)
assignment_none (tk.Sign s.MinusAssign) h = absurd (omega arith)
assignment_none (tk.Sign s.StarAssign) h = absurd (omega arith)
assignment_none (tk.Sign s.DivideAssign) h = absurd (omega arith)
assignment_none (tk.Sign s.PercentAssign) h = absurd (omega arith)
assignment_none (tk.Sign s.AmpersandAssign) h = absurd (omega arith)
assignment_none (tk.Sign s.BarAssign) h = absurd (omega arith)
assignment_none (tk.Sign s.CaretAssign) h = absurd (omega arith)
assignment_none (tk.Sign s.ShiftLeftAssign) h = absurd (omega arith)
assignment_none (tk.Sign s.ShiftRightAssign) h = absurd (omega arith)
assignment_none (tk.Sign s.ShiftUnsignedAssign) h = absurd (omega arith)
assignment_none _ h = refl

no_assignment : (ts : Tokens) → grip ts < 1 → assignment_at (kind ts) ≡ None
unfolding grip
no_assignment [] h = refl
no_assignment (t ∷ ts) h = assignment_none t.kind h

apart : {b : Bool} → b ≡ false → b ≡ true → ⊥
apart e f = cc

module _ (W O : Reading Exp) (w o : Parser Exp) (good : Good W w 1) (good_operand : GoodUnder O o) where
  chain_good : (n : ℕ) → n < 12 → Good (Chain W O n) (chain w o n) (13 - n)
  unfolding chain
  chain_good zero h = unary_good W O w o good good_operand
  chain_good (suc n) h = level_good n (Chain W O n) (chain w o n) (chain_good n (omega arith)) (omega arith)

  chain_terms : (n : ℕ) (ts : Tokens) (x : Exp) (rest : Tokens) → Chain W O n ts x rest → terms ts ≡ true
  chain_terms zero ts x rest d = unary_terms W O w o good good_operand d
  chain_terms (suc n) ts x rest d = level_terms d (chain_terms n)
    where
      level_terms : {ts rest : Tokens} {x : Exp} → gr.Level (suc n) (Chain W O n) ts x rest → ((ts : Tokens) (x : Exp) (rest : Tokens) → Chain W O n ts x rest → terms ts ≡ true) → terms ts ≡ true
      level_terms (gr.Level.one d) below = below _ _ _ d
      level_terms (gr.Level.chain d ds few) below = below _ _ _ d
      level_terms (gr.Level.is four d) below = below _ _ _ d
      level_terms (gr.Level.is_not four d) below = below _ _ _ d

  of_postfix : (n : ℕ) {ts rest : Tokens} {x : Exp} → Postfix W ts x rest → Chain W O n ts x rest
  of_postfix zero d = gr.Unary.postfix d
  of_postfix (suc n) d = gr.Level.one (of_postfix n d)

  top_good : Good (Chain W O 10) (chain w o 10) 3
  top_good = chain_good 10 (omega arith)

  plain_cond : {ts rest : Tokens} {x : Exp} → Chain W O 10 ts x rest → grip rest < 2 → cond_expr w o ts ≡ Ok (x, rest)
  unfolding cond_expr
  plain_cond {ts} {rest} d h =
      let other : sees s.Question rest ≡ false = grip_not s.Question rest h in rw (top_good.complete d (omega arith), other, after_not s.Question rest other)

  cond_complete : {ts rest : Tokens} {x : Exp} → Cond W O ts x rest → grip rest < 1 → cond_expr w o ts ≡ Ok (x, rest)
  unfolding cond_expr branches grip
  cond_complete (gr.Cond.one d) h = plain_cond d (omega arith)
  cond_complete (gr.Cond.cond {a} {b} {x} {y} {z} {ts} {us} {vs} {rest} d d1 d2) h =
      rw (top_good.complete d (omega arith), sees_it s.Question a us, after_it s.Question a us, good.complete d1 (omega arith), expect_it s.Colon b vs, good.complete d2 h)

  cond_terms : {ts rest : Tokens} {x : Exp} → Cond W O ts x rest → terms ts ≡ true
  cond_terms (gr.Cond.one d) = chain_terms 10 _ _ _ d
  cond_terms (gr.Cond.cond d d1 d2) = chain_terms 10 _ _ _ d

  cond_shorter : {ts rest : Tokens} {x : Exp} → Cond W O ts x rest → length rest < length ts
  cond_shorter (gr.Cond.one d) = top_good.shorter d
  cond_shorter (gr.Cond.cond d d1 d2) = omega (arith, top_good.shorter d, good.shorter d1, good.shorter d2)

  cond_sound : (ts : Tokens) {x : Exp} {rest : Tokens} → cond_expr w o ts ≡ Ok (x, rest) → Cond W O ts x rest
  unfolding cond_expr branches
  cond_sound ts e = via (chain w o 10 ts) _ e (λ x us e1 e2. split (sees s.Question us)
      (λ h. via (w (next us)) _ (rw (h, after_seen s.Question us h) at e2) (λ y vs e3 e4. via (expect s.Colon vs) _ e4 (λ b ws e5 e6. via (w ws) _ e6 (λ z rest e7 e8.
      same_ok (λ x rest. Cond W O ts x rest) e8
      (gr.Cond.cond (rw (seen s.Question us h) at (top_good.sound ts e1)) (rw (expect_ok s.Colon vs e5) at (good.sound (next us) e3)) (good.sound ws e7))))))
      (λ h. same_ok (λ x rest. Cond W O ts x rest) (rw (h, after_not s.Question us h) at e2) (gr.Cond.one (top_good.sound ts e1))))

  expression_complete : {ts rest : Tokens} {x : Exp} → Expression W O ts x rest → grip rest < 1 → expression w o ts ≡ Ok (x, rest)
  unfolding expression assigned grip
  expression_complete (gr.Expression.throw {at} {x} {ts} {rest} d) h = rw (sees_keyword_it k.Throw at ts, after_keyword_it k.Throw at ts, good.complete d h)
  expression_complete (gr.Expression.cond {x} {ts} {rest} d) h =
      let other = terms_no_throw ts (cond_terms d) in
      rw (other, after_keyword_not k.Throw ts other, cond_complete d h, no_assignment rest h)
  expression_complete (gr.Expression.assign {c} {op} {at} {x} {y} {ts} {mid} {rest} d written is d1) h =
      let other = terms_no_throw ts (chain_terms 10 _ _ _ (of_postfix 10 d)) in
      rw (other, after_keyword_not k.Throw ts other, plain_cond (of_postfix 10 d) (omega (arith, assignment_grip c op is)), is, target_is x (sign c at ∷ mid) written, good.complete d1 h)

  expression_shorter : {ts rest : Tokens} {x : Exp} → Expression W O ts x rest → length rest < length ts
  expression_shorter (gr.Expression.throw d) = omega (arith, good.shorter d)
  expression_shorter (gr.Expression.cond d) = cond_shorter d
  expression_shorter (gr.Expression.assign d written is d1) = omega (arith, top_good.shorter (of_postfix 10 d), good.shorter d1)

  expression_begins : {ts rest : Tokens} {x : Exp} → Expression W O ts x rest → starts ts ≡ true
  unfolding starts
  expression_begins (gr.Expression.throw d) = refl
  expression_begins (gr.Expression.cond d) = terms_starts _ (cond_terms d)
  expression_begins (gr.Expression.assign d written is d1) = terms_starts _ (chain_terms 10 _ _ _ (of_postfix 10 d))

  -- a tree that may be written to is a postfix expression
  unary_target : {ts rest : Tokens} {x : Exp} → Unary W O ts x rest → is_target x ≡ true → Postfix W ts x rest
  unary_target (gr.Unary.signed is may d) h = absurd (apart refl h)
  unary_target (gr.Unary.before is d written) h = absurd (apart refl h)
  unary_target (gr.Unary.after is d written) h = absurd (apart refl h)
  unary_target (gr.Unary.postfix d) h = d

  level_target : (n : ℕ) {R : Reading Exp} {ts rest : Tokens} {x : Exp} → gr.Level n R ts x rest → is_target x ≡ true → R ts x rest
  level_target n (gr.Level.one d) h = d
  level_target n (gr.Level.chain d ds few) h = absurd (apart refl h)
  level_target n (gr.Level.is four d) h = absurd (apart refl h)
  level_target n (gr.Level.is_not four d) h = absurd (apart refl h)

  chain_target : (n : ℕ) (ts : Tokens) (x : Exp) (rest : Tokens) → Chain W O n ts x rest → is_target x ≡ true → Postfix W ts x rest
  chain_target zero ts x rest d h = unary_target d h
  chain_target (suc n) ts x rest d h = chain_target n ts x rest (level_target (suc n) d h) h

  cond_target : {ts rest : Tokens} {x : Exp} → Cond W O ts x rest → is_target x ≡ true → Postfix W ts x rest
  cond_target (gr.Cond.one d) h = chain_target 10 _ _ _ d h
  cond_target (gr.Cond.cond d d1 d2) h = absurd (apart refl h)

  assigned_here : (ts : Tokens) (x : Exp) (m : TokenKind) (b : Span) (us : Tokens) {y : Exp} {rest : Tokens} → Cond W O ts x (token m b ∷ us)
      → assigned_by w o x (assignment_at (Some m)) (token m b ∷ us) ≡ Ok (y, rest) → Expression W O ts y rest
  assigned_here ts x (tk.Sign c) b us d e = which (assignment_of c)
      (λ h. same_ok (λ x rest. Expression W O ts x rest) (rw h at e) (gr.Expression.cond d))
      (λ op h. via (target x (sign c b ∷ us)) _ (rw h at e) (λ y vs e1 e2.
      let (written, same_x, same_us) = target_ok x (sign c b ∷ us) e1 in
      via (w us) _ (rw (same_x, same_us) at e2) (λ z ws e3 e4.
      same_ok (λ x rest. Expression W O ts x rest) e4 (gr.Expression.assign (cond_target d written) written h (good.sound us e3)))))
  assigned_here ts x m b us d e = same_ok (λ x rest. Expression W O ts x rest) e (gr.Expression.cond d)

  assigned_after : (ts : Tokens) (x : Exp) (us : Tokens) {y : Exp} {rest : Tokens} → Cond W O ts x us → assigned_by w o x (assignment_at (kind us)) us ≡ Ok (y, rest) → Expression W O ts y rest
  assigned_after ts x [] d e = same_ok (λ x rest. Expression W O ts x rest) e (gr.Expression.cond d)
  assigned_after ts x (t ∷ us) d e = assigned_here ts x t.kind t.span us d e

  expression_sound : (ts : Tokens) {x : Exp} {rest : Tokens} → expression w o ts ≡ Ok (x, rest) → Expression W O ts x rest
  unfolding expression assigned
  expression_sound ts e = split (sees_keyword k.Throw ts)
      (λ h. via (w (next ts)) _ (rw (h, after_keyword_seen k.Throw ts h) at e) (λ x us e1 e2.
      rw (seen_keyword k.Throw ts h) (same_ok (λ x rest. Expression W O (keyword k.Throw (span ts) ∷ next ts) x rest) e2 (gr.Expression.throw (good.sound (next ts) e1)))))
      (λ h. via (cond_expr w o ts) _ (rw (h, after_keyword_not k.Throw ts h) at e) (λ x us e1 e2. assigned_after ts x us (cond_sound ts e1) e2))

  pub expression_good : Good (Expression W O) (expression w o) 1
  expression_good = record { complete = expression_complete; sound = expression_sound; shorter = expression_shorter; begins = expression_begins }

within_good : (n : ℕ) → Good (ExprWithin n) (expr n) 1 × GoodUnder (UnderWithin n) (operand n)
unfolding expr
within_good zero = (
  record { complete = λ d h. elim d [ ]; sound = λ ts e. absurd (no_ok e); shorter = λ d. elim d [ ]; begins = λ d. elim d [ ] },
  record { complete = λ d h. elim d [ ]; sound = λ ts e. absurd (no_ok e); shorter = λ d. elim d [ ] },
)
  where
    no_ok : {r : Rattle.dart_expr.specs.declared.refusal.Refusal.Refusal} {y : Exp × Tokens} → ◌≡◌ {A = Outcome Exp} (Err r) (Ok y) → ⊥
    no_ok e = cc
within_good (suc n) = let (w, o) = within_good n in
    (expression_good (ExprWithin n) (UnderWithin n) (expr n) (operand n) w o, under_good (ExprWithin n) (UnderWithin n) (expr n) (operand n) w o)

pub expr_good : (n : ℕ) → Good (ExprWithin n) (expr n) 1
expr_good n = (within_good n).0
