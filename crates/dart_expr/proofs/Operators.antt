-- Operators over their operands.
use Rattle.std.proofs.Common.{◌≡◌, ℕ, suc, ◌+◌, ◌-◌, ◌<◌, ◌≤◌, true, false, List, [], ◌∷◌, length, Option, Some, None, Ok, refl, ap, sym, inl, inr, ◌⊎◌, ◌∙◌, arith, nat_eq}
use Rattle.std.proofs.lemmas.Bool.{eq-eqb, eqb-true}
use Rattle.dart_syntax.specs.declared.token.Span.{Span}
use Rattle.dart_syntax.specs.declared.token.Sign.{Sign}
use Rattle.dart_syntax.specs.declared.token.Sign.TheVariants as s
use Rattle.dart_syntax.specs.declared.token.Keyword.TheVariants as k
use Rattle.dart_syntax.specs.declared.token.TokenKind.{TokenKind}
use Rattle.dart_syntax.specs.declared.token.TokenKind.TheVariants as tk
use Rattle.dart_syntax.specs.declared.tree.Link.{Link}
use Rattle.dart_syntax.specs.declared.tree.Unary.{Unary as UnaryOp}
use Rattle.dart_syntax.specs.declared.tree.Binary.{Binary}
use Rattle.dart_syntax.specs.declared.tree.Step.{Step}
use Rattle.dart_syntax.specs.Syntax as tree
use Rattle.dart_syntax.specs.Syntax.{Exp}
use Rattle.dart_syntax.specs.Words.{Tokens, token, sign, keyword}
use Rattle.dart_syntax.specs.Operators.{unary_of, step_of, binary_of, level, may_precede}
use Rattle.dart_syntax.specs.Grammar as gr
use Rattle.dart_syntax.specs.Grammar.{Reading, Postfix, Unary, is_target, Many, none, more, Links, Level, repeats}
use Rattle.dart_expr.specs.Input.{Parser, Outcome, and_then, many_from, same, sees, sees_keyword, after, kind, span, next}
use Rattle.dart_expr.specs.Firsts.{kind_starts}
use Rattle.dart_expr.specs.Model.{postfix, unary_at, step_at, of_level, binary_at, target, signed, before, after_by, stepped, unary_by, unary, under_by, under, turns, with_links, tested, is_at, link_by, link, links, followed, chained, name}
use Rattle.dart_expr.proofs.Facts.{after_not, after_seen, seen, sees_keyword_it, after_keyword_it, after_keyword_not, seen_keyword, after_keyword_seen, same_ok, split, via, which, some_not_none, none_not_some}
use Rattle.dart_expr.proofs.Good.{Good, GoodUnder, grip, kind_grip, terms, starts, terms_starts, binary_grip, step_grip, grip_not_is}
use Rattle.dart_expr.proofs.Many.{GoodStep, many_complete, many_sound, many_shorter, many_grip}
use Rattle.dart_expr.proofs.Terms.{postfix_complete, postfix_sound, postfix_shorter, postfix_terms, name_ok}

-- ---- what a token is not

step_none : (c : TokenKind) → kind_grip c < 13 → step_at (Some c) ≡ None
step_none (tk.Sign s.Increment) h = absurd (omega arith)
step_none (tk.Sign s.Decrement) h = absurd (omega arith)
step_none _ h = refl

pub no_step : (ts : Tokens) → grip ts < 13 → step_at (kind ts) ≡ None
unfolding grip
no_step [] h = refl
no_step (t ∷ ts) h = step_none t.kind h

pub target_is : (x : Exp) (ts : Tokens) → is_target x ≡ true → target x ts ≡ Ok (x, ts)
unfolding target
target_is x ts h = rw h

pub target_ok : (x : Exp) (ts : Tokens) {y : Exp} {rest : Tokens} → target x ts ≡ Ok (y, rest) → (is_target x ≡ true) × (y ≡ x) × (rest ≡ ts)
unfolding target
target_ok x ts {y} {rest} e = split (is_target x)
    (λ h. same_ok (λ y rest. (is_target x ≡ true) × (y ≡ x) × (rest ≡ ts)) (rw h at e) (h, refl, refl))
    (λ h. let f = rw h at e in cc)

-- what a primary expression begins with is no operator
primary_no_operator : {W : Reading Exp} {ts rest : Tokens} {x : Exp} → gr.Primary W ts x rest → (unary_at (kind ts) ≡ None) × (step_at (kind ts) ≡ None)
primary_no_operator gr.Primary.null = (refl, refl)
primary_no_operator _ = (refl, refl)

postfix_no_operator : {W : Reading Exp} {ts rest : Tokens} {x : Exp} → Postfix W ts x rest → (unary_at (kind ts) ≡ None) × (step_at (kind ts) ≡ None)
postfix_no_operator (gr.Postfix.primary d) = primary_no_operator d
postfix_no_operator (gr.Postfix.selected d ds) = primary_no_operator d

module _ (W O : Reading Exp) (w o : Parser Exp) (good : Good W w 1) (good_operand : GoodUnder O o) where
  pub unary_complete : {ts rest : Tokens} {x : Exp} → Unary W O ts x rest → grip rest < 13 → unary w o ts ≡ Ok (x, rest)
  unfolding unary signed before stepped grip
  unary_complete (gr.Unary.signed {c} {op} {at} {x} {ts} {rest} is may d) h = rw (is, may, good_operand.complete d h)
  unary_complete (gr.Unary.before {c} {op} {at} {x} {ts} {rest} is d written) h =
      rw ((step_grip c op is).1, is, postfix_complete W w good d (omega arith), target_is x rest written)
  unary_complete (gr.Unary.after {c} {op} {at} {x} {ts} {rest} is d written) h =
      let plain = postfix_no_operator d in
      rw (plain.0, plain.1, postfix_complete W w good d (omega (arith, (step_grip c op is).0)), is, target_is x (sign c at ∷ rest) written)
  unary_complete (gr.Unary.postfix {x} {ts} {rest} d) h =
      let plain = postfix_no_operator d in
      rw (plain.0, plain.1, postfix_complete W w good d (omega arith), no_step rest h)

  pub unary_shorter : {ts rest : Tokens} {x : Exp} → Unary W O ts x rest → length rest < length ts
  unary_shorter (gr.Unary.signed is may d) = omega (arith, good_operand.shorter d)
  unary_shorter (gr.Unary.before is d written) = omega (arith, postfix_shorter W w good d)
  unary_shorter (gr.Unary.after is d written) = omega (arith, postfix_shorter W w good d)
  unary_shorter (gr.Unary.postfix d) = postfix_shorter W w good d

  signed_terms : (c : Sign) (op : UnaryOp) (at : Span) (ts : Tokens) → unary_of c ≡ Some op → terms (sign c at ∷ ts) ≡ true
  unfolding terms
  signed_terms s.Minus op at ts is = refl
  signed_terms s.Not op at ts is = refl
  signed_terms s.Tilde op at ts is = refl
  signed_terms _ op at ts is = cc

  step_terms : (c : Sign) (op : Step) (at : Span) (ts : Tokens) → step_of c ≡ Some op → terms (sign c at ∷ ts) ≡ true
  unfolding terms
  step_terms s.Increment op at ts is = refl
  step_terms s.Decrement op at ts is = refl
  step_terms _ op at ts is = cc

  pub unary_terms : {ts rest : Tokens} {x : Exp} → Unary W O ts x rest → terms ts ≡ true
  unfolding terms
  unary_terms (gr.Unary.signed {c} {op} {at} {x} {ts} is may d) = signed_terms c op at ts is
  unary_terms (gr.Unary.before {c} {op} {at} {x} {ts} is d written) = step_terms c op at ts is
  unary_terms (gr.Unary.after is d written) = postfix_terms W w good d
  unary_terms (gr.Unary.postfix d) = postfix_terms W w good d

  -- ---- what is read is in the grammar

  signed_sound : (op : UnaryOp) (c : Sign) (at : Span) (ts : Tokens) {x : Exp} {rest : Tokens} → unary_of c ≡ Some op → signed w o op (sign c at ∷ ts) ≡ Ok (x, rest) → Unary W O (sign c at ∷ ts) x rest
  unfolding signed
  signed_sound op c at ts is e = split (may_precede op (kind ts))
      (λ h. via (o ts) _ (rw h at e) (λ y us e1 e2. same_ok (λ x rest. Unary W O (sign c at ∷ ts) x rest) e2 (gr.Unary.signed is h (good_operand.sound ts e1))))
      (λ h. let f = rw h at e in cc)

  before_sound : (st : Step) (c : Sign) (at : Span) (ts : Tokens) {x : Exp} {rest : Tokens} → step_of c ≡ Some st → before w o st (sign c at ∷ ts) ≡ Ok (x, rest) → Unary W O (sign c at ∷ ts) x rest
  unfolding before
  before_sound st c at ts is e = via (postfix w ts) _ e (λ x us e1 e2. via (target x us) _ e2 (λ y vs e3 e4.
      let (written, same_x, same_us) = target_ok x us e3 in
      same_ok (λ x rest. Unary W O (sign c at ∷ ts) x rest) e4 (rw (same_x, same_us) (gr.Unary.before is (postfix_sound W w good ts e1) written))))

  after_here : (ts : Tokens) (x : Exp) (m : TokenKind) (b : Span) (us : Tokens) {y : Exp} {rest : Tokens} → Postfix W ts x (token m b ∷ us)
      → after_by w o x (step_at (Some m)) (token m b ∷ us) ≡ Ok (y, rest) → Unary W O ts y rest
  after_here ts x (tk.Sign c) b us d e = which (step_of c)
      (λ h. same_ok (λ x rest. Unary W O ts x rest) (rw h at e) (gr.Unary.postfix d))
      (λ st h. via (target x (sign c b ∷ us)) _ (rw h at e) (λ y vs e1 e2.
      let (written, same_x, same_us) = target_ok x (sign c b ∷ us) e1 in
      same_ok (λ x rest. Unary W O ts x rest) (rw (same_x, same_us) at e2) (gr.Unary.after h d written)))
  after_here ts x m b us d e = same_ok (λ x rest. Unary W O ts x rest) e (gr.Unary.postfix d)

  after_sound : (ts : Tokens) (x : Exp) (us : Tokens) {y : Exp} {rest : Tokens} → Postfix W ts x us → after_by w o x (step_at (kind us)) us ≡ Ok (y, rest) → Unary W O ts y rest
  after_sound ts x [] d e = same_ok (λ x rest. Unary W O ts x rest) e (gr.Unary.postfix d)
  after_sound ts x (t ∷ us) d e = after_here ts x t.kind t.span us d e

  stepped_sound : (ts : Tokens) {x : Exp} {rest : Tokens} → stepped w o ts ≡ Ok (x, rest) → Unary W O ts x rest
  unfolding stepped
  stepped_sound ts e = via (postfix w ts) _ e (λ x us e1 e2. after_sound ts x us (postfix_sound W w good ts e1) e2)

  unary_here : (m : TokenKind) (at : Span) (ts : Tokens) {x : Exp} {rest : Tokens} → unary_by w o (unary_at (Some m)) (step_at (Some m)) (token m at ∷ ts) ≡ Ok (x, rest) → Unary W O (token m at ∷ ts) x rest
  unary_here (tk.Sign c) at ts e = which (unary_of c)
      (λ h. which (step_of c)
      (λ h2. stepped_sound (sign c at ∷ ts) (rw (h, h2) at e))
      (λ st h2. before_sound st c at ts h2 (rw (h, h2) at e)))
      (λ op h. signed_sound op c at ts h (rw h at e))
  unary_here m at ts e = stepped_sound (token m at ∷ ts) e

  pub unary_sound : (ts : Tokens) {x : Exp} {rest : Tokens} → unary w o ts ≡ Ok (x, rest) → Unary W O ts x rest
  unfolding unary
  unary_sound [] e = stepped_sound [] e
  unary_sound (t ∷ ts) e = unary_here t.kind t.span ts e

  pub unary_good : Good (Unary W O) (unary w o) 13
  unary_good = record {
    complete = unary_complete;
    sound = unary_sound;
    shorter = unary_shorter;
    begins = λ d. terms_starts _ (unary_terms d);
  }

  -- ---- what stands under a sign

  not_least : (c : TokenKind) (at : Span) (ts : Tokens) → kind_starts c ≡ true → under_by w o (Some c) (token c at ∷ ts) ≡ unary w o (token c at ∷ ts)
  not_least tk.MinInt at ts h = cc
  not_least _ at ts h = refl

  under_unary : (ts : Tokens) → starts ts ≡ true → under w o ts ≡ unary w o ts
  unfolding under starts
  under_unary [] h = refl
  under_unary (t ∷ ts) h = not_least t.kind t.span ts h

  under_complete : {ts rest : Tokens} {x : Exp} → gr.Under W O ts x rest → grip rest < 13 → under w o ts ≡ Ok (x, rest)
  unfolding under
  under_complete gr.Under.least h = refl
  under_complete (gr.Under.plain {x} {ts} {rest} d) h = under_unary ts (unary_good.begins d) ∙ unary_complete d h

  under_here : (c : TokenKind) (at : Span) (ts : Tokens) {x : Exp} {rest : Tokens} → under_by w o (Some c) (token c at ∷ ts) ≡ Ok (x, rest) → gr.Under W O (token c at ∷ ts) x rest
  under_here tk.MinInt at ts e = same_ok (λ x rest. gr.Under W O (token tk.MinInt at ∷ ts) x rest) e gr.Under.least
  under_here c at ts e = gr.Under.plain (unary_sound (token c at ∷ ts) e)

  under_sound : (ts : Tokens) {x : Exp} {rest : Tokens} → under w o ts ≡ Ok (x, rest) → gr.Under W O ts x rest
  unfolding under
  under_sound [] e = gr.Under.plain (unary_sound [] e)
  under_sound (t ∷ ts) e = under_here t.kind t.span ts e

  under_shorter : {ts rest : Tokens} {x : Exp} → gr.Under W O ts x rest → length rest < length ts
  under_shorter gr.Under.least = omega arith
  under_shorter (gr.Under.plain d) = unary_shorter d

  pub under_good : GoodUnder (gr.Under W O) (under w o)
  under_good = record { complete = under_complete; sound = under_sound; shorter = under_shorter }

abbrev Option_path : {A : Type 0} → A → Tokens → Option A → Tokens → Type 0
Option_path x ts None us = ⊥
Option_path {A} x ts (Some y) us = ◌≡◌ {A = Outcome A} (Ok (x, ts)) (Ok (y, us))

some_ok : {A : Type 0} {x y : A} {ts us : Tokens} → ◌≡◌ {A = Outcome (Option A)} (Ok (Some x, ts)) (Ok (Some y, us)) → ◌≡◌ {A = Outcome A} (Ok (x, ts)) (Ok (y, us))
some_ok {A} {x} {y} {ts} {us} e = same_ok (λ o us. Option_path x ts o us) e refl

-- ---- one level of operators over the next tighter one

module _ (n : ℕ) (R : Reading Exp) (r : Parser Exp) (good : Good R r (13 - n)) (few : n < 12) where
  no_link_at : (c : TokenKind) → kind_grip c < 13 - suc n → binary_at (suc n) (Some c) ≡ None
  no_link_at (tk.Sign c) h = which (binary_of c)
      (λ is. rw is)
      (λ op is. split (nat_eq (level op) (suc n))
      (λ same. let f : level op ≡ suc n = eqb-true _ _ same in absurd (omega (arith, binary_grip c op is)))
      (λ other. rw (is, other)))
  no_link_at _ h = refl

  no_link : (ts : Tokens) → grip ts < 13 - suc n → link (suc n) r ts ≡ Ok (None, ts)
  unfolding link grip
  no_link [] h = refl
  no_link (t ∷ ts) h = rw (no_link_at t.kind h)

  link_complete : {ts rest : Tokens} {x : Link Exp} → Links (suc n) R ts x rest → grip rest < 13 - n → link (suc n) r ts ≡ Ok (Some x, rest)
  unfolding link
  link_complete (gr.Links.linked {c} {op} is at_level d) h = rw (is, eq-eqb (level op) (suc n) at_level, good.complete d h)

  link_shorter : {ts rest : Tokens} {x : Link Exp} → Links (suc n) R ts x rest → length rest < length ts
  link_shorter (gr.Links.linked is at_level d) = omega (arith, good.shorter d)

  link_grip : {ts rest : Tokens} {x : Link Exp} → Links (suc n) R ts x rest → grip ts < 13 - n
  unfolding grip
  link_grip (gr.Links.linked {c} {op} is at_level d) = omega (arith, binary_grip c op is)

  link_by_sound : (o : Option Binary) (c : Sign) (at : Span) (ts : Tokens) {x : Link Exp} {rest : Tokens} → of_level (suc n) (binary_of c) ≡ o
      → link_by (suc n) r o (sign c at ∷ ts) ≡ Ok (Some x, rest) → Links (suc n) R (sign c at ∷ ts) x rest
  link_by_sound None c at ts is e = absurd (none_not_some e)
  link_by_sound (Some op) c at ts {x} {rest} is e = which (binary_of c)
      (λ h. let f = rw h at is in cc)
      (λ op2 h. split (nat_eq (level op2) (suc n))
      (λ same. let f = rw (h, same) at is in let g : op2 ≡ op = cc in via (r ts) _ e (λ y us e1 e2.
      let q : ◌≡◌ {A = Outcome (Link Exp)} (Ok (tree.a_link op at y, us)) (Ok (x, rest)) = some_ok e2 in
      same_ok (λ x rest. Links (suc n) R (sign c at ∷ ts) x rest) q (gr.Links.linked (h ∙ ap Some g) (ap level (sym g) ∙ eqb-true _ _ same) (good.sound ts e1))))
      (λ other. let f = rw (h, other) at is in cc))

  link_none : (o : Option Binary) (ts : Tokens) {rest : Tokens} → link_by (suc n) r o ts ≡ Ok (None, rest) → rest ≡ ts
  link_none None ts e = same_ok (λ (o : Option (Link Exp)) rest. rest ≡ ts) e refl
  link_none (Some op) ts e = via (r (next ts)) _ e (λ y us e1 e2. absurd (some_not_none e2))

  link_sound_at : (m : TokenKind) (at : Span) (ts : Tokens) {x : Link Exp} {rest : Tokens} → link_by (suc n) r (binary_at (suc n) (Some m)) (token m at ∷ ts) ≡ Ok (Some x, rest) → Links (suc n) R (token m at ∷ ts) x rest
  link_sound_at (tk.Sign c) at ts e = link_by_sound (of_level (suc n) (binary_of c)) c at ts refl e
  link_sound_at _ at ts e = absurd (none_not_some e)

  link_sound : (ts : Tokens) {x : Link Exp} {rest : Tokens} → link (suc n) r ts ≡ Ok (Some x, rest) → Links (suc n) R ts x rest
  unfolding link
  link_sound [] e = absurd (none_not_some e)
  link_sound (t ∷ ts) e = link_sound_at t.kind t.span ts e

  links_good : GoodStep (Links (suc n) R) (link (suc n) r) (λ ts. grip ts < 13 - suc n) (λ ts. grip ts < 13 - n)
  unfolding link
  links_good = record {
    complete = link_complete;
    stops = no_link;
    sound = link_sound;
    sound_none = λ ts e. link_none (binary_at (suc n) (kind ts)) ts e;
    shorter = link_shorter;
    begins = link_grip;
    lower = λ ts h. omega arith;
  }

  no_is : (ts : Tokens) → (suc n ≡ 7 → sees_keyword k.Is ts ≡ false) → is_at (suc n) ts ≡ Ok (false, ts)
  no_is ts other = split (nat_eq (suc n) 7)
      (λ h. let f : sees_keyword k.Is ts ≡ false = other (eqb-true _ _ h) in rw (h, f, after_keyword_not k.Is ts f))
      (λ h. rw h)

  yes_is : (at : Span) (ts : Tokens) → suc n ≡ 7 → is_at (suc n) (keyword k.Is at ∷ ts) ≡ Ok (true, ts)
  yes_is at ts h = rw (eq-eqb (suc n) 7 h, sees_keyword_it k.Is at ts, after_keyword_it k.Is at ts)

  links_no_is : {ts rest : Tokens} {y : Link Exp} {ys : List (Link Exp)} → Many (Links (suc n) R) ts (y ∷ ys) rest → sees_keyword k.Is ts ≡ false
  unfolding sees_keyword
  links_no_is (more (gr.Links.linked is at_level d) ds) = refl

  room : (y : Link Exp) (ys : List (Link Exp)) (ts : Tokens) → 1 + length ys ≤ length ts → (repeats (suc n) ≡ true) ⊎ (ys ≡ []) → length (y ∷ ys) ≤ turns (suc n) ts
  room y ys ts h (inl again) = rw again (omega arith)
  room y ys ts h (inr alone) = split (repeats (suc n)) (λ again. rw again (omega arith)) (λ once. rw (once, alone) (omega arith))

  level_complete : {ts rest : Tokens} {x : Exp} → Level (suc n) R ts x rest → grip rest < 13 - suc n → chained (suc n) r ts ≡ Ok (x, rest)
  unfolding chained followed links tested name sees same after grip
  level_complete (gr.Level.one {x} {ts} {rest} d) h =
      rw (
        good.complete d (omega arith),
        no_is rest (λ e. grip_not_is rest (omega arith)),
        many_complete (Links (suc n) R) (link (suc n) r) _ _ links_good (turns (suc n) rest) [] none h (omega arith),
      )
  level_complete (gr.Level.chain {x} {y} {ys} {ts} {mid} {rest} d ds few_enough) h =
      let fits : 1 + length ys ≤ length mid = omega (arith, many_shorter (Links (suc n) R) (link (suc n) r) _ _ links_good ds) in
      rw (
        good.complete d (many_grip (Links (suc n) R) (link (suc n) r) _ _ links_good ds h),
        no_is mid (λ e. links_no_is ds),
        many_complete (Links (suc n) R) (link (suc n) r) _ _ links_good (turns (suc n) mid) [] ds h (room y ys mid fits few_enough),
      )
  level_complete (gr.Level.is {n = m} {x} {a} {b} {ts} {rest} four d) h = rw (good.complete d (omega arith), yes_is a (token (tk.Name m) b ∷ rest) four)
  level_complete (gr.Level.is_not {n = m} {x} {a} {b} {c} {ts} {rest} four d) h = rw (good.complete d (omega arith), yes_is a (sign s.Not b ∷ token (tk.Name m) c ∷ rest) four)

  level_shorter : {ts rest : Tokens} {x : Exp} → Level (suc n) R ts x rest → length rest < length ts
  level_shorter (gr.Level.one d) = good.shorter d
  level_shorter (gr.Level.chain d ds few_enough) = omega (arith, good.shorter d, many_shorter (Links (suc n) R) (link (suc n) r) _ _ links_good ds)
  level_shorter (gr.Level.is four d) = omega (arith, good.shorter d)
  level_shorter (gr.Level.is_not four d) = omega (arith, good.shorter d)

  level_begins : {ts rest : Tokens} {x : Exp} → Level (suc n) R ts x rest → starts ts ≡ true
  level_begins (gr.Level.one d) = good.begins d
  level_begins (gr.Level.chain d ds few_enough) = good.begins d
  level_begins (gr.Level.is four d) = good.begins d
  level_begins (gr.Level.is_not four d) = good.begins d

  alone : (y : Link Exp) (ys : List (Link Exp)) (m : ℕ) → m ≡ 1 → length (y ∷ ys) ≤ m → ys ≡ []
  alone y [] m e h = refl
  alone y (z ∷ zs) m e h = absurd (omega arith)

  with_some : (ts : Tokens) (x : Exp) (xs : List (Link Exp)) (mid rest : Tokens) → R ts x mid → Many (Links (suc n) R) mid xs rest → length xs ≤ turns (suc n) mid → Level (suc n) R ts (with_links x xs) rest
  with_some ts x [] mid rest d none h = gr.Level.one d
  with_some ts x (y ∷ ys) mid rest d ds h = gr.Level.chain d ds (split (repeats (suc n))
      (λ again. inl again)
      (λ once. let one_turn : turns (suc n) mid ≡ 1 = rw once in inr (alone y ys (turns (suc n) mid) one_turn h)))

  linked_sound : (ts : Tokens) (x : Exp) (mid : Tokens) {y : Exp} {rest : Tokens} → R ts x mid
      → and_then (many_from (link (suc n) r) (turns (suc n) mid) [] mid) (λ ls us. Ok (with_links x ls, us)) ≡ Ok (y, rest) → Level (suc n) R ts y rest
  linked_sound ts x mid d e = via (many_from (link (suc n) r) (turns (suc n) mid) [] mid) _ e (λ ls us e1 e2.
      let f = many_sound (Links (suc n) R) (link (suc n) r) _ _ links_good (turns (suc n) mid) [] mid e1 in
      same_ok (λ y rest. Level (suc n) R ts y rest) e2 (rw f.is (with_some ts x f.xs mid us d f.reads f.few)))

  tested_sound : (ts : Tokens) (x : Exp) (a : Span) (us : Tokens) {y : Exp} {rest : Tokens} → suc n ≡ 7 → R ts x (keyword k.Is a ∷ us) → tested x a us ≡ Ok (y, rest) → Level (suc n) R ts y rest
  unfolding tested
  tested_sound ts x a us four d e = split (sees s.Not us)
      (λ h. via (name (next us)) _ (rw (h, after_seen s.Not us h) at e) (λ m vs e1 e2.
      let (w, b, is, m_is) = name_ok (next us) e1 in
      same_ok (λ y rest. Level (suc n) R ts y rest) e2 (rw m_is (gr.Level.is_not four (rw (seen s.Not us h, is) at d)))))
      (λ h. via (name us) _ (rw (h, after_not s.Not us h) at e) (λ m vs e1 e2.
      let (w, b, is, m_is) = name_ok us e1 in
      same_ok (λ y rest. Level (suc n) R ts y rest) e2 (rw m_is (gr.Level.is four (rw is at d)))))

  level_sound : (ts : Tokens) {x : Exp} {rest : Tokens} → chained (suc n) r ts ≡ Ok (x, rest) → Level (suc n) R ts x rest
  unfolding chained followed links
  level_sound ts e = via (r ts) _ e (λ x mid e1 e2. split (nat_eq (suc n) 7)
      (λ four. split (sees_keyword k.Is mid)
      (λ h. tested_sound ts x (span mid) (next mid) (eqb-true _ _ four) (rw (seen_keyword k.Is mid h) at (good.sound ts e1)) (rw (four, h, after_keyword_seen k.Is mid h) at e2))
      (λ h. linked_sound ts x mid (good.sound ts e1) (rw (four, h, after_keyword_not k.Is mid h) at e2)))
      (λ other. linked_sound ts x mid (good.sound ts e1) (rw other at e2)))

  pub level_good : Good (Level (suc n) R) (chained (suc n) r) (13 - suc n)
  level_good = record { complete = level_complete; sound = level_sound; shorter = level_shorter; begins = level_begins }
