-- Literals, parameters and bodies: what the grammar has is read, and what is read is in the grammar.
use Rattle.std.proofs.Common.{◌≡◌, ℕ, ◌<◌, ◌≤◌, Bool, true, false, List, [], ◌∷◌, length, Option, Some, None, Ok, Err, refl, sym, ap, arith}
use Rattle.std.proofs.lemmas.Bool.Decides.{nat_tests}
use Rattle.dart_syntax.specs.declared.token.Span.{Span}
use Rattle.dart_syntax.specs.declared.token.Sign.TheVariants as s
use Rattle.dart_syntax.specs.declared.token.Keyword.{Keyword}
use Rattle.dart_syntax.specs.declared.token.Keyword.TheVariants as k
use Rattle.dart_syntax.specs.declared.token.TokenKind.{TokenKind}
use Rattle.dart_syntax.specs.declared.token.TokenKind.TheVariants as tk
use Rattle.dart_syntax.specs.declared.tree.Operator.{Operator}
use Rattle.dart_syntax.specs.declared.tree.Operator.TheVariants as op
use Rattle.dart_syntax.specs.Syntax as tree
use Rattle.dart_syntax.specs.Syntax.{Param, Exp, Sta, Stas, Passed, Body, a_param}
use Rattle.dart_syntax.specs.Words.{Tokens, token, sign, keyword}
use Rattle.dart_syntax.specs.Operators.{named}
use Rattle.dart_syntax.specs.Grammar.{Reading, Args, is_var}
use Rattle.dart_expr.specs.Input.{Parser, Outcome, and_then, many_from, same, sees, sees_keyword, after, expect, span, next}
use Rattle.dart_expr.specs.Model.{name, args}
use Rattle.dart_expr.specs.declared.refusal.Refusal.{Refusal}
use Rattle.dart_parser.specs.Statements.{item}
use Rattle.dart_expr.proofs.Facts.{sees_it, after_it, after_not, after_seen, expect_it, seen, expect_ok, sees_keyword_it, after_keyword_it, seen_keyword, after_keyword_seen, same_ok, split, via, some_not_none, none_not_some}
use Rattle.dart_expr.proofs.Good.{Good, grip}
use Rattle.dart_expr.proofs.Many.{GoodStep, many_complete, many_via, many_shorter}
use Rattle.dart_expr.proofs.Terms.{name_via, paren_args, paren_args_sound, paren_no_comma}
use Rattle.dart_expr.proofs.Lists.{args_shorter}
use Rattle.dart_parser.proofs.Stmts.{GoodStmt, items_good, not_brace}
use Rattle.dart_syntax.specs.Derivation as gr
use Rattle.dart_syntax.specs.Derivation.{takes, Literal, Value, Listed, ParamText, Params, Block, BodyText, SomeBody, SomeBlock, Rest}
use Rattle.dart_parser.specs.Members.{minus_by, minus, literal_by, literal, given, value, param_name, param_by, param, listed, param_item, param_items, params, most, counted, operator_params, statements, block, body, some_body, some_block, passed}

abbrev Some_is : {A : Type 0} → (A → Type 0) → Option A → Type 0
Some_is P None = Unit {0}
Some_is P (Some x) = P x

-- ---- literals

literal_complete : {ts rest : Tokens} {x : Exp} → Literal ts x rest → literal ts ≡ Ok (x, rest)
unfolding literal minus
literal_complete gr.Literal.null = refl
literal_complete _ = refl

pub literal_shorter : {ts rest : Tokens} {x : Exp} → Literal ts x rest → length rest < length ts
literal_shorter gr.Literal.null = omega arith
literal_shorter _ = omega arith

minus_here : (a : Span) (m : TokenKind) (b : Span) (us : Tokens) {x : Exp} {rest : Tokens} → minus_by a (Some m) (token m b ∷ us) ≡ Ok (x, rest) → Literal (sign s.Minus a ∷ token m b ∷ us) x rest
minus_here a (tk.Int n) b us e = same_ok (λ x rest. Literal (sign s.Minus a ∷ token (tk.Int n) b ∷ us) x rest) e gr.Literal.minus
minus_here a tk.MinInt b us e = same_ok (λ x rest. Literal (sign s.Minus a ∷ token tk.MinInt b ∷ us) x rest) e gr.Literal.least
minus_here a _ b us e = cc

minus_sound : (a : Span) (us : Tokens) {x : Exp} {rest : Tokens} → minus (sign s.Minus a ∷ us) ≡ Ok (x, rest) → Literal (sign s.Minus a ∷ us) x rest
unfolding minus
minus_sound a [] e = cc
minus_sound a (t ∷ us) e = minus_here a t.kind t.span us e

literal_at : (c : TokenKind) (at : Span) (ts : Tokens) {x : Exp} {rest : Tokens} → literal_by (Some c) (token c at ∷ ts) ≡ Ok (x, rest) → Literal (token c at ∷ ts) x rest
literal_at (tk.Keyword k.Null) at ts e = same_ok (λ x rest. Literal (keyword k.Null at ∷ ts) x rest) e gr.Literal.null
literal_at (tk.Keyword k.True) at ts e = same_ok (λ x rest. Literal (keyword k.True at ∷ ts) x rest) e gr.Literal.yes
literal_at (tk.Keyword k.False) at ts e = same_ok (λ x rest. Literal (keyword k.False at ∷ ts) x rest) e gr.Literal.no
literal_at (tk.Int n) at ts e = same_ok (λ x rest. Literal (token (tk.Int n) at ∷ ts) x rest) e gr.Literal.int
literal_at (tk.Str v) at ts e = same_ok (λ x rest. Literal (token (tk.Str v) at ∷ ts) x rest) e gr.Literal.str
literal_at (tk.Sign s.Minus) at ts e = minus_sound at ts e
literal_at _ at ts e = cc

literal_sound : (ts : Tokens) {x : Exp} {rest : Tokens} → literal ts ≡ Ok (x, rest) → Literal ts x rest
unfolding literal
literal_sound [] e = cc
literal_sound (t ∷ ts) e = literal_at t.kind t.span ts e

pub given_complete : {ts rest : Tokens} {x : Exp} {b : Span} → Literal ts x (sign s.Semicolon b ∷ rest) → given ts ≡ Ok (x, rest)
unfolding given
given_complete {rest = rest} {b = b} d = rw (literal_complete d, expect_it s.Semicolon b rest)

pub given_sound : (ts : Tokens) {x : Exp} {rest : Tokens} → given ts ≡ Ok (x, rest) → (b : Span) × Literal ts x (sign s.Semicolon b ∷ rest)
unfolding given
given_sound ts e = via (literal ts) _ e (λ x us e1 e2. via (expect s.Semicolon us) _ e2 (λ b vs e3 e4.
    same_ok (λ x rest. (b : Span) × Literal ts x (sign s.Semicolon b ∷ rest)) e4 (b, rw (expect_ok s.Semicolon us e3) at (literal_sound ts e1))))

pub value_complete : {ts rest : Tokens} {v : Option Exp} → Value ts v rest → value ts ≡ Ok (v, rest)
unfolding value sees same after
value_complete gr.Value.none = refl
value_complete (gr.Value.some {a} {b} {x} {ts} {rest} d) = rw (expect_it s.Assign a ts, given_complete d)

pub value_sound : (ts : Tokens) {v : Option Exp} {rest : Tokens} → value ts ≡ Ok (v, rest) → Value ts v rest
unfolding value
value_sound ts e = split (sees s.Semicolon ts)
    (λ h. rw (seen s.Semicolon ts h) (same_ok (λ v rest. Value (sign s.Semicolon (span ts) ∷ next ts) v rest) (rw (h, after_seen s.Semicolon ts h) at e) gr.Value.none))
    (λ h. via (expect s.Assign ts) _ (rw (h, after_not s.Semicolon ts h) at e) (λ a us e1 e2. via (given us) _ e2 (λ x vs e3 e4. let (b, d) = given_sound us e3 in
    rw (expect_ok s.Assign ts e1) (same_ok (λ v rest. Value (sign s.Assign a ∷ us) v rest) e4 (gr.Value.some d)))))

pub value_shorter : {ts rest : Tokens} {v : Option Exp} → Value ts v rest → length rest < length ts
value_shorter gr.Value.none = omega arith
value_shorter (gr.Value.some d) = omega (arith, literal_shorter d)

-- ---- parameters

pub param_complete : {c : Bool} {ts rest : Tokens} {p : Param} → ParamText c ts p rest → param c ts ≡ Ok (p, rest)
unfolding param param_name name
param_complete (gr.ParamText.plain) = refl
param_complete (gr.ParamText.typed {c} {w} {n} {a} {b} {rest} is) = go w is
  where
    go : (w : Keyword) → is_var w ≡ true → param c (keyword w a ∷ token (tk.Name n) b ∷ rest) ≡ Ok (a_param false false (named n b), rest)
    go k.Var is = refl
    go k.Dynamic is = refl
    go _ is = cc
param_complete gr.ParamText.final = refl
param_complete (gr.ParamText.field {n} {a} {b} {c} {rest}) = rw (expect_it s.Dot b (token (tk.Name n) c ∷ rest))

pub param_shorter : {c : Bool} {ts rest : Tokens} {p : Param} → ParamText c ts p rest → length rest < length ts
param_shorter gr.ParamText.plain = omega arith
param_shorter _ = omega arith

param_no_close : {c : Bool} {ts rest : Tokens} {p : Param} → ParamText c ts p rest → sees s.ParenClose ts ≡ false
unfolding sees
param_no_close gr.ParamText.plain = refl
param_no_close _ = refl

named_sound : (f g : Bool) (ts : Tokens) {p : Param} {rest : Tokens} → param_name f g ts ≡ Ok (p, rest) → (n : List ℕ) × (b : Span) × (ts ≡ token (tk.Name n) b ∷ rest) × (p ≡ a_param f g (named n b))
unfolding param_name
named_sound f g ts e = via (name ts) _ e (λ m us e1 e2. name_via ts e1 (λ n b is same_m.
    same_ok (λ p rest. (n : List ℕ) × (b : Span) × (ts ≡ token (tk.Name n) b ∷ rest) × (p ≡ a_param f g (named n b))) e2 (n, b, is, ap (a_param f g) same_m)))

named_param : {G : Type 0} (f g : Bool) (ts : Tokens) {p : Param} {rest : Tokens} → param_name f g ts ≡ Ok (p, rest)
    → ((n : List ℕ) (b : Span) → ts ≡ token (tk.Name n) b ∷ rest → p ≡ a_param f g (named n b) → G) → G
named_param f g ts e go = let (n, b, is, same_p) = named_sound f g ts e in go n b is same_p

plain_sound : (c : Bool) (ts : Tokens) {p : Param} {rest : Tokens} → param_name false false ts ≡ Ok (p, rest) → ParamText c ts p rest
plain_sound c ts e = named_param false false ts e (λ n b is same_p. rw (is, same_p) gr.ParamText.plain)

param_at : (c : Bool) (m : TokenKind) (at : Span) (ts : Tokens) {p : Param} {rest : Tokens} → param_by c (Some m) (token m at ∷ ts) ≡ Ok (p, rest) → ParamText c (token m at ∷ ts) p rest
param_at c (tk.Keyword k.Var) at ts e = named_param false false ts e (λ n b is same_p. rw (is, same_p) (gr.ParamText.typed refl))
param_at c (tk.Keyword k.Dynamic) at ts e = named_param false false ts e (λ n b is same_p. rw (is, same_p) (gr.ParamText.typed refl))
param_at c (tk.Keyword k.Final) at ts e = named_param true false ts e (λ n b is same_p. rw (is, same_p) gr.ParamText.final)
param_at true (tk.Keyword k.This) at ts e = via (expect s.Dot ts) _ e (λ d us e1 e2. named_param false true us e2 (λ n b is same_p. rw (expect_ok s.Dot ts e1, is, same_p) gr.ParamText.field))
param_at c m at ts e = plain_sound c (token m at ∷ ts) e

pub param_sound : (c : Bool) (ts : Tokens) {p : Param} {rest : Tokens} → param c ts ≡ Ok (p, rest) → ParamText c ts p rest
unfolding param
param_sound c [] e = plain_sound c [] e
param_sound c (t ∷ ts) e = param_at c t.kind t.span ts e

no_comma : (a : Span) (ts : Tokens) → sees s.Comma (sign s.ParenClose a ∷ ts) ≡ false
unfolding sees same
no_comma a ts = refl

item_complete : (c : Bool) {ts rest : Tokens} {p : Param} → Listed s.ParenClose (ParamText c) ts p rest → param_item c ts ≡ Ok (Some p, rest)
unfolding param_item listed
item_complete c (gr.Listed.comma {a} {x} {ts} {rest} d) = rw (param_no_close d, param_complete d, sees_it s.Comma a rest)
item_complete c (gr.Listed.last {a} {x} {ts} {rest} d) = rw (param_no_close d, param_complete d, no_comma a rest, sees_it s.ParenClose a rest)

no_item : {y : Option Param × Tokens} {r : Rattle.dart_expr.specs.declared.refusal.Refusal.Refusal} → ◌≡◌ {A = Outcome (Option Param)} (Err r) (Ok y) → ⊥
no_item e = cc

last_of : (c : Bool) (ts : Tokens) (p : Param) (us : Tokens) (a : Span) (vs : Tokens) → us ≡ sign s.ParenClose a ∷ vs → ParamText c ts p us → Listed s.ParenClose (ParamText c) ts p us
last_of c ts p us a vs is d = rw is (gr.Listed.last (rw is at d))

item_sound : (c : Bool) (ts : Tokens) {p : Param} {rest : Tokens} → param_item c ts ≡ Ok (Some p, rest) → Listed s.ParenClose (ParamText c) ts p rest
unfolding param_item listed
item_sound c ts e = split (sees s.ParenClose ts)
    (λ h. absurd (none_not_some (rw h at e)))
    (λ h. via (param c ts) _ (rw h at e) (λ p us e1 e2. split (sees s.Comma us)
    (λ h2. same_ok (λ o rest. Some_is (λ p. Listed s.ParenClose (ParamText c) ts p rest) o) (rw h2 at e2) (gr.Listed.comma (rw (seen s.Comma us h2) at (param_sound c ts e1))))
    (λ h2. split (sees s.ParenClose us)
    (λ h3. same_ok (λ o rest. Some_is (λ p. Listed s.ParenClose (ParamText c) ts p rest) o) (rw (h2, h3) at e2) (last_of c ts p us (span us) (next us) (seen s.ParenClose us h3) (param_sound c ts e1)))
    (λ h3. absurd (no_item (rw (h2, h3) at e2))))))

item_none : (c : Bool) (ts : Tokens) {rest : Tokens} → param_item c ts ≡ Ok (None, rest) → rest ≡ ts
unfolding param_item listed
item_none c ts e = split (sees s.ParenClose ts)
    (λ h. same_ok (λ (o : Option Param) rest. rest ≡ ts) (rw h at e) refl)
    (λ h. via (param c ts) _ (rw h at e) (λ p us e1 e2. split (sees s.Comma us)
    (λ h2. absurd (some_not_none (rw h2 at e2)))
    (λ h2. split (sees s.ParenClose us)
    (λ h3. absurd (some_not_none (rw (h2, h3) at e2)))
    (λ h3. absurd (no_item (rw (h2, h3) at e2))))))

item_shorter : (c : Bool) {ts rest : Tokens} {p : Param} → Listed s.ParenClose (ParamText c) ts p rest → length rest < length ts
item_shorter c (gr.Listed.comma d) = omega (arith, param_shorter d)
item_shorter c (gr.Listed.last d) = omega (arith, param_shorter d)

items_step : (c : Bool) → GoodStep (Listed s.ParenClose (ParamText c)) (param_item c) (λ ts. sees s.ParenClose ts ≡ true) (λ ts. Unit {0})
unfolding param_item
items_step c = record {
  complete = λ d f. item_complete c d;
  stops = λ ts h. rw h;
  sound = item_sound c;
  sound_none = item_none c;
  shorter = item_shorter c;
  begins = λ d. tt;
  lower = λ ts h. tt;
}

pub params_complete : (c : Bool) {ts rest : Tokens} {xs : List Param} → Params c ts xs rest → params c ts ≡ Ok (xs, rest)
unfolding params param_items
params_complete c (gr.Params.params {a} {xs} {ts} {rest} ds) =
    rw (
      many_complete (Listed s.ParenClose (ParamText c)) (param_item c) _ _ (items_step c) (length ts) [] ds (sees_it s.ParenClose a rest) (omega (arith, many_shorter (Listed s.ParenClose (ParamText c)) (param_item c) _ _ (items_step c) ds)),
      expect_it s.ParenClose a rest,
    )

pub params_sound : (c : Bool) (ts : Tokens) {xs : List Param} {rest : Tokens} → params c ts ≡ Ok (xs, rest) → Params c ts xs rest
unfolding params param_items
params_sound c ts e = via (many_from (param_item c) (length ts) [] ts) _ e (λ xs us e1 e2. via (expect s.ParenClose us) _ e2 (λ b vs e3 e4.
    many_via (Listed s.ParenClose (ParamText c)) (param_item c) _ _ (items_step c) (length ts) ts e1 (λ zs is reads few.
    same_ok (λ xs rest. Params c ts xs rest) e4 (rw is (gr.Params.params (rw (expect_ok s.ParenClose us e3) at reads))))))

-- ---- parameters of operators

few : (o : Operator) (n : ℕ) → takes o n ≡ true → n ≤ most o
few op.Set n h = grind (arith, nat_tests)
few op.Complement n h = grind (arith, nat_tests)
few op.Subtract n h = grind (arith, nat_tests)
few _ n h = grind (arith, nat_tests)

pub operator_params_complete : (o : Operator) {ts rest : Tokens} {ps : List Param} → Params false ts ps rest → takes o (length ps) ≡ true → operator_params o ts ≡ Ok (ps, rest)
unfolding operator_params param_items counted
operator_params_complete o (gr.Params.params {a} {xs} {ts} {rest} ds) may =
    rw (
      many_complete (Listed s.ParenClose (ParamText false)) (param_item false) _ _ (items_step false) (most o) [] ds (sees_it s.ParenClose a rest) (few o (length xs) may),
      may,
      expect_it s.ParenClose a rest,
    )

no_bool : {y : Bool × Tokens} {r : Refusal} → ◌≡◌ {A = Outcome Bool} (Err r) (Ok y) → ⊥
no_bool e = cc

counted_ok : (o : Operator) (ps : List Param) (ts : Tokens) {b : Bool} {us : Tokens} → counted o ps ts ≡ Ok (b, us) → (takes o (length ps) ≡ true) × (us ≡ ts)
unfolding counted
counted_ok o ps ts e = split (takes o (length ps))
    (λ h. same_ok (λ (b : Bool) us. (takes o (length ps) ≡ true) × (us ≡ ts)) (rw h at e) (h, refl))
    (λ h. absurd (no_bool (rw h at e)))

pub operator_params_sound : (o : Operator) (ts : Tokens) {ps : List Param} {rest : Tokens} → operator_params o ts ≡ Ok (ps, rest) → (Params false ts ps rest) × (takes o (length ps) ≡ true)
unfolding operator_params param_items
operator_params_sound o ts e = via (many_from (param_item false) (most o) [] ts) _ e (λ xs us e1 e2. via (counted o xs us) _ e2 (λ z vs e3 e4. via (expect s.ParenClose vs) _ e4 (λ b ws e5 e6.
    let (may, same_us) = counted_ok o xs us e3 in
    many_via (Listed s.ParenClose (ParamText false)) (param_item false) _ _ (items_step false) (most o) ts e1 (λ zs is reads few.
    same_ok (λ ps rest. (Params false ts ps rest) × (takes o (length ps) ≡ true)) e6 (rw is (gr.Params.params (rw (sym same_us, expect_ok s.ParenClose vs e5) at reads)), may)))))

pub params_shorter : (c : Bool) {ts rest : Tokens} {xs : List Param} → Params c ts xs rest → length rest < length ts
params_shorter c (gr.Params.params ds) = omega (arith, many_shorter (Listed s.ParenClose (ParamText c)) (param_item c) _ _ (items_step c) ds)

-- ---- bodies

module _ (I : Reading Sta) (W : Reading Exp) (i : Parser Sta) (w : Parser Exp) (good_inner : GoodStmt I i) (good : Good W w 1) where
  braces : GoodStep I (item (sees s.BraceClose) i) (λ ts. sees s.BraceClose ts ≡ true) (λ ts. Unit {0})
  braces = items_good I i good_inner (sees s.BraceClose) not_brace

  abbrev BlockIs : Tokens → List Sta → Tokens → Type 0
  BlockIs ts xs rest = Block I W ts (tree.stas xs) rest

  block_complete : {ts rest : Tokens} {b : Stas} → Block I W ts b rest → (xs : List Sta) × (block i w ts ≡ Ok (xs, rest)) × (b ≡ tree.stas xs)
  unfolding block statements
  block_complete (gr.Block.block {a} {b} {xs} {ts} {rest} ds) = (
    xs,
    rw (expect_it s.BraceOpen a ts, many_complete I (item (sees s.BraceClose) i) _ _ braces (length ts) [] ds (sees_it s.BraceClose b rest) (omega (arith, many_shorter I (item (sees s.BraceClose) i) _ _ braces ds)), expect_it s.BraceClose b rest),
    refl,
  )

  block_sound : (ts : Tokens) {xs : List Sta} {rest : Tokens} → block i w ts ≡ Ok (xs, rest) → Block I W ts (tree.stas xs) rest
  unfolding block statements
  block_sound ts e = via (expect s.BraceOpen ts) _ e (λ a us e1 e2. via (many_from (item (sees s.BraceClose) i) (length us) [] us) _ e2 (λ xs vs e3 e4. via (expect s.BraceClose vs) _ e4 (λ b ws e5 e6.
      many_via I (item (sees s.BraceClose) i) _ _ braces (length us) us e3 (λ zs is reads few.
      rw (expect_ok s.BraceOpen ts e1) (same_ok (λ xs rest. Block I W (sign s.BraceOpen a ∷ us) (tree.stas xs) rest) e6 (rw is (gr.Block.block (rw (expect_ok s.BraceClose vs e5) at reads))))))))

  block_shorter : {ts rest : Tokens} {b : Stas} → Block I W ts b rest → length rest < length ts
  block_shorter (gr.Block.block ds) = omega (arith, many_shorter I (item (sees s.BraceClose) i) _ _ braces ds)

  block_arrow : {ts rest : Tokens} {b : Stas} → Block I W ts b rest → (sees s.Arrow ts ≡ false) × (sees s.Semicolon ts ≡ false)
  unfolding sees same
  block_arrow (gr.Block.block ds) = (refl, refl)

  pub body_complete : {ts rest : Tokens} {b : Body} → BodyText I W ts b rest → body i w ts ≡ Ok (b, rest)
  unfolding body grip
  body_complete (gr.BodyText.arrow {a} {b} {x} {ts} {rest} d) = rw (sees_it s.Arrow a ts, after_it s.Arrow a ts, good.complete d (omega arith), expect_it s.Semicolon b rest)
  body_complete (gr.BodyText.code {b} {ts} {rest} d) = go (block_complete d) (block_arrow d).0
    where
      go : (xs : List Sta) × (block i w ts ≡ Ok (xs, rest)) × (b ≡ tree.stas xs) → sees s.Arrow ts ≡ false → body i w ts ≡ Ok (tree.code b, rest)
      go (xs, e, is) other = rw (other, after_not s.Arrow ts other, e, is)

  pub body_sound : (ts : Tokens) {b : Body} {rest : Tokens} → body i w ts ≡ Ok (b, rest) → BodyText I W ts b rest
  unfolding body
  body_sound ts e = split (sees s.Arrow ts)
      (λ h. via (w (next ts)) _ (rw (h, after_seen s.Arrow ts h) at e) (λ x us e1 e2. via (expect s.Semicolon us) _ e2 (λ b vs e3 e4.
      rw (seen s.Arrow ts h) (same_ok (λ b rest. BodyText I W (sign s.Arrow (span ts) ∷ next ts) b rest) e4 (gr.BodyText.arrow (rw (expect_ok s.Semicolon us e3) at (good.sound (next ts) e1)))))))
      (λ h. via (block i w ts) _ (rw (h, after_not s.Arrow ts h) at e) (λ xs us e1 e2. same_ok (λ b rest. BodyText I W ts b rest) e2 (gr.BodyText.code (block_sound ts e1))))

  pub body_shorter : {ts rest : Tokens} {b : Body} → BodyText I W ts b rest → length rest < length ts
  body_shorter (gr.BodyText.arrow d) = omega (arith, good.shorter d)
  body_shorter (gr.BodyText.code d) = block_shorter d

  body_semicolon : {ts rest : Tokens} {b : Body} → BodyText I W ts b rest → sees s.Semicolon ts ≡ false
  unfolding sees same
  body_semicolon (gr.BodyText.arrow d) = refl
  body_semicolon (gr.BodyText.code (gr.Block.block ds)) = refl

  pub some_body_complete : {ts rest : Tokens} {b : Option Body} → SomeBody I W ts b rest → some_body i w ts ≡ Ok (b, rest)
  unfolding some_body
  some_body_complete (gr.SomeBody.none {a} {rest}) = rw (sees_it s.Semicolon a rest, after_it s.Semicolon a rest)
  some_body_complete (gr.SomeBody.some {b} {ts} {rest} d) = let other = body_semicolon d in rw (other, after_not s.Semicolon ts other, body_complete d)

  pub some_body_sound : (ts : Tokens) {b : Option Body} {rest : Tokens} → some_body i w ts ≡ Ok (b, rest) → SomeBody I W ts b rest
  unfolding some_body
  some_body_sound ts e = split (sees s.Semicolon ts)
      (λ h. rw (seen s.Semicolon ts h) (same_ok (λ b rest. SomeBody I W (sign s.Semicolon (span ts) ∷ next ts) b rest) (rw (h, after_seen s.Semicolon ts h) at e) gr.SomeBody.none))
      (λ h. via (body i w ts) _ (rw (h, after_not s.Semicolon ts h) at e) (λ b us e1 e2. same_ok (λ b rest. SomeBody I W ts b rest) e2 (gr.SomeBody.some (body_sound ts e1))))

  pub some_body_shorter : {ts rest : Tokens} {b : Option Body} → SomeBody I W ts b rest → length rest < length ts
  some_body_shorter gr.SomeBody.none = omega arith
  some_body_shorter (gr.SomeBody.some d) = body_shorter d

  some_block_complete : {ts rest : Tokens} {b : Option Stas} → SomeBlock I W ts b rest → some_block i w ts ≡ Ok (b, rest)
  unfolding some_block
  some_block_complete (gr.SomeBlock.none {a} {rest}) = rw (sees_it s.Semicolon a rest, after_it s.Semicolon a rest)
  some_block_complete (gr.SomeBlock.some {b} {ts} {rest} d) = go (block_complete d) (block_arrow d).1
    where
      go : (xs : List Sta) × (block i w ts ≡ Ok (xs, rest)) × (b ≡ tree.stas xs) → sees s.Semicolon ts ≡ false → some_block i w ts ≡ Ok (Some b, rest)
      go (xs, e, is) other = rw (other, after_not s.Semicolon ts other, e, is)

  some_block_sound : (ts : Tokens) {b : Option Stas} {rest : Tokens} → some_block i w ts ≡ Ok (b, rest) → SomeBlock I W ts b rest
  unfolding some_block
  some_block_sound ts e = split (sees s.Semicolon ts)
      (λ h. rw (seen s.Semicolon ts h) (same_ok (λ b rest. SomeBlock I W (sign s.Semicolon (span ts) ∷ next ts) b rest) (rw (h, after_seen s.Semicolon ts h) at e) gr.SomeBlock.none))
      (λ h. via (block i w ts) _ (rw (h, after_not s.Semicolon ts h) at e) (λ xs us e1 e2. same_ok (λ b rest. SomeBlock I W ts b rest) e2 (gr.SomeBlock.some (block_sound ts e1))))

  some_block_shorter : {ts rest : Tokens} {b : Option Stas} → SomeBlock I W ts b rest → length rest < length ts
  some_block_shorter gr.SomeBlock.none = omega arith
  some_block_shorter (gr.SomeBlock.some d) = block_shorter d

  some_block_colon : {ts rest : Tokens} {b : Option Stas} → SomeBlock I W ts b rest → sees s.Colon ts ≡ false
  unfolding sees same
  some_block_colon gr.SomeBlock.none = refl
  some_block_colon (gr.SomeBlock.some (gr.Block.block ds)) = refl

  -- what a constructor passes, and its body
  abbrev pub tail : Tokens → Outcome (Option Passed × Option Stas)
  tail ts = and_then (passed i w ts) (λ xs us. and_then (some_block i w us) (λ y vs. Ok ((xs, y), vs)))

  pub rest_complete : {ts rest : Tokens} {xs : Option Passed} {y : Option Stas} → Rest I W ts xs y rest → tail ts ≡ Ok ((xs, y), rest)
  unfolding passed
  rest_complete (gr.Rest.plain {b} {ts} {rest} d) = let other = some_block_colon d in rw (other, after_not s.Colon ts other, some_block_complete d)
  rest_complete (gr.Rest.passes {a} {b} {c} {xs} {y} {ts} {us} {rest} ds d) =
      rw (
        sees_it s.Colon a (keyword k.Super b ∷ sign s.ParenOpen c ∷ ts),
        after_it s.Colon a (keyword k.Super b ∷ sign s.ParenOpen c ∷ ts),
        sees_keyword_it k.Super b (sign s.ParenOpen c ∷ ts),
        after_keyword_it k.Super b (sign s.ParenOpen c ∷ ts),
        expect_it s.ParenOpen c ts,
        paren_args W w good ds,
        some_block_complete d,
      )

  no_exps : {y : Option Passed × Tokens} {r : Rattle.dart_expr.specs.declared.refusal.Refusal.Refusal} → ◌≡◌ {A = Outcome (Option Passed)} (Err r) (Ok y) → ⊥
  no_exps e = cc

  pub rest_sound : (ts us : Tokens) {xs : Option Passed} {y : Option Stas} {rest : Tokens} → passed i w ts ≡ Ok (xs, us) → some_block i w us ≡ Ok (y, rest) → Rest I W ts xs y rest
  unfolding passed
  rest_sound ts us {xs} {y} {rest} e f = split (sees s.Colon ts)
      (λ h. split (sees_keyword k.Super (next ts))
      (λ h2. via (expect s.ParenOpen (next (next ts))) _ (rw (h, after_seen s.Colon ts h, h2, after_keyword_seen k.Super (next ts) h2) at e) (λ c vs e1 e2. via (args w s.ParenClose vs) _ e2 (λ zs ws e3 e4.
      rw (seen s.Colon ts h, seen_keyword k.Super (next ts) h2, expect_ok s.ParenOpen (next (next ts)) e1)
      (same_ok (λ xs us. some_block i w us ≡ Ok (y, rest) → Rest I W (sign s.Colon (span ts) ∷ keyword k.Super (span (next ts)) ∷ sign s.ParenOpen c ∷ vs) xs y rest) e4
      (λ g. gr.Rest.passes (paren_args_sound W w good vs e3) (some_block_sound ws g)) f))))
      (λ h2. absurd (no_exps (rw (h, after_seen s.Colon ts h, h2) at e))))
      (λ h. same_ok (λ xs us. some_block i w us ≡ Ok (y, rest) → Rest I W ts xs y rest) (rw (h, after_not s.Colon ts h) at e) (λ g. gr.Rest.plain (some_block_sound ts g)) f)

  pub rest_shorter : {ts rest : Tokens} {xs : Option Passed} {y : Option Stas} → Rest I W ts xs y rest → length rest < length ts
  rest_shorter (gr.Rest.plain d) = some_block_shorter d
  rest_shorter (gr.Rest.passes ds d) = omega (arith, some_block_shorter d, args_less ds)
    where
      args_less : {ts rest : Tokens} {xs : List Exp} → Args W s.ParenClose ts xs rest → length rest < length ts
      args_less ds = args_shorter W w good s.ParenClose refl refl paren_no_comma ds
