-- Members of classes.
use Rattle.std.proofs.Common.{◌≡◌, ℕ, Bool, true, false, not, ◌||◌, List, [], ◌∷◌, Option, Some, Ok, Err, refl}
use Rattle.dart_syntax.specs.declared.token.Span.{Span}
use Rattle.dart_syntax.specs.declared.token.Sign.{Sign}
use Rattle.dart_syntax.specs.declared.token.Sign.TheVariants as s
use Rattle.dart_syntax.specs.declared.token.Keyword.{Keyword}
use Rattle.dart_syntax.specs.declared.token.Keyword.TheVariants as k
use Rattle.dart_syntax.specs.declared.token.TokenKind.{TokenKind}
use Rattle.dart_syntax.specs.declared.token.TokenKind.TheVariants as tk
use Rattle.dart_syntax.specs.Syntax as tree
use Rattle.dart_syntax.specs.Syntax.{Param, Exp, Sta, Stas, Passed, Body, Member}
use Rattle.dart_syntax.specs.Words.{Tokens, token, sign, keyword}
use Rattle.dart_syntax.specs.Operators.{named}
use Rattle.dart_syntax.specs.Grammar.{Reading}
use Rattle.dart_expr.specs.Input.{Parser, Outcome, and_then, same, sees, after, expect, span, next}
use Rattle.dart_expr.specs.Model.{name}
use Rattle.dart_expr.proofs.Facts.{sees_it, after_it, after_not, after_seen, expect_it, seen, expect_ok, same_ok, split, via, which}
use Rattle.dart_expr.proofs.Good.{Good}
use Rattle.dart_expr.proofs.Terms.{name_via}
use Rattle.dart_parser.proofs.Stmts.{GoodStmt}
use Rattle.dart_expr.specs.declared.refusal.Refusal.{Refusal}
use Rattle.dart_syntax.specs.declared.tree.Operator.{Operator}
use Rattle.dart_syntax.specs.declared.tree.Operator.TheVariants as op
use Rattle.dart_syntax.specs.Derivation as gr
use Rattle.dart_syntax.specs.Derivation.{same_text, operator_of, takes, OperatorText, Ret, is_ret, final_or_var, MemberText, Params, Rest, SomeBody}
use Rattle.dart_parser.specs.Members.{param, params, single, bracketed, operator_by, operator, some_body, some_block, method, passed, constructor, getter, setter, operator_params, operator_member, field, function_member, plain_by, plain, named_member, dynamic_by, dynamic, member_by, member, value}
use Rattle.dart_parser.proofs.Parts.{value_complete, value_sound, param_complete, param_sound, params_complete, params_sound, operator_params_complete, operator_params_sound, some_body_complete, some_body_sound, rest_complete, rest_sound}

-- ---- operators

single_is : (x : Option Operator) (o : Operator) (a : Span) (c : Sign) (rest : Tokens) → x ≡ Some o → single x (sign c a ∷ rest) ≡ Ok ((o, a), rest)
single_is x o a c rest is = rw is

operator_sign : (c : Sign) (o : Operator) (a : Span) (rest : Tokens) → operator_of c ≡ Some o → operator (sign c a ∷ rest) ≡ Ok ((o, a), rest)
unfolding operator
operator_sign s.BracketOpen o a rest is = cc
operator_sign c o a rest is = single_is (operator_of c) o a c rest is

get_not_set : (c : Span) (rest : Tokens) → sees s.Assign (sign s.ParenOpen c ∷ rest) ≡ false
unfolding sees same
get_not_set c rest = refl

operator_complete : {ts rest : Tokens} {o : Operator} {a : Span} → OperatorText ts o a rest → operator ts ≡ Ok ((o, a), rest)
unfolding operator bracketed
operator_complete (gr.OperatorText.one {c} {o} {a} {rest} is) = operator_sign c o a rest is
operator_complete (gr.OperatorText.get {a} {b} {c} {rest}) =
    rw (expect_it s.BracketClose b (sign s.ParenOpen c ∷ rest), get_not_set c rest, after_not s.Assign (sign s.ParenOpen c ∷ rest) (get_not_set c rest), sees_it s.ParenOpen c rest)
operator_complete (gr.OperatorText.set {a} {b} {c} {rest}) =
    rw (expect_it s.BracketClose b (sign s.Assign c ∷ rest), sees_it s.Assign c rest, after_it s.Assign c rest)

no_operator : {y : (Operator × Span) × Tokens} {r : Rattle.dart_expr.specs.declared.refusal.Refusal.Refusal} → ◌≡◌ {A = Outcome (Operator × Span)} (Err r) (Ok y) → ⊥
no_operator e = cc

abbrev OperatorIs : Tokens → Operator × Span → Tokens → Type 0
OperatorIs ts o rest = OperatorText ts o.0 o.1 rest

bracketed_sound : (a : Span) (ts : Tokens) {o : Operator × Span} {rest : Tokens} → bracketed (sign s.BracketOpen a ∷ ts) ≡ Ok (o, rest) → OperatorIs (sign s.BracketOpen a ∷ ts) o rest
unfolding bracketed
bracketed_sound a ts e = via (expect s.BracketClose ts) _ e (λ b us e1 e2. rw (expect_ok s.BracketClose ts e1) (split (sees s.Assign us)
    (λ h. rw (seen s.Assign us h) (same_ok (λ o rest. OperatorIs (sign s.BracketOpen a ∷ sign s.BracketClose b ∷ sign s.Assign (span us) ∷ next us) o rest) (rw (h, after_seen s.Assign us h) at e2) gr.OperatorText.set))
    (λ h. split (sees s.ParenOpen us)
    (λ h2. got a b us (span us) (next us) (seen s.ParenOpen us h2) (rw (h, after_not s.Assign us h, h2) at e2))
    (λ h2. absurd (no_operator (rw (h, after_not s.Assign us h, h2) at e2))))))
  where
    got : (a b : Span) (us : Tokens) (c : Span) (vs : Tokens) {o : Operator × Span} {rest : Tokens} → us ≡ sign s.ParenOpen c ∷ vs → ◌≡◌ {A = Outcome (Operator × Span)} (Ok ((op.Get, a), us)) (Ok (o, rest))
        → OperatorIs (sign s.BracketOpen a ∷ sign s.BracketClose b ∷ us) o rest
    got a b us c vs is e = same_ok (λ o rest. OperatorIs (sign s.BracketOpen a ∷ sign s.BracketClose b ∷ us) o rest) e (rw is gr.OperatorText.get)

single_sound : (c : Sign) (a : Span) (ts : Tokens) {o : Operator × Span} {rest : Tokens} → single (operator_of c) (sign c a ∷ ts) ≡ Ok (o, rest) → OperatorIs (sign c a ∷ ts) o rest
single_sound c a ts e = which (operator_of c)
    (λ h. absurd (no_operator (rw h at e)))
    (λ o h. same_ok (λ o rest. OperatorIs (sign c a ∷ ts) o rest) (rw h at e) (gr.OperatorText.one h))

operator_at : (m : TokenKind) (a : Span) (ts : Tokens) {o : Operator × Span} {rest : Tokens} → operator_by (Some m) (token m a ∷ ts) ≡ Ok (o, rest) → OperatorIs (token m a ∷ ts) o rest
operator_at (tk.Sign s.BracketOpen) a ts e = bracketed_sound a ts e
operator_at (tk.Sign c) a ts e = single_sound c a ts e
operator_at _ a ts e = absurd (no_operator e)

operator_sound : (ts : Tokens) {o : Operator × Span} {rest : Tokens} → operator ts ≡ Ok (o, rest) → OperatorIs ts o rest
unfolding operator
operator_sound [] e = absurd (no_operator e)
operator_sound (t ∷ ts) e = operator_at t.kind t.span ts e

-- ---- members

pub value_paren : {ts rest : Tokens} {v : Option Exp} → gr.Value ts v rest → sees s.ParenOpen ts ≡ false
unfolding sees same
value_paren gr.Value.none = refl
value_paren (gr.Value.some d) = refl

module _ (I : Reading Sta) (W : Reading Exp) (i : Parser Sta) (w : Parser Exp) (good_inner : GoodStmt I i) (good : Good W w 1) (class : List ℕ) where
  ret_get : {r : Bool} {ts us : Tokens} {a : Span} → Ret ts r (keyword k.Get a ∷ us) → member i w class ts ≡ getter i w (keyword k.Get a ∷ us)
  unfolding member plain dynamic
  ret_get gr.Ret.none = refl
  ret_get {us = us} {a = a} (gr.Ret.some {w = wd} {a = b} is) = go wd is
    where
      go : (wd : Keyword) → is_ret wd ≡ true → member i w class (keyword wd b ∷ keyword k.Get a ∷ us) ≡ getter i w (keyword k.Get a ∷ us)
      go k.Void is = refl
      go k.Dynamic is = refl
      go _ is = cc

  ret_set : {r : Bool} {ts us : Tokens} {a : Span} → Ret ts r (keyword k.Set a ∷ us) → member i w class ts ≡ setter i w (keyword k.Set a ∷ us)
  unfolding member plain dynamic
  ret_set gr.Ret.none = refl
  ret_set {us = us} {a = a} (gr.Ret.some {w = wd} {a = b} is) = go wd is
    where
      go : (wd : Keyword) → is_ret wd ≡ true → member i w class (keyword wd b ∷ keyword k.Set a ∷ us) ≡ setter i w (keyword k.Set a ∷ us)
      go k.Void is = refl
      go k.Dynamic is = refl
      go _ is = cc

  ret_operator : {r : Bool} {ts us : Tokens} {a : Span} → Ret ts r (keyword k.Operator a ∷ us) → member i w class ts ≡ operator_member i w (keyword k.Operator a ∷ us)
  unfolding member plain dynamic
  ret_operator gr.Ret.none = refl
  ret_operator {us = us} {a = a} (gr.Ret.some {w = wd} {a = b} is) = go wd is
    where
      go : (wd : Keyword) → is_ret wd ≡ true → member i w class (keyword wd b ∷ keyword k.Operator a ∷ us) ≡ operator_member i w (keyword k.Operator a ∷ us)
      go k.Void is = refl
      go k.Dynamic is = refl
      go _ is = cc

  other_name : (n : List ℕ) → (false || not (same_text n class)) ≡ true → same_text n class ≡ false
  other_name n h = split (same_text n class) (λ e. let f : false ≡ true = rw e at h in cc) (λ e. e)

  ret_method : {r : Bool} {ts us : Tokens} {n : List ℕ} {a b : Span} → Ret ts r (token (tk.Name n) a ∷ sign s.ParenOpen b ∷ us) → (r || not (same_text n class)) ≡ true
      → member i w class ts ≡ method i w (named n a) us
  unfolding member plain dynamic function_member named_member name
  ret_method {us = us} {n = n} {b = b} gr.Ret.none h = let f = other_name n h in rw (expect_it s.ParenOpen b us, f)
  ret_method {us = us} {n = n} {a = a} {b = b} (gr.Ret.some {w = wd} {a = c} is) h = go wd is (expect_it s.ParenOpen b us) (sees_it s.ParenOpen b us) (after_it s.ParenOpen b us)
    where
      go : (wd : Keyword) → is_ret wd ≡ true → expect s.ParenOpen (sign s.ParenOpen b ∷ us) ≡ Ok (b, us) → sees s.ParenOpen (sign s.ParenOpen b ∷ us) ≡ true → after s.ParenOpen (sign s.ParenOpen b ∷ us) ≡ us
          → member i w class (keyword wd c ∷ token (tk.Name n) a ∷ sign s.ParenOpen b ∷ us) ≡ method i w (named n a) us
      go k.Void is e f g = rw e
      go k.Dynamic is e f g = rw (f, g)
      go _ is e f g = cc

  field_complete : (wd : Keyword) (f : Bool) (n : List ℕ) (a b : Span) (v : Option Exp) (ts rest : Tokens) → final_or_var wd ≡ Some f → gr.Value ts v rest
      → member i w class (keyword wd a ∷ token (tk.Name n) b ∷ ts) ≡ Ok (tree.field (tree.a_local f (named n b) v), rest)
  unfolding member plain dynamic named_member field name
  field_complete k.Final true n a b v ts rest is d = rw (value_complete d)
  field_complete k.Var false n a b v ts rest is d = rw (value_complete d)
  field_complete k.Dynamic false n a b v ts rest is d = let other = value_paren d in rw (other, after_not s.ParenOpen ts other, value_complete d)
  field_complete _ f n a b v ts rest is d = cc

  made : (n : List ℕ) (a b : Span) (ps : List Param) (xs : Option Passed) (y : Option Stas) (ts us rest : Tokens) → same_text n class ≡ true → Params true ts ps us → Rest I W us xs y rest
      → member i w class (token (tk.Name n) a ∷ sign s.ParenOpen b ∷ ts) ≡ Ok (tree.constructor (named n a) ps xs y, rest)
  unfolding member plain function_member name constructor
  made n a b ps xs y ts us rest is d1 d2 = rw (expect_it s.ParenOpen b ts, is, params_complete true d1) (both (passed i w us) (rest_complete I W i w good_inner good d2))
    where
      both : (o : Outcome (Option Passed)) → and_then {B = Option Passed × Option Stas} o (λ xs us. and_then (some_block i w us) (λ y vs. Ok ((xs, y), vs))) ≡ Ok ((xs, y), rest)
          → and_then o (λ xs us. and_then (some_block i w us) (λ y vs. Ok (tree.constructor (named n a) ps xs y, vs))) ≡ Ok (tree.constructor (named n a) ps xs y, rest)
      both o e = via o _ e (λ zs vs e1 e2. via (some_block i w vs) _ e2 (λ z ws e3 e4. rw (e1, e3) (same_ok (λ q rest. ◌≡◌ {A = Outcome Member} (Ok (tree.constructor (named n a) ps zs z, ws)) (Ok (tree.constructor (named n a) ps q.0 q.1, rest))) e4 refl)))

  pub member_complete : {ts rest : Tokens} {x : Member} → MemberText I W class ts x rest → member i w class ts ≡ Ok (x, rest)
  unfolding method getter setter operator_member name
  member_complete (gr.MemberText.field {w = wd} {f} {n} {a} {b} {v} {ts} {rest} is d) = field_complete wd f n a b v ts rest is d
  member_complete (gr.MemberText.method {b = b} {us = us} r not_class d1 d2) = rw (ret_method r not_class, params_complete false d1, some_body_complete I W i w good_inner good d2)
  member_complete (gr.MemberText.getter r d) = rw (ret_get r, some_body_complete I W i w good_inner good d)
  member_complete (gr.MemberText.setter {c = c} {d = m} {us = us} {vs = vs} r d1 d2) =
      rw (ret_set r, expect_it s.ParenOpen c us, param_complete d1, expect_it s.ParenClose m vs, some_body_complete I W i w good_inner good d2)
  member_complete (gr.MemberText.operator {c = c} {vs = vs} r d1 d2 may d3) =
      rw (ret_operator r, operator_complete d1, expect_it s.ParenOpen c vs, operator_params_complete _ d2 may, some_body_complete I W i w good_inner good d3)
  member_complete (gr.MemberText.constructor {n} {a} {b} {ps} {xs} {y} {ts} {us} {rest} is d1 d2) = made n a b ps xs y ts us rest is d1 d2

  -- ---- what is read is in the grammar

  getter_sound : {r : Bool} (ts : Tokens) (a : Span) (us : Tokens) {x : Member} {rest : Tokens} → Ret ts r (keyword k.Get a ∷ us) → getter i w (keyword k.Get a ∷ us) ≡ Ok (x, rest) → MemberText I W class ts x rest
  unfolding getter
  getter_sound ts a us r e = via (name us) _ e (λ n vs e1 e2. via (some_body i w vs) _ e2 (λ b ws e3 e4.
      name_via us e1 (λ text c at same_n. same_ok (λ x rest. MemberText I W class ts x rest) e4 (rw same_n (gr.MemberText.getter (rw at at r) (some_body_sound I W i w good_inner good vs e3))))))

  setter_sound : {r : Bool} (ts : Tokens) (a : Span) (us : Tokens) {x : Member} {rest : Tokens} → Ret ts r (keyword k.Set a ∷ us) → setter i w (keyword k.Set a ∷ us) ≡ Ok (x, rest) → MemberText I W class ts x rest
  unfolding setter
  setter_sound ts a us r e = via (name us) _ e (λ n vs e1 e2. via (expect s.ParenOpen vs) _ e2 (λ c ws e3 e4. via (param false ws) _ e4 (λ p zs e5 e6. via (expect s.ParenClose zs) _ e6 (λ d qs e7 e8. via (some_body i w qs) _ e8 (λ b last e9 e10.
      name_via us e1 (λ text m at same_n. same_ok (λ x rest. MemberText I W class ts x rest) e10
      (rw same_n (gr.MemberText.setter (rw (at, expect_ok s.ParenOpen vs e3) at r) (rw (expect_ok s.ParenClose zs e7) at (param_sound false ws e5)) (some_body_sound I W i w good_inner good qs e9)))))))))

  operator_member_sound : {r : Bool} (ts : Tokens) (a : Span) (us : Tokens) {x : Member} {rest : Tokens} → Ret ts r (keyword k.Operator a ∷ us) → operator_member i w (keyword k.Operator a ∷ us) ≡ Ok (x, rest) → MemberText I W class ts x rest
  unfolding operator_member
  operator_member_sound ts a us r e = via (operator us) _ e (λ o vs e1 e2. via (expect s.ParenOpen vs) _ e2 (λ c ws e3 e4. via (operator_params o.0 ws) _ e4 (λ ps zs e5 e6.
      let (reads, may) = operator_params_sound o.0 ws e5 in
      via (some_body i w zs) _ e6 (λ b last e7 e8. same_ok (λ x rest. MemberText I W class ts x rest) e8
      (gr.MemberText.operator r (rw (expect_ok s.ParenOpen vs e3) at (operator_sound us e1)) reads may (some_body_sound I W i w good_inner good zs e7))))))

  method_sound : {r : Bool} (ts : Tokens) (n : List ℕ) (a b : Span) (us : Tokens) {x : Member} {rest : Tokens} → Ret ts r (token (tk.Name n) a ∷ sign s.ParenOpen b ∷ us) → (r || not (same_text n class)) ≡ true
      → method i w (named n a) us ≡ Ok (x, rest) → MemberText I W class ts x rest
  unfolding method
  method_sound ts n a b us r h e = via (params false us) _ e (λ ps vs e1 e2. via (some_body i w vs) _ e2 (λ y ws e3 e4.
      same_ok (λ x rest. MemberText I W class ts x rest) e4 (gr.MemberText.method r h (params_sound false us e1) (some_body_sound I W i w good_inner good vs e3))))

  constructor_sound : (n : List ℕ) (a b : Span) (us : Tokens) {x : Member} {rest : Tokens} → same_text n class ≡ true → constructor i w (named n a) us ≡ Ok (x, rest)
      → MemberText I W class (token (tk.Name n) a ∷ sign s.ParenOpen b ∷ us) x rest
  unfolding constructor
  constructor_sound n a b us h e = via (params true us) _ e (λ ps vs e1 e2. via (passed i w vs) _ e2 (λ xs ws e3 e4. via (some_block i w ws) _ e4 (λ y zs e5 e6.
      same_ok (λ x rest. MemberText I W class (token (tk.Name n) a ∷ sign s.ParenOpen b ∷ us) x rest) e6 (gr.MemberText.constructor h (params_sound true us e1) (rest_sound I W i w good_inner good vs ws e3 e5)))))

  function_sound : (typed : Bool) (ts us : Tokens) {x : Member} {rest : Tokens} → Ret ts typed us → (typed ≡ false → ts ≡ us) → function_member i w class typed us ≡ Ok (x, rest) → MemberText I W class ts x rest
  unfolding function_member
  function_sound true ts us r alone e = via (name us) _ e (λ n vs e1 e2. via (expect s.ParenOpen vs) _ e2 (λ b ws e3 e4. name_via us e1 (λ text a at same_n.
      method_sound ts text a b ws (rw (at, expect_ok s.ParenOpen vs e3) at r) refl (rw same_n at e4))))
  function_sound false ts us r alone e = via (name us) _ e (λ n vs e1 e2. via (expect s.ParenOpen vs) _ e2 (λ b ws e3 e4. name_via us e1 (λ text a at same_n. split (same_text text class)
      (λ h. rw (alone refl, at, expect_ok s.ParenOpen vs e3) (constructor_sound text a b ws h (rw (same_n, h) at e4)))
      (λ h. method_sound ts text a b ws (rw (at, expect_ok s.ParenOpen vs e3) at r) (rw h) (rw (same_n, h) at e4)))))

  plain_here : (typed : Bool) (m : TokenKind) (at : Span) (ts us : Tokens) {x : Member} {rest : Tokens} → Ret ts typed (token m at ∷ us) → (typed ≡ false → ts ≡ token m at ∷ us)
      → plain_by i w class typed (Some m) (token m at ∷ us) ≡ Ok (x, rest) → MemberText I W class ts x rest
  plain_here typed (tk.Keyword k.Get) at ts us r alone e = getter_sound ts at us r e
  plain_here typed (tk.Keyword k.Set) at ts us r alone e = setter_sound ts at us r e
  plain_here typed (tk.Keyword k.Operator) at ts us r alone e = operator_member_sound ts at us r e
  plain_here typed m at ts us r alone e = function_sound typed ts (token m at ∷ us) r alone e

  plain_sound : (typed : Bool) (ts us : Tokens) {x : Member} {rest : Tokens} → Ret ts typed us → (typed ≡ false → ts ≡ us) → plain i w class typed us ≡ Ok (x, rest) → MemberText I W class ts x rest
  unfolding plain
  plain_sound typed ts [] r alone e = function_sound typed ts [] r alone e
  plain_sound typed ts (t ∷ us) r alone e = plain_here typed t.kind t.span ts us r alone e

  field_sound : (wd : Keyword) (f : Bool) (a : Span) (n : List ℕ) (b : Span) (us : Tokens) {x : Member} {rest : Tokens} → final_or_var wd ≡ Some f → field i w f (named n b) us ≡ Ok (x, rest)
      → MemberText I W class (keyword wd a ∷ token (tk.Name n) b ∷ us) x rest
  unfolding field
  field_sound wd f a n b us is e = via (value us) _ e (λ v vs e1 e2. same_ok (λ x rest. MemberText I W class (keyword wd a ∷ token (tk.Name n) b ∷ us) x rest) e2 (gr.MemberText.field is (value_sound us e1)))

  named_field : (wd : Keyword) (f : Bool) (a : Span) (us : Tokens) {x : Member} {rest : Tokens} → final_or_var wd ≡ Some f → and_then (name us) (λ n. field i w f n) ≡ Ok (x, rest) → MemberText I W class (keyword wd a ∷ us) x rest
  named_field wd f a us is e = via (name us) _ e (λ n vs e1 e2. name_via us e1 (λ text b at same_n. rw at (field_sound wd f a text b vs is (rw same_n at e2))))

  dynamic_here : (a : Span) (m : TokenKind) (at : Span) (us : Tokens) {x : Member} {rest : Tokens} → dynamic_by i w class (Some m) (token m at ∷ us) ≡ Ok (x, rest) → MemberText I W class (keyword k.Dynamic a ∷ token m at ∷ us) x rest
  unfolding name named_member
  dynamic_here a (tk.Name n) at us e = split (sees s.ParenOpen us)
      (λ h. rw (seen s.ParenOpen us h) (method_sound (keyword k.Dynamic a ∷ token (tk.Name n) at ∷ sign s.ParenOpen (span us) ∷ next us) n at (span us) (next us) (gr.Ret.some refl) refl (rw (h, after_seen s.ParenOpen us h) at e)))
      (λ h. field_sound k.Dynamic false a n at us refl (rw (h, after_not s.ParenOpen us h) at e))
  dynamic_here a m at us e = plain_sound true (keyword k.Dynamic a ∷ token m at ∷ us) (token m at ∷ us) (gr.Ret.some refl) (λ h. cc) e

  dynamic_sound : (a : Span) (us : Tokens) {x : Member} {rest : Tokens} → dynamic i w class us ≡ Ok (x, rest) → MemberText I W class (keyword k.Dynamic a ∷ us) x rest
  unfolding dynamic
  dynamic_sound a [] e = plain_sound true (keyword k.Dynamic a ∷ []) [] (gr.Ret.some refl) (λ h. cc) e
  dynamic_sound a (t ∷ us) e = dynamic_here a t.kind t.span us e

  member_here : (m : TokenKind) (at : Span) (ts : Tokens) {x : Member} {rest : Tokens} → member_by i w class (Some m) (token m at ∷ ts) ≡ Ok (x, rest) → MemberText I W class (token m at ∷ ts) x rest
  member_here (tk.Keyword k.Var) at ts e = named_field k.Var false at ts refl e
  member_here (tk.Keyword k.Final) at ts e = named_field k.Final true at ts refl e
  member_here (tk.Keyword k.Dynamic) at ts e = dynamic_sound at ts e
  member_here (tk.Keyword k.Void) at ts e = plain_sound true (keyword k.Void at ∷ ts) ts (gr.Ret.some refl) (λ h. cc) e
  member_here m at ts e = plain_sound false (token m at ∷ ts) (token m at ∷ ts) gr.Ret.none (λ h. refl) e

  pub member_sound : (ts : Tokens) {x : Member} {rest : Tokens} → member i w class ts ≡ Ok (x, rest) → MemberText I W class ts x rest
  unfolding member
  member_sound [] e = plain_sound false [] [] gr.Ret.none (λ h. refl) e
  member_sound (t ∷ ts) e = member_here t.kind t.span ts e
