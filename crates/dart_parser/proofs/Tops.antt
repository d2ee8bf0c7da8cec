-- Top-level declarations and whole units.
use Rattle.std.proofs.Common.{◌≡◌, ◌≢◌, ℕ, ◌<◌, ◌≤◌, Bool, true, false, List, [], ◌∷◌, length, Option, Some, None, Ok, Err, refl, sym, ◌∙◌, arith, map}
use Rattle.dart_syntax.specs.declared.token.Span.{Span}
use Rattle.dart_syntax.specs.declared.token.Sign.TheVariants as s
use Rattle.dart_syntax.specs.declared.token.Keyword.{Keyword}
use Rattle.dart_syntax.specs.declared.token.Keyword.TheVariants as k
use Rattle.dart_syntax.specs.declared.token.TokenKind.{TokenKind}
use Rattle.dart_syntax.specs.declared.token.TokenKind.TheVariants as tk
use Rattle.dart_syntax.specs.Syntax as tree
use Rattle.dart_syntax.specs.Syntax.{Exp, Sta, Body, Top}
use Rattle.dart_syntax.specs.Words.{Tokens, token, sign, keyword}
use Rattle.dart_syntax.specs.Operators.{named}
use Rattle.dart_syntax.specs.Grammar.{Reading, Many, none, more, is_var, StmtWithin, ExprWithin}
use Rattle.dart_expr.specs.declared.refusal.Refusal.{Refusal}
use Rattle.dart_expr.specs.declared.refusal.Refusal.TheVariants.{NoMemory, Syntax, TooDeep}
use Rattle.dart_syntax.specs.declared.tree.Top as declared_top
use Rattle.dart_syntax.specs.View as view
use Rattle.dart_expr.specs.Input.{Parser, Outcome, and_then, many_from, sees, sees_keyword, after, expect, span, next, is_end}
use Rattle.dart_expr.specs.Model.{name, expr}
use Rattle.dart_parser.specs.Statements.{is_last, stmt}
use Rattle.dart_expr.proofs.Facts.{sees_it, after_it, after_not, after_seen, expect_it, seen, expect_ok, sees_keyword_it, after_keyword_it, seen_keyword, after_keyword_seen, same_ok, split, via, some_not_none, none_not_some}
use Rattle.dart_expr.proofs.Good.{Good}
use Rattle.dart_expr.proofs.Many.{GoodStep, many_complete, many_via, many_shorter}
use Rattle.dart_expr.proofs.Terms.{name_via}
use Rattle.dart_expr.proofs.Expressions.{expr_good}
use Rattle.dart_parser.proofs.Stmts.{GoodStmt, stmt_good, last_is}
use Rattle.dart_syntax.specs.Derivation as gr
use Rattle.dart_syntax.specs.Derivation.{any, Meta, Ret, is_ret, Declared, TopText, Derives, LEVELS}
use Rattle.dart_parser.specs.Tops.{meta, metas, class, function, variable, named_function, dynamic_top, constant, abstract_class, declared_by, declared, top, top_item, tops, whole_unit}
use Rattle.dart_parser.specs.Members.{value, given, params, body}
use Rattle.dart_parser.proofs.Parts.{value_complete, value_sound, value_shorter, given_complete, given_sound, literal_shorter, params_complete, params_sound, params_shorter, body_complete, body_sound, body_shorter}
use Rattle.dart_parser.proofs.Members.{value_paren}
use Rattle.dart_parser.proofs.Classes.{metas_step, class_complete, class_sound, class_shorter}

abbrev Some_is : {A : Type 0} → (A → Type 0) → Option A → Type 0
Some_is P None = Unit {0}
Some_is P (Some x) = P x

no_top : {y : Top × Tokens} {r : Refusal} → ◌≡◌ {A = Outcome Top} (Err r) (Ok y) → ⊥
no_top e = cc

abbrev Plain : Tokens → Type 0
Plain ts = (sees s.At ts ≡ false) × (is_end ts ≡ false)

module _ (I : Reading Sta) (W : Reading Exp) (i : Parser Sta) (w : Parser Exp) (good_inner : GoodStmt I i) (good : Good W w 1) where
  ret_function : {r : Bool} {ts us : Tokens} {n : List ℕ} {a b : Span} (e : Bool) → Ret ts r (token (tk.Name n) a ∷ sign s.ParenOpen b ∷ us) → declared i w e ts ≡ function i w e (named n a) us
  unfolding declared named_function dynamic_top name
  ret_function {us = us} {n = n} {b = b} e gr.Ret.none = rw (expect_it s.ParenOpen b us)
  ret_function {us = us} {n = n} {a = a} {b = b} e (gr.Ret.some {w = wd} {a = c} is) = go wd is (expect_it s.ParenOpen b us) (sees_it s.ParenOpen b us) (after_it s.ParenOpen b us)
    where
      go : (wd : Keyword) → is_ret wd ≡ true → expect s.ParenOpen (sign s.ParenOpen b ∷ us) ≡ Ok (b, us) → sees s.ParenOpen (sign s.ParenOpen b ∷ us) ≡ true → after s.ParenOpen (sign s.ParenOpen b ∷ us) ≡ us
          → declared i w e (keyword wd c ∷ token (tk.Name n) a ∷ sign s.ParenOpen b ∷ us) ≡ function i w e (named n a) us
      go k.Void is f g h = rw f
      go k.Dynamic is f g h = rw (g, h)
      go _ is f g h = cc

  variable_complete : (e : Bool) (wd : Keyword) (n : List ℕ) (a b : Span) (v : Option Exp) (ts rest : Tokens) → is_var wd ≡ true → gr.Value ts v rest
      → declared i w e (keyword wd a ∷ token (tk.Name n) b ∷ ts) ≡ Ok (tree.a_variable (tree.a_local false (named n b) v), rest)
  unfolding declared dynamic_top variable name
  variable_complete e k.Var n a b v ts rest is d = rw (value_complete d)
  variable_complete e k.Dynamic n a b v ts rest is d = let other = value_paren d in rw (other, after_not s.ParenOpen ts other, value_complete d)
  variable_complete e _ n a b v ts rest is d = cc

  declared_complete : (e : Bool) {ts rest : Tokens} {x : Top} → Declared I W e ts x rest → declared i w e ts ≡ Ok (x, rest)
  unfolding declared abstract_class constant function name
  declared_complete e (gr.Declared.class d) = rw (class_complete I W i w good_inner good false d)
  declared_complete e (gr.Declared.abstract {b = b} {ts = ts} d) = rw (sees_keyword_it k.Class b ts, after_keyword_it k.Class b ts, class_complete I W i w good_inner good true d)
  declared_complete e (gr.Declared.variable {w = wd} {n} {a} {b} {v} {ts} {rest} is d) = variable_complete e wd n a b v ts rest is d
  declared_complete e (gr.Declared.final {c = c} {ts = ts} d) = rw (expect_it s.Assign c ts, given_complete d)
  declared_complete e (gr.Declared.function r d1 d2) = rw (ret_function e r, params_complete false d1, body_complete I W i w good_inner good d2)

  ret_plain : {ts us : Tokens} {r : Bool} → Ret ts r us → Plain us → Plain ts
  unfolding sees is_end
  ret_plain gr.Ret.none h = h
  ret_plain (gr.Ret.some is) h = (refl, refl)

  declared_plain : {e : Bool} {ts rest : Tokens} {x : Top} → Declared I W e ts x rest → Plain ts
  unfolding sees is_end
  declared_plain (gr.Declared.function r d1 d2) = ret_plain r (refl, refl)
  declared_plain (gr.Declared.class d) = (refl, refl)
  declared_plain (gr.Declared.abstract d) = (refl, refl)
  declared_plain (gr.Declared.variable is d) = (refl, refl)
  declared_plain (gr.Declared.final d) = (refl, refl)

  function_sound : {r : Bool} (e : Bool) (ts : Tokens) (n : List ℕ) (a b : Span) (us : Tokens) {x : Top} {rest : Tokens} → Ret ts r (token (tk.Name n) a ∷ sign s.ParenOpen b ∷ us)
      → function i w e (named n a) us ≡ Ok (x, rest) → Declared I W e ts x rest
  unfolding function
  function_sound e ts n a b us r f = via (params false us) _ f (λ ps vs e1 e2. via (body i w vs) _ e2 (λ y ws e3 e4.
      same_ok (λ x rest. Declared I W e ts x rest) e4 (gr.Declared.function r (params_sound false us e1) (body_sound I W i w good_inner good vs e3))))

  named_sound : {r : Bool} (e : Bool) (ts us : Tokens) {x : Top} {rest : Tokens} → Ret ts r us → named_function i w e us ≡ Ok (x, rest) → Declared I W e ts x rest
  unfolding named_function
  named_sound e ts us r f = via (name us) _ f (λ m vs e1 e2. via (expect s.ParenOpen vs) _ e2 (λ b ws e3 e4. name_via us e1 (λ n a at same_m.
      function_sound e ts n a b ws (rw (at, expect_ok s.ParenOpen vs e3) at r) (rw same_m at e4))))

  variable_sound : (e : Bool) (wd : Keyword) (a : Span) (n : List ℕ) (b : Span) (us : Tokens) {x : Top} {rest : Tokens} → is_var wd ≡ true → variable i w false (named n b) us ≡ Ok (x, rest)
      → Declared I W e (keyword wd a ∷ token (tk.Name n) b ∷ us) x rest
  unfolding variable
  variable_sound e wd a n b us is f = via (value us) _ f (λ v vs e1 e2. same_ok (λ x rest. Declared I W e (keyword wd a ∷ token (tk.Name n) b ∷ us) x rest) e2 (gr.Declared.variable is (value_sound us e1)))

  var_sound : (e : Bool) (a : Span) (us : Tokens) {x : Top} {rest : Tokens} → and_then (name us) (λ n. variable i w false n) ≡ Ok (x, rest) → Declared I W e (keyword k.Var a ∷ us) x rest
  var_sound e a us f = via (name us) _ f (λ m vs e1 e2. name_via us e1 (λ n b at same_m. rw at (variable_sound e k.Var a n b vs refl (rw same_m at e2))))

  dynamic_sound : (e : Bool) (a : Span) (us : Tokens) {x : Top} {rest : Tokens} → dynamic_top i w e us ≡ Ok (x, rest) → Declared I W e (keyword k.Dynamic a ∷ us) x rest
  unfolding dynamic_top
  dynamic_sound e a us f = via (name us) _ f (λ m vs e1 e2. name_via us e1 (λ n b at same_m. rw at (split (sees s.ParenOpen vs)
      (λ h. rw (seen s.ParenOpen vs h) (function_sound e (keyword k.Dynamic a ∷ token (tk.Name n) b ∷ sign s.ParenOpen (span vs) ∷ next vs) n b (span vs) (next vs) (gr.Ret.some refl) (rw (h, after_seen s.ParenOpen vs h, same_m) at e2)))
      (λ h. variable_sound e k.Dynamic a n b vs refl (rw (h, after_not s.ParenOpen vs h, same_m) at e2)))))

  constant_sound : (e : Bool) (a : Span) (us : Tokens) {x : Top} {rest : Tokens} → constant i w us ≡ Ok (x, rest) → Declared I W e (keyword k.Final a ∷ us) x rest
  unfolding constant
  constant_sound e a us f = via (name us) _ f (λ m vs e1 e2. via (expect s.Assign vs) _ e2 (λ c ws e3 e4. via (given ws) _ e4 (λ v zs e5 e6. name_via us e1 (λ n b at same_m. let (d, value) = given_sound ws e5 in
      rw (at, expect_ok s.Assign vs e3) (same_ok (λ x rest. Declared I W e (keyword k.Final a ∷ token (tk.Name n) b ∷ sign s.Assign c ∷ ws) x rest) e6 (rw same_m (gr.Declared.final value)))))))

  class_top_sound : (e : Bool) (a : Span) (us : Tokens) {x : Top} {rest : Tokens} → and_then (class i w false us) (λ c us. Ok (tree.a_class c, us)) ≡ Ok (x, rest) → Declared I W e (keyword k.Class a ∷ us) x rest
  class_top_sound e a us f = via (class i w false us) _ f (λ c vs e1 e2. same_ok (λ x rest. Declared I W e (keyword k.Class a ∷ us) x rest) e2 (gr.Declared.class (class_sound I W i w good_inner good false us e1)))

  abstract_sound : (e : Bool) (a : Span) (us : Tokens) {x : Top} {rest : Tokens} → abstract_class i w us ≡ Ok (x, rest) → Declared I W e (keyword k.Abstract a ∷ us) x rest
  unfolding abstract_class
  abstract_sound e a us f = split (sees_keyword k.Class us)
      (λ h. via (class i w true (next us)) _ (rw (h, after_keyword_seen k.Class us h) at f) (λ c vs e1 e2.
      rw (seen_keyword k.Class us h) (same_ok (λ x rest. Declared I W e (keyword k.Abstract a ∷ keyword k.Class (span us) ∷ next us) x rest) e2 (gr.Declared.abstract (class_sound I W i w good_inner good true (next us) e1)))))
      (λ h. absurd (no_top (rw h at f)))

  declared_here : (e : Bool) (c : TokenKind) (a : Span) (us : Tokens) {x : Top} {rest : Tokens} → declared_by i w e (Some c) (token c a ∷ us) ≡ Ok (x, rest) → Declared I W e (token c a ∷ us) x rest
  declared_here e (tk.Keyword k.Class) a us f = class_top_sound e a us f
  declared_here e (tk.Keyword k.Abstract) a us f = abstract_sound e a us f
  declared_here e (tk.Keyword k.Var) a us f = var_sound e a us f
  declared_here e (tk.Keyword k.Dynamic) a us f = dynamic_sound e a us f
  declared_here e (tk.Keyword k.Final) a us f = constant_sound e a us f
  declared_here e (tk.Keyword k.Void) a us f = named_sound e (keyword k.Void a ∷ us) us (gr.Ret.some refl) f
  declared_here e c a us f = named_sound e (token c a ∷ us) (token c a ∷ us) gr.Ret.none f

  declared_sound : (e : Bool) (ts : Tokens) {x : Top} {rest : Tokens} → declared i w e ts ≡ Ok (x, rest) → Declared I W e ts x rest
  unfolding declared
  declared_sound e [] f = named_sound e [] [] gr.Ret.none f
  declared_sound e (t ∷ us) f = declared_here e t.kind t.span us f

  ret_shorter : {ts us : Tokens} {r : Bool} → Ret ts r us → length us ≤ length ts
  ret_shorter gr.Ret.none = omega arith
  ret_shorter (gr.Ret.some is) = omega arith

  declared_shorter : {e : Bool} {ts rest : Tokens} {x : Top} → Declared I W e ts x rest → length rest < length ts
  declared_shorter (gr.Declared.class d) = omega (arith, class_shorter I W i w good_inner good false d)
  declared_shorter (gr.Declared.abstract d) = omega (arith, class_shorter I W i w good_inner good true d)
  declared_shorter (gr.Declared.variable is d) = omega (arith, value_shorter d)
  declared_shorter (gr.Declared.final d) = omega (arith, literal_shorter d)
  declared_shorter (gr.Declared.function r d1 d2) = omega (arith, ret_shorter r, params_shorter false d1, body_shorter I W i w good_inner good d2)

  top_complete : {ts rest : Tokens} {x : Top} → TopText I W ts x rest → top i w ts ≡ Ok (x, rest)
  unfolding top metas
  top_complete (gr.TopText.top {bs} {ts = ts} ds d) =
      rw (many_complete Meta meta _ _ metas_step (length ts) [] ds (declared_plain d).0 (omega (arith, many_shorter Meta meta _ _ metas_step ds)), declared_complete (any bs) d)

  top_sound : (ts : Tokens) {x : Top} {rest : Tokens} → top i w ts ≡ Ok (x, rest) → TopText I W ts x rest
  unfolding top metas
  top_sound ts e = via (many_from meta (length ts) [] ts) _ e (λ bs us e1 e2. many_via Meta meta _ _ metas_step (length ts) ts e1 (λ zs is reads few.
      gr.TopText.top reads (declared_sound (any zs) us (rw is at e2))))

  top_shorter : {ts rest : Tokens} {x : Top} → TopText I W ts x rest → length rest < length ts
  top_shorter (gr.TopText.top ds d) = omega (arith, declared_shorter d, many_shorter Meta meta _ _ metas_step ds)

  top_plain : {ts rest : Tokens} {x : Top} → TopText I W ts x rest → is_end ts ≡ false
  unfolding is_end
  top_plain (gr.TopText.top none d) = (declared_plain d).1
  top_plain (gr.TopText.top (more gr.Meta.override ds) d) = refl
  top_plain (gr.TopText.top (more gr.Meta.pragma ds) d) = refl

  item_sound : (ts : Tokens) {x : Top} {rest : Tokens} → top_item i w ts ≡ Ok (Some x, rest) → TopText I W ts x rest
  unfolding top_item
  item_sound ts e = split (is_end ts)
      (λ h. absurd (none_not_some (rw h at e)))
      (λ h. via (top i w ts) _ (rw h at e) (λ y us e1 e2. same_ok (λ o rest. Some_is (λ x. TopText I W ts x rest) o) e2 (top_sound ts e1)))

  item_none : (ts : Tokens) {rest : Tokens} → top_item i w ts ≡ Ok (None, rest) → rest ≡ ts
  unfolding top_item
  item_none ts e = split (is_end ts)
      (λ h. same_ok (λ (o : Option Top) rest. rest ≡ ts) (rw h at e) refl)
      (λ h. via (top i w ts) _ (rw h at e) (λ y us e1 e2. absurd (some_not_none e2)))

  tops_step : GoodStep (TopText I W) (top_item i w) (λ ts. is_end ts ≡ true) (λ ts. Unit {0})
  unfolding top_item
  tops_step = record {
    complete = λ d f. rw (top_plain d, top_complete d);
    stops = λ ts h. rw h;
    sound = item_sound;
    sound_none = item_none;
    shorter = top_shorter;
    begins = λ d. tt;
    lower = λ ts h. tt;
  }

  abbrev pub Whole : Tokens → List Top → Type 0
  Whole ts xs = (at : Span) × Many (TopText I W) ts xs (token tk.End at ∷ [])

  pub whole_complete : (ts : Tokens) (xs : List Top) → Whole ts xs → whole_unit i w ts ≡ Ok (xs, [])
  unfolding whole_unit tops is_last is_end
  whole_complete ts xs (at, ds) = rw (many_complete (TopText I W) (top_item i w) _ _ tops_step (length ts) [] ds refl (omega (arith, many_shorter (TopText I W) (top_item i w) _ _ tops_step ds)))

  no_list : {r : Refusal} {y : List Top × Tokens} → ◌≡◌ {A = Outcome (List Top)} (Err r) (Ok y) → ⊥
  no_list e = cc

  pub whole_sound : (ts : Tokens) {xs : List Top} {rest : Tokens} → whole_unit i w ts ≡ Ok (xs, rest) → Whole ts xs
  unfolding whole_unit tops
  whole_sound ts e = via (many_from (top_item i w) (length ts) [] ts) _ e (λ xs us e1 e2. split (is_last us)
      (λ h. many_via (TopText I W) (top_item i w) _ _ tops_step (length ts) ts e1 (λ zs is reads few.
      same_ok (λ xs rest. Whole ts xs) (rw h at e2) (span us, rw is (rw (last_is us h) at reads))))
      (λ h. absurd (no_list (rw h at e2))))

pub unit_sound : (ts : Tokens) {xs : List Top} {rest : Tokens} → whole_unit (stmt LEVELS) (expr LEVELS) ts ≡ Ok (xs, rest) → Derives ts (tree.tree_of xs)
unfolding Derives
unit_sound ts e = whole_sound (StmtWithin LEVELS) (ExprWithin LEVELS) (stmt LEVELS) (expr LEVELS) (stmt_good LEVELS) (expr_good LEVELS) ts e

unit_complete : (ts : Tokens) (t : tree.Tree) → Derives ts t → whole_unit (stmt LEVELS) (expr LEVELS) ts ≡ Ok (t.tops, [])
unfolding Derives
unit_complete ts t d = whole_complete (StmtWithin LEVELS) (ExprWithin LEVELS) (stmt LEVELS) (expr LEVELS) (stmt_good LEVELS) (expr_good LEVELS) ts t.tops d

pub only_tree : (ts new : Tokens) (ys : List declared_top.Top) → whole_unit (stmt LEVELS) (expr LEVELS) ts ≡ Ok (map view.top ys, new) → (t : tree.Tree) → Derives ts t → tree.tree_of (map view.top ys) ≡ t
only_tree ts new ys h t d = same_ok (λ zs rest. tree.tree_of (map view.top ys) ≡ tree.tree_of zs) (sym h ∙ unit_complete ts t d) refl

no_tops : {e : Refusal} {y : List Top × Tokens} → ◌≡◌ {A = Outcome (List Top)} (Err e) (Ok y) → ⊥
no_tops e = cc

-- what is refused for another reason than want of memory has no tree
pub no_tree : (ts : Tokens) (e : Refusal) → (e ≢ NoMemory → whole_unit (stmt LEVELS) (expr LEVELS) ts ≡ Err e) → (t : tree.Tree) → Derives ts t → e ≡ NoMemory
no_tree ts NoMemory h t d = refl
no_tree ts (Syntax at) h t d = absurd (no_tops (sym (h (λ e. cc)) ∙ unit_complete ts t d))
no_tree ts (TooDeep at) h t d = absurd (no_tops (sym (h (λ e. cc)) ∙ unit_complete ts t d))
