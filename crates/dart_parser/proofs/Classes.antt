-- Metas, classes and whole units.
use Rattle.std.proofs.Common.{◌≡◌, ℕ, ◌<◌, ◌≤◌, Bool, true, false, List, [], ◌∷◌, length, Option, Some, None, Ok, Err, refl, arith, codes}
use Rattle.dart_syntax.specs.declared.token.Span.{Span}
use Rattle.dart_syntax.specs.declared.token.Sign.TheVariants as s
use Rattle.dart_syntax.specs.declared.token.Keyword.TheVariants as k
use Rattle.dart_syntax.specs.declared.token.TokenKind.{TokenKind}
use Rattle.dart_syntax.specs.declared.token.TokenKind.TheVariants as tk
use Rattle.dart_syntax.specs.declared.tree.Name.{Name}
use Rattle.dart_syntax.specs.Syntax as tree
use Rattle.dart_syntax.specs.Syntax.{Exp, Sta, Body, Member, Top}
use Rattle.dart_syntax.specs.Words.{Tokens, token, sign, keyword}
use Rattle.dart_syntax.specs.Operators.{named}
use Rattle.dart_syntax.specs.Grammar.{Reading, none, more}
use Rattle.dart_expr.specs.declared.refusal.Refusal.{Refusal}
use Rattle.dart_expr.specs.Input.{Parser, Outcome, many_from, same, same_keyword, sees, sees_keyword, expect, kind, span, next}
use Rattle.dart_expr.specs.Model.{name}
use Rattle.dart_expr.proofs.Facts.{sees_it, after_it, after_not, after_seen, expect_it, seen, expect_ok, sees_keyword_it, after_keyword_it, after_keyword_not, seen_keyword, after_keyword_seen, same_ok, split, via, some_not_none, none_not_some}
use Rattle.dart_expr.proofs.Good.{Good}
use Rattle.dart_expr.proofs.Many.{GoodStep, many_complete, many_via, many_after, many_shorter}
use Rattle.dart_expr.proofs.Terms.{name_via}
use Rattle.dart_parser.proofs.Stmts.{GoodStmt}
use Rattle.dart_syntax.specs.Derivation as gr
use Rattle.dart_syntax.specs.Derivation.{same_text, marks_entry, any, Meta, Parent, CommaName, Interfaces, Marked, MemberText, ClassText, Ret, is_ret}
use Rattle.dart_parser.specs.Tops.{mark_by, pragma, meta_by, meta, metas, parent, comma_name, more_names, interfaces, marked_member, member_item, members, class}
use Rattle.dart_syntax.proofs.Texts.{same_is}
use Rattle.dart_parser.proofs.Members.{member_complete, member_sound}
use Rattle.dart_parser.proofs.Parts.{value_shorter, params_shorter, param_shorter, some_body_shorter, rest_shorter}

abbrev Some_is : {A : Type 0} → (A → Type 0) → Option A → Type 0
Some_is P None = Unit {0}
Some_is P (Some x) = P x

no_bool : {y : Bool × Tokens} {r : Refusal} → ◌≡◌ {A = Outcome Bool} (Err r) (Ok y) → ⊥
no_bool e = cc

no_meta : {y : Option Bool × Tokens} {r : Refusal} → ◌≡◌ {A = Outcome (Option Bool)} (Err r) (Ok y) → ⊥
no_meta e = cc

-- ---- metas

meta_complete : {ts rest : Tokens} {b : Bool} → Meta ts b rest → meta ts ≡ Ok (Some b, rest)
unfolding meta pragma
meta_complete (gr.Meta.override {a} {b} {rest}) = rw (sees_it s.At a (token (tk.Name (codes "override")) b ∷ rest), after_it s.At a (token (tk.Name (codes "override")) b ∷ rest))
meta_complete (gr.Meta.pragma {v} {a} {b} {c} {d} {m} {rest}) =
    let us = sign s.ParenOpen c ∷ token (tk.Str v) d ∷ sign s.ParenClose m ∷ rest in
    rw (sees_it s.At a (token (tk.Name (codes "pragma")) b ∷ us), after_it s.At a (token (tk.Name (codes "pragma")) b ∷ us), expect_it s.ParenOpen c (token (tk.Str v) d ∷ sign s.ParenClose m ∷ rest), expect_it s.ParenClose m rest)

record ReadsMark (ts : Tokens) (b : Bool) (rest : Tokens) : Type 0 where
  v : List ℕ
  d : Span
  is : ts ≡ token (tk.Str v) d ∷ rest
  marks : b ≡ marks_entry v

mark_at : (c : TokenKind) (d : Span) (ts : Tokens) {b : Bool} {rest : Tokens} → mark_by (Some c) (token c d ∷ ts) ≡ Ok (b, rest) → ReadsMark (token c d ∷ ts) b rest
mark_at (tk.Str v) d ts e = same_ok (λ b rest. ReadsMark (token (tk.Str v) d ∷ ts) b rest) e (record { v = v; d = d; is = refl; marks = refl })
mark_at _ d ts e = absurd (no_bool e)

mark_sound : (ts : Tokens) {b : Bool} {rest : Tokens} → mark_by (kind ts) ts ≡ Ok (b, rest) → ReadsMark ts b rest
mark_sound [] e = absurd (no_bool e)
mark_sound (t ∷ ts) e = mark_at t.kind t.span ts e

mark_via : {G : Type 0} (ts : Tokens) {b : Bool} {rest : Tokens} → mark_by (kind ts) ts ≡ Ok (b, rest) → ((v : List ℕ) (d : Span) → ts ≡ token (tk.Str v) d ∷ rest → b ≡ marks_entry v → G) → G
mark_via ts e go = let f = mark_sound ts e in go f.v f.d f.is f.marks

pragma_sound : (a b : Span) (ts : Tokens) {x : Bool} {rest : Tokens} → pragma ts ≡ Ok (Some x, rest) → Meta (sign s.At a ∷ token (tk.Name (codes "pragma")) b ∷ ts) x rest
unfolding pragma
pragma_sound a b ts e = via (expect s.ParenOpen ts) _ e (λ c us e1 e2. via (mark_by (kind us) us) _ e2 (λ x vs e3 e4. via (expect s.ParenClose vs) _ e4 (λ m ws e5 e6. mark_via us e3 (λ v d is marks.
    rw (expect_ok s.ParenOpen ts e1, is, expect_ok s.ParenClose vs e5)
    (same_ok (λ o rest. Some_is (λ x. Meta (sign s.At a ∷ token (tk.Name (codes "pragma")) b ∷ sign s.ParenOpen c ∷ token (tk.Str v) d ∷ sign s.ParenClose m ∷ ws) x rest) o) e6 (rw marks gr.Meta.pragma))))))

pragma_some : (ts : Tokens) {rest : Tokens} → pragma ts ≡ Ok (None, rest) → ⊥
unfolding pragma
pragma_some ts e = via (expect s.ParenOpen ts) _ e (λ c us e1 e2. via (mark_by (kind us) us) _ e2 (λ x vs e3 e4. via (expect s.ParenClose vs) _ e4 (λ m ws e5 e6. some_not_none e6)))

meta_at : (a : Span) (c : TokenKind) (b : Span) (ts : Tokens) {x : Bool} {rest : Tokens} → meta_by (Some c) (token c b ∷ ts) ≡ Ok (Some x, rest) → Meta (sign s.At a ∷ token c b ∷ ts) x rest
meta_at a (tk.Name n) b ts e = split (same_text n (codes "override"))
    (λ h. rw (same_is n (codes "override") h) (same_ok (λ o rest. Some_is (λ x. Meta (sign s.At a ∷ token (tk.Name (codes "override")) b ∷ ts) x rest) o) (rw h at e) gr.Meta.override))
    (λ h. split (same_text n (codes "pragma"))
    (λ h2. rw (same_is n (codes "pragma") h2) (pragma_sound a b ts (rw (h, h2) at e)))
    (λ h2. absurd (no_meta (rw (h, h2) at e))))
meta_at a _ b ts e = absurd (no_meta e)

meta_word : (a : Span) (ts : Tokens) {x : Bool} {rest : Tokens} → meta_by (kind ts) ts ≡ Ok (Some x, rest) → Meta (sign s.At a ∷ ts) x rest
meta_word a [] e = absurd (no_meta e)
meta_word a (t ∷ ts) e = meta_at a t.kind t.span ts e

meta_sound : (ts : Tokens) {x : Bool} {rest : Tokens} → meta ts ≡ Ok (Some x, rest) → Meta ts x rest
unfolding meta
meta_sound ts e = split (sees s.At ts)
    (λ h. rw (seen s.At ts h) (meta_word (span ts) (next ts) (rw (h, after_seen s.At ts h) at e)))
    (λ h. absurd (none_not_some (rw (h, after_not s.At ts h) at e)))

word_some : (c : TokenKind) (ts : Tokens) {rest : Tokens} → meta_by (Some c) ts ≡ Ok (None, rest) → ⊥
word_some (tk.Name n) ts e = split (same_text n (codes "override"))
    (λ h. some_not_none (rw h at e))
    (λ h. split (same_text n (codes "pragma"))
    (λ h2. pragma_some (next ts) (rw (h, h2) at e))
    (λ h2. no_meta (rw (h, h2) at e)))
word_some _ ts e = no_meta e

some_word : (ts : Tokens) {rest : Tokens} → meta_by (kind ts) ts ≡ Ok (None, rest) → ⊥
some_word [] e = no_meta e
some_word (t ∷ ts) e = word_some t.kind (t ∷ ts) e

meta_none : (ts : Tokens) {rest : Tokens} → meta ts ≡ Ok (None, rest) → rest ≡ ts
unfolding meta
meta_none ts e = split (sees s.At ts)
    (λ h. absurd (some_word (next ts) (rw (h, after_seen s.At ts h) at e)))
    (λ h. same_ok (λ (o : Option Bool) rest. rest ≡ ts) (rw (h, after_not s.At ts h) at e) refl)

meta_shorter : {ts rest : Tokens} {b : Bool} → Meta ts b rest → length rest < length ts
meta_shorter gr.Meta.override = omega arith
meta_shorter gr.Meta.pragma = omega arith

pub metas_step : GoodStep Meta meta (λ ts. sees s.At ts ≡ false) (λ ts. Unit {0})
unfolding meta
metas_step = record {
  complete = λ d f. meta_complete d;
  stops = λ ts h. rw (h, after_not s.At ts h);
  sound = meta_sound;
  sound_none = meta_none;
  shorter = meta_shorter;
  begins = λ d. tt;
  lower = λ ts h. tt;
}

-- ---- parents and interfaces

parent_complete : {ts rest : Tokens} {p : Option Name} → Parent ts p rest → sees_keyword k.Extends rest ≡ false → parent ts ≡ Ok (p, rest)
unfolding parent name
parent_complete (gr.Parent.none {ts}) h = rw (h, after_keyword_not k.Extends ts h)
parent_complete (gr.Parent.some {n} {a} {b} {rest}) h = rw (sees_keyword_it k.Extends a (token (tk.Name n) b ∷ rest), after_keyword_it k.Extends a (token (tk.Name n) b ∷ rest))

parent_sound : (ts : Tokens) {p : Option Name} {rest : Tokens} → parent ts ≡ Ok (p, rest) → Parent ts p rest
unfolding parent
parent_sound ts e = split (sees_keyword k.Extends ts)
    (λ h. via (name (next ts)) _ (rw (h, after_keyword_seen k.Extends ts h) at e) (λ m us e1 e2. name_via (next ts) e1 (λ n b is same_m.
    rw (seen_keyword k.Extends ts h, is) (same_ok (λ p rest. Parent (keyword k.Extends (span ts) ∷ token (tk.Name n) b ∷ us) p rest) e2 (rw same_m gr.Parent.some)))))
    (λ h. same_ok (λ p rest. Parent ts p rest) (rw (h, after_keyword_not k.Extends ts h) at e) gr.Parent.none)

comma_complete : {ts rest : Tokens} {n : Name} → CommaName ts n rest → comma_name ts ≡ Ok (Some n, rest)
unfolding comma_name name
comma_complete (gr.CommaName.name {n} {a} {b} {rest}) = rw (sees_it s.Comma a (token (tk.Name n) b ∷ rest), after_it s.Comma a (token (tk.Name n) b ∷ rest))

comma_sound : (ts : Tokens) {x : Name} {rest : Tokens} → comma_name ts ≡ Ok (Some x, rest) → CommaName ts x rest
unfolding comma_name
comma_sound ts e = split (sees s.Comma ts)
    (λ h. via (name (next ts)) _ (rw (h, after_seen s.Comma ts h) at e) (λ m us e1 e2. name_via (next ts) e1 (λ n b is same_m.
    rw (seen s.Comma ts h, is) (same_ok (λ o rest. Some_is (λ x. CommaName (sign s.Comma (span ts) ∷ token (tk.Name n) b ∷ us) x rest) o) e2 (rw same_m gr.CommaName.name)))))
    (λ h. absurd (none_not_some (rw (h, after_not s.Comma ts h) at e)))

comma_none : (ts : Tokens) {rest : Tokens} → comma_name ts ≡ Ok (None, rest) → rest ≡ ts
unfolding comma_name
comma_none ts e = split (sees s.Comma ts)
    (λ h. via (name (next ts)) _ (rw (h, after_seen s.Comma ts h) at e) (λ m us e1 e2. absurd (some_not_none e2)))
    (λ h. same_ok (λ (o : Option Name) rest. rest ≡ ts) (rw (h, after_not s.Comma ts h) at e) refl)

comma_shorter : {ts rest : Tokens} {n : Name} → CommaName ts n rest → length rest < length ts
comma_shorter gr.CommaName.name = omega arith

commas_step : GoodStep CommaName comma_name (λ ts. sees s.Comma ts ≡ false) (λ ts. Unit {0})
unfolding comma_name
commas_step = record {
  complete = λ d f. comma_complete d;
  stops = λ ts h. rw (h, after_not s.Comma ts h);
  sound = comma_sound;
  sound_none = comma_none;
  shorter = comma_shorter;
  begins = λ d. tt;
  lower = λ ts h. tt;
}

interfaces_complete : {ts rest : Tokens} {xs : List Name} → Interfaces ts xs rest → (sees_keyword k.Implements rest ≡ false) × (sees s.Comma rest ≡ false) → interfaces ts ≡ Ok (xs, rest)
unfolding interfaces more_names name
interfaces_complete (gr.Interfaces.none {ts}) h = rw (h.0, after_keyword_not k.Implements ts h.0)
interfaces_complete (gr.Interfaces.some {n} {a} {b} {xs} {ts} {rest} ds) h =
    rw (
      sees_keyword_it k.Implements a (token (tk.Name n) b ∷ ts),
      after_keyword_it k.Implements a (token (tk.Name n) b ∷ ts),
      many_complete CommaName comma_name _ _ commas_step (length ts) (named n b ∷ []) ds h.1 (omega (arith, many_shorter CommaName comma_name _ _ commas_step ds)),
    )

interfaces_sound : (ts : Tokens) {xs : List Name} {rest : Tokens} → interfaces ts ≡ Ok (xs, rest) → Interfaces ts xs rest
unfolding interfaces more_names
interfaces_sound ts e = split (sees_keyword k.Implements ts)
    (λ h. via (name (next ts)) _ (rw (h, after_keyword_seen k.Implements ts h) at e) (λ m us e1 e2. name_via (next ts) e1 (λ n b is same_m.
    many_after CommaName comma_name _ _ commas_step (length us) (m ∷ []) us e2 (λ zs same_xs reads.
    rw (seen_keyword k.Implements ts h, is, same_xs, same_m) (gr.Interfaces.some reads)))))
    (λ h. same_ok (λ xs rest. Interfaces ts xs rest) (rw (h, after_keyword_not k.Implements ts h) at e) gr.Interfaces.none)

interfaces_shorter : {ts rest : Tokens} {xs : List Name} → Interfaces ts xs rest → length rest ≤ length ts
interfaces_shorter gr.Interfaces.none = omega arith
interfaces_shorter (gr.Interfaces.some ds) = omega (arith, many_shorter CommaName comma_name _ _ commas_step ds)

parent_shorter : {ts rest : Tokens} {p : Option Name} → Parent ts p rest → length rest ≤ length ts
parent_shorter gr.Parent.none = omega arith
parent_shorter gr.Parent.some = omega arith

-- neither a meta nor the end of a class
abbrev Plain : Tokens → Type 0
Plain ts = (sees s.At ts ≡ false) × (sees s.BraceClose ts ≡ false)

ret_plain : {ts us : Tokens} {r : Bool} → Ret ts r us → Plain us → Plain ts
unfolding sees
ret_plain gr.Ret.none h = h
ret_plain (gr.Ret.some is) h = (refl, refl)

brace_no_parent : (b : Span) (ts : Tokens) → (sees_keyword k.Extends (sign s.BraceOpen b ∷ ts) ≡ false) × (sees_keyword k.Implements (sign s.BraceOpen b ∷ ts) ≡ false) × (sees s.Comma (sign s.BraceOpen b ∷ ts) ≡ false)
unfolding sees same sees_keyword
brace_no_parent b ts = (refl, refl, refl)

names_no_parent : {ts vs : Tokens} {b : Span} {xs : List Name} → Interfaces ts xs (sign s.BraceOpen b ∷ vs) → sees_keyword k.Extends ts ≡ false
unfolding sees_keyword same_keyword
names_no_parent gr.Interfaces.none = refl
names_no_parent (gr.Interfaces.some ds) = refl

module _ (I : Reading Sta) (W : Reading Exp) (i : Parser Sta) (w : Parser Exp) (good_inner : GoodStmt I i) (good : Good W w 1) where
  member_plain : {c : List ℕ} {ts rest : Tokens} {x : Member} → MemberText I W c ts x rest → Plain ts
  unfolding sees same
  member_plain (gr.MemberText.field is d) = (refl, refl)
  member_plain (gr.MemberText.method r h d1 d2) = ret_plain r (refl, refl)
  member_plain (gr.MemberText.getter r d) = ret_plain r (refl, refl)
  member_plain (gr.MemberText.setter r d1 d2) = ret_plain r (refl, refl)
  member_plain (gr.MemberText.operator r d1 d2 h d3) = ret_plain r (refl, refl)
  member_plain (gr.MemberText.constructor h d1 d2) = (refl, refl)

  marked_plain : {c : List ℕ} {ts rest : Tokens} {x : Member} → Marked (MemberText I W c) ts x rest → sees s.BraceClose ts ≡ false
  unfolding sees same
  marked_plain (gr.Marked.marked none d) = (member_plain d).1
  marked_plain (gr.Marked.marked (more gr.Meta.override ds) d) = refl
  marked_plain (gr.Marked.marked (more gr.Meta.pragma ds) d) = refl

  marked_complete : {c : List ℕ} {ts rest : Tokens} {x : Member} → Marked (MemberText I W c) ts x rest → marked_member i w c ts ≡ Ok (x, rest)
  unfolding marked_member metas
  marked_complete {c} (gr.Marked.marked {ts = ts} ds d) =
      rw (many_complete Meta meta _ _ metas_step (length ts) [] ds (member_plain d).0 (omega (arith, many_shorter Meta meta _ _ metas_step ds)), member_complete I W i w good_inner good c d)

  marked_sound : (c : List ℕ) (ts : Tokens) {x : Member} {rest : Tokens} → marked_member i w c ts ≡ Ok (x, rest) → Marked (MemberText I W c) ts x rest
  unfolding marked_member metas
  marked_sound c ts e = via (many_from meta (length ts) [] ts) _ e (λ bs us e1 e2. many_via Meta meta _ _ metas_step (length ts) ts e1 (λ zs is reads few.
      gr.Marked.marked reads (member_sound I W i w good_inner good c us e2)))

  ret_shorter : {ts us : Tokens} {r : Bool} → Ret ts r us → length us ≤ length ts
  ret_shorter gr.Ret.none = omega arith
  ret_shorter (gr.Ret.some is) = omega arith

  operator_shorter : {ts rest : Tokens} {o : _} {a : Span} → gr.OperatorText ts o a rest → length rest < length ts
  operator_shorter (gr.OperatorText.one is) = omega arith
  operator_shorter gr.OperatorText.get = omega arith
  operator_shorter gr.OperatorText.set = omega arith

  member_shorter : {c : List ℕ} {ts rest : Tokens} {x : Member} → MemberText I W c ts x rest → length rest < length ts
  member_shorter (gr.MemberText.field is d) = omega (arith, value_shorter d)
  member_shorter (gr.MemberText.method r h d1 d2) = omega (arith, ret_shorter r, params_shorter false d1, some_body_shorter I W i w good_inner good d2)
  member_shorter (gr.MemberText.getter r d) = omega (arith, ret_shorter r, some_body_shorter I W i w good_inner good d)
  member_shorter (gr.MemberText.setter r d1 d2) = omega (arith, ret_shorter r, param_shorter d1, some_body_shorter I W i w good_inner good d2)
  member_shorter (gr.MemberText.operator r d1 d2 h d3) = omega (arith, ret_shorter r, operator_shorter d1, params_shorter false d2, some_body_shorter I W i w good_inner good d3)
  member_shorter (gr.MemberText.constructor h d1 d2) = omega (arith, params_shorter true d1, rest_shorter I W i w good_inner good d2)

  marked_shorter : {c : List ℕ} {ts rest : Tokens} {x : Member} → Marked (MemberText I W c) ts x rest → length rest < length ts
  marked_shorter (gr.Marked.marked ds d) = omega (arith, member_shorter d, many_shorter Meta meta _ _ metas_step ds)

  item_sound : (c : List ℕ) (ts : Tokens) {x : Member} {rest : Tokens} → member_item i w c ts ≡ Ok (Some x, rest) → Marked (MemberText I W c) ts x rest
  unfolding member_item
  item_sound c ts e = split (sees s.BraceClose ts)
      (λ h. absurd (none_not_some (rw h at e)))
      (λ h. via (marked_member i w c ts) _ (rw h at e) (λ y us e1 e2. same_ok (λ o rest. Some_is (λ x. Marked (MemberText I W c) ts x rest) o) e2 (marked_sound c ts e1)))

  item_none : (c : List ℕ) (ts : Tokens) {rest : Tokens} → member_item i w c ts ≡ Ok (None, rest) → rest ≡ ts
  unfolding member_item
  item_none c ts e = split (sees s.BraceClose ts)
      (λ h. same_ok (λ (o : Option Member) rest. rest ≡ ts) (rw h at e) refl)
      (λ h. via (marked_member i w c ts) _ (rw h at e) (λ y us e1 e2. absurd (some_not_none e2)))

  members_step : (c : List ℕ) → GoodStep (Marked (MemberText I W c)) (member_item i w c) (λ ts. sees s.BraceClose ts ≡ true) (λ ts. Unit {0})
  unfolding member_item
  members_step c = record {
    complete = λ d f. rw (marked_plain d, marked_complete d);
    stops = λ ts h. rw h;
    sound = item_sound c;
    sound_none = item_none c;
    shorter = marked_shorter;
    begins = λ d. tt;
    lower = λ ts h. tt;
  }

  pub class_complete : (a : Bool) {ts rest : Tokens} {x : tree.ClassDecl} → ClassText I W a ts x rest → class i w a ts ≡ Ok (x, rest)
  unfolding class members name
  class_complete a (gr.ClassText.class {n} {b = b} {c = c} {us = us} {vs = vs} {rest = rest} d1 d2 ds) =
      let plain = brace_no_parent b vs in
      rw (
        parent_complete d1 (names_no_parent d2),
        interfaces_complete d2 (plain.1, plain.2),
        expect_it s.BraceOpen b vs,
        many_complete (Marked (MemberText I W n)) (member_item i w n) _ _ (members_step n) (length vs) [] ds (sees_it s.BraceClose c rest) (omega (arith, many_shorter (Marked (MemberText I W n)) (member_item i w n) _ _ (members_step n) ds)),
        expect_it s.BraceClose c rest,
      )

  pub class_sound : (a : Bool) (ts : Tokens) {x : tree.ClassDecl} {rest : Tokens} → class i w a ts ≡ Ok (x, rest) → ClassText I W a ts x rest
  unfolding class members
  class_sound a ts e = via (name ts) _ e (λ m us e1 e2. via (parent us) _ e2 (λ p vs e3 e4. via (interfaces vs) _ e4 (λ is ws e5 e6. via (expect s.BraceOpen ws) _ e6 (λ b xs e7 e8. name_via ts e1 (λ n d at same_m.
      via (many_from (member_item i w m.text) (length xs) [] xs) _ e8 (λ ms ys e9 e10. via (expect s.BraceClose ys) _ e10 (λ c zs e11 e12.
      many_via (Marked (MemberText I W n)) (member_item i w n) _ _ (members_step n) (length xs) xs (rw same_m at e9) (λ all same_ms reads few.
      rw at (same_ok (λ x rest. ClassText I W a (token (tk.Name n) d ∷ us) x rest) e12
      (rw (same_m, same_ms) (gr.ClassText.class (parent_sound us e3) (rw (expect_ok s.BraceOpen ws e7) at (interfaces_sound vs e5)) (rw (expect_ok s.BraceClose ys e11) at reads))))))))))))

  pub class_shorter : (a : Bool) {ts rest : Tokens} {x : tree.ClassDecl} → ClassText I W a ts x rest → length rest < length ts
  class_shorter a (gr.ClassText.class {n} d1 d2 ds) = omega (arith, parent_shorter d1, interfaces_shorter d2, many_shorter (Marked (MemberText I W n)) (member_item i w n) _ _ (members_step n) ds)
