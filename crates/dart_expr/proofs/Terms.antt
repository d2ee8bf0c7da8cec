-- Primary expressions and their selectors: what the grammar has is read.
use Rattle.std.proofs.Common.{◌≡◌, ℕ, zero, suc, ◌<◌, ◌≤◌, Bool, true, false, List, [], ◌∷◌, ◌++◌, length, Option, Some, None, Ok, refl, ◌∙◌, arith, append_assoc}
use Rattle.dart_syntax.specs.declared.token.Span.{Span}
use Rattle.dart_syntax.specs.declared.token.Sign.TheVariants as s
use Rattle.dart_syntax.specs.declared.token.TokenKind.{TokenKind}
use Rattle.dart_syntax.specs.declared.token.TokenKind.TheVariants as tk
use Rattle.dart_syntax.specs.declared.token.Keyword.TheVariants as k
use Rattle.dart_syntax.specs.declared.tree.Piece.{Piece}
use Rattle.dart_syntax.specs.declared.tree.Name.{Name}
use Rattle.dart_syntax.specs.Syntax as tree
use Rattle.dart_syntax.specs.Syntax.{Exp, Selector}
use Rattle.dart_syntax.specs.Words.{Tokens, token, sign, keyword}
use Rattle.dart_syntax.specs.Operators.{named}
use Rattle.dart_syntax.specs.Grammar as gr
use Rattle.dart_syntax.specs.Grammar.{Reading, Args, Pieces, Primary, Selects, Postfix, Many, none}
use Rattle.dart_expr.specs.Input.{Parser, many_from, same, sees, after, expect, kind, span, next}
use Rattle.dart_expr.specs.Model.{name_by, with_selectors, args, piece_by, piece, pieces_from, pieces, named_term, super_term, joined, parenthesized, list, primary_by, primary, name, member, index, selector, selector_by, selectors, postfix}
use Rattle.dart_expr.proofs.Facts.{after_not, after_seen, expect_it, seen, expect_ok, same_ok, split, via, some_not_none, none_not_some}
use Rattle.dart_expr.proofs.Good.{Good, grip, kind_grip, grip_not, terms}
use Rattle.dart_expr.proofs.Lists.{args_complete, args_shorter, args_sound}
use Rattle.dart_expr.proofs.Many.{GoodStep, many_complete, many_sound, many_shorter, many_grip}

pub paren_no_comma : (at : Span) (ts : Tokens) → sees s.ParenClose (sign s.Comma at ∷ ts) ≡ false
unfolding sees same
paren_no_comma at ts = refl

bracket_no_comma : (at : Span) (ts : Tokens) → sees s.BracketClose (sign s.Comma at ∷ ts) ≡ false
unfolding sees same
bracket_no_comma at ts = refl

name_at : (c : TokenKind) (at : Span) (ts : Tokens) {m : Name} {rest : Tokens} → name_by (Some c) (token c at ∷ ts) ≡ Ok (m, rest) → (n : List ℕ) × (b : Span) × (token c at ∷ ts ≡ token (tk.Name n) b ∷ rest) × (m ≡ named n b)
name_at (tk.Name n) at ts e = same_ok (λ m rest. (k : List ℕ) × (b : Span) × (token (tk.Name n) at ∷ ts ≡ token (tk.Name k) b ∷ rest) × (m ≡ named k b)) e (n, at, refl, refl)
name_at _ at ts e = cc

pub name_ok : (ts : Tokens) {m : Name} {rest : Tokens} → name ts ≡ Ok (m, rest) → (n : List ℕ) × (b : Span) × (ts ≡ token (tk.Name n) b ∷ rest) × (m ≡ named n b)
unfolding name
name_ok [] e = cc
name_ok (t ∷ ts) e = name_at t.kind t.span ts e

pub name_via : {G : Type 0} (ts : Tokens) {m : Name} {rest : Tokens} → name ts ≡ Ok (m, rest) → ((n : List ℕ) (b : Span) → ts ≡ token (tk.Name n) b ∷ rest → m ≡ named n b → G) → G
name_via ts e go = let (n, b, is, same) = name_ok ts e in go n b is same

abbrev Option_is : {X : Type 0} → Option X → (X → Type 0) → Type 0
Option_is None P = Unit {0}
Option_is (Some x) P = P x

module _ (W : Reading Exp) (w : Parser Exp) (good : Good W w 1) where
  pub paren_args : {ts rest : Tokens} {xs : List Exp} → Args W s.ParenClose ts xs rest → args w s.ParenClose ts ≡ Ok (xs, rest)
  paren_args d = args_complete W w good s.ParenClose refl refl paren_no_comma d

  pub bracket_args : {ts rest : Tokens} {xs : List Exp} → Args W s.BracketClose ts xs rest → args w s.BracketClose ts ≡ Ok (xs, rest)
  bracket_args d = args_complete W w good s.BracketClose refl refl bracket_no_comma d

  pieces_shorter : {ts rest : Tokens} {xs : List (Piece Exp)} → Pieces W ts xs rest → length rest < length ts
  pieces_shorter (gr.Pieces.close d) = omega (arith, good.shorter d)
  pieces_shorter (gr.Pieces.mid d ds) = omega (arith, good.shorter d, pieces_shorter ds)

  pieces_complete : (n : ℕ) (found : List (Piece Exp)) {ts rest : Tokens} {xs : List (Piece Exp)} → Pieces W ts xs rest → length ts ≤ n → pieces_from w n found ts ≡ Ok (found ++ xs, rest)
  unfolding pieces_from piece grip
  pieces_complete zero found d h = absurd (omega (arith, pieces_shorter d))
  pieces_complete (suc n) found (gr.Pieces.close d) h = rw (good.complete d (omega arith))
  pieces_complete (suc n) found (gr.Pieces.mid {u} {at} {x} {xs} d ds) h =
      rw (good.complete d (omega arith), pieces_complete n (found ++ tree.a_piece x u at ∷ []) ds (omega (arith, good.shorter d)), append_assoc found (tree.a_piece x u at ∷ []) xs)

  pub primary_complete : {ts rest : Tokens} {x : Exp} → Primary W ts x rest → grip rest < 15 → primary w ts ≡ Ok (x, rest)
  unfolding primary named_term super_term name joined parenthesized list pieces grip sees same after
  primary_complete gr.Primary.null h = refl
  primary_complete gr.Primary.yes h = refl
  primary_complete gr.Primary.no h = refl
  primary_complete gr.Primary.this h = refl
  primary_complete gr.Primary.int h = refl
  primary_complete gr.Primary.str h = refl
  primary_complete (gr.Primary.joined {ts = ts} d) h = rw (pieces_complete (length ts) [] d (omega arith))
  primary_complete (gr.Primary.name {rest = rest}) h = let other : sees s.ParenOpen rest ≡ false = grip_not s.ParenOpen rest h in rw other
  primary_complete (gr.Primary.call d) h = rw (paren_args d)
  primary_complete (gr.Primary.super_get {n = n} {b = b} {c = c} {rest = rest}) h =
      let other : sees s.ParenOpen rest ≡ false = grip_not s.ParenOpen rest h in rw (expect_it s.Dot b (token (tk.Name n) c ∷ rest), other)
  primary_complete (gr.Primary.super_call {n = n} {b = b} {c = c} {d = p} {ts = ts} d) h = rw (expect_it s.Dot b (token (tk.Name n) c ∷ sign s.ParenOpen p ∷ ts), paren_args d)
  primary_complete (gr.Primary.paren {b = b} {rest = rest} d) h = rw (good.complete d (omega arith), expect_it s.ParenClose b rest)
  primary_complete (gr.Primary.list d) h = rw (bracket_args d)

  pub primary_shorter : {ts rest : Tokens} {x : Exp} → Primary W ts x rest → length rest < length ts
  primary_shorter (gr.Primary.joined d) = omega (arith, pieces_shorter d)
  primary_shorter (gr.Primary.call d) = omega (arith, args_shorter W w good s.ParenClose refl refl paren_no_comma d)
  primary_shorter (gr.Primary.super_call d) = omega (arith, args_shorter W w good s.ParenClose refl refl paren_no_comma d)
  primary_shorter (gr.Primary.paren d) = omega (arith, good.shorter d)
  primary_shorter (gr.Primary.list d) = omega (arith, args_shorter W w good s.BracketClose refl refl bracket_no_comma d)
  primary_shorter _ = omega arith

  pub primary_terms : {ts rest : Tokens} {x : Exp} → Primary W ts x rest → terms ts ≡ true
  unfolding terms
  primary_terms gr.Primary.null = refl
  primary_terms _ = refl

  selects_complete : {ts rest : Tokens} {x : Selector} → Selects W ts x rest → grip rest < 15 → selector w ts ≡ Ok (Some x, rest)
  unfolding selector member index name grip sees same after
  selects_complete (gr.Selects.member {rest = rest}) h = let other : sees s.ParenOpen rest ≡ false = grip_not s.ParenOpen rest h in rw other
  selects_complete (gr.Selects.invoke d) h = rw (paren_args d)
  selects_complete (gr.Selects.index {b = b} {rest = rest} d) h = rw (good.complete d (omega arith), expect_it s.BracketClose b rest)

  no_selector : (c : TokenKind) (ts : Tokens) → kind_grip c < 14 → selector_by w (Some c) ts ≡ Ok (None, ts)
  no_selector (tk.Sign s.Dot) ts h = absurd (omega arith)
  no_selector (tk.Sign s.BracketOpen) ts h = absurd (omega arith)
  no_selector _ ts h = refl

  no_selects : (ts : Tokens) → grip ts < 14 → selector w ts ≡ Ok (None, ts)
  unfolding selector grip
  no_selects [] h = refl
  no_selects (t ∷ ts) h = no_selector t.kind (t ∷ ts) h

  selects_shorter : {ts rest : Tokens} {x : Selector} → Selects W ts x rest → length rest < length ts
  selects_shorter gr.Selects.member = omega arith
  selects_shorter (gr.Selects.invoke d) = omega (arith, args_shorter W w good s.ParenClose refl refl paren_no_comma d)
  selects_shorter (gr.Selects.index d) = omega (arith, good.shorter d)

  selects_grip : {ts rest : Tokens} {x : Selector} → Selects W ts x rest → grip ts < 15
  unfolding grip
  selects_grip gr.Selects.member = omega arith
  selects_grip _ = omega arith

  -- ---- what is read is in the grammar

  abbrev piece_kind : Bool → List ℕ → TokenKind
  piece_kind true u = tk.StrClose u
  piece_kind false u = tk.StrMid u

  record ReadsPiece (ts : Tokens) (p : Piece Exp × Bool) (rest : Tokens) : Type 0 where
    x : Exp
    u : List ℕ
    at : Span
    is : p.0 ≡ tree.a_piece x u at
    reads : W ts x (token (piece_kind p.1 u) at ∷ rest)

  piece_at : (k : TokenKind) (at : Span) (us : Tokens) (x : Exp) (ts : Tokens) {p : Piece Exp × Bool} {rest : Tokens} → W ts x (token k at ∷ us)
      → piece_by w x (Some k) (token k at ∷ us) ≡ Ok (p, rest) → ReadsPiece ts p rest
  piece_at (tk.StrMid u) at us x ts d e = same_ok (λ p rest. ReadsPiece ts p rest) e (record { x = x; u = u; at = at; is = refl; reads = d })
  piece_at (tk.StrClose u) at us x ts d e = same_ok (λ p rest. ReadsPiece ts p rest) e (record { x = x; u = u; at = at; is = refl; reads = d })
  piece_at _ at us x ts d e = cc

  piece_sound_at : (us : Tokens) (x : Exp) (ts : Tokens) {p : Piece Exp × Bool} {rest : Tokens} → W ts x us → piece_by w x (kind us) us ≡ Ok (p, rest) → ReadsPiece ts p rest
  piece_sound_at [] x ts d e = cc
  piece_sound_at (t ∷ us) x ts d e = piece_at t.kind t.span us x ts d e

  piece_sound : (ts : Tokens) {p : Piece Exp × Bool} {rest : Tokens} → piece w ts ≡ Ok (p, rest) → ReadsPiece ts p rest
  unfolding piece
  piece_sound ts e = via (w ts) _ e (λ x us e1 e2. piece_sound_at us x ts (good.sound ts e1) e2)

  record FindsPieces (found : List (Piece Exp)) (ts : Tokens) (ys : List (Piece Exp)) (rest : Tokens) : Type 0 where
    xs : List (Piece Exp)
    is : ys ≡ found ++ xs
    reads : Pieces W ts xs rest

  pieces_step : (found : List (Piece Exp)) (ts : Tokens) (p : Piece Exp) (b : Bool) (mid : Tokens) → ReadsPiece ts (p, b) mid → (b ≡ true → FindsPieces found ts (found ++ p ∷ []) mid)
  pieces_step found ts p true mid r e = record { xs = p ∷ []; is = refl; reads = rw r.is (gr.Pieces.close r.reads) }
  pieces_step found ts p false mid r e = cc

  pieces_more : (found : List (Piece Exp)) (ts : Tokens) (p : Piece Exp) (b : Bool) (mid : Tokens) {ys : List (Piece Exp)} {rest : Tokens} → ReadsPiece ts (p, b) mid → b ≡ false
      → FindsPieces (found ++ p ∷ []) mid ys rest → FindsPieces found ts ys rest
  pieces_more found ts p true mid r e f = cc
  pieces_more found ts p false mid r e f =
      record { xs = p ∷ f.xs; is = f.is ∙ append_assoc found (p ∷ []) f.xs; reads = rw r.is (gr.Pieces.mid r.reads f.reads) }

  pieces_sound : (n : ℕ) (found : List (Piece Exp)) (ts : Tokens) {ys : List (Piece Exp)} {rest : Tokens} → pieces_from w n found ts ≡ Ok (ys, rest) → FindsPieces found ts ys rest
  unfolding pieces_from
  pieces_sound zero found ts e = cc
  pieces_sound (suc n) found ts e = via (piece w ts) _ e (λ p mid e1 e2. split p.1
      (λ h. same_ok (λ ys rest. FindsPieces found ts ys rest) (rw h at e2) (pieces_step found ts p.0 p.1 mid (piece_sound ts e1) h))
      (λ h. pieces_more found ts p.0 p.1 mid (piece_sound ts e1) h (pieces_sound n (found ++ p.0 ∷ []) mid (rw h at e2))))

  pub paren_args_sound : (ts : Tokens) {xs : List Exp} {rest : Tokens} → args w s.ParenClose ts ≡ Ok (xs, rest) → Args W s.ParenClose ts xs rest
  paren_args_sound ts e = args_sound W w good s.ParenClose refl refl paren_no_comma ts e

  bracket_args_sound : (ts : Tokens) {xs : List Exp} {rest : Tokens} → args w s.BracketClose ts ≡ Ok (xs, rest) → Args W s.BracketClose ts xs rest
  bracket_args_sound ts e = args_sound W w good s.BracketClose refl refl bracket_no_comma ts e

  super_sound : (at : Span) (ts : Tokens) {x : Exp} {rest : Tokens} → super_term w (keyword k.Super at ∷ ts) ≡ Ok (x, rest) → Primary W (keyword k.Super at ∷ ts) x rest
  unfolding super_term
  super_sound at ts e = via (expect s.Dot ts) _ e (λ b us e1 e2. via (name us) _ e2 (λ m vs e3 e4. name_via us e3 (λ n c is same_m. split (sees s.ParenOpen vs)
      (λ h. via (args w s.ParenClose (next vs)) _ (rw (h, after_seen s.ParenOpen vs h) at e4) (λ xs ws e5 e6.
      rw (expect_ok s.Dot ts e1, is, seen s.ParenOpen vs h) (same_ok (λ x rest. Primary W (keyword k.Super at ∷ sign s.Dot b ∷ token (tk.Name n) c ∷ sign s.ParenOpen (span vs) ∷ next vs) x rest) e6
      (rw same_m (gr.Primary.super_call (paren_args_sound (next vs) e5))))))
      (λ h. rw (expect_ok s.Dot ts e1, is) (same_ok (λ x rest. Primary W (keyword k.Super at ∷ sign s.Dot b ∷ token (tk.Name n) c ∷ vs) x rest) (rw (h, after_not s.ParenOpen vs h) at e4)
      (rw same_m gr.Primary.super_get))))))

  primary_at : (c : TokenKind) (at : Span) (ts : Tokens) {x : Exp} {rest : Tokens} → primary_by w (Some c) (token c at ∷ ts) ≡ Ok (x, rest) → Primary W (token c at ∷ ts) x rest
  unfolding named_term joined parenthesized list pieces
  primary_at (tk.Keyword k.Null) at ts e = same_ok (λ x rest. Primary W (keyword k.Null at ∷ ts) x rest) e gr.Primary.null
  primary_at (tk.Keyword k.True) at ts e = same_ok (λ x rest. Primary W (keyword k.True at ∷ ts) x rest) e gr.Primary.yes
  primary_at (tk.Keyword k.False) at ts e = same_ok (λ x rest. Primary W (keyword k.False at ∷ ts) x rest) e gr.Primary.no
  primary_at (tk.Keyword k.This) at ts e = same_ok (λ x rest. Primary W (keyword k.This at ∷ ts) x rest) e gr.Primary.this
  primary_at (tk.Keyword k.Super) at ts e = super_sound at ts e
  primary_at (tk.Int n) at ts e = same_ok (λ x rest. Primary W (token (tk.Int n) at ∷ ts) x rest) e gr.Primary.int
  primary_at (tk.Str u) at ts e = same_ok (λ x rest. Primary W (token (tk.Str u) at ∷ ts) x rest) e gr.Primary.str
  primary_at (tk.StrOpen u) at ts e = via (pieces_from w (length ts) [] ts) _ e (λ xs mid e1 e2.
      let f = pieces_sound (length ts) [] ts e1 in
      same_ok (λ x rest. Primary W (token (tk.StrOpen u) at ∷ ts) x rest) e2 (rw f.is (gr.Primary.joined f.reads)))
  primary_at (tk.Name n) at ts e = split (sees s.ParenOpen ts)
      (λ h. via (args w s.ParenClose (next ts)) _ (rw (h, after_seen s.ParenOpen ts h) at e) (λ xs mid e1 e2.
      rw (seen s.ParenOpen ts h) (same_ok (λ x rest. Primary W (token (tk.Name n) at ∷ sign s.ParenOpen (span ts) ∷ next ts) x rest) e2 (gr.Primary.call (paren_args_sound (next ts) e1)))))
      (λ h. same_ok (λ x rest. Primary W (token (tk.Name n) at ∷ ts) x rest) (rw (h, after_not s.ParenOpen ts h) at e) gr.Primary.name)
  primary_at (tk.Sign s.ParenOpen) at ts e = via (w ts) _ e (λ x us e1 e2. via (expect s.ParenClose us) _ e2 (λ b vs e3 e4.
      same_ok (λ x rest. Primary W (sign s.ParenOpen at ∷ ts) x rest) e4 (gr.Primary.paren (rw (expect_ok s.ParenClose us e3) at (good.sound ts e1)))))
  primary_at (tk.Sign s.BracketOpen) at ts e = via (args w s.BracketClose ts) _ e (λ xs mid e1 e2.
      same_ok (λ x rest. Primary W (sign s.BracketOpen at ∷ ts) x rest) e2 (gr.Primary.list (bracket_args_sound ts e1)))
  primary_at _ at ts e = cc

  pub primary_sound : (ts : Tokens) {x : Exp} {rest : Tokens} → primary w ts ≡ Ok (x, rest) → Primary W ts x rest
  unfolding primary
  primary_sound [] e = cc
  primary_sound (t ∷ ts) e = primary_at t.kind t.span ts e

  member_at : (a : Span) (n : List ℕ) (b : Span) (us : Tokens) {x : Selector} {rest : Tokens} → member w (token (tk.Name n) b ∷ us) ≡ Ok (x, rest) → Selects W (sign s.Dot a ∷ token (tk.Name n) b ∷ us) x rest
  unfolding member name
  member_at a n b us e = split (sees s.ParenOpen us)
      (λ h. via (args w s.ParenClose (next us)) _ (rw (h, after_seen s.ParenOpen us h) at e) (λ xs mid e1 e2.
      rw (seen s.ParenOpen us h) (same_ok (λ x rest. Selects W (sign s.Dot a ∷ token (tk.Name n) b ∷ sign s.ParenOpen (span us) ∷ next us) x rest) e2 (gr.Selects.invoke (paren_args_sound (next us) e1)))))
      (λ h. same_ok (λ x rest. Selects W (sign s.Dot a ∷ token (tk.Name n) b ∷ us) x rest) (rw (h, after_not s.ParenOpen us h) at e) gr.Selects.member)

  member_sound : (a : Span) (ts : Tokens) {x : Selector} {rest : Tokens} → member w ts ≡ Ok (x, rest) → Selects W (sign s.Dot a ∷ ts) x rest
  unfolding member
  member_sound a ts e = via (name ts) _ e (λ m us e1 e2. let (n, b, is, m_is) = name_ok ts e1 in rw is (member_at a n b us (rw is at e)))

  selector_at : (c : TokenKind) (at : Span) (ts : Tokens) {x : Selector} {rest : Tokens} → selector_by w (Some c) (token c at ∷ ts) ≡ Ok (Some x, rest) → Selects W (token c at ∷ ts) x rest
  unfolding index
  selector_at (tk.Sign s.Dot) at ts {x} {rest} e = via (member w ts) _ e (λ y us e1 e2.
      same_ok (λ y rest. Option_is y (λ z. Selects W (sign s.Dot at ∷ ts) z rest)) e2 (member_sound at ts e1))
  selector_at (tk.Sign s.BracketOpen) at ts e = via (index w at ts) _ e (λ y us e1 e2.
      same_ok (λ y rest. Option_is y (λ z. Selects W (sign s.BracketOpen at ∷ ts) z rest)) e2
      (via (w ts) _ e1 (λ x vs e3 e4. via (expect s.BracketClose vs) _ e4 (λ b ws e5 e6.
      same_ok (λ y us. Selects W (sign s.BracketOpen at ∷ ts) y us) e6 (gr.Selects.index (rw (expect_ok s.BracketClose vs e5) at (good.sound ts e3)))))))
  selector_at _ at ts e = absurd (none_not_some e)

  selects_sound : (ts : Tokens) {x : Selector} {rest : Tokens} → selector w ts ≡ Ok (Some x, rest) → Selects W ts x rest
  unfolding selector
  selects_sound [] e = absurd (none_not_some e)
  selects_sound (t ∷ ts) e = selector_at t.kind t.span ts e

  selector_none : (c : TokenKind) (at : Span) (ts : Tokens) {rest : Tokens} → selector_by w (Some c) (token c at ∷ ts) ≡ Ok (None, rest) → rest ≡ token c at ∷ ts
  selector_none (tk.Sign s.Dot) at ts e = via (member w ts) _ e (λ y us e1 e2. absurd (some_not_none e2))
  selector_none (tk.Sign s.BracketOpen) at ts e = via (index w at ts) _ e (λ y us e1 e2. absurd (some_not_none e2))
  selector_none c at ts e = same_ok (λ (o : Option Selector) rest. rest ≡ token c at ∷ ts) e refl

  selects_none : (ts : Tokens) {rest : Tokens} → selector w ts ≡ Ok (None, rest) → rest ≡ ts
  unfolding selector
  selects_none [] e = same_ok (λ (o : Option Selector) rest. rest ≡ []) e refl
  selects_none (t ∷ ts) e = selector_none t.kind t.span ts e

  pub selects_good : GoodStep (Selects W) (selector w) (λ ts. grip ts < 14) (λ ts. grip ts < 15)
  selects_good = record {
    complete = selects_complete;
    stops = no_selects;
    sound = selects_sound;
    sound_none = selects_none;
    shorter = selects_shorter;
    begins = selects_grip;
    lower = λ ts h. omega arith;
  }

  pub postfix_complete : {ts rest : Tokens} {x : Exp} → Postfix W ts x rest → grip rest < 14 → postfix w ts ≡ Ok (x, rest)
  unfolding postfix selectors
  postfix_complete (gr.Postfix.primary {x} {ts} {rest} d) h =
      rw (primary_complete d (omega arith), many_complete (Selects W) (selector w) _ _ selects_good (length rest) [] none h (omega arith))
  postfix_complete (gr.Postfix.selected {x} {y} {ys} {ts} {mid} {rest} d ds) h =
      rw (
        primary_complete d (many_grip (Selects W) (selector w) _ _ selects_good ds h),
        many_complete (Selects W) (selector w) _ _ selects_good (length mid) [] ds h (omega (arith, many_shorter (Selects W) (selector w) _ _ selects_good ds)),
      )

  postfix_with : (ts : Tokens) (x : Exp) (xs : List Selector) (mid rest : Tokens) → Primary W ts x mid → Many (Selects W) mid xs rest → Postfix W ts (with_selectors w x xs) rest
  postfix_with ts x [] mid rest d none = gr.Postfix.primary d
  postfix_with ts x (y ∷ ys) mid rest d ds = gr.Postfix.selected d ds

  pub postfix_sound : (ts : Tokens) {x : Exp} {rest : Tokens} → postfix w ts ≡ Ok (x, rest) → Postfix W ts x rest
  unfolding postfix selectors
  postfix_sound ts e = via (primary w ts) _ e (λ x mid e1 e2. via (many_from (selector w) (length mid) [] mid) _ e2 (λ xs rest e3 e4.
      let f = many_sound (Selects W) (selector w) _ _ selects_good (length mid) [] mid e3 in
      same_ok (λ y rest. Postfix W ts y rest) e4 (rw f.is (postfix_with ts x f.xs mid rest (primary_sound ts e1) f.reads))))

  pub postfix_shorter : {ts rest : Tokens} {x : Exp} → Postfix W ts x rest → length rest < length ts
  postfix_shorter (gr.Postfix.primary d) = primary_shorter d
  postfix_shorter (gr.Postfix.selected d ds) = omega (arith, primary_shorter d, many_shorter (Selects W) (selector w) _ _ selects_good ds)

  pub postfix_terms : {ts rest : Tokens} {x : Exp} → Postfix W ts x rest → terms ts ≡ true
  postfix_terms (gr.Postfix.primary d) = primary_terms d
  postfix_terms (gr.Postfix.selected d ds) = primary_terms d
