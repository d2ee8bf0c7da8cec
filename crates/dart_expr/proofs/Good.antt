-- What a reading of the grammar and its parser have in common.
use Rattle.std.proofs.Common.{◌≡◌, ℕ, ◌+◌, ◌<◌, Bool, true, false, not, ◌&&◌, [], ◌∷◌, length, Some, None, Ok, refl, ap, sym, ◌∙◌, arith}
use Rattle.dart_syntax.specs.declared.token.TokenKind.{TokenKind}
use Rattle.dart_syntax.specs.declared.token.TokenKind.TheVariants as tk
use Rattle.dart_syntax.specs.declared.token.Sign.{Sign}
use Rattle.dart_syntax.specs.declared.token.Sign.TheVariants as s
use Rattle.dart_syntax.specs.declared.token.Keyword.TheVariants as k
use Rattle.dart_syntax.specs.declared.tree.Binary.{Binary}
use Rattle.dart_syntax.specs.declared.tree.Step.{Step}
use Rattle.dart_syntax.specs.declared.tree.Assignment.{Assignment}
use Rattle.dart_syntax.specs.Syntax.{Exp}
use Rattle.dart_syntax.specs.Words.{Tokens}
use Rattle.dart_syntax.specs.Operators.{binary_of, unary_of, step_of, assignment_of, level}
use Rattle.dart_syntax.specs.Grammar.{Reading}
use Rattle.dart_expr.specs.Input.{Parser, sees, sees_keyword, same_keyword, is_keyword}
use Rattle.dart_expr.specs.Firsts.{kind_starts, sign_starts, is_throw}
use Rattle.dart_expr.proofs.Facts.{seen, seen_keyword}

-- How tightly a token holds on to what stands before it, from 1; one that goes on with no expression has 0.
abbrev pub sign_grip : Sign → ℕ
sign_grip s.Assign = 1
sign_grip s.PlusAssign = 1
sign_grip s.MinusAssign = 1
sign_grip s.StarAssign = 1
sign_grip s.DivideAssign = 1
sign_grip s.PercentAssign = 1
sign_grip s.AmpersandAssign = 1
sign_grip s.BarAssign = 1
sign_grip s.CaretAssign = 1
sign_grip s.ShiftLeftAssign = 1
sign_grip s.ShiftRightAssign = 1
sign_grip s.ShiftUnsignedAssign = 1
sign_grip s.Question = 2
sign_grip s.Or = 3
sign_grip s.And = 4
sign_grip s.Equal = 5
sign_grip s.NotEqual = 5
sign_grip s.Less = 6
sign_grip s.LessEqual = 6
sign_grip s.Greater = 6
sign_grip s.GreaterEqual = 6
sign_grip s.Bar = 7
sign_grip s.Caret = 8
sign_grip s.Ampersand = 9
sign_grip s.ShiftLeft = 10
sign_grip s.ShiftRight = 10
sign_grip s.ShiftUnsigned = 10
sign_grip s.Plus = 11
sign_grip s.Minus = 11
sign_grip s.Star = 12
sign_grip s.Divide = 12
sign_grip s.Percent = 12
sign_grip s.Increment = 13
sign_grip s.Decrement = 13
sign_grip s.Dot = 14
sign_grip s.BracketOpen = 14
sign_grip s.ParenOpen = 15
sign_grip _ = 0

abbrev pub kind_grip : TokenKind → ℕ
kind_grip (tk.Sign c) = sign_grip c
kind_grip (tk.Keyword k.Is) = 6
kind_grip _ = 0

unfoldable pub grip : Tokens → ℕ
grip [] = 0
grip (t ∷ ts) = kind_grip t.kind

unfoldable pub starts : Tokens → Bool
starts [] = false
starts (t ∷ ts) = kind_starts t.kind

-- and what one that is no throw may
unfoldable pub terms : Tokens → Bool
terms [] = false
terms (t ∷ ts) = kind_starts t.kind && not (is_throw t.kind)

pub terms_starts : (ts : Tokens) → terms ts ≡ true → starts ts ≡ true
unfolding terms starts
terms_starts [] h = h
terms_starts (t ∷ ts) h = go (kind_starts t.kind) h
  where
    go : (b : Bool) → (b && not (is_throw t.kind)) ≡ true → b ≡ true
    go true e = refl
    go false e = e

terms_no_throw_kind : (w : TokenKind) → (kind_starts w && not (is_throw w)) ≡ true → is_keyword k.Throw (Some w) ≡ false
unfolding same_keyword
terms_no_throw_kind (tk.Keyword k.Throw) h = cc
terms_no_throw_kind (tk.Keyword w) h = refl
terms_no_throw_kind _ h = refl

pub terms_no_throw : (ts : Tokens) → terms ts ≡ true → sees_keyword k.Throw ts ≡ false
unfolding terms sees_keyword
terms_no_throw [] h = cc
terms_no_throw (t ∷ ts) h = terms_no_throw_kind t.kind h

pub record Good {A : Type 0} (R : Reading A) (parse : Parser A) (low : ℕ) : Type 0 where
  pub complete : {ts rest : Tokens} {x : A} → R ts x rest → grip rest < low → parse ts ≡ Ok (x, rest)
  pub sound : (ts : Tokens) {x : A} {rest : Tokens} → parse ts ≡ Ok (x, rest) → R ts x rest
  pub shorter : {ts rest : Tokens} {x : A} → R ts x rest → length rest < length ts
  pub begins : {ts rest : Tokens} {x : A} → R ts x rest → starts ts ≡ true

-- the same of what stands under a sign, where nothing follows that goes on with a postfix expression
pub record GoodUnder (R : Reading Exp) (parse : Parser Exp) : Type 0 where
  pub complete : {ts rest : Tokens} {x : Exp} → R ts x rest → grip rest < 13 → parse ts ≡ Ok (x, rest)
  pub sound : (ts : Tokens) {x : Exp} {rest : Tokens} → parse ts ≡ Ok (x, rest) → R ts x rest
  pub shorter : {ts rest : Tokens} {x : Exp} → R ts x rest → length rest < length ts

pub starts_other : (c : Sign) (ts : Tokens) → sign_starts c ≡ false → starts ts ≡ true → sees c ts ≡ false
unfolding starts
starts_other c ts none some = go (sees c ts) refl
  where
    go : (b : Bool) → sees c ts ≡ b → sees c ts ≡ false
    go false e = e
    go true e = let f : true ≡ false = sym some ∙ ap starts (seen c ts e) ∙ none in cc

-- ---- the tables agree

Some_is : {X : Type 0} {x y : X} → Some x ≡ Some y → x ≡ y
Some_is e = cc

pub binary_grip : (c : Sign) (op : Binary) → binary_of c ≡ Some op → sign_grip c + level op ≡ 13
binary_grip s.Or op e = rw (← Some_is e)
binary_grip s.And op e = rw (← Some_is e)
binary_grip s.Equal op e = rw (← Some_is e)
binary_grip s.NotEqual op e = rw (← Some_is e)
binary_grip s.Less op e = rw (← Some_is e)
binary_grip s.LessEqual op e = rw (← Some_is e)
binary_grip s.Greater op e = rw (← Some_is e)
binary_grip s.GreaterEqual op e = rw (← Some_is e)
binary_grip s.ShiftLeft op e = rw (← Some_is e)
binary_grip s.ShiftRight op e = rw (← Some_is e)
binary_grip s.ShiftUnsigned op e = rw (← Some_is e)
binary_grip s.Ampersand op e = rw (← Some_is e)
binary_grip s.Bar op e = rw (← Some_is e)
binary_grip s.Caret op e = rw (← Some_is e)
binary_grip s.Plus op e = rw (← Some_is e)
binary_grip s.Minus op e = rw (← Some_is e)
binary_grip s.Star op e = rw (← Some_is e)
binary_grip s.Divide op e = rw (← Some_is e)
binary_grip s.Percent op e = rw (← Some_is e)
binary_grip _ op e = cc

pub step_grip : (c : Sign) (op : Step) → step_of c ≡ Some op → (sign_grip c ≡ 13) × (unary_of c ≡ None)
step_grip s.Increment op e = (refl, refl)
step_grip s.Decrement op e = (refl, refl)
step_grip _ op e = cc

pub assignment_grip : (c : Sign) (op : Assignment) → assignment_of c ≡ Some op → sign_grip c ≡ 1
assignment_grip s.Assign op e = refl
assignment_grip s.PlusAssign op e = refl
assignment_grip s.MinusAssign op e = refl
assignment_grip s.StarAssign op e = refl
assignment_grip s.DivideAssign op e = refl
assignment_grip s.PercentAssign op e = refl
assignment_grip s.AmpersandAssign op e = refl
assignment_grip s.BarAssign op e = refl
assignment_grip s.CaretAssign op e = refl
assignment_grip s.ShiftLeftAssign op e = refl
assignment_grip s.ShiftRightAssign op e = refl
assignment_grip s.ShiftUnsignedAssign op e = refl
assignment_grip _ op e = cc

pub grip_not : (c : Sign) (ts : Tokens) → grip ts < sign_grip c → sees c ts ≡ false
unfolding grip
grip_not c ts low = go (sees c ts) refl
  where
    go : (b : Bool) → sees c ts ≡ b → sees c ts ≡ false
    go false e = e
    go true e = let f : grip ts ≡ sign_grip c = ap grip (seen c ts e) in absurd (omega arith)

pub grip_not_is : (ts : Tokens) → grip ts < 6 → sees_keyword k.Is ts ≡ false
unfolding grip
grip_not_is ts low = go (sees_keyword k.Is ts) refl
  where
    go : (b : Bool) → sees_keyword k.Is ts ≡ b → sees_keyword k.Is ts ≡ false
    go false e = e
    go true e = let f : grip ts ≡ 6 = ap grip (seen_keyword k.Is ts e) in absurd (omega arith)
