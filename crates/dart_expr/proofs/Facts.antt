-- The steps that every rule is made of.
use Rattle.std.proofs.Common.{◌≡◌, Bool, true, false, cond, [], ◌∷◌, Option, Some, None, Ok, Err, refl, ap, ◌∙◌, inl, inr, subst, ◌⊎◌, rules}
use denote.Enum.Bare.{true_same, same_true}
use Rattle.dart_syntax.specs.declared.token.Span.{Span}
use Rattle.dart_syntax.specs.declared.token.TokenKind.{TokenKind}
use Rattle.dart_syntax.specs.declared.token.TokenKind.TheVariants as tk
use Rattle.dart_syntax.specs.declared.token.Sign.{Sign}
use Rattle.dart_syntax.specs.declared.token.Keyword.{Keyword}
use Rattle.dart_syntax.specs.contracts.token.Sign.{the_type as sign_type}
use Rattle.dart_syntax.specs.contracts.token.Keyword.{the_type as keyword_type}
use Rattle.dart_syntax.specs.Words.{Tokens, token, sign, keyword}
use Rattle.dart_expr.specs.Input.{span, next, same, same_keyword, is_sign, is_keyword, sees, sees_keyword, after, after_keyword, Outcome, Parser, and_then, refusal, expect}

-- ---- signs

pub sees_it : (c : Sign) (at : Span) (ts : Tokens) → sees c (sign c at ∷ ts) ≡ true
unfolding sees same
sees_it c at ts = true_same sign_type c c refl

pub after_it : (c : Sign) (at : Span) (ts : Tokens) → after c (sign c at ∷ ts) ≡ ts
unfolding after
after_it c at ts = rw (sees_it c at ts)

pub after_not : (c : Sign) (ts : Tokens) → sees c ts ≡ false → after c ts ≡ ts
unfolding after
after_not c ts h = rw h

kind_is : (c : Sign) (k : TokenKind) → is_sign c (Some k) ≡ true → k ≡ tk.Sign c
unfolding same
kind_is c (tk.Sign d) h = ap tk.Sign (same_true sign_type (search rules) d c h)
kind_is c _ h = cc

pub seen : (c : Sign) (ts : Tokens) → sees c ts ≡ true → ts ≡ sign c (span ts) ∷ next ts
unfolding sees
seen c [] h = cc
seen c (t ∷ ts) h = ap (λ k. token k t.span ∷ ts) (kind_is c t.kind h)

pub after_seen : (c : Sign) (ts : Tokens) → sees c ts ≡ true → after c ts ≡ next ts
unfolding after
after_seen c ts h = rw h

-- ---- keywords

pub sees_keyword_it : (c : Keyword) (at : Span) (ts : Tokens) → sees_keyword c (keyword c at ∷ ts) ≡ true
unfolding sees_keyword same_keyword
sees_keyword_it c at ts = true_same keyword_type c c refl

pub after_keyword_it : (c : Keyword) (at : Span) (ts : Tokens) → after_keyword c (keyword c at ∷ ts) ≡ ts
unfolding after_keyword
after_keyword_it c at ts = rw (sees_keyword_it c at ts)

pub after_keyword_not : (c : Keyword) (ts : Tokens) → sees_keyword c ts ≡ false → after_keyword c ts ≡ ts
unfolding after_keyword
after_keyword_not c ts h = rw h

keyword_is : (c : Keyword) (k : TokenKind) → is_keyword c (Some k) ≡ true → k ≡ tk.Keyword c
unfolding same_keyword
keyword_is c (tk.Keyword d) h = ap tk.Keyword (same_true keyword_type (search rules) d c h)
keyword_is c _ h = cc

pub seen_keyword : (c : Keyword) (ts : Tokens) → sees_keyword c ts ≡ true → ts ≡ keyword c (span ts) ∷ next ts
unfolding sees_keyword
seen_keyword c [] h = cc
seen_keyword c (t ∷ ts) h = ap (λ k. token k t.span ∷ ts) (keyword_is c t.kind h)

pub after_keyword_seen : (c : Keyword) (ts : Tokens) → sees_keyword c ts ≡ true → after_keyword c ts ≡ next ts
unfolding after_keyword
after_keyword_seen c ts h = rw h

-- ---- what an outcome that is Ok says of its steps

pub bind_ok : {A B : Type 0} (o : Outcome A) (f : A → Parser B) {y : B × Tokens} → and_then o f ≡ Ok y → (x : A) × (mid : Tokens) × (o ≡ Ok (x, mid)) × (f x mid ≡ Ok y)
bind_ok (Ok p) f e = (p.0, p.1, refl, e)
bind_ok (Err r) f e = cc

pub test_ok : {X : Type 0} (b : Bool) {x y z : X} → cond b x y ≡ z → ((b ≡ true) × (x ≡ z)) ⊎ ((b ≡ false) × (y ≡ z))
test_ok true e = inl (refl, e)
test_ok false e = inr (refl, e)

pub expect_it : (c : Sign) (at : Span) (ts : Tokens) → expect c (sign c at ∷ ts) ≡ Ok (at, ts)
unfolding expect
expect_it c at ts = rw (sees_it c at ts)

pub expect_ok : (c : Sign) (ts : Tokens) {y : Span × Tokens} → expect c ts ≡ Ok y → ts ≡ sign c y.0 ∷ y.1
unfolding expect
expect_ok c ts {y} e = expect_cases (sees c ts) refl e
  where
    expect_cases : (b : Bool) → sees c ts ≡ b → cond b (Ok (span ts, next ts)) (Err (refusal ts)) ≡ Ok y → ts ≡ sign c y.0 ∷ y.1
    expect_cases true h e = seen c ts h ∙ cc
    expect_cases false h e = cc

-- an Ok for another of the same
pub same_ok : {A : Type 0} (R : A → Tokens → Type 0) {x y : A} {ts us : Tokens} → ◌≡◌ {A = Outcome A} (Ok (x, ts)) (Ok (y, us)) → R x ts → R y us
same_ok R {x} {y} {ts} {us} e r = let p : (x, ts) ≡ (y, us) = cc in subst (λ (q : _ × Tokens). R q.0 q.1) p r

-- ---- a step at a time, towards any goal

pub split : {G : Type 0} (b : Bool) → (b ≡ true → G) → (b ≡ false → G) → G
split true f g = f refl
split false f g = g refl

pub via : {A B G : Type 0} (o : Outcome A) (f : A → Parser B) {y : B × Tokens} → and_then o f ≡ Ok y → ((x : A) (mid : Tokens) → o ≡ Ok (x, mid) → f x mid ≡ Ok y → G) → G
via (Ok p) f e go = go p.0 p.1 refl e
via (Err r) f e go = cc

-- ---- None is not Some

abbrev SomeOnly : {A : Type 0} → Option A → Tokens → Type 0
SomeOnly None ts = ⊥
SomeOnly (Some x) ts = Unit {0}

abbrev NoneOnly : {A : Type 0} → Option A → Tokens → Type 0
NoneOnly None ts = Unit {0}
NoneOnly (Some x) ts = ⊥

pub some_not_none : {A : Type 0} {x : A} {ts us : Tokens} → ◌≡◌ {A = Outcome (Option A)} (Ok (Some x, ts)) (Ok (None, us)) → ⊥
some_not_none {A} e = same_ok (SomeOnly {A = A}) e tt

pub none_not_some : {A : Type 0} {x : A} {ts us : Tokens} → ◌≡◌ {A = Outcome (Option A)} (Ok (None, us)) (Ok (Some x, ts)) → ⊥
none_not_some {A} e = same_ok (NoneOnly {A = A}) e tt

pub which : {A G : Type 0} (o : Option A) → (o ≡ None → G) → ((x : A) → o ≡ Some x → G) → G
which None f g = f refl
which (Some x) f g = g x refl
