-- What a parser reads from, and the steps that every rule is made of.
use Rattle.std.specs.Prelude.{◌≡◌, ◌≢◌, ℕ, zero, suc, Bool, true, false, if◌then◌else◌, List, [], ◌∷◌, ◌++◌, length, Option, Some, None, Result, Ok, Err}
use denote.Enum.Bare.{sameb}
use Rattle.dart_syntax.specs.declared.token.Span.{Span}
use Rattle.dart_syntax.specs.declared.token.TokenKind.{TokenKind}
use Rattle.dart_syntax.specs.declared.token.TokenKind.TheVariants as tk
use Rattle.dart_syntax.specs.declared.token.Sign.{Sign}
use Rattle.dart_syntax.specs.declared.token.Keyword.{Keyword}
use Rattle.dart_syntax.specs.contracts.token.Sign.{the_type as sign_type}
use Rattle.dart_syntax.specs.contracts.token.Keyword.{the_type as keyword_type}
use Rattle.dart_syntax.specs.Words.{Tokens}
use Rattle.dart_syntax.specs.Operators.{first_kind}
use Rattle.dart_expr.specs.declared.refusal.Refusal.{Refusal}
use Rattle.dart_expr.specs.declared.refusal.Refusal.TheVariants.{NoMemory, Syntax, TooDeep}

-- ---- the next token

-- what the next token is, if there is one
abbrev pub kind : Tokens → Option TokenKind
kind = first_kind

-- where the next token stands
abbrev pub span : Tokens → Span
span [] = record { start = 0; end = 0 }
span (t ∷ ts) = t.span

-- the tokens behind the next one
abbrev pub next : Tokens → Tokens
next [] = []
next (t ∷ ts) = ts

-- `==` on signs and keywords
unfoldable pub same : Sign → Sign → Bool
same = sameb sign_type

unfoldable pub same_keyword : Keyword → Keyword → Bool
same_keyword = sameb keyword_type

-- whether a token is this sign
abbrev pub is_sign : Sign → Option TokenKind → Bool
is_sign c (Some (tk.Sign d)) = same d c
is_sign c _ = false

-- whether a token is this keyword
abbrev pub is_keyword : Keyword → Option TokenKind → Bool
is_keyword c (Some (tk.Keyword d)) = same_keyword d c
is_keyword c _ = false

-- whether this sign comes next
unfoldable pub sees : Sign → Tokens → Bool
sees c ts = is_sign c (kind ts)

-- whether this keyword comes next
unfoldable pub sees_keyword : Keyword → Tokens → Bool
sees_keyword c ts = is_keyword c (kind ts)

-- the tokens behind this sign, if it comes next, and else all
unfoldable pub after : Sign → Tokens → Tokens
after c ts = if sees c ts then next ts else ts

-- the tokens behind this keyword, if it comes next, and else all
unfoldable pub after_keyword : Keyword → Tokens → Tokens
after_keyword c ts = if sees_keyword c ts then next ts else ts

abbrev pub is_end_kind : Option TokenKind → Bool
is_end_kind (Some tk.End) = true
is_end_kind _ = false

-- whether the end token comes next
unfoldable pub is_end : Tokens → Bool
is_end ts = is_end_kind (kind ts)

-- ---- parsers

-- what is read and the tokens behind it, or a refusal
abbrev pub Outcome : Type 0 → Type 0
Outcome A = Result (A × Tokens) Refusal

-- reads something from the front of the tokens
abbrev pub Parser : Type 0 → Type 0
Parser A = Tokens → Outcome A

-- goes on behind what was read, and ends at a refusal
abbrev pub and_then : {A B : Type 0} → Outcome A → (A → Parser B) → Outcome B
and_then (Ok p) f = f p.0 p.1
and_then (Err e) f = Err e

infixl 10 ◌>>=◌
-- one parser, then the one that its value asks for
abbrev pub ◌>>=◌ : {A B : Type 0} → Parser A → (A → Parser B) → Parser B
p >>= f = λ i. and_then (p i) f

infixl 10 ◌>>◌
-- one parser, whose value is dropped, then another
abbrev pub ◌>>◌ : {A B : Type 0} → Parser A → Parser B → Parser B
p >> q = p >>= (λ _. q)

-- reads no token
abbrev pub pure : {A : Type 0} → A → Parser A
pure a = λ i. Ok (a, i)

infixr 11 ◌<$>◌
-- a parser whose value is changed by f
abbrev pub ◌<$>◌ : {A B : Type 0} → (A → B) → Parser A → Parser B
f <$> p = p >>= (λ x. pure (f x))

-- the answer where no rule reads the next token
abbrev pub refusal : Tokens → Refusal
refusal ts = Syntax (length ts)

-- the answer where the next token begins what is wanted, but nothing may nest deeper here
abbrev pub deep : Bool → Tokens → Refusal
deep begins ts = if begins then TooDeep (length ts) else refusal ts

-- reads nothing: the next token is a syntax error
abbrev pub refuse : {A : Type 0} → Parser A
refuse = λ ts. Err (refusal ts)

-- the place of the next token, which stays
abbrev pub here : Parser Span
here = λ ts. Ok (span ts, ts)

-- takes the next token, and gives its place
abbrev pub take : Parser Span
take = λ ts. Ok (span ts, next ts)

-- takes the sign, if it comes next
abbrev pub eat : Sign → Parser Bool
eat c = λ ts. Ok (sees c ts, after c ts)

-- takes the keyword, if it comes next
abbrev pub eat_keyword : Keyword → Parser Bool
eat_keyword c = λ ts. Ok (sees_keyword c ts, after_keyword c ts)

-- takes the sign, which has to come next, and gives its place
unfoldable pub expect : Sign → Parser Span
expect c = λ ts. if sees c ts then Ok (span ts, next ts) else refuse ts

-- ---- items while there are some; a step answers None where there is none

-- goes on behind one item more, or ends where there is none
abbrev pub went_on : {A : Type 0} → Option A → List A → (List A → Parser (List A)) → Parser (List A)
went_on None found go = pure found
went_on (Some x) found go = go (found ++ x ∷ [])

-- The number bounds the turns.
abbrev pub many_from : {A : Type 0} → Parser (Option A) → ℕ → List A → Parser (List A)
many_from step zero found = pure found
many_from step (suc n) found = step >>= (λ o. went_on o found (many_from step n))

-- ---- what a function that parses ensures: the parser's outcome, as what its value holds, unless memory fails

-- `view` is what a value of src/ stands for, and `new` are the tokens that the call leaves
abbrev pub Reads : {A B : Type 0} → (A → B) → Outcome B → Result A Refusal → Tokens → Type 0
Reads view outcome (Ok a) new = outcome ≡ Ok (view a, new)
Reads view outcome (Err e) new = e ≢ NoMemory → outcome ≡ Err e
