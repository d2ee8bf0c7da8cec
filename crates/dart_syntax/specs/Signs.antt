-- Signs, by their texts.
use Rattle.std.specs.Prelude.{◌≡◌, ◌≤◌, ◌⊎◌, List, [], ◌∷◌, ◌++◌, length, codes}
use Rattle.dart_syntax.specs.declared.token.Sign.{Sign}
use Rattle.dart_syntax.specs.declared.token.Sign.TheVariants as s
use Rattle.dart_syntax.specs.Bytes.{Text}

-- texts of signs, with what each is
abbrev pub Table : Type 0
Table = List (Text × Sign)

-- those of the language, but for braces, which may also end an interpolation
unfoldable pub signs : Table
signs =
    (codes ">>>=", s.ShiftUnsignedAssign) ∷
    (codes ">>>", s.ShiftUnsigned) ∷
    (codes "<<=", s.ShiftLeftAssign) ∷
    (codes ">>=", s.ShiftRightAssign) ∷
    (codes "~/=", s.DivideAssign) ∷
    (codes "=>", s.Arrow) ∷
    (codes "==", s.Equal) ∷
    (codes "!=", s.NotEqual) ∷
    (codes "<=", s.LessEqual) ∷
    (codes ">=", s.GreaterEqual) ∷
    (codes "<<", s.ShiftLeft) ∷
    (codes ">>", s.ShiftRight) ∷
    (codes "~/", s.Divide) ∷
    (codes "&&", s.And) ∷
    (codes "||", s.Or) ∷
    (codes "++", s.Increment) ∷
    (codes "--", s.Decrement) ∷
    (codes "+=", s.PlusAssign) ∷
    (codes "-=", s.MinusAssign) ∷
    (codes "*=", s.StarAssign) ∷
    (codes "%=", s.PercentAssign) ∷
    (codes "&=", s.AmpersandAssign) ∷
    (codes "|=", s.BarAssign) ∷
    (codes "^=", s.CaretAssign) ∷
    (codes "(", s.ParenOpen) ∷
    (codes ")", s.ParenClose) ∷
    (codes "[", s.BracketOpen) ∷
    (codes "]", s.BracketClose) ∷
    (codes ",", s.Comma) ∷
    (codes ";", s.Semicolon) ∷
    (codes ":", s.Colon) ∷
    (codes ".", s.Dot) ∷
    (codes "?", s.Question) ∷
    (codes "@", s.At) ∷
    (codes "=", s.Assign) ∷
    (codes "!", s.Not) ∷
    (codes "<", s.Less) ∷
    (codes ">", s.Greater) ∷
    (codes "+", s.Plus) ∷
    (codes "-", s.Minus) ∷
    (codes "*", s.Star) ∷
    (codes "%", s.Percent) ∷
    (codes "&", s.Ampersand) ∷
    (codes "|", s.Bar) ∷
    (codes "^", s.Caret) ∷
    (codes "~", s.Tilde) ∷ []

-- the table has this text for the sign
abbrev pub Spells : Table → Text → Sign → Type 0
Spells [] text c = ⊥
Spells (e ∷ es) text c = ((e.0 ≡ text) × (e.1 ≡ c)) ⊎ Spells es text c

-- c is the longest sign at the front of bs
pub record IsLongest (table : Table) (bs : Text) (c : Sign) (rest : Text) : Type 0 where
  pub text : Text
  pub spells : Spells table text c
  pub is : bs ≡ text ++ rest
  pub longest : (other : Text) (d : Sign) (us : Text) → Spells table other d → bs ≡ other ++ us → length other ≤ length text

-- no sign is there
abbrev pub NoSign : Table → Text → Type 0
NoSign table bs = (other : Text) (d : Sign) (us : Text) → Spells table other d → bs ≡ other ++ us → ⊥
