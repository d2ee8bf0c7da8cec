-- The texts of the signs and operators that the canonical text has.
use Rattle.std.proofs.Common.{◌≡◌, [], ◌∷◌, ◌++◌, Some, refl, ap, sym, subst, append_assoc, codes}
use Rattle.std.proofs.lemmas.Str.{IsAscii-append}
use Rattle.dart_syntax.specs.declared.token.TokenKind.TheVariants as tk
use Rattle.dart_syntax.specs.declared.token.Sign.{Sign}
use Rattle.dart_syntax.specs.declared.token.Sign.TheVariants as s
use Rattle.dart_syntax.specs.declared.open.Open.TheVariants as open_
use Rattle.dart_syntax.specs.declared.tree.Unary.{Unary}
use Rattle.dart_syntax.specs.declared.tree.Binary.{Binary}
use Rattle.dart_syntax.specs.declared.tree.Step.{Step}
use Rattle.dart_syntax.specs.declared.tree.Assignment.{Assignment}
use Rattle.dart_syntax.specs.declared.tree.Operator.{Operator}
use Rattle.dart_syntax.specs.Signs.{signs}
use Rattle.dart_syntax.specs.Bytes.{Text}
use Rattle.dart_syntax.specs.Tokens.{inside}
use Rattle.dart_syntax.specs.Tokens as to
use Rattle.dart_syntax.specs.Operators.{unary_of, step_of, binary_of, assignment_of}
use Rattle.dart_syntax.specs.Derivation.{operator_of}
use Rattle.dart_syntax.specs.Text.{word, unary_text, step_text, binary_text, assignment_text, operator_text}
use Rattle.dart_printer.proofs.Lists.{Kinds, one, both}
use Rattle.dart_printer.proofs.Cuts.{Cut, cut_one, cut_two, cut_then, Cuts, Closed}
use Rattle.dart_printer.proofs.Marks.{sign_word, ascii_is}

-- ---- signs

pub shift_unsigned_assign : Closed (word (codes ">>>=")) (one (tk.Sign s.ShiftUnsignedAssign))
unfolding signs
shift_unsigned_assign = sign_word 0 (codes ">>>=") s.ShiftUnsignedAssign refl refl

pub shift_unsigned : Closed (word (codes ">>>")) (one (tk.Sign s.ShiftUnsigned))
unfolding signs
shift_unsigned = sign_word 1 (codes ">>>") s.ShiftUnsigned refl refl

pub shift_left_assign : Closed (word (codes "<<=")) (one (tk.Sign s.ShiftLeftAssign))
unfolding signs
shift_left_assign = sign_word 2 (codes "<<=") s.ShiftLeftAssign refl refl

pub shift_right_assign : Closed (word (codes ">>=")) (one (tk.Sign s.ShiftRightAssign))
unfolding signs
shift_right_assign = sign_word 3 (codes ">>=") s.ShiftRightAssign refl refl

pub divide_assign : Closed (word (codes "~/=")) (one (tk.Sign s.DivideAssign))
unfolding signs
divide_assign = sign_word 4 (codes "~/=") s.DivideAssign refl refl

pub arrow : Closed (word (codes "=>")) (one (tk.Sign s.Arrow))
unfolding signs
arrow = sign_word 5 (codes "=>") s.Arrow refl refl

pub equal : Closed (word (codes "==")) (one (tk.Sign s.Equal))
unfolding signs
equal = sign_word 6 (codes "==") s.Equal refl refl

pub not_equal : Closed (word (codes "!=")) (one (tk.Sign s.NotEqual))
unfolding signs
not_equal = sign_word 7 (codes "!=") s.NotEqual refl refl

pub less_equal : Closed (word (codes "<=")) (one (tk.Sign s.LessEqual))
unfolding signs
less_equal = sign_word 8 (codes "<=") s.LessEqual refl refl

pub greater_equal : Closed (word (codes ">=")) (one (tk.Sign s.GreaterEqual))
unfolding signs
greater_equal = sign_word 9 (codes ">=") s.GreaterEqual refl refl

pub shift_left : Closed (word (codes "<<")) (one (tk.Sign s.ShiftLeft))
unfolding signs
shift_left = sign_word 10 (codes "<<") s.ShiftLeft refl refl

pub shift_right : Closed (word (codes ">>")) (one (tk.Sign s.ShiftRight))
unfolding signs
shift_right = sign_word 11 (codes ">>") s.ShiftRight refl refl

pub divide : Closed (word (codes "~/")) (one (tk.Sign s.Divide))
unfolding signs
divide = sign_word 12 (codes "~/") s.Divide refl refl

pub and : Closed (word (codes "&&")) (one (tk.Sign s.And))
unfolding signs
and = sign_word 13 (codes "&&") s.And refl refl

pub or : Closed (word (codes "||")) (one (tk.Sign s.Or))
unfolding signs
or = sign_word 14 (codes "||") s.Or refl refl

pub increment : Closed (word (codes "++")) (one (tk.Sign s.Increment))
unfolding signs
increment = sign_word 15 (codes "++") s.Increment refl refl

pub decrement : Closed (word (codes "--")) (one (tk.Sign s.Decrement))
unfolding signs
decrement = sign_word 16 (codes "--") s.Decrement refl refl

pub plus_assign : Closed (word (codes "+=")) (one (tk.Sign s.PlusAssign))
unfolding signs
plus_assign = sign_word 17 (codes "+=") s.PlusAssign refl refl

pub minus_assign : Closed (word (codes "-=")) (one (tk.Sign s.MinusAssign))
unfolding signs
minus_assign = sign_word 18 (codes "-=") s.MinusAssign refl refl

pub star_assign : Closed (word (codes "*=")) (one (tk.Sign s.StarAssign))
unfolding signs
star_assign = sign_word 19 (codes "*=") s.StarAssign refl refl

pub percent_assign : Closed (word (codes "%=")) (one (tk.Sign s.PercentAssign))
unfolding signs
percent_assign = sign_word 20 (codes "%=") s.PercentAssign refl refl

pub ampersand_assign : Closed (word (codes "&=")) (one (tk.Sign s.AmpersandAssign))
unfolding signs
ampersand_assign = sign_word 21 (codes "&=") s.AmpersandAssign refl refl

pub bar_assign : Closed (word (codes "|=")) (one (tk.Sign s.BarAssign))
unfolding signs
bar_assign = sign_word 22 (codes "|=") s.BarAssign refl refl

pub caret_assign : Closed (word (codes "^=")) (one (tk.Sign s.CaretAssign))
unfolding signs
caret_assign = sign_word 23 (codes "^=") s.CaretAssign refl refl

pub paren_open : Closed (word (codes "(")) (one (tk.Sign s.ParenOpen))
unfolding signs
paren_open = sign_word 24 (codes "(") s.ParenOpen refl refl

pub paren_close : Closed (word (codes ")")) (one (tk.Sign s.ParenClose))
unfolding signs
paren_close = sign_word 25 (codes ")") s.ParenClose refl refl

pub bracket_open : Closed (word (codes "[")) (one (tk.Sign s.BracketOpen))
unfolding signs
bracket_open = sign_word 26 (codes "[") s.BracketOpen refl refl

pub bracket_close : Closed (word (codes "]")) (one (tk.Sign s.BracketClose))
unfolding signs
bracket_close = sign_word 27 (codes "]") s.BracketClose refl refl

pub comma : Closed (word (codes ",")) (one (tk.Sign s.Comma))
unfolding signs
comma = sign_word 28 (codes ",") s.Comma refl refl

pub semicolon : Closed (word (codes ";")) (one (tk.Sign s.Semicolon))
unfolding signs
semicolon = sign_word 29 (codes ";") s.Semicolon refl refl

pub colon : Closed (word (codes ":")) (one (tk.Sign s.Colon))
unfolding signs
colon = sign_word 30 (codes ":") s.Colon refl refl

pub dot : Closed (word (codes ".")) (one (tk.Sign s.Dot))
unfolding signs
dot = sign_word 31 (codes ".") s.Dot refl refl

pub question : Closed (word (codes "?")) (one (tk.Sign s.Question))
unfolding signs
question = sign_word 32 (codes "?") s.Question refl refl

pub at : Closed (word (codes "@")) (one (tk.Sign s.At))
unfolding signs
at = sign_word 33 (codes "@") s.At refl refl

pub assign : Closed (word (codes "=")) (one (tk.Sign s.Assign))
unfolding signs
assign = sign_word 34 (codes "=") s.Assign refl refl

pub not : Closed (word (codes "!")) (one (tk.Sign s.Not))
unfolding signs
not = sign_word 35 (codes "!") s.Not refl refl

pub less : Closed (word (codes "<")) (one (tk.Sign s.Less))
unfolding signs
less = sign_word 36 (codes "<") s.Less refl refl

pub greater : Closed (word (codes ">")) (one (tk.Sign s.Greater))
unfolding signs
greater = sign_word 37 (codes ">") s.Greater refl refl

pub plus : Closed (word (codes "+")) (one (tk.Sign s.Plus))
unfolding signs
plus = sign_word 38 (codes "+") s.Plus refl refl

pub minus : Closed (word (codes "-")) (one (tk.Sign s.Minus))
unfolding signs
minus = sign_word 39 (codes "-") s.Minus refl refl

pub star : Closed (word (codes "*")) (one (tk.Sign s.Star))
unfolding signs
star = sign_word 40 (codes "*") s.Star refl refl

pub percent : Closed (word (codes "%")) (one (tk.Sign s.Percent))
unfolding signs
percent = sign_word 41 (codes "%") s.Percent refl refl

pub ampersand : Closed (word (codes "&")) (one (tk.Sign s.Ampersand))
unfolding signs
ampersand = sign_word 42 (codes "&") s.Ampersand refl refl

pub bar : Closed (word (codes "|")) (one (tk.Sign s.Bar))
unfolding signs
bar = sign_word 43 (codes "|") s.Bar refl refl

pub caret : Closed (word (codes "^")) (one (tk.Sign s.Caret))
unfolding signs
caret = sign_word 44 (codes "^") s.Caret refl refl

pub tilde : Closed (word (codes "~")) (one (tk.Sign s.Tilde))
unfolding signs
tilde = sign_word 45 (codes "~") s.Tilde refl refl

-- ---- operators

Some_is : {X : Type 0} {x y : X} → Some x ≡ Some y → x ≡ y
Some_is e = cc

pub unary_word : (c : Sign) (op : Unary) → unary_of c ≡ Some op → Closed (word (unary_text op)) (one (tk.Sign c))
unary_word s.Minus op e = rw (← Some_is e) minus
unary_word s.Not op e = rw (← Some_is e) not
unary_word s.Tilde op e = rw (← Some_is e) tilde
unary_word _ op e = cc

pub step_word : (c : Sign) (op : Step) → step_of c ≡ Some op → Closed (word (step_text op)) (one (tk.Sign c))
step_word s.Increment op e = rw (← Some_is e) increment
step_word s.Decrement op e = rw (← Some_is e) decrement
step_word _ op e = cc

pub binary_word : (c : Sign) (op : Binary) → binary_of c ≡ Some op → Closed (word (binary_text op)) (one (tk.Sign c))
binary_word s.Or op e = rw (← Some_is e) or
binary_word s.And op e = rw (← Some_is e) and
binary_word s.Equal op e = rw (← Some_is e) equal
binary_word s.NotEqual op e = rw (← Some_is e) not_equal
binary_word s.Less op e = rw (← Some_is e) less
binary_word s.LessEqual op e = rw (← Some_is e) less_equal
binary_word s.Greater op e = rw (← Some_is e) greater
binary_word s.GreaterEqual op e = rw (← Some_is e) greater_equal
binary_word s.ShiftLeft op e = rw (← Some_is e) shift_left
binary_word s.ShiftRight op e = rw (← Some_is e) shift_right
binary_word s.ShiftUnsigned op e = rw (← Some_is e) shift_unsigned
binary_word s.Ampersand op e = rw (← Some_is e) ampersand
binary_word s.Bar op e = rw (← Some_is e) bar
binary_word s.Caret op e = rw (← Some_is e) caret
binary_word s.Plus op e = rw (← Some_is e) plus
binary_word s.Minus op e = rw (← Some_is e) minus
binary_word s.Star op e = rw (← Some_is e) star
binary_word s.Divide op e = rw (← Some_is e) divide
binary_word s.Percent op e = rw (← Some_is e) percent
binary_word _ op e = cc

pub assignment_word : (c : Sign) (op : Assignment) → assignment_of c ≡ Some op → Closed (word (assignment_text op)) (one (tk.Sign c))
assignment_word s.Assign op e = rw (← Some_is e) assign
assignment_word s.PlusAssign op e = rw (← Some_is e) plus_assign
assignment_word s.MinusAssign op e = rw (← Some_is e) minus_assign
assignment_word s.StarAssign op e = rw (← Some_is e) star_assign
assignment_word s.DivideAssign op e = rw (← Some_is e) divide_assign
assignment_word s.PercentAssign op e = rw (← Some_is e) percent_assign
assignment_word s.AmpersandAssign op e = rw (← Some_is e) ampersand_assign
assignment_word s.BarAssign op e = rw (← Some_is e) bar_assign
assignment_word s.CaretAssign op e = rw (← Some_is e) caret_assign
assignment_word s.ShiftLeftAssign op e = rw (← Some_is e) shift_left_assign
assignment_word s.ShiftRightAssign op e = rw (← Some_is e) shift_right_assign
assignment_word s.ShiftUnsignedAssign op e = rw (← Some_is e) shift_unsigned_assign
assignment_word _ op e = cc

pub operator_sign : (c : Sign) (op : Operator) → operator_of c ≡ Some op → Closed (operator_text op) (one (tk.Sign c))
operator_sign s.Plus op e = rw (← Some_is e) plus
operator_sign s.Minus op e = rw (← Some_is e) minus
operator_sign s.Star op e = rw (← Some_is e) star
operator_sign s.Divide op e = rw (← Some_is e) divide
operator_sign s.Percent op e = rw (← Some_is e) percent
operator_sign s.Ampersand op e = rw (← Some_is e) ampersand
operator_sign s.Bar op e = rw (← Some_is e) bar
operator_sign s.Caret op e = rw (← Some_is e) caret
operator_sign s.ShiftLeft op e = rw (← Some_is e) shift_left
operator_sign s.ShiftRight op e = rw (← Some_is e) shift_right
operator_sign s.ShiftUnsigned op e = rw (← Some_is e) shift_unsigned
operator_sign s.Less op e = rw (← Some_is e) less
operator_sign s.LessEqual op e = rw (← Some_is e) less_equal
operator_sign s.Greater op e = rw (← Some_is e) greater
operator_sign s.GreaterEqual op e = rw (← Some_is e) greater_equal
operator_sign s.Equal op e = rw (← Some_is e) equal
operator_sign s.Tilde op e = rw (← Some_is e) tilde
operator_sign _ op e = cc

-- ---- braces

abbrev pub in_braces : Kinds → Kinds
in_braces kinds = both (one (tk.Sign s.BraceOpen)) (both kinds (one (tk.Sign s.BraceClose)))

pub braces : {text : Text} {kinds : Kinds} → Cuts text kinds → Closed (word (codes "{") ++ (text ++ word (codes "}"))) (in_braces kinds)
braces {text = text} {kinds = kinds} x = record {
  core = 123 ∷ 32 ∷ (text ++ 125 ∷ []);
  is = ap (λ t. 123 ∷ 32 ∷ t) (sym (append_assoc text (125 ∷ []) (32 ∷ [])));
  ascii = IsAscii-append (word (codes "{")) (text ++ word (codes "}")) (ascii_is (word (codes "{")) refl) (IsAscii-append text (word (codes "}")) x.ascii (ascii_is (word (codes "}")) refl));
  cut = λ n o b rest blank. subst (λ t. Cut n o (123 ∷ 32 ∷ t) (in_braces kinds) o (b ∷ rest)) (sym (append_assoc text (125 ∷ []) (b ∷ rest)))
      (cut_then (cut_two (cut_one (tk.Sign s.BraceOpen) _ to.Takes.opens) (to.Takes.blank refl))
      (cut_then (x.cut n (open_.Brace (inside o) ∷ o) (125 ∷ b ∷ rest)) (cut_one (tk.Sign s.BraceClose) _ to.Takes.closes)));
}
