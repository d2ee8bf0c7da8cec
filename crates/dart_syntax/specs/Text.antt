-- The canonical text of a tree: its tokens with one space between them, and a line feed at the end.
use Rattle.std.specs.Prelude.{ℕ, ℤ, ◌+◌, ◌-◌, ◌/◌, ◌%◌, Bool, true, false, not, ◌&&◌, ◌==◌, nat_lt, nat_le, pos, negsuc, if◌then◌else◌, List, [], ◌∷◌, ◌++◌, flat_map, take, length, Option, Some, None, codes}
use Rattle.std.specs.Fmt.{decimal, digits}
use Rattle.dart_syntax.specs.declared.tree.Name.{Name}
use Rattle.dart_syntax.specs.declared.tree.Unary.{Unary}
use Rattle.dart_syntax.specs.declared.tree.Unary.TheVariants as unary_
use Rattle.dart_syntax.specs.declared.tree.Binary.{Binary}
use Rattle.dart_syntax.specs.declared.tree.Binary.TheVariants as binary_
use Rattle.dart_syntax.specs.declared.tree.Step.{Step}
use Rattle.dart_syntax.specs.declared.tree.Step.TheVariants as step_
use Rattle.dart_syntax.specs.declared.tree.Assignment.{Assignment}
use Rattle.dart_syntax.specs.declared.tree.Assignment.TheVariants as assignment_
use Rattle.dart_syntax.specs.declared.tree.Operator.{Operator}
use Rattle.dart_syntax.specs.declared.tree.Operator.TheVariants as operator_
use Rattle.dart_syntax.specs.Derivation.{same_text}
use Rattle.dart_syntax.specs.Syntax as tree
use Rattle.dart_syntax.specs.Syntax.{Exp, Exps, Pieces, Links, Selectors, Selector, Local, First, Sta, Stas, Param, Body, Member, Passed, Function, ClassDecl, Top, Tree}

-- a token, and the space behind it
abbrev pub word : List ℕ → List ℕ
word token = token ++ 32 ∷ []

-- ---- numbers and strings

-- Decimal, and what is negative in hexadecimal as 64 bits, which are sixteen digits.
abbrev pub int_text : ℤ → List ℕ
int_text (pos n) = decimal n
int_text (negsuc n) = codes "0x" ++ digits 16 true (18446744073709551615 - n)

-- a hexadecimal digit
abbrev pub digit : ℕ → ℕ
digit d = if nat_lt d 10 then 48 + d else 55 + d

-- ASCII from the space to `~`, but `$`, `'` and the backslash
abbrev pub is_plain : ℕ → Bool
is_plain u = nat_le 32 u && nat_le u 126 && not (u == 36) && not (u == 39) && not (u == 92)

-- a unit of a string: itself, or `\u` and four digits
abbrev pub unit_text : ℕ → List ℕ
unit_text u = if is_plain u then u ∷ [] else 92 ∷ 117 ∷ digit (u / 4096 % 16) ∷ digit (u / 256 % 16) ∷ digit (u / 16 % 16) ∷ digit (u % 16) ∷ []

-- the units of a string, without its quotes
abbrev pub units_text : List ℕ → List ℕ
units_text = flat_map unit_text

-- ---- operators

-- the sign before its operand
abbrev pub unary_text : Unary → List ℕ
unary_text unary_.Minus = codes "-"
unary_text unary_.Not = codes "!"
unary_text unary_.Complement = codes "~"

-- the sign that adds or takes one
abbrev pub step_text : Step → List ℕ
step_text step_.Increment = codes "++"
step_text step_.Decrement = codes "--"

-- the sign between two operands
abbrev pub binary_text : Binary → List ℕ
binary_text binary_.Or = codes "||"
binary_text binary_.And = codes "&&"
binary_text binary_.Equal = codes "=="
binary_text binary_.NotEqual = codes "!="
binary_text binary_.Less = codes "<"
binary_text binary_.LessEqual = codes "<="
binary_text binary_.Greater = codes ">"
binary_text binary_.GreaterEqual = codes ">="
binary_text binary_.BitOr = codes "|"
binary_text binary_.BitXor = codes "^"
binary_text binary_.BitAnd = codes "&"
binary_text binary_.ShiftLeft = codes "<<"
binary_text binary_.ShiftRight = codes ">>"
binary_text binary_.ShiftUnsigned = codes ">>>"
binary_text binary_.Add = codes "+"
binary_text binary_.Subtract = codes "-"
binary_text binary_.Multiply = codes "*"
binary_text binary_.Divide = codes "~/"
binary_text binary_.Remainder = codes "%"

-- the sign of an assignment, alone or with an operator
abbrev pub assignment_text : Assignment → List ℕ
assignment_text assignment_.Plain = codes "="
assignment_text assignment_.Add = codes "+="
assignment_text assignment_.Subtract = codes "-="
assignment_text assignment_.Multiply = codes "*="
assignment_text assignment_.Divide = codes "~/="
assignment_text assignment_.Remainder = codes "%="
assignment_text assignment_.BitAnd = codes "&="
assignment_text assignment_.BitOr = codes "|="
assignment_text assignment_.BitXor = codes "^="
assignment_text assignment_.ShiftLeft = codes "<<="
assignment_text assignment_.ShiftRight = codes ">>="
assignment_text assignment_.ShiftUnsigned = codes ">>>="

-- the tokens of an operator that a class declares
abbrev pub operator_text : Operator → List ℕ
operator_text operator_.Add = word (codes "+")
operator_text operator_.Subtract = word (codes "-")
operator_text operator_.Multiply = word (codes "*")
operator_text operator_.Divide = word (codes "~/")
operator_text operator_.Remainder = word (codes "%")
operator_text operator_.BitAnd = word (codes "&")
operator_text operator_.BitOr = word (codes "|")
operator_text operator_.BitXor = word (codes "^")
operator_text operator_.ShiftLeft = word (codes "<<")
operator_text operator_.ShiftRight = word (codes ">>")
operator_text operator_.ShiftUnsigned = word (codes ">>>")
operator_text operator_.Less = word (codes "<")
operator_text operator_.LessEqual = word (codes "<=")
operator_text operator_.Greater = word (codes ">")
operator_text operator_.GreaterEqual = word (codes ">=")
operator_text operator_.Equal = word (codes "==")
operator_text operator_.Complement = word (codes "~")
operator_text operator_.Get = word (codes "[") ++ word (codes "]")
operator_text operator_.Set = word (codes "[") ++ (word (codes "]") ++ word (codes "="))

-- ---- expressions

-- what a piece of a string ends in: the next interpolation, or the end of the string
abbrev pub closing : Pieces → List ℕ
closing tree.no_piece = codes "'"
closing (tree.piece x units at more) = codes "${"

abbrev mutual
  pub exp_text : Exp → List ℕ
  exp_text (tree.null at) = word (codes "null")
  exp_text (tree.bool true at) = word (codes "true")
  exp_text (tree.bool false at) = word (codes "false")
  exp_text (tree.int n at) = word (int_text n)
  exp_text (tree.min_int at) = word (codes "9223372036854775808")
  exp_text (tree.this at) = word (codes "this")
  exp_text (tree.str units at) = word (codes "'" ++ (units_text units ++ codes "'"))
  exp_text (tree.joined units at more) = word (codes "'" ++ (units_text units ++ closing more)) ++ pieces_text more
  exp_text (tree.bare name) = word name.text
  exp_text (tree.call name args) = word name.text ++ (word (codes "(") ++ (exps_text args ++ word (codes ")")))
  exp_text (tree.super_get at name) = word (codes "super") ++ (word (codes ".") ++ word name.text)
  exp_text (tree.super_call at name args) = word (codes "super") ++ (word (codes ".") ++ (word name.text ++ (word (codes "(") ++ (exps_text args ++ word (codes ")")))))
  exp_text (tree.paren x) = word (codes "(") ++ (exp_text x ++ word (codes ")"))
  exp_text (tree.list at items) = word (codes "[") ++ (exps_text items ++ word (codes "]"))
  exp_text (tree.postfix x more) = exp_text x ++ selectors_text more
  exp_text (tree.step true op at x) = word (step_text op) ++ exp_text x
  exp_text (tree.step false op at x) = exp_text x ++ word (step_text op)
  exp_text (tree.unary op at x) = word (unary_text op) ++ exp_text x
  exp_text (tree.chain x more) = exp_text x ++ links_text more
  exp_text (tree.is x false at name) = exp_text x ++ (word (codes "is") ++ word name.text)
  exp_text (tree.is x true at name) = exp_text x ++ (word (codes "is") ++ (word (codes "!") ++ word name.text))
  exp_text (tree.choice x y z) = exp_text x ++ (word (codes "?") ++ (exp_text y ++ (word (codes ":") ++ exp_text z)))
  exp_text (tree.assign x op at y) = exp_text x ++ (word (assignment_text op) ++ exp_text y)
  exp_text (tree.throw at x) = word (codes "throw") ++ exp_text x

  -- with commas between
  pub exps_text : Exps → List ℕ
  exps_text tree.no_more = []
  exps_text (tree.also x more) = exp_text x ++ more_text more

  -- each with a comma before it
  pub more_text : Exps → List ℕ
  more_text tree.no_more = []
  more_text (tree.also x more) = word (codes ",") ++ (exp_text x ++ more_text more)

  pub pieces_text : Pieces → List ℕ
  pieces_text tree.no_piece = []
  pieces_text (tree.piece x units at more) = exp_text x ++ (word (codes "}" ++ (units_text units ++ closing more)) ++ pieces_text more)

  pub links_text : Links → List ℕ
  links_text tree.no_link = []
  links_text (tree.link op at x more) = word (binary_text op) ++ (exp_text x ++ links_text more)

  pub selectors_text : Selectors → List ℕ
  selectors_text tree.no_selector = []
  selectors_text (tree.select x more) = selector_text x ++ selectors_text more

  pub selector_text : Selector → List ℕ
  selector_text (tree.get name) = word (codes ".") ++ word name.text
  selector_text (tree.send name args) = word (codes ".") ++ (word name.text ++ (word (codes "(") ++ (exps_text args ++ word (codes ")"))))
  selector_text (tree.index at x) = word (codes "[") ++ (exp_text x ++ word (codes "]"))

-- ---- statements

-- an expression that may be missing: the condition of a `for`, or what `return` answers
abbrev pub option_text : Option Exp → List ℕ
option_text None = []
option_text (Some x) = exp_text x

-- the first value of a variable, if it has one
abbrev pub value_text : Option Exp → List ℕ
value_text None = []
value_text (Some x) = word (codes "=") ++ exp_text x

-- the word that begins a variable
abbrev pub variable_word : Bool → List ℕ
variable_word true = word (codes "final")
variable_word false = word (codes "var")

-- a local, a field or a top-level variable
abbrev pub local_text : Local → List ℕ
local_text l = variable_word l.is_final ++ (word l.name.text ++ (value_text l.value ++ word (codes ";")))

-- the first part of a `for`, with its `;`
abbrev pub first_text : First → List ℕ
first_text tree.nothing = word (codes ";")
first_text (tree.local_first l) = local_text l
first_text (tree.run_first x) = exp_text x ++ word (codes ";")

-- in parentheses
abbrev pub test_text : Exp → List ℕ
test_text x = word (codes "(") ++ (exp_text x ++ word (codes ")"))

abbrev mutual
  pub sta_text : Sta → List ℕ
  sta_text (tree.block all) = word (codes "{") ++ (stas_text all ++ word (codes "}"))
  sta_text (tree.local l) = local_text l
  sta_text (tree.run x) = exp_text x ++ word (codes ";")
  sta_text tree.empty = word (codes ";")
  sta_text (tree.when x y) = word (codes "if") ++ (test_text x ++ sta_text y)
  sta_text (tree.when_else x y z) = word (codes "if") ++ (test_text x ++ (sta_text y ++ (word (codes "else") ++ sta_text z)))
  sta_text (tree.while x y) = word (codes "while") ++ (test_text x ++ sta_text y)
  sta_text (tree.do_while y x) = word (codes "do") ++ (sta_text y ++ (word (codes "while") ++ (test_text x ++ word (codes ";"))))
  sta_text (tree.for f x ys z) = word (codes "for") ++ (word (codes "(") ++ (first_text f ++ (option_text x ++ (word (codes ";") ++ (exps_text ys ++ (word (codes ")") ++ sta_text z))))))
  sta_text (tree.break at) = word (codes "break") ++ word (codes ";")
  sta_text (tree.continue at) = word (codes "continue") ++ word (codes ";")
  sta_text (tree.return at x) = word (codes "return") ++ (option_text x ++ word (codes ";"))

  pub stas_text : Stas → List ℕ
  stas_text tree.done = []
  stas_text (tree.next x more) = sta_text x ++ stas_text more

-- ---- declarations

-- each with a comma before it
abbrev pub commas : {A : Type 0} → (A → List ℕ) → List A → List ℕ
commas f [] = []
commas f (x ∷ xs) = word (codes ",") ++ (f x ++ commas f xs)

-- with commas between
abbrev pub listed : {A : Type 0} → (A → List ℕ) → List A → List ℕ
listed f [] = []
listed f (x ∷ xs) = f x ++ commas f xs

abbrev pub name_text : Name → List ℕ
name_text name = word name.text

-- A parameter that a call need not give has no text yet.
abbrev pub param_text : Param → List ℕ
param_text p = (if p.is_final then word (codes "final") else []) ++ ((if p.is_field then word (codes "this") ++ word (codes ".") else []) ++ word p.name.text)

-- in parentheses
abbrev pub params_text : List Param → List ℕ
params_text ps = word (codes "(") ++ (listed param_text ps ++ word (codes ")"))

-- in braces
abbrev pub block_text : Stas → List ℕ
block_text all = word (codes "{") ++ (stas_text all ++ word (codes "}"))

-- an arrow with its `;`, or a block
abbrev pub body_text : Body → List ℕ
body_text (tree.arrow x) = word (codes "=>") ++ (exp_text x ++ word (codes ";"))
body_text (tree.code all) = block_text all

-- a member's body, or `;` where it has none
abbrev pub some_body_text : Option Body → List ℕ
some_body_text None = word (codes ";")
some_body_text (Some b) = body_text b

-- a constructor's block, or `;` where it has none
abbrev pub some_block_text : Option Stas → List ℕ
some_block_text None = word (codes ";")
some_block_text (Some all) = block_text all

-- what a constructor passes to its superclass
abbrev pub passed_text : Option Passed → List ℕ
passed_text None = []
passed_text (Some p) = word (codes ":") ++ (word (codes "super") ++ (word (codes "(") ++ (exps_text p.args ++ word (codes ")"))))

-- A method that has its class's own name begins with `void`.
abbrev pub member_text : List ℕ → Member → List ℕ
member_text class (tree.field l) = local_text l
member_text class (tree.method name ps b) = (if same_text name.text class then word (codes "void") else []) ++ (word name.text ++ (params_text ps ++ some_body_text b))
member_text class (tree.getter name b) = word (codes "get") ++ (word name.text ++ some_body_text b)
member_text class (tree.setter name p b) = word (codes "set") ++ (word name.text ++ (word (codes "(") ++ (param_text p ++ (word (codes ")") ++ some_body_text b))))
member_text class (tree.operator op at ps b) = word (codes "operator") ++ (operator_text op ++ (params_text ps ++ some_body_text b))
member_text class (tree.constructor name ps args b) = word name.text ++ (params_text ps ++ (passed_text args ++ some_block_text b))

-- what a class's head says of its superclass
abbrev pub parent_text : Option Name → List ℕ
parent_text None = []
parent_text (Some name) = word (codes "extends") ++ word name.text

-- what a class's head says of its interfaces
abbrev pub interfaces_text : List Name → List ℕ
interfaces_text [] = []
interfaces_text (x ∷ xs) = word (codes "implements") ++ listed name_text (x ∷ xs)

-- a class with its members in order
abbrev pub class_text : ClassDecl → List ℕ
class_text c = (if c.is_abstract then word (codes "abstract") else []) ++ (word (codes "class") ++ (word c.name.text ++ (parent_text c.parent ++ (interfaces_text c.interfaces
    ++ (word (codes "{") ++ (flat_map (member_text c.name.text) c.members ++ word (codes "}")))))))

-- what stands before a function that may be entered
abbrev pub entry_text : List ℕ
entry_text = word (codes "@") ++ (word (codes "pragma") ++ (word (codes "(") ++ (word (codes "'vm:entry-point'") ++ word (codes ")"))))

-- a function, behind its mark where it is an entry
abbrev pub function_text : Function → List ℕ
function_text f = (if f.is_entry then entry_text else []) ++ (word f.name.text ++ (params_text f.params ++ body_text f.body))

-- a declaration, whatever it declares
abbrev pub top_text : Top → List ℕ
top_text (tree.a_class c) = class_text c
top_text (tree.a_function f) = function_text f
top_text (tree.a_variable l) = local_text l

-- a line feed in place of the last space
abbrev pub line : List ℕ → List ℕ
line words = take (length words - 1) words ++ 10 ∷ []

-- the whole tree as one line
abbrev pub text : Tree → List ℕ
text t = line (flat_map top_text t.tops)
