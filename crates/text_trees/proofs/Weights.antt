-- What uses and tokens weigh. A weight p says what a use at a place weighs, of a name or of none; a token weighs as much as a read and a write at it.
use Rattle.std.proofs.Common.{◌≡◌, ℕ, ◌+◌, ◌*◌, ◌≤◌, Bool, true, false, List, [], ◌∷◌, ◌++◌, length, Option, Some, None, refl, arith}
use Rattle.dart_syntax.specs.declared.token.Span.{Span}
use Rattle.dart_syntax.specs.declared.token.TokenKind.{TokenKind}
use Rattle.dart_syntax.specs.declared.token.TokenKind.TheVariants as tk
use Rattle.dart_syntax.specs.declared.tree.Unary.{Unary}
use Rattle.dart_syntax.specs.declared.tree.Unary.TheVariants as unary
use Rattle.program.specs.declared.body.BinaryOperator.{BinaryOperator}
use Rattle.dart_syntax.specs.Words.{Tokens}
use Rattle.dart_syntax.specs.Bytes.{Text}
use Rattle.dart_syntax.specs.Syntax.{Exp}
use Rattle.dart_meaning.specs.Uses as u
use Rattle.dart_meaning.specs.Uses.{Use, Part}
use Rattle.dart_printer.specs.ReadsBack.{ArePossible}

abbrev pub Weight : Type 0
Weight = ℕ → Option Text → ℕ

pub split : {G : Type 0} (b : Bool) → (b ≡ true → G) → (b ≡ false → G) → G
split true f g = f refl
split false f g = g refl

module _ (p : Weight) where
  abbrev pub read_weight : Span → Option Text → ℕ
  read_weight at name = p (2 * at.start) name

  abbrev pub write_weight : Span → Option Text → ℕ
  write_weight at name = p (2 * at.start + 1) name

  abbrev pub use_weight : Use → ℕ
  use_weight (u.reads n seen) = read_weight n.span (Some n.text)
  use_weight (u.writes n seen) = write_weight n.span (Some n.text)
  use_weight (u.calls n seen k) = read_weight n.span (Some n.text)
  use_weight (u.member_reads n) = read_weight n.span (Some n.text)
  use_weight (u.member_writes n) = write_weight n.span (Some n.text)
  use_weight (u.member_calls n k) = read_weight n.span (Some n.text)
  use_weight (u.index_reads at) = read_weight at None
  use_weight (u.index_writes at) = write_weight at None
  use_weight (u.operates op at) = read_weight at None
  use_weight (u.prefixes op at) = read_weight at None
  use_weight (u.shows at) = read_weight at None
  use_weight _ = 0

  abbrev pub weigh : List Use → ℕ
  weigh [] = 0
  weigh (x ∷ xs) = use_weight x + weigh xs

  abbrev pub weigh_parts : List Part → ℕ
  weigh_parts [] = 0
  weigh_parts (x ∷ xs) = weigh x.uses + weigh_parts xs

  -- an end token weighs nothing
  abbrev pub kind_weight : TokenKind → Span → ℕ
  kind_weight (tk.Name name) at = read_weight at (Some name) + write_weight at (Some name)
  kind_weight tk.End at = 0
  kind_weight _ at = read_weight at None + write_weight at None

  abbrev pub tokens : Tokens → ℕ
  tokens [] = 0
  tokens (t ∷ ts) = kind_weight t.kind t.span + tokens ts

  pub join : (xs ys : List Use) → weigh (xs ++ ys) ≡ weigh xs + weigh ys
  join [] ys = omega arith
  join (x ∷ xs) ys = omega (arith, join xs ys)

  pub join_parts : (xs ys : List Part) → weigh_parts (xs ++ ys) ≡ weigh_parts xs + weigh_parts ys
  join_parts [] ys = omega arith
  join_parts (x ∷ xs) ys = omega (arith, join_parts xs ys)

  pub join_tokens : (xs ys : Tokens) → tokens (xs ++ ys) ≡ tokens xs + tokens ys
  join_tokens [] ys = omega arith
  join_tokens (x ∷ xs) ys = omega (arith, join_tokens xs ys)

  -- what an operator before an operand, and one between two, adds
  pub prefix_weight : (op : Unary) (at : Span) (x : Exp) → weigh (u.prefix_use op at x) ≤ read_weight at None
  prefix_weight unary.Not at x = omega arith
  prefix_weight unary.Complement at x = omega arith
  prefix_weight unary.Minus at x = split (u.is_number x) (λ e. rw e (omega arith)) (λ e. rw e (omega arith))

  pub operator_weight : (op : Option BinaryOperator) (at : Span) → weigh (u.operator_use op at) ≤ read_weight at None
  operator_weight None at = omega arith
  operator_weight (Some op) at = omega arith

  pub changes_weight : (reads : Bool) (a b : Use) → weigh (u.changes reads a b) ≤ use_weight a + use_weight b
  changes_weight false a b = omega arith
  changes_weight true a b = omega arith

  -- What was read between two lists: what it weighs, how many nodes it has, what is true of it; and the tokens behind it are possible.
  pub record Fine {I : Type 0} (w : I → ℕ) (nodes : ℕ) (P : Type 0) (ts rest : Tokens) : Type 0 where
    pub weight : (i : I) → w i + tokens rest ≤ tokens ts
    pub size : nodes + 4 * length rest ≤ 4 * length ts
    pub is : P
    pub behind : ArePossible rest
