-- What the piece of a string before others ends in.
use Rattle.std.proofs.Common.{◌≡◌, false, List, [], ◌∷◌, map, length, ◌==◌, refl, codes}
use Rattle.dart_syntax.specs.declared.tree.Expr.{Expr}
use Rattle.dart_syntax.specs.declared.tree.Piece.{Piece}
use Rattle.dart_syntax.specs.Syntax.{pieces}
use Rattle.dart_syntax.specs.View.{piece}
use Rattle.dart_syntax.specs.Text.{closing}

pub closing_some : (xs : List (Piece Expr)) → false ≡ (length xs == 0) → closing (pieces (map piece xs)) ≡ codes "${"
closing_some [] h = cc
closing_some (x ∷ xs) h = refl
