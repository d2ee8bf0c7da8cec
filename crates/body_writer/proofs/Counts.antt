-- How many parts a list of src/ stands for.
use Rattle.std.proofs.Common.{◌≡◌, ℕ, suc, List, [], ◌∷◌, length, map, refl, ap}
use Rattle.program.specs.declared.body.Expression.{Expression}
use Rattle.program.specs.declared.body.Piece.{Piece}
use Rattle.program.specs.Bodies.{exp, exps, count}
use Rattle.program_code.specs.Sizes.{pieces_count}
use Rattle.code_writer.specs.Views.{pieces_of}

pub count_is : (es : List Expression) → count (exps (map exp es)) ≡ length es
count_is [] = refl
count_is (e ∷ es) = ap suc (count_is es)

pub pieces_are : (ps : List (Piece Expression)) → pieces_count (pieces_of ps) ≡ length ps
pieces_are [] = refl
pieces_are (p ∷ ps) = ap suc (pieces_are ps)
