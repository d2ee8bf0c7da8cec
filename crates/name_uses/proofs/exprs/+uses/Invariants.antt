use Rattle.std.proofs.Common.{◌≡◌, ◌++◌, drop, map}
use Rattle.dart_syntax.specs.Syntax.{exps, pieces, links, selectors}
use Rattle.dart_syntax.specs.View.{exp, piece, link, selector}
use Rattle.name_uses.specs.Undo.{meaning}
use Rattle.dart_meaning.specs.Uses as u
use Rattle.name_uses.proofs.exprs.+uses.Given as goal

abbrev pub invariant-uses_of_all-loop-x : goal.invariant-uses_of_all-loop-x
invariant-uses_of_all-loop-x l = l.out ++ u.exps (meaning l.scope) (exps (map exp (drop l.x-index l.all))) ≡ l.initial.out ++ u.exps (meaning l.scope) (exps (map exp l.all))

abbrev pub invariant-uses_of_pieces-loop-piece : goal.invariant-uses_of_pieces-loop-piece
invariant-uses_of_pieces-loop-piece l = l.out ++ u.pieces (meaning l.scope) l.at (pieces (map piece (drop l.piece-index l.all))) ≡ l.initial.out ++ u.pieces (meaning l.scope) l.fn.first (pieces (map piece l.all))

abbrev pub invariant-uses_of_links-loop-link : goal.invariant-uses_of_links-loop-link
invariant-uses_of_links-loop-link l = l.out ++ u.links (meaning l.scope) (links (map link (drop l.link-index l.all))) ≡ l.initial.out ++ u.links (meaning l.scope) (links (map link l.all))

abbrev pub invariant-uses_of_selectors-loop-x : goal.invariant-uses_of_selectors-loop-x
invariant-uses_of_selectors-loop-x l = l.out ++ u.selectors (meaning l.scope) (selectors (map selector (drop l.x-index l.all))) ≡ l.initial.out ++ u.selectors (meaning l.scope) (selectors (map selector l.all))

abbrev pub invariant-uses_up_to_changed-loop-i : goal.invariant-uses_up_to_changed-loop-i
invariant-uses_up_to_changed-loop-i l = l.out ++ u.up_to_changed (meaning l.scope) l.reads_too (selectors (map selector (drop l.i l.all))) ≡ l.initial.out ++ u.up_to_changed (meaning l.scope) l.reads_too (selectors (map selector l.all))
