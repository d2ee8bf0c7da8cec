use Rattle.std.proofs.Common.{◌≡◌, drop, map}
use Rattle.dart_syntax.specs.Syntax.{exps, pieces, links, selectors}
use Rattle.dart_syntax.specs.View.{exp, piece, link, selector}
use Rattle.program.specs.Bodies as c
use Rattle.dart_meaning.specs.Numbering as num
use Rattle.body_numbers.specs.Views.{piece_of, call_of, link_of}
use Rattle.body_numbers.specs.Assigned.{named_last}
use Rattle.body_numbers.proofs.Lists.{with_exps, with_pieces, with_calls, with_links, left}
use Rattle.body_numbers.proofs.exprs.+numbering.Given as goal

abbrev pub invariant-expressions-loop-e : goal.invariant-expressions-loop-e
invariant-expressions-loop-e g l =
    let rest = num.exps (g.N.Numbers.tree l.numbers) (g.N.Numbers.site_of l.numbers) (g.N.Numbers.here l.numbers) l.slots in
    with_exps (map c.exp l.found) (rest (exps (map exp (drop l.e-index l.all)))) ≡ rest (exps (map exp l.all))

abbrev pub invariant-interpolations-loop-piece : goal.invariant-interpolations-loop-piece
invariant-interpolations-loop-piece g l =
    let rest = num.pieces (g.N.Numbers.tree l.numbers) (g.N.Numbers.site_of l.numbers) (g.N.Numbers.here l.numbers) l.slots in
    with_pieces (map piece_of l.found) (rest l.at (pieces (map piece (drop l.piece-index l.all)))) ≡ rest l.fn.first (pieces (map piece l.all))

abbrev pub invariant-operations-loop-link : goal.invariant-operations-loop-link
invariant-operations-loop-link g l =
    let rest = num.links (g.N.Numbers.tree l.numbers) (g.N.Numbers.site_of l.numbers) (g.N.Numbers.here l.numbers) l.slots in
    with_links (map link_of l.found) (rest (links (map link (drop l.link-index l.all)))) ≡ rest (links (map link l.all))

abbrev pub invariant-selected-loop-s : goal.invariant-selected-loop-s
invariant-selected-loop-s g l =
    let rest = num.selected (g.N.Numbers.tree l.numbers) (g.N.Numbers.site_of l.numbers) (g.N.Numbers.here l.numbers) l.slots in
    with_calls (map call_of l.found) (rest (selectors (map selector (drop l.s-index l.all)))) ≡ rest (selectors (map selector l.all))

abbrev pub invariant-last_of-loop-i : goal.invariant-last_of-loop-i
invariant-last_of-loop-i g l =
    left (g.N.Numbers.tree l.numbers) (g.N.Numbers.site_of l.numbers) (g.N.Numbers.here l.numbers) l.slots (c.exp l.to) (map call_of l.calls) (drop l.i l.all)
    ≡ named_last (g.N.Numbers.tree l.numbers) (g.N.Numbers.site_of l.numbers) (g.N.Numbers.here l.numbers) l.slots (c.exp l.fn.to) (selectors (map selector l.all))
