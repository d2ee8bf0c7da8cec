use Rattle.std.proofs.Common.{◌≡◌, ◌++◌, map, drop}
use Rattle.dart_syntax.specs.Syntax.{exps, pieces, links, selectors}
use Rattle.dart_syntax.specs.View.{exp, piece, link, selector}
use Rattle.dart_syntax.specs.Text.{exps_text, pieces_text, links_text, selectors_text}
use Rattle.dart_printer.specs.Left.{exps_left}
use Rattle.dart_printer.proofs.expr.+print.Given as goal

abbrev pub invariant-print_exprs-loop-i : goal.invariant-print_exprs-loop-i
invariant-print_exprs-loop-i l = l.out.items ++ exps_left l.i (exps (map exp (drop l.i l.all))) ≡ l.initial.out.items ++ exps_text (exps (map exp l.all))

abbrev pub invariant-print_pieces-loop-i : goal.invariant-print_pieces-loop-i
invariant-print_pieces-loop-i l = l.out.items ++ pieces_text (pieces (map piece (drop l.i l.all))) ≡ l.initial.out.items ++ pieces_text (pieces (map piece l.all))

abbrev pub invariant-print_links-loop-link : goal.invariant-print_links-loop-link
invariant-print_links-loop-link l = l.out.items ++ links_text (links (map link (drop l.link-index l.all))) ≡ l.initial.out.items ++ links_text (links (map link l.all))

abbrev pub invariant-print_selectors-loop-selector : goal.invariant-print_selectors-loop-selector
invariant-print_selectors-loop-selector l = l.out.items ++ selectors_text (selectors (map selector (drop l.selector-index l.all))) ≡ l.initial.out.items ++ selectors_text (selectors (map selector l.all))
