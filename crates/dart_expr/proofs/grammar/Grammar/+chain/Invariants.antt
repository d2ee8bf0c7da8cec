use Rattle.std.proofs.Common.{map, ◌≡◌, ◌-◌, ◌+◌, ◌*◌}
use Rattle.dart_syntax.specs.View.{exp, link as seen}
use Rattle.dart_expr.specs.Input.{many_from}
use Rattle.dart_expr.specs.Model.{expr, operand, chain, climb, link, links}
use Rattle.dart_expr.proofs.grammar.Grammar.+chain.Given as goal

abbrev pub decreases-link : goal.decreases-link
decreases-link g l = 4 * l.level

abbrev pub decreases-links : goal.decreases-links
decreases-links g l = 4 * l.level + 1

abbrev pub decreases-followed : goal.decreases-followed
decreases-followed g l = 4 * l.level + 2

abbrev pub decreases-chain : goal.decreases-chain
decreases-chain g l = 4 * l.level + 3

abbrev pub invariant-links-loop-turn : goal.invariant-links-loop-turn
invariant-links-loop-turn g l =
    links l.level (chain (expr l.self.depth) (operand l.self.depth) (l.level - 1)) l.fn.tokens
    ≡ many_from (link l.level (chain (expr l.self.depth) (operand l.self.depth) (l.level - 1))) (l._turn-end - l._turn) (map seen l.found) l.tokens

abbrev pub invariant-chain-loop-tighter : goal.invariant-chain-loop-tighter
invariant-chain-loop-tighter g l =
    chain (expr l.self.depth) (operand l.self.depth) l.level l.fn.tokens
    ≡ climb (expr l.self.depth) (operand l.self.depth) l.tighter (l.level - l.tighter) (exp l.x) l.tokens
