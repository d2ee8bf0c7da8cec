use Rattle.std.proofs.Common.{sym, ◌∙◌}
use Rattle.dart_syntax.specs.View.{class}
use Rattle.class_chains.specs.Ranking.{is_above_itself_by}
use Rattle.declaration_rules.specs.Finding.{found_in}
use Rattle.class_chains.proofs.Falling.{not_earlier}
use Rattle.class_chains.proofs.cycles.Hierarchy.next_cycle.Goals as goal

pub returns-then-not-is_earlier : goal.returns-then-not-is_earlier
returns-then-not-is_earlier c =
    not_earlier c.args.at (is_above_itself_by c.args.self.now.most (found_in c.args.self.now.known) (class c.args.c.now)) c.args.c.now.name.span (sym c.is_earlier.ensures ∙ c.if-not-is_earlier.true)
