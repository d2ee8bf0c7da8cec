use Rattle.std.proofs.Common.{ap, sym, ◌∙◌}
use Rattle.dart_syntax.specs.View.{class}
use Rattle.static_rules.specs.Places.{at_if}
use Rattle.class_chains.proofs.cycles.Hierarchy.cycle_at.Goals as goal

pub returns-then-falls : goal.returns-then-falls
returns-then-falls c = sym (ap (λ b. at_if b c.args.c.now.name.span) (c.requires c.if-self.true (class c.args.c.now) (sym c.falls.ensures ∙ c.if-falls.true)))
