use Rattle.class_chains.specs.Ranking.{texts}
use Rattle.declaration_rules.specs.Seen.{has}
use Rattle.class_chains.proofs.Steps.{none_new, was_there}
use Rattle.class_chains.proofs.reaching.Level.add.Goals as goal

pub returns-then-not-branch-clause-any : goal.returns-then-not-branch-clause-any
returns-then-not-branch-clause-any c = λ p.
    none_new p c.args.text.now (texts c.args.self.now.names.items)
    (c.requires c.args.text.now (was_there (has c.args.self.now.seen c.args.text.now) c.in_ok-note.field-0 c.in_ok-note.ensures.fresh c.if-not-branch.true))
