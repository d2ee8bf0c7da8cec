use Rattle.shared_cells.proofs.Names.{lawful_named}
use Rattle.shared_cells.proofs.states.next_by.Goals as goal

pub next-requires-clause-named : goal.next-requires-clause-named
next-requires-clause-named g c = lawful_named c.args.linked.now c.args.site.0 c.args.state c.requires.lawful
