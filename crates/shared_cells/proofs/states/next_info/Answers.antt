use Rattle.shared_cells.proofs.Names.{next_lawful}
use Rattle.shared_cells.proofs.states.next_info.Goals as goal

pub target_of-requires-clause-lawful : goal.target_of-requires-clause-lawful
target_of-requires-clause-lawful c = next_lawful c.args.linked.now c.args.site.0 c.args.class.0 c.args.state c.next_by-state.result c.requires.concrete c.requires.lawful c.next_by-state.ensures
