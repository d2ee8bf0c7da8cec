use Rattle.shared_cells.proofs.Names.{looked_up}
use Rattle.shared_cells.proofs.states.resolve.Goals as goal

pub returns : goal.returns
returns c = looked_up c.args.linked.now c.args.site.0 c.args.class.0 _ _ c.target_of.ensures c.selector_at.ensures.selector
