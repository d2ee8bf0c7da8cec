use Rattle.std.proofs.Common.{subst}
use Rattle.miss_handler.specs.declared.state.CallState.TheVariants.{Mono}
use Rattle.miss_handler.specs.States.{LawfulState}
use Rattle.miss_handler.specs.Sites.{receivers_at}
use Rattle.shared_cells.proofs.Names.{lawful_named}
use Rattle.shared_cells.proofs.states.target_of.Goals as goal

pub resolve-requires-clause-class : goal.resolve-requires-clause-class
resolve-requires-clause-class c = lawful_named c.args.linked.now c.args.site.0 (Mono c.in-Mono.a) (subst (LawfulState (receivers_at c.args.linked.now c.args.site.0)) c.in-Mono.is c.requires.lawful)
