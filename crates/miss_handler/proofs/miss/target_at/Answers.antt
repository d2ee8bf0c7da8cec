use Rattle.std.proofs.Common.{length, ◌∙◌, sym, ap, arith}
use Rattle.program.specs.Lookup.{resolve}
use Rattle.program.specs.Parts.{parents}
use Rattle.program.specs.Program.{parts_of}
use Rattle.miss_handler.proofs.Places.{resolve_at, length-chain}
use Rattle.miss_handler.proofs.miss.target_at.Goals as goal

pub returns-clause-target : goal.returns-clause-target
returns-clause-target g c =
    c.resolve_target.ensures.target
    ∙ ap (resolve (parts_of c.args.linked.now.program) c.args.c.0) c.selector_at-selector.ensures.selector
    ∙ sym (resolve_at (parts_of c.args.linked.now.program) c.args.site.0 c.args.c.0)

pub returns-clause-cost : goal.returns-clause-cost
returns-clause-cost g c =
    let long = length-chain (parents c.args.linked.now.program.classes) c.args.c.0 (length c.args.linked.now.program.classes) c.requires.class in
    let cost = c.resolve_target.ensures.cost in
    omega arith
