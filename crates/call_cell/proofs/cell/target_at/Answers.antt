use Rattle.std.proofs.Common.{◌∙◌, sym, ap}
use Rattle.program.specs.Lookup.{resolve}
use Rattle.program.specs.Program.{parts_of}
use Rattle.miss_handler.proofs.Places.{resolve_at}
use Rattle.call_cell.proofs.cell.target_at.Goals as goal

pub returns : goal.returns
returns c = let p = parts_of c.args.linked.now.program in c.target_of.ensures ∙ ap (resolve p c.args.c.0) c.selector_at.ensures.selector ∙ sym (resolve_at p c.args.site.0 c.args.c.0)
