use Rattle.std.proofs.Common.{length, sym, refl, ap}
use Rattle.std.proofs.lemmas.Option.{slice_get_read}
use Rattle.miss_handler.specs.States.{SiteCell}
use Rattle.call_cell.proofs.Hits.{within, site_here}
use Rattle.call_cell.proofs.dispatch.PlainCellsSiteStates.row.Goals as goal

pub returns : goal.returns
returns c =
    let cells = c.args.self.now.cells.items in let tables = c.args.self.now.tables.items in let made = c.args.self.now.linked.value in let s = c.args.site.0 in
    let inside = within made made cells tables refl c.args.self.now.sound s c.requires in
    sym (ap (λ (z : SiteCell). z.row) (site_here cells s c.index.result.now (slice_get_read cells (length cells) s c.index.result.now refl inside c.index.ensures)))
