use Rattle.std.proofs.Common.{◌∙◌, length, sym, refl, ap}
use Rattle.std.proofs.lemmas.Option.{slice_get_read}
use Rattle.miss_handler.specs.States.{SiteCell, covers, missed}
use Rattle.miss_handler.specs.Sites.{receivers_at}
use Rattle.call_cell.proofs.Hits.{sound_now, within, site_here}
use Rattle.call_cell.proofs.Keeps.{named, small_stamp, room}
use Rattle.call_cell.proofs.plain.PlainCells.missed_cell.Goals as goal

pub missed-requires-clause-named : goal.missed-requires-clause-named
missed-requires-clause-named c =
    let cells = c.args.self.now.cells.items in let tables = c.args.self.now.tables.items in let made = c.args.self.now.linked.value in let linked = c.args.linked.now in let s = c.args.site.0 in
    let inside = within made linked cells tables c.requires.made c.args.self.now.sound s c.requires.site in
    named linked cells tables (sound_now made linked cells tables c.requires.made c.args.self.now.sound) s c.index.result.now (slice_get_read cells (length cells) s c.index.result.now refl inside c.index.ensures)

pub missed-requires-clause-stamp : goal.missed-requires-clause-stamp
missed-requires-clause-stamp c =
    let cells = c.args.self.now.cells.items in let tables = c.args.self.now.tables.items in let made = c.args.self.now.linked.value in let linked = c.args.linked.now in let s = c.args.site.0 in
    let inside = within made linked cells tables c.requires.made c.args.self.now.sound s c.requires.site in
    small_stamp linked cells tables (sound_now made linked cells tables c.requires.made c.args.self.now.sound) s c.index.result.now (slice_get_read cells (length cells) s c.index.result.now refl inside c.index.ensures)

pub missed-requires-clause-uncovered : goal.missed-requires-clause-uncovered
missed-requires-clause-uncovered c =
    let cells = c.args.self.now.cells.items in let tables = c.args.self.now.tables.items in let made = c.args.self.now.linked.value in let linked = c.args.linked.now in let s = c.args.site.0 in
    let inside = within made linked cells tables c.requires.made c.args.self.now.sound s c.requires.site in
    ap (λ (z : SiteCell). covers z.state z.row c.args.c.0) (sym (site_here cells s c.index.result.now (slice_get_read cells (length cells) s c.index.result.now refl inside c.index.ensures))) ∙ c.requires.uncovered

pub missed-requires-clause-room : goal.missed-requires-clause-room
missed-requires-clause-room c =
    let cells = c.args.self.now.cells.items in let tables = c.args.self.now.tables.items in let made = c.args.self.now.linked.value in let linked = c.args.linked.now in let s = c.args.site.0 in
    let inside = within made linked cells tables c.requires.made c.args.self.now.sound s c.requires.site in
    room linked cells tables (sound_now made linked cells tables c.requires.made c.args.self.now.sound) s c.index.result.now c.args.c.0 (slice_get_read cells (length cells) s c.index.result.now refl inside c.index.ensures) c.requires.concrete
    (missed-requires-clause-uncovered c)

pub returns-clause-cell : goal.returns-clause-cell
returns-clause-cell c =
    let cells = c.args.self.now.cells.items in let tables = c.args.self.now.tables.items in let made = c.args.self.now.linked.value in let linked = c.args.linked.now in let s = c.args.site.0 in
    let inside = within made linked cells tables c.requires.made c.args.self.now.sound s c.requires.site in
    c.missed.ensures.cell ∙ ap (λ z. missed (receivers_at linked s) z c.args.c.0) (sym (site_here cells s c.index.result.now (slice_get_read cells (length cells) s c.index.result.now refl inside c.index.ensures)))
