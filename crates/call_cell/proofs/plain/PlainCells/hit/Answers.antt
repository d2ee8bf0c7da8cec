use Rattle.std.proofs.Common.{◌∙◌, slice_get, length, sym, refl, ap, arith}
use Rattle.std.proofs.lemmas.Option.{slice_get_read}
use Rattle.call_cell.proofs.Hits.{sound_now, within, told_own, told_entry}
use Rattle.call_cell.proofs.Keeps.{size}
use Rattle.call_cell.proofs.plain.PlainCells.hit.Goals as goal

pub returns-then-is_mega : goal.returns-then-is_mega
returns-then-is_mega c =
    let cells = c.args.self.now.cells.items in let tables = c.args.self.now.tables.items in let made = c.args.self.now.linked.value in let linked = c.args.linked.now in let s = c.args.site.0 in
    let inside = within made linked cells tables c.requires.made c.args.self.now.sound s c.requires.site in
    let here = slice_get_read cells (length cells) s c.index-cell.result.now refl inside c.index-cell.ensures in
    let all = size linked cells tables (sound_now made linked cells tables c.requires.made c.args.self.now.sound) in let under = c.entry_place.ensures.within in
    let found = slice_get_read tables (length tables) c.entry_place.result c.index.result.now refl (omega arith) c.index.ensures in
    told_entry made linked cells tables c.requires.made c.args.self.now.sound s c.args.c.0 c.index-cell.result.now c.index.result.now here c.requires.concrete (sym c.is_mega.ensures ∙ c.if-is_mega.true)
    (ap (slice_get tables) (sym c.entry_place.ensures.place) ∙ found)

pub returns-else-is_mega : goal.returns-else-is_mega
returns-else-is_mega c =
    let cells = c.args.self.now.cells.items in let tables = c.args.self.now.tables.items in let made = c.args.self.now.linked.value in let linked = c.args.linked.now in let s = c.args.site.0 in
    let inside = within made linked cells tables c.requires.made c.args.self.now.sound s c.requires.site in
    let here = slice_get_read cells (length cells) s c.index-cell.result.now refl inside c.index-cell.ensures in
    told_own made linked cells tables c.requires.made c.args.self.now.sound s c.args.c.0 c.index-cell.result.now c.target_for.result here c.requires.concrete (sym c.is_mega.ensures ∙ c.if-is_mega.false) (sym c.target_for.ensures)
