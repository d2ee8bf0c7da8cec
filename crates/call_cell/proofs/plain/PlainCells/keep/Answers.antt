use Rattle.std.proofs.Common.{length, slice_index_or}
use Rattle.std.proofs.lemmas.Option.{slice_get-get_or}
use Rattle.call_cell.proofs.Hits.{within, made_cell, put_now}
use Rattle.call_cell.proofs.plain.PlainCells.keep.Goals as goal

pub invariant_of-self : goal.invariant_of-self
invariant_of-self c =
    let cells = c.args.self.now.cells.items in let tables = c.args.self.now.tables.items in let made = c.args.self.now.linked.value in let linked = c.args.linked.now in let s = c.args.site.0 in
    let inside = within made linked cells tables c.requires.made c.args.self.now.sound s c.requires.site in
    record { sound = made_cell made linked cells tables c.requires.made c.args.self.now.sound s c.args.cell (slice_index_or cells s c.args.cell) c.args.c.0 (slice_get-get_or cells s c.args.cell inside) inside c.requires.concrete c.requires.uncovered c.requires.cell c.requires.target }

pub returns-clause-kept : goal.returns-clause-kept
returns-clause-kept c =
    let cells = c.args.self.now.cells.items in let tables = c.args.self.now.tables.items in let made = c.args.self.now.linked.value in let linked = c.args.linked.now in let s = c.args.site.0 in
    put_now (length made.program.classes) cells tables s c.args.cell (within made linked cells tables c.requires.made c.args.self.now.sound s c.requires.site)
