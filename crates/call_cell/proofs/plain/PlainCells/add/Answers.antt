use Rattle.std.proofs.Common.{◌∙◌, arith}
use Rattle.program.specs.Program.{parts_of}
use Rattle.miss_handler.specs.Sites.{selector_of}
use Rattle.miss_handler.proofs.Places.{resolve_at}
use Rattle.call_cell.proofs.Hits.{sound_now, made_entry, added_now}
use Rattle.call_cell.proofs.Keeps.{size}
use Rattle.call_cell.proofs.plain.PlainCells.add.Goals as goal

pub invariant_of-self : goal.invariant_of-self
invariant_of-self c =
    let cells = c.args.self.now.cells.items in let tables = c.args.self.now.tables.items in let made = c.args.self.now.linked.value in let linked = c.args.linked.now in
    let all = size linked cells tables (sound_now made linked cells tables c.requires.made c.args.self.now.sound) in let under = c.entry_place-place.ensures.within in
    record {
      sound = made_entry made linked cells tables c.requires.made c.args.self.now.sound (selector_of linked.program.sites c.args.site.0) c.args.c.0 c.entry_place-place.result c.args.target c.requires.class
          c.entry_place-place.ensures.place (omega arith) (c.requires.target ∙ resolve_at (parts_of linked.program) c.args.site.0 c.args.c.0);
    }

pub returns-clause-kept : goal.returns-clause-kept
returns-clause-kept c =
    let cells = c.args.self.now.cells.items in let tables = c.args.self.now.tables.items in let made = c.args.self.now.linked.value in let linked = c.args.linked.now in
    let all = size linked cells tables (sound_now made linked cells tables c.requires.made c.args.self.now.sound) in let under = c.entry_place-place.ensures.within in
    added_now made linked cells tables c.requires.made c.args.self.now.sound (selector_of linked.program.sites c.args.site.0) c.args.c.0 c.entry_place-place.result c.args.target c.requires.class c.entry_place-place.ensures.place (omega arith)
