use Rattle.std.proofs.Common.{◌∙◌, ℕ, Bool, sym, ap}
use Rattle.program.specs.Program.{parts_of}
use Rattle.miss_handler.specs.Sites.{selector_of}
use Rattle.call_cell.specs.Kept.{Kept, put, with_class, site_cell}
use Rattle.call_cell.specs.Plain.{kept}
use Rattle.call_cell.proofs.Calls.{uncovered_site, missed_kept, tables_not, tables_mega}
use Rattle.call_cell.proofs.plain.PlainCells.miss.Goals as goal

pub missed_cell-cell-requires-clause-uncovered : goal.missed_cell-cell-requires-clause-uncovered
missed_cell-cell-requires-clause-uncovered c = uncovered_site (parts_of c.args.linked.now.program) (kept c.args.self.now) c.args.site.0 c.args.c.0 c.requires.uncovered

pub keep-requires-clause-uncovered : goal.keep-requires-clause-uncovered
keep-requires-clause-uncovered c = uncovered_site (parts_of c.args.linked.now.program) (kept c.args.self.now) c.args.site.0 c.args.c.0 c.requires.uncovered

pub returns-then-is_mega-clause-kept : goal.returns-then-is_mega-clause-kept
returns-then-is_mega-clause-kept c =
    let p = parts_of c.args.linked.now.program in let k : Kept = kept c.args.self.now in let s = c.args.site.0 in let cell = c.missed_cell-cell.result in
    let un = uncovered_site p k s c.args.c.0 c.requires.uncovered in
    let q = selector_of c.args.linked.now.program.sites s in
    let tables = tables_mega cell.state k.added q c.args.c.0 (sym c.is_mega.ensures ∙ c.if-is_mega.true) in
    c.add.ensures.kept ∙ ap (λ (z : Kept). record { site = z.site; added = with_class z.added q c.args.c.0 }) c.keep.ensures.kept
    ∙ ap (λ (t : ℕ → ℕ → Bool). record { site = put k.site s (site_cell cell); added = t }) (sym tables)
    ∙ sym (missed_kept p k s c.args.c.0 (site_cell cell) un c.missed_cell-cell.ensures.cell)

pub returns-else-is_mega-clause-kept : goal.returns-else-is_mega-clause-kept
returns-else-is_mega-clause-kept c =
    let p = parts_of c.args.linked.now.program in let k : Kept = kept c.args.self.now in let s = c.args.site.0 in let cell = c.missed_cell-cell.result in
    let un = uncovered_site p k s c.args.c.0 c.requires.uncovered in
    let q = selector_of c.args.linked.now.program.sites s in
    let tables = tables_not cell.state k.added q c.args.c.0 (sym c.is_mega.ensures ∙ c.if-is_mega.false) in
    c.keep.ensures.kept ∙ ap (λ (t : ℕ → ℕ → Bool). record { site = put k.site s (site_cell cell); added = t }) (sym tables)
    ∙ sym (missed_kept p k s c.args.c.0 (site_cell cell) un c.missed_cell-cell.ensures.cell)
