use Rattle.std.proofs.Common.{◌<◌, ℕ, IfSome, length, sym, ◌∙◌, subst}
use Rattle.program.specs.Program.{parts_of}
use Rattle.miss_handler.specs.States.{Receivers, checks_of}
use Rattle.miss_handler.specs.Sites.{receivers_at}
use Rattle.miss_handler.proofs.Places.{classes_at}
use Rattle.call_cell.proofs.Rows.{first_there, first_fits, second_there, second_fits, row_with_none, both_added}
use Rattle.call_cell.proofs.cell.row_after.Goals as goal

pub row_with-row-requires-clause-class : goal.row_with-row-requires-clause-class
row_with-row-requires-clause-class c =
    let r : Receivers = receivers_at c.args.linked.now c.args.site.0 in
    subst (λ (n : ℕ). IfSome c.args.advance.add_first (λ k. k.0 < n)) (classes_at (parts_of c.args.linked.now.program) c.args.site.0)
    (first_there r (checks_of c.args.row) c.args.advance.add_first c.args.advance.add_second (c.requires.room (sym c.is_mega.ensures ∙ c.if-is_mega.false)))

pub row_with-row-requires-clause-room : goal.row_with-row-requires-clause-room
row_with-row-requires-clause-room c =
    first_fits (receivers_at c.args.linked.now c.args.site.0) (checks_of c.args.row) c.args.advance.add_first c.args.advance.add_second (c.requires.room (sym c.is_mega.ensures ∙ c.if-is_mega.false))

pub row_with-requires-clause-class : goal.row_with-requires-clause-class
row_with-requires-clause-class c =
    let r : Receivers = receivers_at c.args.linked.now c.args.site.0 in
    subst (λ (n : ℕ). IfSome c.args.advance.add_second (λ k. k.0 < n)) (classes_at (parts_of c.args.linked.now.program) c.args.site.0)
    (second_there r (checks_of c.args.row) c.args.advance.add_first c.args.advance.add_second (c.requires.room (sym c.is_mega.ensures ∙ c.if-is_mega.false)))

pub row_with-requires-clause-room : goal.row_with-requires-clause-room
row_with-requires-clause-room c =
    subst (λ l. IfSome c.args.advance.add_second (λ k. length l < 4)) (sym c.row_with-row.ensures)
    (second_fits (receivers_at c.args.linked.now c.args.site.0) (checks_of c.args.row) c.args.advance.add_first c.args.advance.add_second (c.requires.room (sym c.is_mega.ensures ∙ c.if-is_mega.false)))

pub returns-then-is_mega : goal.returns-then-is_mega
returns-then-is_mega c =
    let r : Receivers = receivers_at c.args.linked.now c.args.site.0 in
    sym (row_with_none c.args.advance.state (checks_of c.args.row) _ (sym c.is_mega.ensures ∙ c.if-is_mega.true))

pub returns : goal.returns
returns c =
    both_added (receivers_at c.args.linked.now c.args.site.0) (checks_of c.args.row) c.args.advance _ _ (sym c.is_mega.ensures ∙ c.if-is_mega.false) c.row_with-row.ensures c.row_with.ensures
