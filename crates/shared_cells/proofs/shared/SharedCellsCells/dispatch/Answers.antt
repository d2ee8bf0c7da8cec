use Rattle.std.proofs.Common.{◌≤◌, List, sym, ◌∙◌, subst}
use Rattle.program.specs.Program.{parts_of}
use Rattle.miss_handler.proofs.Places.{resolve_at}
use Rattle.cell_rule.specs.declared.view.Seen.{Seen}
use Rattle.cell_rule.specs.Stamps.{data_stamp}
use Rattle.shared_cells.specs.Tables.{view_of}
use Rattle.shared_cells.proofs.Reading.{stamp_append}
use Rattle.shared_cells.proofs.shared.SharedCellsCells.dispatch.Goals as goal

pub returns-clause-target : goal.returns-clause-target
returns-clause-target g c = c.dispatch-answer.ensures.target ∙ resolve_at (parts_of c.args.linked.now.program) c.args.site.0 c.args.c.0

pub returns-clause-seen : goal.returns-clause-seen
returns-clause-seen g c = λ s. let v = view_of c.args.self.now.pass in let w = view_of c.dispatch-answer.new.self in
    subst (λ (l : List Seen). data_stamp s v.seen ≤ data_stamp s l) (sym c.dispatch-answer.ensures.after.seen) (stamp_append s w.trace v.seen)
