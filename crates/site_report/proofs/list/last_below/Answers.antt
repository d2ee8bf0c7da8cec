use Rattle.std.proofs.Common.{◌≡◌, subst, sym}
use Rattle.program.specs.Hierarchy.{IsLast}
use Rattle.program.specs.Parts.{parents}
use Rattle.class_table.specs.Table.{Table}
use Rattle.site_report.proofs.Walks.{last_below_is}
use Rattle.site_report.proofs.list.last_below.Goals as goal

pub returns : goal.returns
returns c =
    sym (last_below_is (parents c.args.linked.now.program.classes) c.args.c c.last_of.result.0
    (subst (λ (t : Table). IsLast t.parents c.args.c c.last_of.result.0) c.classes.ensures c.last_of.ensures))
