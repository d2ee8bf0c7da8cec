use Rattle.std.proofs.Common.{◌≡◌, ◌*◌, length, rules}
use Rattle.call_cell.proofs.Hits.{first_sound, first_kept}
use Rattle.call_cell.proofs.plain.PlainCells.build.Goals as goal

pub invariant_of-result : goal.invariant_of-result
invariant_of-result c =
    let sites : c.len-3.result ≡ length c.args.linked.now.program.sites = search rules in
    let entries : c.len.result * c.len-2.result ≡ length c.args.linked.now.program.selectors * length c.args.linked.now.program.classes = search rules in
    record { sound = first_sound c.args.linked.now c.of.result.value _ _ c.in_ok-cells.cells.items c.in_ok-tables.tables.items c.of.ensures c.in_ok-cells.ensures c.in_ok-tables.ensures sites entries }

pub returns-clause-new : goal.returns-clause-new
returns-clause-new c = first_kept _ _ _ c.in_ok-cells.cells.items c.in_ok-tables.tables.items c.in_ok-cells.ensures c.in_ok-tables.ensures
