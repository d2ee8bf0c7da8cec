use Rattle.std.proofs.Common.{sym, subst}
use Rattle.std.specs.Str.{IsUtf8}
use Rattle.program.specs.Program.{parts_of}
use Rattle.class_table.proofs.Building.{name_text}
use Rattle.class_table.proofs.table.names_of.Goals as goal

pub unreachable-requires : goal.unreachable-requires
unreachable-requires c =
    let text : IsUtf8 c.class-item.result.name = name_text (parts_of c.args.program.now) c.args.program.now.sound c.as_slice-class-items.result.now c.loop-class.class-index c.class-item.result c.as_slice-class-items.ensures c.loop-class-test.true c.class-item.is in
    c.in_default.ensures.cases.0 (subst IsUtf8 (sym c.as_slice.ensures) text)
