use Rattle.std.proofs.Common.{◌≡◌, ℕ, ◌<◌, length, slice_index, arith, sym, ◌∙◌}
use Rattle.class_table.specs.Rows.{row_of}
use Rattle.class_table.proofs.Ways.{joined_next, joined_all, row_is}
use Rattle.class_table.proofs.rows.joined.Goals as goal

pub loop-e-preserved : goal.loop-e-preserved
loop-e-preserved c =
    let e : ℕ = slice_index c.args.supers.now c.loop-e.e-index in
    let within : e < length c.args.rows.now = c.requires.within c.loop-e.e-index 0 c.loop-e-test.true in
    let row : row_of c.args.rows.now e ≡ c.index-rows-e.result = row_is c.args.rows.now e c.index-rows-e.result within c.index-rows-e.is in
    record {
      same = c.add_all.ensures.same ∙ c.loop-e.invariant.same;
      each = joined_next c.args.rows.now c.args.supers.now c.loop-e.words.items c.add_all.new.words.items c.as_slice.result.now c.args.c c.loop-e.e-index c.loop-e-test.true (row ∙ sym c.as_slice.ensures) c.add_all.ensures.bits c.loop-e.invariant.each;
    }

pub returns-clause-each : goal.returns-clause-each
returns-clause-each c = joined_all c.args.rows.now c.args.supers.now c.loop-e.words.items c.from_vec.result c.args.c c.loop-e.e-index (omega arith) c.from_vec.ensures c.loop-e.invariant.each
