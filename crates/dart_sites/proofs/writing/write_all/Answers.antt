use Rattle.std.proofs.Common.{arith, length-drop}
use Rattle.dart_sites.proofs.Told.{appends_taken, all_of_rest}
use Rattle.dart_sites.proofs.writing.write_all.Goals as goal

pub loop-done-preserved : goal.loop-done-preserved
loop-done-preserved g c =
    let piece = rw (all_of_rest c.args.text.now c.loop-done.done) at c.in-Took.ensures.bytes in
    record {
      written = appends_taken _ _ _ c.args.text.now c.loop-done.done c.in-Took.count c.loop-done.invariant.written piece.2;
      later = omega (arith, c.loop-done.invariant.later, c.write.ensures.cause.later);
      within = omega (arith, piece.1, length-drop c.loop-done.done c.args.text.now);
    }
