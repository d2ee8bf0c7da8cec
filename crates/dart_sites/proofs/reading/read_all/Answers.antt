use Rattle.std.proofs.Common.{sym, subst, arith, ◌++◌}
use Rattle.std.proofs.lemmas.Grind.{common_steps}
use Rattle.std.specs.Io.KnownBytes.{Consumes}
use Rattle.dart_sites.proofs.Told.{consumes_more}
use Rattle.dart_sites.proofs.reading.read_all.Goals as goal

pub loop-bytes-preserved : goal.loop-bytes-preserved
loop-bytes-preserved g c =
    let more = rw c.in-More.is at c.read_piece.ensures.says in
    record {
      taken = subst (Consumes (g.S.Source.rest c.args.source.now) (g.S.Source.rest c.read_piece.new.source)) (sym more.added)
          (consumes_more _ _ _ c.loop-bytes.bytes.items more.bytes c.loop-bytes.invariant.taken more.taken);
      later = omega (arith, c.loop-bytes.invariant.later, c.read_piece.ensures.later);
      within = grind (arith, common_steps, more.added, more.most);
      room = c.loop-bytes.invariant.room;
    }

pub returns-in-NoMemory : goal.returns-in-NoMemory
returns-in-NoMemory g c =
    let took = rw c.in-NoMemory.is at c.read_piece.ensures.says in
    record {
      read = record {
        later = omega (arith, c.loop-bytes.invariant.later, c.read_piece.ensures.later);
        within = record {
          bytes = c.loop-bytes.bytes.items ++ took.bytes;
          taken = consumes_more _ _ _ c.loop-bytes.bytes.items took.bytes c.loop-bytes.invariant.taken took.taken;
          most = grind (arith, common_steps, took.most);
        };
        says = tt;
      };
    }
