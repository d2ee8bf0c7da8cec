use Rattle.std.proofs.Common.{◌∙◌, arith}
use Rattle.mega_cache.proofs.Windows.{next_before, stands_at}
use Rattle.mega_cache.proofs.insert.settle.Goals as goal

pub stand-stands-requires-clause-root : goal.stand-stands-requires-clause-root
stand-stands-requires-clause-root g c = let r = c.requires.root in (r.0, r.1, c.loop-turn.invariant.later _ r.2)

pub returns-then-stands-entry-clause-later : goal.returns-then-stands-entry-clause-later
returns-then-stands-entry-clause-later g c s h = c.stand-stands.ensures.later s (c.loop-turn.invariant.later s h)

pub returns-then-stands-entry-clause-settled : goal.returns-then-stands-entry-clause-settled
returns-then-stands-entry-clause-settled g c = stands_at g.N.Named.selector c.args.entry.class.0 c.args.generation c.loop-turn.turn c.stand-stands.result c.stand-stands.new.seat.me.0 c.if-stands-entry.true c.stand-stands.ensures.stands

pub loop-turn-preserved : goal.loop-turn-preserved
loop-turn-preserved g c =
    let i = c.loop-turn.invariant in let f = c.stand-stands.ensures in let a = f.cost in let b = i.cost in record {
      same = (f.same.0 ∙ i.same.0, f.same.1 ∙ i.same.1, f.same.2 ∙ i.same.2);
      reach = (f.same.0 ∙ i.reach.0, i.reach.1);
      later = λ s h. f.later s (i.later s h);
      before = next_before g.N.Named.selector c.args.entry.class.0 c.args.generation c.loop-turn.turn c.stand-stands.result c.loop-turn.seat.me.0 c.stand-stands.new.seat.me.0 f.later f.stands i.before c.if-stands-entry.false;
      cost = omega arith;
    }
