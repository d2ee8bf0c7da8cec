use Rattle.std.proofs.Common.{◌∙◌, arith}
use Rattle.mega_cache.proofs.Windows.{has_saw, newest}
use Rattle.mega_cache.proofs.insert.add.Goals as goal

pub returns-then-settle-clause-later : goal.returns-then-settle-clause-later
returns-then-settle-clause-later g c s h = c.settle.ensures.later s (c.generations.invariant.later s h)

pub raise_root-generation-requires-clause-root : goal.raise_root-generation-requires-clause-root
raise_root-generation-requires-clause-root g c = let r = c.generations.invariant.root in (r.0, r.1, c.settle.ensures.later _ r.2)

pub generations-preserved : goal.generations-preserved
generations-preserved g c =
    let i = c.generations.invariant in let t = c.raise_root-generation.ensures.told in let few = t.0.region.sound.few_generations in let within = t.1 in let rose = c.raise_root-generation.ensures.rose in let a = i.cost in let b = c.settle.ensures.cost in let d = c.raise_root-generation.ensures.cost in
    let s1 = c.settle.ensures.same in let s2 = c.raise_root-generation.ensures.same in record {
      same = (s2.0 ∙ (s1.0 ∙ i.same.0), s2.1 ∙ (s1.1 ∙ i.same.1), s2.2 ∙ (s1.2 ∙ i.same.2));
      reach = (s2.0 ∙ (s1.0 ∙ i.reach.0), i.reach.1);
      later = λ s h. has_saw c.settle.new.seat.me.0 c.raise_root-generation.new.seat.me.0 _ s t.2 (c.settle.ensures.later s (i.later s h));
      root = (omega arith, within, newest c.settle.new.seat.me.0 c.raise_root-generation.new.seat.me.0 _ t.2);
      cost = omega arith;
    }
