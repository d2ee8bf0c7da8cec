use Rattle.std.proofs.Common.{ℕ, ◌+◌, ◌==◌, subst}
use mathlib.Core.Option.{none}
use prog.Atomic.{either}
use Rattle.atomic_table.specs.Table.{step, Allows}
use Rattle.mega_cache.specs.Region.{About, Ruled}
use Rattle.mega_cache.specs.Told.{root_raised}
use Rattle.mega_cache.proofs.Keeps.{raise_keeps}
use Rattle.mega_cache.proofs.Reading.{root_rose}
use Rattle.mega_cache.proofs.Tables.{root_at, root_inside}
use Rattle.mega_cache.proofs.steps.raise_root.Goals as goal

pub compare_exchange-found-requires : goal.compare_exchange-found-requires
compare_exchange-found-requires g c =
    let p = g.N.Named.about in let e = g.N.Named.selector in let n = c.requires.named in let r = c.requires.reach in let t = c.args.table.now in let z = t.table.shared.table_id.slots in let s = c.args.seat.now in let sel : ℕ = c.args.selector.0 in let k : ℕ = c.args.generation in (
      r.0,
      root_inside p e t sel n r.1,
      subst (λ (y : About × ℕ). Allows (Ruled y.0) z s.id s.me y.1 (λ m. either (m == k) (k + 1) m) (root_raised p e (step z y.1 k (k + 1) none) s.me)) (λ j. (n.0 j, root_at p e t sel n j)) (raise_keeps p z s.id s.me e c.args.class k r.1 c.requires.class c.requires.full),
    )

pub returns-else-found-old-clause-rose : goal.returns-else-found-old-clause-rose
returns-else-found-old-clause-rose g c = root_rose g.N.Named.about g.N.Named.selector c.args.generation c.compare_exchange-found.result c.args.seat.now c.compare_exchange-found.new.seat (c.compare_exchange-found.ensures.2.2 c.if-found-old.false) c.requires.root.2 c.if-found-old.false
