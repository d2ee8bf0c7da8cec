use Rattle.std.proofs.Common.{ℕ, subst}
use mathlib.Core.Option.{none}
use Rattle.atomic_table.specs.Table.{step, Allows}
use Rattle.mega_cache.specs.Region.{About, Ruled}
use Rattle.mega_cache.specs.Told.{root_loaded}
use Rattle.mega_cache.proofs.Keeps.{root_keeps}
use Rattle.mega_cache.proofs.Tables.{root_at, root_inside}
use Rattle.mega_cache.proofs.steps.load_root.Goals as goal

pub load-found-requires : goal.load-found-requires
load-found-requires g c =
    let p = g.N.Named.about in let e = g.N.Named.selector in let n = c.requires.named in let r = c.requires.reach in let t = c.args.table.now in let z = t.table.shared.table_id.slots in let s = c.args.seat.now in let sel : ℕ = c.args.selector.0 in (
      r.0,
      root_inside p e t sel n r.1,
      subst (λ (y : About × ℕ). Allows (Ruled y.0) z s.id s.me y.1 (λ m. m) (root_loaded p e (step z y.1 0 0 none) s.me)) (λ j. (n.0 j, root_at p e t sel n j)) (root_keeps p z s.id s.me e r.1),
    )
