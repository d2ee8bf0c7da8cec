use Rattle.std.proofs.Common.{ℕ, subst}
use mathlib.Core.Option.{none}
use Rattle.atomic_table.specs.Table.{step, Allows}
use Rattle.mega_cache.specs.Region.{About, Ruled}
use Rattle.mega_cache.specs.Told.{place_loaded, PlaceIs}
use Rattle.mega_cache.proofs.Keeps.{load_keeps}
use Rattle.mega_cache.proofs.Reading.{read, entry_form}
use Rattle.mega_cache.proofs.Tables.{place_at, place_inside, back_at}
use Rattle.mega_cache.proofs.steps.load_place.Goals as goal

pub load-found-requires : goal.load-found-requires
load-found-requires g c =
    let p = g.N.Named.about in let e = g.N.Named.selector in let n = c.requires.named in let r = c.requires.reach in let t = c.args.table.now in let z = t.table.shared.table_id.slots in let s = c.args.seat.now in let sel : ℕ = c.args.selector.0 in let f : ℕ = c.args.place in (
      r.0,
      place_inside p e t sel n f f (λ _. f) r.1 c.requires.place.1,
      subst (λ (y : About × ℕ). Allows (Ruled y.0) z s.id s.me y.1 (λ m. m) (place_loaded p e (step z y.1 0 0 none) s.me)) (λ j. (n.0 j, place_at p e t sel n f f (λ _. f) j)) (load_keeps p z s.id s.me e f r.1 c.requires.place.0 c.requires.place.1),
    )

pub unpack-requires : goal.unpack-requires
unpack-requires g c = entry_form _ _ _ _ _ _ c.load-found.ensures.2.1

pub returns-clause-told : goal.returns-clause-told
returns-clause-told g c =
    let p = g.N.Named.about in let e = g.N.Named.selector in let f : ℕ = c.args.place in let s = c.args.seat.now in let m = c.load-found.result in let w = c.load-found.new.seat in
    read p e f m s w (subst (λ (y : ℕ). PlaceIs p e y m s.me.0 w.me.0) (back_at p e c.args.table.now c.args.selector.0 c.requires.named f f (λ _. f)) c.load-found.ensures.2.1) c.unpack.result c.unpack.ensures
