use Rattle.std.proofs.Common.{◌≡◌, ◌≢◌, ℕ, ◌==◌, ◌<◌, Some, sym, ap, ◌∙◌, subst, inl}
use mathlib.Core.Option.{none}
use mathlib.Core.Logic.{dite}
use native.Mathlib.Decide.{ℕ_discrete}
use prog.Atomic.{either}
use Rattle.atomic_table.specs.Table.{step, Allows}
use Rattle.program.specs.declared.numbered.Target.{Target}
use Rattle.mega_cache.specs.Entries.{packed, method_of}
use Rattle.mega_cache.specs.Places.{window_place}
use Rattle.mega_cache.specs.Region.{About, entry_of, Ruled}
use Rattle.mega_cache.specs.Told.{place_claimed, PlaceIs}
use Rattle.mega_cache.proofs.PlaceLaws.{spot_inside, pack_some}
use Rattle.mega_cache.proofs.Keeps.{claim_keeps}
use Rattle.mega_cache.proofs.Reading.{read, entry_form}
use Rattle.mega_cache.proofs.Tables.{place_at, place_inside, back_at}
use Rattle.mega_cache.proofs.steps.claim_place.Goals as goal

pub compare_exchange-found-requires : goal.compare_exchange-found-requires
compare_exchange-found-requires g c =
    let p = g.N.Named.about in let e = g.N.Named.selector in let n = c.requires.named in let r = c.requires.reach in let t = c.args.table.now in let z = t.table.shared.table_id.slots in let s = c.args.seat.now in let sel : ℕ = c.args.selector.0 in
    let k = c.args.entry.class.0 in let f : ℕ = window_place k c.args.generation c.args.turn in let q : ℕ = c.window_place-place.result in let is : f ≡ q = sym c.window_place-place.ensures in
    let new : c.pack-new.result ≡ entry_of p e k = c.pack-new.ensures ∙ ap (packed k) c.requires.entry.1 in (
      r.0,
      place_inside p e t sel n f q is r.1 (spot_inside p k c.args.generation c.args.turn c.requires.root.1),
      subst (λ (y : About × ℕ × ℕ). Allows (Ruled y.0) z s.id s.me y.1 (λ m. either (m == 0) y.2 m) (place_claimed p e (step z y.1 0 y.2 none) s.me)) (λ j. (n.0 j, place_at p e t sel n f q is j, sym new j))
          (claim_keeps p z s.id s.me e k c.args.generation c.args.turn r.1 c.requires.entry.0 c.requires.turn c.requires.root.1 c.requires.root.2 c.requires.before),
    )

pub unpack-requires : goal.unpack-requires
unpack-requires g c = dite (ℕ_discrete c.compare_exchange-found.result 0) (λ (z : c.compare_exchange-found.result ≡ 0). inl z) (λ (n : c.compare_exchange-found.result ≢ 0). entry_form _ _ _ _ _ _ (c.compare_exchange-found.ensures.2.2 n))

pub returns-in-None-clause-told : goal.returns-in-None-clause-told
returns-in-None-clause-told g c =
    let p = g.N.Named.about in let e = g.N.Named.selector in let s = c.args.seat.now in let w = c.compare_exchange-found.new.seat in let k = c.args.entry.class.0 in let f : ℕ = window_place k c.args.generation c.args.turn in let m = c.pack-new.result in
    let won : PlaceIs p e f m s.me.0 w.me.0 = subst (λ (y : ℕ). PlaceIs p e y m s.me.0 w.me.0) (back_at p e c.args.table.now c.args.selector.0 c.requires.named f c.window_place-place.result (sym c.window_place-place.ensures)) (c.compare_exchange-found.ensures.2.1 c.in-None.ensures) in
    read p e f m s w won (Some c.args.entry) (c.pack-new.ensures, subst (λ (y : Target). method_of y < 32768) (sym c.requires.entry.1) (won.snap.region.sound.few_methods k e))

pub returns-in-Some-clause-told : goal.returns-in-Some-clause-told
returns-in-Some-clause-told g c =
    let p = g.N.Named.about in let e = g.N.Named.selector in let s = c.args.seat.now in let w = c.compare_exchange-found.new.seat in let k = c.args.entry.class.0 in let f : ℕ = window_place k c.args.generation c.args.turn in let m = c.compare_exchange-found.result in
    let some_word : m ≢ 0 = λ y. pack_some c.in-Some.other.class.0 c.in-Some.other.target (sym c.in-Some.ensures.0 ∙ y) in
    read p e f m s w (subst (λ (y : ℕ). PlaceIs p e y m s.me.0 w.me.0) (back_at p e c.args.table.now c.args.selector.0 c.requires.named f c.window_place-place.result (sym c.window_place-place.ensures)) (c.compare_exchange-found.ensures.2.2 some_word)) (Some c.in-Some.other) c.in-Some.ensures
