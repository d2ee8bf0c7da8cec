use Rattle.mega_cache.proofs.Windows.{place_ok, before_on, has_saw}
use Rattle.mega_cache.proofs.insert.stand.Goals as goal

pub load_place-requires-clause-place : goal.load_place-requires-clause-place
load_place-requires-clause-place g c = place_ok g.N.Named.about c.args.entry.class.0 c.args.generation c.args.turn c.window_place-place.result c.requires.root.1 c.window_place-place.ensures

pub claim_place-requires-clause-root : goal.claim_place-requires-clause-root
claim_place-requires-clause-root g c = (c.requires.root.0, c.requires.root.1, has_saw c.args.seat.now.me.0 c.load_place.new.seat.me.0 _ _ c.in-None.ensures.told.after.1 c.requires.root.2)

pub claim_place-requires-clause-before : goal.claim_place-requires-clause-before
claim_place-requires-clause-before g c = before_on _ _ _ _ c.args.seat.now.me.0 c.load_place.new.seat.me.0 _ c.in-None.ensures.told.after.1 c.requires.before
