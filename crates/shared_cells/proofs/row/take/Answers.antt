use Rattle.std.proofs.Common.{ℕ, ◌∷◌, refl, subst, arith}
use Rattle.miss_handler.specs.States.{check}
use Rattle.cell_rule.specs.declared.view.Seen.TheVariants.{Set}
use Rattle.list_members.specs.Members.{Has}
use Rattle.shared_cells.proofs.Reading.{read_more, reach_more, newest_has, others_next, same_on, cached_reads, calls_reads}
use Rattle.shared_cells.proofs.row.take.Goals as goal

pub claim_check-stands-requires-clause-cached : goal.claim_check-stands-requires-clause-cached
claim_check-stands-requires-clause-cached g c = let r = c.loop-place.invariant.read in cached_reads g.N.Call.site c.args.seat.now.me.0 c.loop-place.seat.me.0 r.0 r.1 c.requires.cached

pub claim_check-stands-requires-clause-called : goal.claim_check-stands-requires-clause-called
claim_check-stands-requires-clause-called g c = let r = c.loop-place.invariant.read in calls_reads g.N.Call.site c.args.check.class.0 c.args.seat.now.me.0 c.loop-place.seat.me.0 r.0 r.1 c.requires.called

pub returns-then-stands-check-clause-on : goal.returns-then-stands-check-clause-on
returns-then-stands-check-clause-on g c = let r = c.loop-place.invariant.read in let x = g.N.Call.site in let told = c.claim_check-stands.ensures.told in let s = Set x c.loop-place.place c.claim_check-stands.result in
    (s ∷ r.0, read_more c.args.seat.now.me.0 c.loop-place.seat.me.0 c.claim_check-stands.new.seat.me.0 r.0 s r.1 told.1, (refl, r.2))

pub returns-then-stands-check-clause-stands : goal.returns-then-stands-check-clause-stands
returns-then-stands-check-clause-stands g c = let x = g.N.Call.site in let told = c.claim_check-stands.ensures.told in let e = c.claim_check-stands.result in let q = c.loop-place.place in let w = c.claim_check-stands.new.seat.me.0 in
    (q, e.target, subst (λ (z : ℕ). Has (Set x q (check z e.target)) w.seen) c.if-stands-check.true (newest_has c.loop-place.seat.me.0 w (Set x q e) told.1))

pub loop-place-preserved : goal.loop-place-preserved
loop-place-preserved g c =
    let p = g.N.Call.about in let x = g.N.Call.site in let i = c.loop-place.invariant in let r = i.read in let told = c.claim_check-stands.ensures.told in let e = c.claim_check-stands.result in let q = c.loop-place.place in let s = Set x q e in
    let v = c.loop-place.seat.me.0 in let w = c.claim_check-stands.new.seat.me.0 in let cost = c.claim_check-stands.ensures.cost in let before = i.cost in record {
      same = same_on c.args.seat.now c.loop-place.seat c.claim_check-stands.new.seat i.same c.claim_check-stands.ensures.same;
      reach = reach_more p x g.N.Call.class c.args.words.now c.loop-place.seat c.claim_check-stands.new.seat s i.reach c.claim_check-stands.ensures.same told.1;
      knows = told.0;
      read = (s ∷ r.0, read_more c.args.seat.now.me.0 v w r.0 s r.1 told.1, (refl, r.2));
      before = others_next x c.args.check.class.0 q v w e told.1 i.before c.if-stands-check.false;
      cost = omega arith;
    }
