use Rattle.std.proofs.Common.{◌≡◌, ◌≢◌, ℕ, ◌∷◌, sym, ◌∙◌, subst, arith}
use Rattle.miss_handler.specs.States.{check}
use Rattle.cell_rule.specs.declared.view.Seen.TheVariants.{Set}
use Rattle.cell_rule.specs.Told.{goes_on}
use Rattle.shared_cells.proofs.Reading.{read_more, reach_more, newest_has, check_target, others_step, same_on}
use Rattle.shared_cells.proofs.row.seek.Goals as goal

pub returns-then-found-class-clause-sought : goal.returns-then-found-class-clause-sought
returns-then-found-class-clause-sought g c =
    let p = g.N.Call.about in let x = g.N.Call.site in let k = g.N.Call.class in let i = c.loop-place.invariant in let told = c.in-Some.ensures.told in let q = c.loop-place.place in let t = c.in-Some.found.target in
    let v = c.loop-place.seat.me.0 in let w = c.load_check.new.seat.me.0 in
    let is = subst (λ (z : ℕ). w ≡ goes_on v (Set x q (check z t))) (c.if-found-class.true ∙ sym c.requires.named.2) told.1 in
    let lt = c.loop-place-test.true in (
      q,
      i.read.0,
      omega arith,
      read_more c.args.seat.now.me.0 v w i.read.0 (Set x q (check k t)) i.read.1 is,
      i.read.2,
      check_target p x q k t w told.0 (newest_has v w (Set x q (check k t)) is),
    )

pub loop-place-preserved : goal.loop-place-preserved
loop-place-preserved g c =
    let p = g.N.Call.about in let x = g.N.Call.site in let k = g.N.Call.class in let i = c.loop-place.invariant in let told = c.in-Some.ensures.told in let q = c.loop-place.place in let d = c.in-Some.found in
    let v = c.loop-place.seat.me.0 in let w = c.load_check.new.seat.me.0 in let cost = c.in-Some.ensures.cost in let before = i.cost in
    let other : d.class.0 ≢ k = λ e. c.if-found-class.false (e ∙ c.requires.named.2) in record {
      same = same_on c.args.seat.now c.loop-place.seat c.load_check.new.seat i.same c.in-Some.ensures.same;
      reach = reach_more p x k c.args.words.now c.loop-place.seat c.load_check.new.seat (Set x q d) i.reach c.in-Some.ensures.same told.1;
      knows = told.0;
      read = (Set x q d ∷ i.read.0, read_more c.args.seat.now.me.0 v w i.read.0 (Set x q d) i.read.1 told.1, others_step x k q d i.read.0 i.read.2 other);
      cost = omega arith;
    }
