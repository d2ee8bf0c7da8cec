use Rattle.std.proofs.Common.{ℕ, sym, ap, ◌∙◌, subst, inr, arith}
use Rattle.miss_handler.specs.States.{check}
use Rattle.cell_rule.specs.About.{About}
use Rattle.shared_cells.specs.Reading.{Placed}
use Rattle.shared_cells.proofs.Names.{call_site}
use Rattle.shared_cells.proofs.Reading.{fits_check, placed_by, mono_inj}
use Rattle.shared_cells.proofs.row.add_first.Goals as goal

pub resolve-target-requires-clause-site : goal.resolve-target-requires-clause-site
resolve-target-requires-clause-site g c = call_site g.N.Call.about c.args.linked.now g.N.Call.site c.args.site.0 c.requires.named.2 c.requires.named.1 c.requires.reach.2

pub resolve-target-requires-clause-class : goal.resolve-target-requires-clause-class
resolve-target-requires-clause-class g c =
    let classes = ap (λ (q : About). q.classes) c.requires.named.2 in let f = c.requires.first c.in-Mono.class.0 c.in-Mono.is in let small = f.0 in omega arith

pub take-requires-clause-target : goal.take-requires-clause-target
take-requires-clause-target g c = c.resolve-target.ensures ∙ (λ j. ((sym c.requires.named.2 j).at (sym c.requires.named.1 j)).resolve c.in-Mono.class.0)

pub take-requires-clause-fits : goal.take-requires-clause-fits
take-requires-clause-fits g c =
    let p = g.N.Call.about in let x = g.N.Call.site in let a = c.in-Mono.class in let f = c.requires.first a.0 c.in-Mono.is in
    fits_check p x (check a.0 c.resolve-target.result) c.args.seat.now.me.0 c.requires.knows f.0 (c.resolve-target.ensures ∙ (λ j. ((sym c.requires.named.2 j).at (sym c.requires.named.1 j)).resolve a.0))

pub take-requires-clause-called : goal.take-requires-clause-called
take-requires-clause-called g c = let f = c.requires.first c.in-Mono.class.0 c.in-Mono.is in inr f.1

pub returns-in-Mono-clause-placed : goal.returns-in-Mono-clause-placed
returns-in-Mono-clause-placed g c b is = subst (λ (z : ℕ). Placed g.N.Call.site z c.take.new.seat.me.0) (mono_inj c.in-Mono.class.0 b (sym c.in-Mono.is ∙ is)) (placed_by g.N.Call.site c.in-Mono.class.0 c.take.result c.take.new.seat.me.0 c.take.ensures.stands)
