use Rattle.std.proofs.Common.{◌<◌, ℕ, List, ◌∷◌, sym, refl, ◌∙◌, subst, inl, inr}
use Rattle.cell_rule.specs.declared.view.Seen.{Seen}
use Rattle.cell_rule.specs.declared.view.Seen.TheVariants.{Set, Empty}
use Rattle.cell_rule.specs.declared.view.View.{View}
use Rattle.list_members.specs.Members.{Each, Has}
use Rattle.miss_handler.specs.States.{check}
use Rattle.cell_rule.specs.Steps.{OthersSeen}
use Rattle.shared_cells.specs.Reading.{InRow, StandsSeen}
use Rattle.shared_cells.proofs.Names.{call_site, call_class}
use Rattle.shared_cells.proofs.Reading.{fits_check, has_reads, others_seen}
use Rattle.shared_cells.proofs.Turns.{levels, level_reads, level_answers, stands, how_now, others_row, others_before, cached_misses, cached_covers, cached_explains, is_cached}
use Rattle.shared_cells.proofs.dispatch.checked.Goals as goal

pub take-requires-clause-target : goal.take-requires-clause-target
take-requires-clause-target g c = let n = c.requires.named in c.resolve-target.ensures ∙ (λ j. ((sym n.3 j).at (sym n.1 j)).resolve c.args.class.0)

pub take-requires-clause-fits : goal.take-requires-clause-fits
take-requires-clause-fits g c =
    let p = g.N.Call.about in let x = g.N.Call.site in let a = c.args.class in let n = c.requires.named in let knows = c.seek.ensures.knows in
    let small = subst (λ (z : ℕ). z < p.classes) n.2 (knows.1.sound.there x g.N.Call.class c.requires.reach.3) in
    fits_check p x (check a.0 c.resolve-target.result) c.seek.new.seat.me.0 knows small (c.resolve-target.ensures ∙ (λ j. ((sym n.3 j).at (sym n.1 j)).resolve a.0))

pub take-requires-clause-cached : goal.take-requires-clause-cached
take-requires-clause-cached g c = let x = g.N.Call.site in let f = c.in-Room.ensures.sought in
    (c.args.at.head.0, c.args.info, has_reads c.args.seat.now.me.0 c.seek.new.seat.me.0 (Empty x c.in-Room.place ∷ f.0) _ f.2 c.requires.looked.has_data, is_cached c.args.info.state c.requires.cached)

pub take-requires-clause-before : goal.take-requires-clause-before
take-requires-clause-before g c = let x = g.N.Call.site in let q = c.in-Room.place in let f = c.in-Room.ensures.sought in
    subst (λ (z : ℕ). OthersSeen x z q c.seek.new.seat.me.0) c.requires.named.2 (others_before x g.N.Call.class q c.args.seat.now.me.0 c.seek.new.seat.me.0 (Empty x q) f.0 f.2 f.3)

pub widen-requires-clause-level : goal.widen-requires-clause-level
widen-requires-clause-level g c =
    let p = g.N.Call.about in let x = g.N.Call.site in let k = g.N.Call.class in let q = c.in-Room.place in let f = c.in-Room.ensures.sought in
    let m : List Seen = Empty x q ∷ f.0 in let row : Each (InRow x) m = (refl, others_row x k q f.0 f.3) in
    let l = levels p x k _ _ _ _ _ _ c.args.info c.args.seat.now.me.0 c.requires.looked m c.seek.new.seat.me.0 refl f.2 row c.seek.ensures.knows (cached_misses x k c.args.info.state m c.requires.cached (inr (q, f.0, f.1, refl, f.3))) in
    level_reads p x k _ _ _ c.args.info _ c.seek.new.seat.me.0 l c.take.new.seat.me.0 c.take.ensures.on c.take.ensures.knows

pub widen-requires-clause-full : goal.widen-requires-clause-full
widen-requires-clause-full g c = subst (λ (z : ℕ). OthersSeen g.N.Call.site z 4 c.take.new.seat.me.0) (sym c.requires.named.2) c.if-take.ensures.stands

pub widen-requires-in-Full-clause-level : goal.widen-requires-in-Full-clause-level
widen-requires-in-Full-clause-level g c =
    let p = g.N.Call.about in let x = g.N.Call.site in let k = g.N.Call.class in let f = c.in-Full.ensures.sought in
    levels p x k _ _ _ _ _ _ c.args.info c.args.seat.now.me.0 c.requires.looked f.0 c.seek.new.seat.me.0 refl f.1 (others_row x k 4 f.0 f.2) c.seek.ensures.knows (cached_misses x k c.args.info.state f.0 c.requires.cached (inl f.2))

pub widen-requires-in-Full-clause-full : goal.widen-requires-in-Full-clause-full
widen-requires-in-Full-clause-full g c = let f = c.in-Full.ensures.sought in others_seen g.N.Call.site g.N.Call.class 4 c.args.seat.now.me.0 c.seek.new.seat.me.0 f.0 f.1 f.2

pub returns-then-at-clause-turned : goal.returns-then-at-clause-turned
returns-then-at-clause-turned g c =
    let p = g.N.Call.about in let x = g.N.Call.site in let k = g.N.Call.class in let t = c.in-Stands.target in let f = c.in-Stands.ensures.sought in let i = c.args.info in let v = c.args.seat.now.me.0 in
    let m : List Seen = Set x f.0 (check k t) ∷ f.1 in let row : Each (InRow x) m = (refl, others_row x k f.0 f.1 f.4) in
    let has = subst (λ (z : View). Has (Set x f.0 (check k t)) z.seen) (sym f.3) (inl refl) in
    stands p x k _ _ _ _ _ _ i v c.requires.looked _ m f.0 t c.seek.new.seat.me.0 refl f.3 row (cached_explains i.state k c.requires.cached) refl f.5 refl has
    ((how_now p x k _ _ _ _ _ _ i v c.requires.looked m refl (cached_covers x k f.0 t i.state f.1 c.requires.cached f.2 f.4)).1 c.if-at.true)

pub returns-else-at-clause-turned : goal.returns-else-at-clause-turned
returns-else-at-clause-turned g c =
    let p = g.N.Call.about in let x = g.N.Call.site in let k = g.N.Call.class in let t = c.in-Stands.target in let f = c.in-Stands.ensures.sought in let i = c.args.info in let v = c.args.seat.now.me.0 in
    let m : List Seen = Set x f.0 (check k t) ∷ f.1 in let row : Each (InRow x) m = (refl, others_row x k f.0 f.1 f.4) in
    let has = subst (λ (z : View). Has (Set x f.0 (check k t)) z.seen) (sym f.3) (inl refl) in
    stands p x k _ _ _ _ _ _ i v c.requires.looked _ m f.0 t c.seek.new.seat.me.0 refl f.3 row (cached_explains i.state k c.requires.cached) refl f.5 refl has
    ((how_now p x k _ _ _ _ _ _ i v c.requires.looked m refl (cached_covers x k f.0 t i.state f.1 c.requires.cached f.2 f.4)).0 c.if-at.false)

pub returns-then-take-clause-turned : goal.returns-then-take-clause-turned
returns-then-take-clause-turned g c =
    let p = g.N.Call.about in let x = g.N.Call.site in let k = g.N.Call.class in let q = c.in-Room.place in let f = c.in-Room.ensures.sought in let n = c.requires.named in
    let m : List Seen = Empty x q ∷ f.0 in let row : Each (InRow x) m = (refl, others_row x k q f.0 f.3) in
    let l = levels p x k _ _ _ _ _ _ c.args.info c.args.seat.now.me.0 c.requires.looked m c.seek.new.seat.me.0 refl f.2 row c.seek.ensures.knows (cached_misses x k c.args.info.state m c.requires.cached (inr (q, f.0, f.1, refl, f.3))) in
    let l' = level_reads p x k _ _ _ c.args.info _ c.seek.new.seat.me.0 l c.take.new.seat.me.0 c.take.ensures.on c.take.ensures.knows in
    let right = c.resolve-target.ensures ∙ (λ j. ((sym n.3 j).at (sym n.1 j)).resolve (sym n.2 j)) in
    level_answers p x k _ _ _ c.args.info _ c.take.new.seat.me.0 l' _ refl right refl (cached_explains c.args.info.state k c.requires.cached)
    (inr (inr (subst (λ (z : ℕ). StandsSeen x z c.take.new.seat.me.0) (sym n.2) c.if-take.ensures.stands)))

pub resolve-target-requires-clause-site : goal.resolve-target-requires-clause-site
resolve-target-requires-clause-site g c = let n = c.requires.named in call_site g.N.Call.about c.args.linked.now g.N.Call.site c.args.site.0 n.3 n.1 c.requires.reach.2

pub resolve-target-requires-clause-class : goal.resolve-target-requires-clause-class
resolve-target-requires-clause-class g c = let n = c.requires.named in call_class g.N.Call.about c.args.linked.now g.N.Call.site g.N.Call.class c.args.class.0 n.3 n.2 c.requires.reach.3
