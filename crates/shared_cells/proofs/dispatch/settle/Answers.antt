use Rattle.std.proofs.Common.{◌≢◌, ◌<◌, ℕ, ◌+◌, sym, refl, ◌∙◌, subst, inl, inr}
use Rattle.miss_handler.specs.declared.state.CallState.{CallState}
use Rattle.miss_handler.specs.declared.state.CallState.TheVariants.{Cached}
use Rattle.cell_rule.specs.declared.view.Seen.{Seen}
use Rattle.cell_rule.specs.declared.view.Change.{Change}
use Rattle.cell_rule.specs.declared.view.View.{View}
use Rattle.list_members.specs.Members.{Each, Has}
use Rattle.miss_handler.specs.States.{check}
use Rattle.cell_rule.specs.Told.{change}
use Rattle.shared_cells.specs.Reading.{StandsSeen, FirstPlaced, ReadsOn}
use Rattle.shared_cells.specs.Runs.{IsMove}
use Rattle.shared_cells.proofs.Names.{call_site, call_class}
use Rattle.shared_cells.proofs.Reading.{fits_check, has_reads}
use Rattle.shared_cells.proofs.Turns.{moving_reads, moving_answers, full_round, moved_covers, mono_seen, has_in_after, placed_more, is_cached}
use Rattle.shared_cells.proofs.dispatch.settle.Goals as goal

still_placed : (x : ℕ) (s : CallState) (v w : View) → ReadsOn x v w → FirstPlaced x s v → FirstPlaced x s w
still_placed x s v w on f a e = placed_more x a v w (λ (t : Seen) h. has_reads v w on.0 t on.1 h) (f a e)

pub returns-clause-turned : goal.returns-clause-turned
returns-clause-turned g c =
    let p = g.N.Call.about in let x = g.N.Call.site in let k = g.N.Call.class in let n = c.requires.named in let m = c.requires.moving in let u = c.args.seat.now.me.0 in let d : Change = change (c.args.at.head.0 + 1) c.args.info c.args.next in
    let right = c.resolve-target.ensures ∙ (λ j. ((sym n.3 j).at (sym n.1 j)).resolve (sym n.2 j)) in
    let not : c.args.next.state ≢ Cached = c.if-is_cached.ensures in
    let moved : IsMove p x k d = (subst (Each (IsMove p x k)) m.changes m.moves).0 in
    moving_answers p x k _ _ _ _ _ u m _ refl right refl (λ e. absurd (not (sym e)))
    (inr (inl (d, subst (Has d) (sym m.changes) (inl refl), moved_covers p x k d moved not c.requires.not_mega)))

pub add_first-requires-clause-cached : goal.add_first-requires-clause-cached
add_first-requires-clause-cached g c = let m = c.requires.moving in (c.args.at.head.0 + 1, c.args.next, has_in_after _ _ _ _ _ m.after m.data_word, is_cached c.args.next.state c.if-is_cached.ensures)

pub add_first-requires-clause-first : goal.add_first-requires-clause-first
add_first-requires-clause-first g c = let m = c.requires.moving in mono_seen g.N.Call.about g.N.Call.site c.args.at.head.0 c.args.info c.args.seat.now.me.0 m.knows (has_in_after _ _ _ _ _ m.after m.before)

pub take-requires-clause-target : goal.take-requires-clause-target
take-requires-clause-target g c = let n = c.requires.named in c.resolve-target.ensures ∙ (λ j. ((sym n.3 j).at (sym n.1 j)).resolve c.args.class.0)

pub take-requires-clause-fits : goal.take-requires-clause-fits
take-requires-clause-fits g c =
    let p = g.N.Call.about in let x = g.N.Call.site in let a = c.args.class in let n = c.requires.named in let knows = c.add_first.ensures.knows in
    let small = subst (λ (z : ℕ). z < p.classes) n.2 (knows.1.sound.there x g.N.Call.class c.requires.reach.3) in
    fits_check p x (check a.0 c.resolve-target.result) c.add_first.new.seat.me.0 knows small (c.resolve-target.ensures ∙ (λ j. ((sym n.3 j).at (sym n.1 j)).resolve a.0))

pub take-requires-clause-cached : goal.take-requires-clause-cached
take-requires-clause-cached g c = let m = c.requires.moving in let on = c.add_first.ensures.on in
    (c.args.at.head.0 + 1, c.args.next, has_reads c.args.seat.now.me.0 c.add_first.new.seat.me.0 on.0 _ on.1 (has_in_after _ _ _ _ _ m.after m.data_word), is_cached c.args.next.state c.if-is_cached.ensures)

pub returns-then-take-clause-turned : goal.returns-then-take-clause-turned
returns-then-take-clause-turned g c =
    let p = g.N.Call.about in let x = g.N.Call.site in let k = g.N.Call.class in let n = c.requires.named in let u = c.args.seat.now.me.0 in let u1 = c.add_first.new.seat.me.0 in let u2 = c.take.new.seat.me.0 in
    let right = c.resolve-target.ensures ∙ (λ j. ((sym n.3 j).at (sym n.1 j)).resolve (sym n.2 j)) in
    let m1 = moving_reads p x k _ _ _ _ _ u c.requires.moving u1 c.add_first.ensures.on c.add_first.ensures.knows in
    let m2 = moving_reads p x k _ _ _ _ _ u1 m1 u2 c.take.ensures.on c.take.ensures.knows in
    moving_answers p x k _ _ _ _ _ u2 m2 _ refl right refl (λ _. still_placed x c.args.info.state u1 u2 c.take.ensures.on c.add_first.ensures.placed)
    (inr (inr (subst (λ (z : ℕ). StandsSeen x z u2) (sym n.2) c.if-take.ensures.stands)))

pub returns-then-is_cached-clause-turned : goal.returns-then-is_cached-clause-turned
returns-then-is_cached-clause-turned g c =
    let p = g.N.Call.about in let x = g.N.Call.site in let k = g.N.Call.class in let u = c.args.seat.now.me.0 in let u1 = c.add_first.new.seat.me.0 in let u2 = c.take.new.seat.me.0 in
    let m1 = moving_reads p x k _ _ _ _ _ u c.requires.moving u1 c.add_first.ensures.on c.add_first.ensures.knows in
    let m2 = moving_reads p x k _ _ _ _ _ u1 m1 u2 c.take.ensures.on c.take.ensures.knows in
    full_round p x k _ _ _ _ _ u2 m2 (λ _. still_placed x c.args.info.state u1 u2 c.take.ensures.on c.add_first.ensures.placed) _ _ _ c.load_target-head.ensures.told

pub resolve-target-requires-clause-site : goal.resolve-target-requires-clause-site
resolve-target-requires-clause-site g c = let n = c.requires.named in call_site g.N.Call.about c.args.linked.now g.N.Call.site c.args.site.0 n.3 n.1 c.requires.reach.2

pub resolve-target-requires-clause-class : goal.resolve-target-requires-clause-class
resolve-target-requires-clause-class g c = let n = c.requires.named in call_class g.N.Call.about c.args.linked.now g.N.Call.site g.N.Call.class c.args.class.0 n.3 n.2 c.requires.reach.3
