use Rattle.std.proofs.Common.{◌≡◌, ◌+◌, sym, refl, ◌∙◌}
use Rattle.miss_handler.specs.declared.state.CallState.TheVariants.{Cached, Mega}
use Rattle.cell_rule.specs.declared.words.Info.{Info}
use Rattle.cell_rule.specs.Words.{info, no_target}
use Rattle.shared_cells.proofs.Names.{call_site, call_class}
use Rattle.shared_cells.proofs.Turns.{data_seen_too, head_seen_too, level_fits, level_entries, head_after, won, moving_answers, lost_round, moved_full, is_move}
use Rattle.shared_cells.proofs.dispatch.widen.Goals as goal

not_cached : Cached ≡ Mega → ⊥
not_cached e = cc

pub advance_data-requires-clause-head : goal.advance_data-requires-clause-head
advance_data-requires-clause-head g c = (c.args.at.head.1, head_seen_too _ _ _ _ _ _ _ _ _ c.requires.level)

pub advance_data-requires-clause-data : goal.advance_data-requires-clause-data
advance_data-requires-clause-data g c = data_seen_too _ _ _ _ _ _ _ _ _ c.requires.level

pub advance_data-requires-clause-fits : goal.advance_data-requires-clause-fits
advance_data-requires-clause-fits g c = level_fits _ _ _ _ _ _ _ _ _ c.requires.level c.requires.reach.3 (info Mega no_target) (moved_full g.N.Call.about g.N.Call.site g.N.Call.class c.args.info c.args.seat.now.me.0 c.requires.cached c.requires.full)

pub finish_target-requires-clause-head : goal.finish_target-requires-clause-head
finish_target-requires-clause-head g c = head_after _ _ _ _ _ _ _ _ _ c.requires.level (info Mega no_target) _ c.in-None.ensures.won.after

pub finish_target-requires-clause-fits : goal.finish_target-requires-clause-fits
finish_target-requires-clause-fits g c = level_entries _ _ _ _ _ _ _ _ _ c.requires.level c.requires.reach.3 (info Mega no_target) (moved_full g.N.Call.about g.N.Call.site g.N.Call.class c.args.info c.args.seat.now.me.0 c.requires.cached c.requires.full)

pub returns-in-None-clause-turned : goal.returns-in-None-clause-turned
returns-in-None-clause-turned g c =
    let p = g.N.Call.about in let x = g.N.Call.site in let k = g.N.Call.class in let n = c.requires.named in let next : Info = info Mega no_target in
    let right = c.resolve.ensures ∙ (λ j. ((sym n.3 j).at (sym n.1 j)).resolve (sym n.2 j)) in
    let m = won p x k _ _ _ _ _ c.args.seat.now.me.0 c.requires.level next c.advance_data.new.seat.me.0 c.in-None.ensures.won (is_move p x k (c.args.at.head.0 + 1) c.args.info next c.args.seat.now.me.0.seen (moved_full g.N.Call.about g.N.Call.site g.N.Call.class c.args.info c.args.seat.now.me.0 c.requires.cached c.requires.full)) _ _ c.finish_target.new.seat.me.0 c.finish_target.ensures.told c.finish_target.ensures.rose in
    moving_answers p x k _ _ _ _ _ c.finish_target.new.seat.me.0 m _ refl right refl (λ e. absurd (not_cached e)) (c.args.at.head.0 + 1, next, m.data_word, refl)

pub returns-in-Some-clause-turned : goal.returns-in-Some-clause-turned
returns-in-Some-clause-turned g c = lost_round _ _ _ _ _ _ _ _ _ c.requires.level _ _ _ c.in-Some.ensures.won c.in-Some.ensures.rose _ _ _ c.load_target-head.ensures.told

pub advance_data-requires-clause-moved : goal.advance_data-requires-clause-moved
advance_data-requires-clause-moved g c = moved_full g.N.Call.about g.N.Call.site g.N.Call.class c.args.info c.args.seat.now.me.0 c.requires.cached c.requires.full

pub resolve-requires-clause-site : goal.resolve-requires-clause-site
resolve-requires-clause-site g c = let n = c.requires.named in call_site g.N.Call.about c.args.linked.now g.N.Call.site c.args.site.0 n.3 n.1 c.requires.reach.2

pub resolve-requires-clause-class : goal.resolve-requires-clause-class
resolve-requires-clause-class g c = let n = c.requires.named in call_class g.N.Call.about c.args.linked.now g.N.Call.site g.N.Call.class c.args.class.0 n.3 n.2 c.requires.reach.3
