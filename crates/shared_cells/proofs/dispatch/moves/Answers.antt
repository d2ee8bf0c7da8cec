use Rattle.std.proofs.Common.{◌≡◌, ◌+◌, ℕ, List, [], sym, ◌∙◌, subst}
use Rattle.method_lookup.specs.declared.linked.Linked.{Linked}
use Rattle.miss_handler.specs.States.{Explains, LawfulState, Move}
use Rattle.miss_handler.specs.Sites.{receivers_at}
use Rattle.cell_rule.specs.declared.words.Info.{Info}
use Rattle.cell_rule.specs.declared.view.Seen.{Seen}
use Rattle.cell_rule.specs.About.{About, about_of, state_target}
use Rattle.cell_rule.specs.Histories.{Moved}
use Rattle.shared_cells.proofs.Names.{call_site, call_concrete}
use Rattle.shared_cells.proofs.Turns.{data_seen_too, head_seen_too, level_lawful, level_fits, level_entries, head_after, won, lost_round, moved_bare, is_move}
use Rattle.shared_cells.proofs.dispatch.moves.Goals as goal

-- what was said by the arguments, by the names
named : (p : About) (linked : Linked) (x site c class : ℕ) (i j : Info) (seen : List Seen) → p ≡ about_of linked → x ≡ site → c ≡ class
    → Move (receivers_at linked site) i.state [] class j.state → j.target ≡ state_target (receivers_at linked site) j.state → Moved p x c i j seen
named p linked x site c class i j seen is at same m t = moved_bare p x c i j seen
    (subst (λ (z : About × ℕ × ℕ). Move (z.0.at z.1) i.state [] z.2 j.state) (λ q. (sym is q, sym at q, sym same q)) m)
    (t ∙ (λ q. state_target ((sym is q).at (sym at q)) j.state))

pub next_info-next-requires-clause-site : goal.next_info-next-requires-clause-site
next_info-next-requires-clause-site g c = let n = c.requires.named in call_site g.N.Call.about c.args.linked.now g.N.Call.site c.args.site.0 n.3 n.1 c.requires.reach.2

pub next_info-next-requires-clause-concrete : goal.next_info-next-requires-clause-concrete
next_info-next-requires-clause-concrete g c = let n = c.requires.named in call_concrete g.N.Call.about c.args.linked.now g.N.Call.site g.N.Call.class c.args.class.0 n.3 n.2 c.requires.reach.3

pub next_info-next-requires-clause-lawful : goal.next_info-next-requires-clause-lawful
next_info-next-requires-clause-lawful g c = let n = c.requires.named in
    subst (λ (z : About × ℕ). LawfulState (z.0.at z.1) c.args.info.state) (λ q. (n.3 q, n.1 q)) (level_lawful _ _ _ _ _ _ _ _ _ c.requires.level).state

pub next_info-next-requires-clause-unexplained : goal.next_info-next-requires-clause-unexplained
next_info-next-requires-clause-unexplained g c = subst (λ (z : ℕ). ¬ Explains c.args.info.state z) c.requires.named.2 c.requires.unexplained

pub advance_data-requires-clause-head : goal.advance_data-requires-clause-head
advance_data-requires-clause-head g c = (c.args.at.head.1, head_seen_too _ _ _ _ _ _ _ _ _ c.requires.level)

pub advance_data-requires-clause-data : goal.advance_data-requires-clause-data
advance_data-requires-clause-data g c = data_seen_too _ _ _ _ _ _ _ _ _ c.requires.level

pub advance_data-requires-clause-moved : goal.advance_data-requires-clause-moved
advance_data-requires-clause-moved g c = let n = c.requires.named in named g.N.Call.about c.args.linked.now g.N.Call.site c.args.site.0 g.N.Call.class c.args.class.0 c.args.info c.next_info-next.result c.args.seat.now.me.0.seen n.3 n.1 n.2 c.next_info-next.ensures.moves c.next_info-next.ensures.target

pub advance_data-requires-clause-fits : goal.advance_data-requires-clause-fits
advance_data-requires-clause-fits g c = let n = c.requires.named in level_fits _ _ _ _ _ _ _ _ _ c.requires.level c.requires.reach.3 c.next_info-next.result
    (named g.N.Call.about c.args.linked.now g.N.Call.site c.args.site.0 g.N.Call.class c.args.class.0 c.args.info c.next_info-next.result c.args.seat.now.me.0.seen n.3 n.1 n.2 c.next_info-next.ensures.moves c.next_info-next.ensures.target)

pub finish_target-requires-clause-head : goal.finish_target-requires-clause-head
finish_target-requires-clause-head g c = head_after _ _ _ _ _ _ _ _ _ c.requires.level _ _ c.in-None.ensures.won.after

pub finish_target-requires-clause-fits : goal.finish_target-requires-clause-fits
finish_target-requires-clause-fits g c = let n = c.requires.named in level_entries _ _ _ _ _ _ _ _ _ c.requires.level c.requires.reach.3 c.next_info-next.result
    (named g.N.Call.about c.args.linked.now g.N.Call.site c.args.site.0 g.N.Call.class c.args.class.0 c.args.info c.next_info-next.result c.args.seat.now.me.0.seen n.3 n.1 n.2 c.next_info-next.ensures.moves c.next_info-next.ensures.target)

pub settle-requires-clause-moving : goal.settle-requires-clause-moving
settle-requires-clause-moving g c = let n = c.requires.named in
    won _ _ _ _ _ _ _ _ c.args.seat.now.me.0 c.requires.level c.next_info-next.result c.advance_data.new.seat.me.0 c.in-None.ensures.won
    (is_move g.N.Call.about g.N.Call.site g.N.Call.class (c.args.at.head.0 + 1) c.args.info c.next_info-next.result c.args.seat.now.me.0.seen (named g.N.Call.about c.args.linked.now g.N.Call.site c.args.site.0 g.N.Call.class c.args.class.0 c.args.info c.next_info-next.result c.args.seat.now.me.0.seen n.3 n.1 n.2 c.next_info-next.ensures.moves c.next_info-next.ensures.target))
    _ _ c.finish_target.new.seat.me.0 c.finish_target.ensures.told c.finish_target.ensures.rose

pub returns-in-Some-clause-turned : goal.returns-in-Some-clause-turned
returns-in-Some-clause-turned g c = lost_round _ _ _ _ _ _ _ _ _ c.requires.level _ _ _ c.in-Some.ensures.won c.in-Some.ensures.rose _ _ _ c.load_target-head.ensures.told
