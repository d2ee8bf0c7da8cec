use Rattle.std.proofs.Common.{rules, ℕ, ◌+◌, ◌*◌, ◌==◌, sym, ap, ◌∙◌, subst, arith}
use mathlib.Core.Option.{none}
use prog.Atomic.{either}
use Rattle.atomic_table.specs.Table.{step, Allows}
use Rattle.cell_rule.specs.About.{About}
use Rattle.cell_rule.specs.Rule.{Ruled}
use Rattle.cell_rule.specs.Told.{advanced}
use Rattle.cell_rule.proofs.Keeps.{advance_keeps}
use Rattle.cell_rule.proofs.Telling.{data_told, data_is_word, data_rose, won_told}
use Rattle.cell_rule.proofs.steps.advance_data.Goals as goal

pub compare_exchange-found-requires : goal.compare_exchange-found-requires
compare_exchange-found-requires g c =
    let p = g.N.Call.about in let x = g.N.Call.site in let e = c.requires.named in let r = c.requires.reach in let z = c.args.words.now.table.shared.table_id.slots in let s = c.args.seat.now in
    let sites = ap (λ (q : About). q.sites) e.0 in let size = c.args.words.now.size in let inside = r.2 in let same = e.1 in let old = c.pack_data-old.ensures in let new = c.pack_data-new.ensures in (
      search rules,
      omega arith,
      subst (λ (q : About × ℕ × ℕ × ℕ). Allows (Ruled q.0) z s.id s.me (6 * q.1 + 2) (λ n. either (n == q.2) q.3 n) (advanced p x g.N.Call.class (step z (6 * q.1 + 2) q.2 q.3 none) s.me)) (λ j. (e.0 j, e.1 j, sym old j, sym new j))
          (advance_keeps p z s.id s.me x g.N.Call.class r.2 r.1 c.args.seen.0 c.args.seen.1 c.args.next c.requires.head.0 c.requires.current c.requires.head.1 c.requires.data c.requires.moved),
    )

pub read_data-requires : goal.read_data-requires
read_data-requires g c = data_is_word _ _ _ _ _ _ (c.compare_exchange-found.ensures.2.2 c.if-found-old.false)

pub returns-then-found-old-clause-won : goal.returns-then-found-old-clause-won
returns-then-found-old-clause-won g c = won_told _ _ _ _ _ _ (c.compare_exchange-found.ensures.2.1 c.if-found-old.true) _ _ _ c.requires.fits.0 c.requires.fits.1 c.pack_data-old.ensures c.pack_data-new.ensures

pub returns-else-found-old-clause-won : goal.returns-else-found-old-clause-won
returns-else-found-old-clause-won g c = data_told _ _ _ _ _ _ (c.compare_exchange-found.ensures.2.2 c.if-found-old.false) _ _ c.read_data.ensures.0 c.read_data.ensures.1

pub returns-else-found-old-clause-rose : goal.returns-else-found-old-clause-rose
returns-else-found-old-clause-rose g c =
    let told = data_told _ _ _ _ _ _ (c.compare_exchange-found.ensures.2.2 c.if-found-old.false) _ _ c.read_data.ensures.0 c.read_data.ensures.1 in
    data_rose g.N.Call.about g.N.Call.site g.N.Call.class c.compare_exchange-found.result c.args.seen.0 _ c.args.seen.1 _ _ _ told c.requires.data (λ e. c.if-found-old.false (e ∙ sym c.pack_data-old.ensures)) c.read_data.ensures.1
