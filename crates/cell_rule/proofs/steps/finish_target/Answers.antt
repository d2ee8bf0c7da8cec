use Rattle.std.proofs.Common.{rules, ◌≡◌, ℕ, ◌+◌, ◌*◌, ◌==◌, sym, ap, ◌∙◌, subst, arith}
use mathlib.Core.Option.{none}
use prog.Atomic.{either}
use Rattle.atomic_table.specs.Table.{step, Allows}
use Rattle.cell_rule.specs.About.{About}
use Rattle.cell_rule.specs.Words.{target_word, entry_of}
use Rattle.cell_rule.specs.Rule.{Ruled}
use Rattle.cell_rule.specs.Told.{finished_with}
use Rattle.cell_rule.proofs.Keeps.{finish_keeps}
use Rattle.cell_rule.proofs.Telling.{head_told, head_word, head_rose}
use Rattle.cell_rule.proofs.steps.finish_target.Goals as goal

pub compare_exchange-found-requires : goal.compare_exchange-found-requires
compare_exchange-found-requires g c =
    let p = g.N.Call.about in let x = g.N.Call.site in let e = c.requires.named in let r = c.requires.reach in let z = c.args.words.now.table.shared.table_id.slots in let s = c.args.seat.now in
    let sites = ap (λ (q : About). q.sites) e.0 in let size = c.args.words.now.size in let inside = r.2 in let same = e.1 in let old = c.pack_target-old.ensures in let new : c.pack_target-new.result ≡ target_word (c.args.head.0 + 1) (entry_of c.args.info) = c.pack_target-new.ensures ∙ ap (target_word (c.args.head.0 + 1)) c.entry_for-done.ensures in (
      search rules,
      omega arith,
      subst (λ (q : About × ℕ × ℕ × ℕ). Allows (Ruled q.0) z s.id s.me (6 * q.1 + 1) (λ n. either (n == q.2) q.3 n) (finished_with p x g.N.Call.class (step z (6 * q.1 + 1) q.2 q.3 none) s.me)) (λ j. (e.0 j, e.1 j, sym old j, sym new j))
          (finish_keeps p z s.id s.me x g.N.Call.class r.2 r.1 c.args.head.0 c.args.head.1 c.args.info c.requires.head c.requires.data),
    )

pub read_target-requires : goal.read_target-requires
read_target-requires g c = head_word _ _ _ _ _ (c.compare_exchange-found.ensures.2.2 c.if-found-old.false)

pub returns-then-found-old-clause-told : goal.returns-then-found-old-clause-told
returns-then-found-old-clause-told g c = head_told _ _ _ _ _ (c.compare_exchange-found.ensures.2.1 c.if-found-old.true) _ _ (search rules) c.pack_target-new.ensures

pub returns-else-found-old-clause-told : goal.returns-else-found-old-clause-told
returns-else-found-old-clause-told g c = head_told _ _ _ _ _ (c.compare_exchange-found.ensures.2.2 c.if-found-old.false) _ _ c.read_target.ensures.0 c.read_target.ensures.1

pub returns-else-found-old-clause-rose : goal.returns-else-found-old-clause-rose
returns-else-found-old-clause-rose g c =
    let told = head_told _ _ _ _ _ (c.compare_exchange-found.ensures.2.2 c.if-found-old.false) _ _ c.read_target.ensures.0 c.read_target.ensures.1 in
    head_rose g.N.Call.about g.N.Call.site c.compare_exchange-found.result c.args.head.0 _ c.args.head.1 _ _ _ told c.requires.head (λ e. c.if-found-old.false (e ∙ sym c.pack_target-old.ensures)) c.read_target.ensures.1
