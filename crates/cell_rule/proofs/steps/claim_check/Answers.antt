use Rattle.std.proofs.Common.{rules, ◌≡◌, ◌≢◌, ℕ, ◌+◌, ◌-◌, ◌*◌, ◌==◌, Some, sym, ap, ◌∙◌, subst, arith}
use mathlib.Core.Option.{none}
use mathlib.Core.Logic.{dite}
use native.Mathlib.Decide.{ℕ_discrete}
use prog.Atomic.{either}
use Rattle.atomic_table.specs.Table.{step, Allows}
use Rattle.miss_handler.specs.States.{check}
use Rattle.cell_rule.specs.About.{About}
use Rattle.cell_rule.specs.Words.{check_word}
use Rattle.cell_rule.specs.Rule.{Ruled}
use Rattle.cell_rule.specs.Told.{claimed, CheckSeen}
use Rattle.cell_rule.proofs.Packs.{check_some}
use Rattle.cell_rule.proofs.Keeps.{claim_keeps}
use Rattle.cell_rule.proofs.Telling.{check_told, check_empty}
use Rattle.cell_rule.proofs.steps.claim_check.Goals as goal

pub compare_exchange-found-requires : goal.compare_exchange-found-requires
compare_exchange-found-requires g c =
    let p = g.N.Call.about in let x = g.N.Call.site in let e = c.requires.named in let r = c.requires.reach in let z = c.args.words.now.table.shared.table_id.slots in let s = c.args.seat.now in
    let sites = ap (λ (q : About). q.sites) e.0 in let size = c.args.words.now.size in let inside = r.2 in let same = e.1 in let lt = c.requires.place in let i : ℕ = c.args.place in let d : ℕ = c.args.check.class.0 in
    let new : c.pack_check-new.result ≡ check_word (check d ((p.at x).resolve d)) = c.pack_check-new.ensures ∙ ap (λ t. check_word (check d t)) c.requires.target in (
      search rules,
      omega arith,
      subst (λ (q : About × ℕ × ℕ). Allows (Ruled q.0) z s.id s.me (6 * q.1 + 3 + i) (λ n. either (n == 0) q.2 n) (claimed p x g.N.Call.class (step z (6 * q.1 + 3 + i) 0 q.2 none) s.me)) (λ j. (e.0 j, e.1 j, sym new j))
          (claim_keeps p z s.id s.me x g.N.Call.class r.2 r.1 i lt d c.requires.cached c.requires.called c.requires.before),
    )

pub returns-in-None-clause-told : goal.returns-in-None-clause-told
returns-in-None-clause-told g c =
    let x = g.N.Call.site in let same = c.requires.named.1 in let i : ℕ = c.args.place in let back : 6 * c.args.site.0 + 3 + i - (6 * x + 3) ≡ i = omega arith in
    let zero : c.compare_exchange-found.result ≡ 0 = dite (ℕ_discrete c.compare_exchange-found.result 0) (λ z. z) (λ n. check_empty _ _ _ _ _ _ (c.compare_exchange-found.ensures.2.2 n) c.in-None.ensures) in
    check_told _ _ _ _ _ _ (subst (λ (q : ℕ). CheckSeen g.N.Call.about x q c.pack_check-new.result c.args.seat.now.me.0 c.compare_exchange-found.new.seat.me.0) back (c.compare_exchange-found.ensures.2.1 zero))
    (Some c.args.check) (c.requires.fits, c.pack_check-new.ensures)

pub returns-in-Some-clause-told : goal.returns-in-Some-clause-told
returns-in-Some-clause-told g c =
    let x = g.N.Call.site in let same = c.requires.named.1 in let i : ℕ = c.args.place in let back : 6 * c.args.site.0 + 3 + i - (6 * x + 3) ≡ i = omega arith in
    let full : c.compare_exchange-found.result ≢ 0 = λ z. check_some c.in-Some.other (sym c.in-Some.ensures.1 ∙ z) in
    check_told _ _ _ _ _ _ (subst (λ (q : ℕ). CheckSeen g.N.Call.about x q c.compare_exchange-found.result c.args.seat.now.me.0 c.compare_exchange-found.new.seat.me.0) back (c.compare_exchange-found.ensures.2.2 full))
    (Some c.in-Some.other) c.in-Some.ensures
