use Rattle.std.proofs.Common.{◌≡◌, ℕ, ◌+◌, ◌-◌, ◌*◌, ap, subst, arith}
use mathlib.Core.Option.{none}
use Rattle.atomic_table.specs.Table.{step, Allows}
use Rattle.cell_rule.specs.About.{About}
use Rattle.cell_rule.specs.Rule.{Ruled}
use Rattle.cell_rule.specs.Told.{saw_check, CheckSeen}
use Rattle.cell_rule.proofs.Keeps.{check_keeps}
use Rattle.cell_rule.proofs.Telling.{check_told}
use Rattle.cell_rule.proofs.steps.load_check.Goals as goal

pub load-found-requires : goal.load-found-requires
load-found-requires g c =
    let p = g.N.Call.about in let x = g.N.Call.site in let e = c.requires.named in let r = c.requires.reach in let z = c.args.words.now.table.shared.table_id.slots in let s = c.args.seat.now in
    let sites = ap (λ (q : About). q.sites) e.0 in let size = c.args.words.now.size in let inside = r.2 in let same = e.1 in let lt = c.requires.place in let i : ℕ = c.args.place in (
      r.0,
      omega arith,
      subst (λ (q : About × ℕ). Allows (Ruled q.0) z s.id s.me (6 * q.1 + 3 + i) (λ n. n) (saw_check p x g.N.Call.class (step z (6 * q.1 + 3 + i) 0 0 none) s.me)) (λ j. (e.0 j, e.1 j))
          (check_keeps p z s.id s.me x g.N.Call.class r.2 r.1 i lt),
    )

pub returns-clause-told : goal.returns-clause-told
returns-clause-told g c =
    let x = g.N.Call.site in let same = c.requires.named.1 in let i : ℕ = c.args.place in let back : 6 * c.args.site.0 + 3 + i - (6 * x + 3) ≡ i = omega arith in
    check_told _ _ _ _ _ _ (subst (λ (q : ℕ). CheckSeen g.N.Call.about x q c.load-found.result c.args.seat.now.me.0 c.load-found.new.seat.me.0) back c.load-found.ensures.2.1) c.unpack_check.result c.unpack_check.ensures
