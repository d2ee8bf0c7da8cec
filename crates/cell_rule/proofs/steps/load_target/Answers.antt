use Rattle.std.proofs.Common.{ℕ, ◌+◌, ◌*◌, ap, subst, arith}
use mathlib.Core.Option.{none}
use Rattle.atomic_table.specs.Table.{step, Allows}
use Rattle.cell_rule.specs.About.{About}
use Rattle.cell_rule.specs.Rule.{Ruled}
use Rattle.cell_rule.specs.Told.{saw_head}
use Rattle.cell_rule.proofs.Keeps.{head_keeps}
use Rattle.cell_rule.proofs.Telling.{head_told, head_word}
use Rattle.cell_rule.proofs.steps.load_target.Goals as goal

pub load-found-requires : goal.load-found-requires
load-found-requires g c =
    let p = g.N.Call.about in let x = g.N.Call.site in let e = c.requires.named in let r = c.requires.reach in let z = c.args.words.now.table.shared.table_id.slots in let s = c.args.seat.now in
    let sites = ap (λ (q : About). q.sites) e.0 in let size = c.args.words.now.size in let inside = r.2 in let same = e.1 in (
      r.0,
      omega arith,
      subst (λ (q : About × ℕ). Allows (Ruled q.0) z s.id s.me (6 * q.1 + 1) (λ n. n) (saw_head p x g.N.Call.class (step z (6 * q.1 + 1) 0 0 none) s.me)) (λ j. (e.0 j, e.1 j))
          (head_keeps p z s.id s.me x g.N.Call.class r.2 r.1),
    )

pub read_target-requires : goal.read_target-requires
read_target-requires g c = head_word _ _ _ _ _ c.load-found.ensures.2.1

pub returns-clause-told : goal.returns-clause-told
returns-clause-told g c = head_told _ _ _ _ _ c.load-found.ensures.2.1 _ _ c.read_target.ensures.0 c.read_target.ensures.1
