use Rattle.std.proofs.Common.{ℕ, ◌+◌, ◌*◌, ap, subst, arith}
use mathlib.Core.Option.{none}
use Rattle.atomic_table.specs.Table.{step, Allows}
use Rattle.cell_rule.specs.About.{About}
use Rattle.cell_rule.specs.Rule.{Ruled}
use Rattle.cell_rule.specs.Told.{saw_data}
use Rattle.cell_rule.proofs.Keeps.{data_keeps}
use Rattle.cell_rule.proofs.Telling.{data_told, data_is_word}
use Rattle.cell_rule.proofs.steps.load_data.Goals as goal

pub load-found-requires : goal.load-found-requires
load-found-requires g c =
    let p = g.N.Call.about in let x = g.N.Call.site in let e = c.requires.named in let r = c.requires.reach in let z = c.args.words.now.table.shared.table_id.slots in let s = c.args.seat.now in
    let sites = ap (λ (q : About). q.sites) e.0 in let size = c.args.words.now.size in let inside = r.2 in let same = e.1 in (
      r.0,
      omega arith,
      subst (λ (q : About × ℕ). Allows (Ruled q.0) z s.id s.me (6 * q.1 + 2) (λ n. n) (saw_data p x g.N.Call.class (step z (6 * q.1 + 2) 0 0 none) s.me)) (λ j. (e.0 j, e.1 j))
          (data_keeps p z s.id s.me x g.N.Call.class r.2 r.1 c.requires.current),
    )

pub read_data-requires : goal.read_data-requires
read_data-requires g c = data_is_word _ _ _ _ _ _ c.load-found.ensures.2.1

pub returns-clause-told : goal.returns-clause-told
returns-clause-told g c = data_told _ _ _ _ _ _ c.load-found.ensures.2.1 _ _ c.read_data.ensures.0 c.read_data.ensures.1
