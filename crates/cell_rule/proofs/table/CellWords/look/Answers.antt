use Rattle.std.proofs.Common.{sym, subst, arith}
use mathlib.Core.Option.{none}
use Rattle.atomic_table.specs.Table.{step, Allows}
use Rattle.cell_rule.specs.About.{About}
use Rattle.cell_rule.specs.Rule.{Ruled}
use Rattle.cell_rule.specs.Told.{Sat, looked}
use Rattle.cell_rule.specs.Steps.{Knows}
use Rattle.cell_rule.proofs.Keeps.{looks_keep}
use Rattle.cell_rule.proofs.table.CellWords.look.Goals as goal

pub load-requires : goal.load-requires
load-requires g c = let size = c.args.self.now.size in let z = c.args.self.now.table.shared.table_id.slots in let s = c.args.seat.now in (
  c.requires.own,
  omega arith,
  subst (λ (q : About). Allows (Ruled q) z s.id s.me 0 (λ n. n) (looked g.N.Call.about (step z 0 0 0 none) s.me)) c.requires.named (looks_keep g.N.Call.about z s.id s.me),
)

pub returns-clause-knows : goal.returns-clause-knows
returns-clause-knows g c = let told = c.load.ensures.2 in subst (λ (m : Sat). Knows g.N.Call.about m.0) (sym told.0) told.1
