use Rattle.std.proofs.Common.{◌≤◌, ◌-◌}
use Rattle.site_list.specs.Rows.{Stands}
use Rattle.site_list.proofs.cursor.Cursor.go_on.Given as goal

abbrev pub invariant-loop-self : goal.invariant-loop-self
invariant-loop-self l = record { ahead : l.self.byte ≤ l.to; stands : Stands l.text l.self }

abbrev pub decreases-loop-self : goal.decreases-loop-self
decreases-loop-self l = l.to - l.self.byte
