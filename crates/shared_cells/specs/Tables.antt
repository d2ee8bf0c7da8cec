-- A table and its passes.
use Rattle.std.specs.Prelude.{◌≡◌}
use Rattle.method_lookup.specs.declared.linked.Linked.{Linked}
use Rattle.cell_rule.specs.declared.view.View.{View}
use Rattle.shared_cells.specs.declared.table.CellTable.{CellTable}
use Rattle.shared_cells.specs.declared.table.Pass.{Pass}

-- what a pass knows
abbrev pub view_of : Pass → View
view_of p = p.seat.me.0

-- the program of a table
abbrev pub key_of : CellTable → Linked
key_of t = t.words.table.shared.key.value

-- the pass is one of the table
abbrev pub IsOf : CellTable → Pass → Type 0
IsOf t p = p.seat.table_id ≡ t.words.table.shared.table_id
