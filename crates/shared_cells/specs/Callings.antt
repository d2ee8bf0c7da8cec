-- What each part of a dispatch requires.
use Rattle.std.specs.Prelude.{◌≡◌, ℕ, ◌<◌, IsTrue}
use Rattle.method_lookup.specs.declared.linked.Linked.{Linked}
use Rattle.cell_rule.specs.declared.table.CellWords.{CellWords}
use Rattle.cell_rule.specs.About.{About, about_of}
use Rattle.cell_rule.specs.Steps.{Place}

-- the names of the call are those of the arguments
abbrev pub IsCall : About → ℕ → ℕ → CellWords → ℕ → ℕ → Type 0
IsCall p x c t site class = (p ≡ about_of t.table.shared.key.value) × (x ≡ site) × (c ≡ class)

-- the same, with the program at hand
abbrev pub IsCallOf : About → ℕ → ℕ → CellWords → Linked → ℕ → ℕ → Type 0
IsCallOf p x c t linked site class = (p ≡ about_of t.table.shared.key.value) × (x ≡ site) × (c ≡ class) × (p ≡ about_of linked)

-- the table's program and the site, with the program at hand
abbrev pub IsNamedOf : About → ℕ → CellWords → Linked → ℕ → Type 0
IsNamedOf p x t linked site = (p ≡ about_of t.table.shared.key.value) × (x ≡ site) × (p ≡ about_of linked)

-- the seat is one of the table, and the call is possible
abbrev pub CanCall : About → ℕ → ℕ → CellWords → Place → Type 0
CanCall p x c t s = (s.table_id ≡ t.table.shared.table_id) × (0 < s.me.0.share) × (x < p.sites) × IsTrue ((p.at x).concrete c)
