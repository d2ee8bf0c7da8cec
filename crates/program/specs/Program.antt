-- Numbered programs as their lists, and their entry points.
use Rattle.std.specs.Prelude.{ℕ, Bool, ◌&&◌, ◌||◌, nat_eq, List, length, slice_get, Option, IfSome, IsTrue, codes}
use Rattle.std.specs.List.{position_from}
use Rattle.std.specs.Str.{bytes_eq}
use Rattle.program.specs.declared.numbered.Function.{Function}
use Rattle.program.specs.declared.numbered.Numbered.{Numbered}
use Rattle.program.specs.Parts.{Parts, parts}

abbrev pub parts_of : Numbered → Parts
parts_of p = parts p.classes p.methods p.functions p.selectors p.sites p.globals

-- a function without parameters that is named `main` or marked
abbrev pub is_entry_point : Function → Bool
is_entry_point f = nat_eq f.required 0 && (nat_eq (length f.defaults) 0 && (f.is_entry || bytes_eq f.name (codes "main")))

abbrev pub is_entry_named : List ℕ → Function → Bool
is_entry_named name f = is_entry_point f && bytes_eq f.name name

-- the number of the entry point of a name
unfoldable pub entry_named : Numbered → List ℕ → Option ℕ
entry_named p name = position_from (is_entry_named name) 0 p.functions

-- function e is there, an entry point, and has the name
abbrev pub HasEntry : Numbered → ℕ → List ℕ → Type 0
HasEntry p e name = IfSome (slice_get p.functions e) (λ f. IsTrue (is_entry_named name f))
