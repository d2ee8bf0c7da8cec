-- Tables of src/ as lists of classes and members.
use Rattle.std.specs.Prelude.{ℕ, suc, List, [], ◌∷◌}
use Rattle.program.specs.declared.built_in.Row.{Row}
use Rattle.program.specs.declared.numbered.Method.{Method}
use Rattle.program.specs.BuiltIn.{built_in}

-- the members of these rows, numbered from n
abbrev pub members_from : ℕ → List Row → List Method
members_from n [] = []
members_from n (r ∷ more) = built_in n r.owner.0 r.role r.name.now r.required ∷ members_from (suc n) more
