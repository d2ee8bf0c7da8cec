-- Small programs whose classes are a chain, with one call of a member `m`.
use Rattle.std.specs.Prelude.{ℕ, pos, [], ◌∷◌, replicate, codes}
use Rattle.small_program.specs.declared.small.SmallClass.{SmallClass}
use Rattle.small_program.specs.declared.small.Small.{Small}

-- a class without a name that declares `m`
abbrev pub with_member : SmallClass
with_member = record { name = []; methods = record { name = codes "m"; value = pos 1 } ∷ [] }

-- a class without a name and without methods
abbrev pub bare : SmallClass
bare = record { name = []; methods = [] }

-- a class that declares `m`, one that does not, and so many that do; and one call of `m`
abbrev pub ladder_of : ℕ → Small
ladder_of count = record { classes = with_member ∷ bare ∷ replicate count with_member; prints = record { class = 0; method = codes "m"; line = 1; column = 1 } ∷ [] }
