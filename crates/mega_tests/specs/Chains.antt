-- Small programs whose classes are a chain without members.
use Rattle.std.specs.Prelude.{ℕ, [], replicate}
use Rattle.small_program.specs.declared.small.SmallClass.{SmallClass}
use Rattle.small_program.specs.declared.small.Small.{Small}

-- a class without a name and without methods
abbrev pub plain_class : SmallClass
plain_class = record { name = []; methods = [] }

-- so many of them below each other
abbrev pub chain_of : ℕ → Small
chain_of count = record { classes = replicate count plain_class; prints = [] }
