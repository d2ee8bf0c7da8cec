use Rattle.std.proofs.Common.{◌≡◌, ◌-◌}
use Rattle.mega_cache.specs.Places.{first_with_room, last_generation}
use Rattle.mega_cache.proofs.generations.last_generation.Given as goal

abbrev pub invariant-loop-generation : goal.invariant-loop-generation
invariant-loop-generation l = record { rest : first_with_room (7 - l.generation) l.generation l.classes ≡ last_generation l.classes }
