use Rattle.std.proofs.Common.{◌≡◌, ℕ, suc, ◌+◌, ◌-◌, sym, ◌∙◌, arith}
use Rattle.mega_cache.specs.Places.{first_with_room}
use Rattle.mega_cache.proofs.Programs.{room_here, room_later}
use Rattle.mega_cache.proofs.generations.last_generation.Goals as goal

pub returns-then-classes-capacity-clause-generation : goal.returns-then-classes-capacity-clause-generation
returns-then-classes-capacity-clause-generation c =
    let g : ℕ = c.loop-generation.generation in let k : ℕ = c.args.classes in let size = c.capacity.ensures.capacity in let fits = c.if-classes-capacity.true in
    sym (room_here (7 - g) (6 - g) g k (omega arith) (omega arith)) ∙ c.loop-generation.invariant.rest

pub loop-generation-preserved : goal.loop-generation-preserved
loop-generation-preserved c =
    let g : ℕ = c.loop-generation.generation in let k : ℕ = c.args.classes in let size = c.capacity.ensures.capacity in let full = c.if-classes-capacity.false in
    let here : 7 - (g + 1) ≡ 6 - g = omega arith in let next : g + 1 ≡ suc g = omega arith in
    record { rest = (λ j. first_with_room (here j) (next j) k) ∙ (sym (room_later (7 - g) (6 - g) g k (omega arith) (omega arith)) ∙ c.loop-generation.invariant.rest) }
