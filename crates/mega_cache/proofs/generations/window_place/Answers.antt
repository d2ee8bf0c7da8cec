use Rattle.std.proofs.Common.{ℕ, ◌+◌, ◌*◌, arith}
use Rattle.std.proofs.lemmas.Nat.{mod_below}
use Rattle.mega_cache.proofs.generations.window_place.Goals as goal

pub overflow_add-result-2 : goal.overflow_add-result-2
overflow_add-result-2 c = let n : ℕ = c.capacity-size.result in let r = c.capacity-size.ensures.range in let low = r.0 in let high = r.1 in let m = mod_below (7 * c.args.class + c.args.turn) n (omega arith) in omega arith
