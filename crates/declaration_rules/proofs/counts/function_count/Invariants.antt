use Rattle.std.proofs.Common.{◌≡◌, ◌+◌, drop, map, length}
use Rattle.std.specs.Prelude.{filter_map}
use Rattle.dart_syntax.specs.View.{top}
use Rattle.dart_meaning.specs.Classes.{function_at}
use Rattle.declaration_rules.proofs.counts.function_count.Given as goal

abbrev pub invariant-loop-t : goal.invariant-loop-t
invariant-loop-t l = l.n + length (filter_map function_at (map top (drop l.t-index l.tops))) ≡ length (filter_map function_at (map top l.tops))
