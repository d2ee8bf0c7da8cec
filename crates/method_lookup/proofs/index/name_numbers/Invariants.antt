use Rattle.std.proofs.Common.{◌≡◌, List, ℕ, drop}
use Rattle.std.specs.List.{position_from}
use Rattle.program.specs.Lookup.{or_above}
use Rattle.method_lookup.specs.Index.{number_in, has_name, name_number}
use Rattle.method_lookup.proofs.index.name_numbers.Given as goal

abbrev pub invariant-loop-m : goal.invariant-loop-m
invariant-loop-m l = (q : List ℕ) → or_above (number_in l.names q) (position_from (has_name q) l.m (drop l.m l.methods)) ≡ name_number l.methods q
