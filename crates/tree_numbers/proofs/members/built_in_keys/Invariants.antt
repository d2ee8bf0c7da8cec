use Rattle.std.proofs.Common.{◌≡◌, ◌++◌, drop, map}
use Rattle.tree_numbers.specs.Members.{keys_of, built_in_key}
use Rattle.tree_numbers.proofs.members.built_in_keys.Given as goal

abbrev pub invariant-loop-m : goal.invariant-loop-m
invariant-loop-m l = keys_of l.keys.items ++ map (built_in_key l.names) (drop l.m-index l.built_in) ≡ map (built_in_key l.names) l.built_in
