use Rattle.std.proofs.Common.{◌≡◌, ◌++◌, drop, map, flat_map}
use Rattle.tree_numbers.specs.Parts.{class_of}
use Rattle.tree_numbers.specs.Members.{keys_of, keys_in, built_in_key}
use Rattle.tree_numbers.proofs.members.all_keys.Given as goal

abbrev pub invariant-loop-c : goal.invariant-loop-c
invariant-loop-c l = keys_of l.keys.items ++ flat_map keys_in (map class_of (drop l.c-index l.classes)) ≡ map (built_in_key l.names) l.built_in ++ flat_map keys_in (map class_of l.classes)
