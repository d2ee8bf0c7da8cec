use Rattle.std.proofs.Common.{◌≡◌, ◌++◌, drop, map, flat_map}
use Rattle.dart_syntax.specs.View.{member}
use Rattle.dart_meaning.specs.Numbering.{member_keys}
use Rattle.tree_numbers.specs.Members.{keys_of}
use Rattle.tree_numbers.proofs.members.add_members.Given as goal

abbrev pub invariant-loop-m : goal.invariant-loop-m
invariant-loop-m l = keys_of l.keys.items ++ flat_map (member_keys l.class) (map member (drop l.m-index l.members)) ≡ keys_of l.fn.keys.items ++ flat_map (member_keys l.class) (map member l.members)
