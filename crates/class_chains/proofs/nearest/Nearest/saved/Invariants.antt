use Rattle.std.proofs.Common.{◌≡◌, ◌++◌, drop, map}
use Rattle.std.specs.Prelude.{filter_map}
use Rattle.dart_syntax.specs.View.{member}
use Rattle.class_chains.specs.Descending.{counted, saved, before_of}
use Rattle.class_chains.proofs.nearest.Nearest.saved.Given as goal

abbrev pub invariant-loop-m : goal.invariant-loop-m
invariant-loop-m l = map before_of l.all.items ++ filter_map (saved (counted l.self.counts)) (map member (drop l.m-index l.members)) ≡ filter_map (saved (counted l.self.counts)) (map member l.members)
