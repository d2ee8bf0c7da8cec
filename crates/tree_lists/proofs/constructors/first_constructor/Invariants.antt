use Rattle.std.proofs.Common.{◌≡◌, drop, map}
use Rattle.dart_syntax.specs.View.{member}
use Rattle.dart_meaning.specs.Classes.{first_some, constructor_in}
use Rattle.tree_lists.proofs.constructors.first_constructor.Given as goal

abbrev pub invariant-loop-m : goal.invariant-loop-m
invariant-loop-m g l = first_some (map constructor_in (map member (drop l.m-index l.members))) ≡ first_some (map constructor_in (map member l.members))
