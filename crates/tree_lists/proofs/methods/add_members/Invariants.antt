use Rattle.std.proofs.Common.{◌≡◌, ◌++◌, drop, map, flat_map}
use Rattle.dart_syntax.specs.View.{member, unit}
use Rattle.dart_meaning.specs.Forms.{method_form}
use Rattle.dart_meaning.specs.NumberedForm.{numbered_member}
use Rattle.tree_lists.proofs.methods.add_members.Given as goal

abbrev pub invariant-loop-m : goal.invariant-loop-m
invariant-loop-m g l =
    let f = numbered_member (unit l.inside.numbers.now.tree.now) l.class in
    map method_form l.all ++ flat_map f (map member (drop l.m-index l.members)) ≡ map method_form l.fn.all ++ flat_map f (map member l.members)
