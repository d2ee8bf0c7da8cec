use Rattle.std.proofs.Common.{◌≡◌, ◌++◌, drop, map}
use Rattle.std.specs.Prelude.{filter_map}
use Rattle.dart_syntax.specs.View.{member}
use Rattle.dart_meaning.specs.Classes.{field_of}
use Rattle.dart_meaning.specs.Forms.{field_form}
use Rattle.tree_lists.specs.Locals.{numbered_field}
use Rattle.tree_lists.proofs.fields.fields.Given as goal

abbrev pub invariant-loop-m : goal.invariant-loop-m
invariant-loop-m l = map field_form l.all ++ map numbered_field (filter_map field_of (map member (drop l.m-index l.members))) ≡ map numbered_field (filter_map field_of (map member l.members))
