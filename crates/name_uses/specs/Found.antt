-- The parts of a tree that src/ lists.
use Rattle.std.specs.Prelude.{List, map, option_map}
use Rattle.std.specs.Option.{option_copied}
use Rattle.dart_syntax.specs.View.{class}
use Rattle.name_uses.specs.declared.parts.Kind.{Kind}
use Rattle.name_uses.specs.declared.parts.Kind.TheVariants as kind
use Rattle.name_uses.specs.declared.parts.Part.{Part}
use Rattle.name_uses.specs.declared.parts.Parts.{Parts}
use Rattle.dart_meaning.specs.Uses as u

abbrev pub kind_of : Kind → u.Kind
kind_of kind.OfFunction = u.of_function
kind_of kind.OfMember = u.of_member
kind_of kind.OfPassed = u.of_passed
kind_of kind.OfConstructor = u.of_constructor

-- a part of the tree, as src/ has it
abbrev pub part_of : Part → u.Part
part_of p = u.part (kind_of p.kind) (option_map class (option_copied p.class)) p.uses

-- the parts that src/ has listed
unfoldable pub found : Parts → List u.Part
found parts = map part_of parts.list.items
