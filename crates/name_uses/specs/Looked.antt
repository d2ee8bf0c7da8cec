-- Parts whose classes go by their names.
use Rattle.std.specs.Prelude.{Option, None, Some}
use Rattle.dart_syntax.specs.Syntax.{ClassDecl, Tree}
use Rattle.dart_meaning.specs.Classes.{class_named}
use Rattle.dart_meaning.specs.Uses as u

-- the class that the tree has by the name of this one
abbrev pub looked_class : Tree → Option ClassDecl → Option ClassDecl
looked_class tree None = None
looked_class tree (Some c) = class_named tree c.name.text

-- the part with that class in place of its own
abbrev pub looked : Tree → u.Part → u.Part
looked tree p = u.part p.kind (looked_class tree p.class) p.uses
