-- Members of some sort, by their names.
use Rattle.std.specs.Prelude.{Bool, true, false, ◌&&◌, is_some, List, [], ◌∷◌, Option, None}
use Rattle.dart_syntax.specs.Syntax as t
use Rattle.dart_syntax.specs.Syntax.{Member, Local, ClassDecl}
use Rattle.dart_syntax.specs.Bytes.{Text}
use Rattle.dart_meaning.specs.Classes.{if_so}
use Rattle.text_names.specs.declared.noted.Sort.{Sort}
use Rattle.text_names.specs.declared.noted.Sort.TheVariants as sort
use Rattle.text_names.specs.Maps.{Names, with_some}

-- a field is of the sort; `Initialised` are the final ones with a value
abbrev pub is_field_of : Sort → Local → Bool
is_field_of sort.Named l = true
is_field_of sort.Field l = true
is_field_of sort.Initialised l = l.is_final && is_some l.value
is_field_of sort.Method l = false
is_field_of sort.Accessor l = true

-- a method, and a getter or a setter
abbrev pub has_methods : Sort → Bool
has_methods sort.Named = true
has_methods sort.Field = false
has_methods sort.Initialised = false
has_methods sort.Method = true
has_methods sort.Accessor = false

-- getters and setters are of the sort
abbrev pub has_accessors : Sort → Bool
has_accessors sort.Named = true
has_accessors sort.Field = false
has_accessors sort.Initialised = false
has_accessors sort.Method = false
has_accessors sort.Accessor = true

-- the name of a member that is of the sort
abbrev pub noted : Sort → Member → Option Text
noted sort (t.field l) = if_so (is_field_of sort l) l.name.text
noted sort (t.method n params b) = if_so (has_methods sort) n.text
noted sort (t.getter n b) = if_so (has_accessors sort) n.text
noted sort (t.setter n param b) = if_so (has_accessors sort) n.text
noted sort (t.operator op at params b) = None
noted sort (t.constructor n params passed b) = None

-- these names, and those of the members that are of the sort
abbrev pub also_noted : Sort → List Member → Names → Names
also_noted sort [] known = known
also_noted sort (m ∷ more) known = also_noted sort more (with_some (noted sort m) known)

-- the same of the members of classes
abbrev pub also_noted_in : Sort → List ClassDecl → Names → Names
also_noted_in sort [] known = known
also_noted_in sort (c ∷ more) known = also_noted_in sort more (also_noted sort c.members known)
