-- The methods of a field.
use Rattle.std.specs.Prelude.{if◌then◌else◌, List, [], ◌∷◌}
use Rattle.dart_syntax.specs.Syntax.{Tree, Local, ClassDecl}
use Rattle.program.specs.declared.numbered.SelectorKind.TheVariants.{Get, Set}
use Rattle.dart_values.specs.Values.{Text}
use Rattle.dart_meaning.specs.Classes.{field_place}
use Rattle.dart_meaning.specs.Forms.{MethodForm, reads_field, writes_field}
use Rattle.dart_meaning.specs.NumberedForm.{method, numbered_members}

-- the getter of a field, and its setter unless it is final
abbrev pub field_methods : Tree → Text → Local → List MethodForm
field_methods tree class f =
    method tree class Get f.name.text 0 [] (reads_field (field_place tree class f.name.text))
    ∷ (if f.is_final then [] else method tree class Set f.name.text 1 [] (writes_field (field_place tree class f.name.text)) ∷ [])

-- the methods of a class
unfoldable pub methods_of : Tree → ClassDecl → List MethodForm
methods_of tree c = numbered_members tree c
