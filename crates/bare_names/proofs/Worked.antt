-- Worked rows: which variables are open at the uses of `{ var x = y; x; }` with a parameter `y`, and in the body of a constructor with a parameter `this.y`.
use Rattle.std.proofs.Common.{true, false, [], ◌∷◌, codes}
use Rattle.std.specs.Prelude.{Bool, Some, None}
use Rattle.dart_syntax.specs.declared.tree.Name.{Name}
use Rattle.dart_syntax.specs.Bytes.{span}
use Rattle.dart_syntax.specs.Operators.{named}
use Rattle.dart_syntax.specs.Syntax as t
use Rattle.dart_syntax.specs.Syntax.{ClassDecl, Param, Tree}
use Rattle.dart_values.specs.Values.{Text}
use Rattle.dart_meaning.specs.declared.seen.Seen.TheVariants.{Ready}
use Rattle.dart_meaning.specs.Uses.{of_function, of_constructor, part}
use Rattle.bare_names.specs.Owners.{NameAgrees}
use Rattle.bare_names.specs.OpenVariables.{CodeAgrees, ConstructorBodyAgrees}

abbrev x : Text
x = codes "x"

abbrev y : Text
y = codes "y"

abbrev word : Text → Name
word text = named text (span 0 0 0)

-- the parameter y, plain or as `this.y`
abbrev parameter : Bool → Param
parameter is_field = record { name = word y; is_final = false; is_field = is_field; optional = false; default = None }

-- `var x = y; x;`
abbrev block : t.Stas
block = t.next (t.local (record { is_final = false; name = word x; value = Some (t.bare (word y)) })) (t.next (t.run (t.bare (word x))) t.done)

in_function : (tree : Tree) → CodeAgrees tree of_function None (parameter false ∷ []) (t.code block)
    → NameAgrees tree (part of_function None []) None (y ∷ []) (word y) (Some (Ready false)) × NameAgrees tree (part of_function None []) None (x ∷ y ∷ []) (word x) (Some (Ready false))
in_function tree ((h, _), ((k, _), _)) = (h, k)

in_constructor : (tree : Tree) (c : ClassDecl) → ConstructorBodyAgrees tree c (parameter true ∷ []) (Some block)
    → NameAgrees tree (part of_constructor (Some c) []) (Some c.name.text) ([] ∷ []) (word y) None × NameAgrees tree (part of_constructor (Some c) []) (Some c.name.text) (x ∷ [] ∷ []) (word x) (Some (Ready false))
in_constructor tree c ((h, _), ((k, _), _)) = (h, k)
