-- What is held of a tree is what the tree has.
use Rattle.std.specs.Prelude.{◌≡◌, List, option_map}
use Rattle.dart_syntax.specs.Syntax.{Top, Tree}
use Rattle.dart_syntax.specs.Bytes.{Text}
use Rattle.program.specs.declared.numbered.Class.{Class}
use Rattle.program.specs.declared.numbered.Method.{Method}
use Rattle.program.specs.BuiltIn.{built_in_classes, built_in_members}
use Rattle.dart_meaning.specs.Classes.{class_named}
use Rattle.dart_meaning.specs.Means.{top_named}
use Rattle.static_rules.specs.Members.{is_method_of, is_accessor_of, user_members}
use Rattle.text_names.specs.Maps.{Names, Known}
use Rattle.text_names.specs.Around.{Around, around}

-- what src/ holds of the names of a tree, and that each part is what the definitions give for the tree
pub record IsExact (tree : Tree) (tops : Known Top) (known : Known Around) (methods accessors : Names) (classes : List Class) (members : List Method) : Type 0 where
  pub tops_are : (q : Text) → tops q ≡ top_named tree q
  pub classes_are : (q : Text) → known q ≡ option_map around (class_named tree q)
  pub methods_are : (q : Text) → methods q ≡ is_method_of (user_members tree) q
  pub accessors_are : (q : Text) → accessors q ≡ is_accessor_of (user_members tree) q
  pub built_in_classes_are : classes ≡ built_in_classes
  pub built_in_members_are : members ≡ built_in_members
