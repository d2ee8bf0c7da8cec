-- What is held of a tree is what the tree has.
use Rattle.std.specs.Prelude.{◌≡◌, ℕ, ◌+◌, List, length, position}
use Rattle.std.specs.Option.{option_map}
use Rattle.std.specs.Str.{bytes_eq}
use Rattle.dart_syntax.specs.Syntax.{Tree}
use Rattle.dart_syntax.specs.Bytes.{Text}
use Rattle.program.specs.declared.numbered.Method.{Method}
use Rattle.program.specs.BuiltIn.{built_in_members}
use Rattle.dart_meaning.specs.Classes.{classes, class_named, class_names, variable_place}
use Rattle.dart_meaning.specs.Numbering.{Key, same_key, all_keys, function_number}
use Rattle.tree_numbers.specs.Maps.{Known}
use Rattle.tree_numbers.specs.ClassFacts.{Facts, facts}
use Rattle.tree_numbers.specs.Members.{Held}

-- what src/ holds beside a tree, and that each part is what the definitions give for the tree
pub record IsExact (tree : Tree) (built_in : List Method) (known : Known Facts) (levels : ℕ) (order : List Text) (numbers : Known ℕ) (members : Held) (functions variables : Known ℕ) : Type 0 where
  pub built_in_are : built_in ≡ built_in_members
  pub classes_are : (q : Text) → known q ≡ option_map facts (class_named tree q)
  pub levels_are : levels ≡ 6 + length (classes tree)
  pub order_is : order ≡ class_names tree
  pub numbers_are : (q : Text) → numbers q ≡ position (bytes_eq q) (class_names tree)
  pub members_are : (k : Key) → members k ≡ position (same_key k) (all_keys tree)
  pub functions_are : (q : Text) → functions q ≡ function_number tree q
  pub variables_are : (q : Text) → variables q ≡ variable_place tree q
