-- What a bare name means at a place of a tree.
use Rattle.std.specs.Prelude.{Bool, true, false, ◌||◌, map, find, is_some, Option, None, Some, codes}
use Rattle.std.specs.List.{list_any}
use Rattle.std.specs.Str.{bytes_eq}
use Rattle.dart_syntax.specs.declared.tree.Name.{Name}
use Rattle.dart_syntax.specs.Syntax as t
use Rattle.dart_syntax.specs.Syntax.{ClassDecl, Top, Tree}
use Rattle.program.specs.declared.numbered.SelectorKind.{SelectorKind}
use Rattle.dart_values.specs.Values.{Text}
use Rattle.dart_meaning.specs.declared.seen.Seen.{Seen}
use Rattle.dart_meaning.specs.declared.seen.Seen.TheVariants.{Late, Ready}
use Rattle.dart_meaning.specs.Classes.{built_in_names, class_named, is_own_member, chain_above, own, Taking, first_some}
use Rattle.dart_meaning.specs.Uses.{Kind, of_function, of_member, of_passed, of_constructor, Part}

-- ---- names of declarations

-- the name that a declaration gives
abbrev pub top_name : Top → Name
top_name (t.a_class c) = c.name
top_name (t.a_function f) = f.name
top_name (t.a_variable v) = v.name

abbrev pub print_name : Text
print_name = codes "print"

-- the built-in classes and `print`
abbrev pub is_built_in : Text → Bool
is_built_in name = list_any (bytes_eq name) built_in_names || bytes_eq print_name name

-- the first declaration of this name
abbrev pub top_named : Tree → Text → Option Top
top_named tree name = find (λ top. bytes_eq (top_name top).text name) tree.tops

-- the text declares this name, or it is a built-in class or `print`
abbrev pub is_top : Tree → Text → Bool
is_top tree name = is_some (top_named tree name) || is_built_in name

-- a class of the text or a built-in one has this name
abbrev pub is_class : Tree → Text → Bool
is_class tree name = is_some (class_named tree name) || list_any (bytes_eq name) built_in_names

-- ---- where a body stands

-- `this` stands for an object there
abbrev pub has_this : Kind → Bool
has_this of_function = false
has_this of_member = true
has_this of_passed = false
has_this of_constructor = true

-- what `super` reaches: the first member with a body of the classes above the one that holds the body
abbrev pub super_member : Tree → Option ClassDecl → SelectorKind → Text → Option Taking
super_member tree None kind name = None
super_member tree (Some c) kind name = first_some (map (λ class. own tree class kind name) (chain_above tree c.name.text))

-- ---- bare names

-- what a bare name means where it stands
pub data Means : Type 0 where
  -- a local before the end of its declaration
  too_early : Means
  -- a local or a parameter, and whether it is final
  a_local : Bool → Means
  -- a member that the class declares, as `this.name`
  a_member : Means
  -- a declaration of the text, a built-in class or `print`
  a_top : Means
  -- `this.name`, which the class itself does not declare
  of_this : Means
  nothing : Means

-- a name that no local and no parameter has: whether the class declares it, whether the text does, and whether there is a `this`
abbrev pub beyond : Bool → Bool → Bool → Means
beyond true top this = a_member
beyond false true this = a_top
beyond false false true = of_this
beyond false false false = nothing

-- the meaning of a bare name in a part of the tree, with what the scope there knows of it
abbrev pub means : Tree → Part → Name → Option Seen → Means
means tree part n (Some Late) = too_early
means tree part n (Some (Ready is_final)) = a_local is_final
means tree part n None = beyond (is_own_member part.class n.text) (is_top tree n.text) (has_this part.kind)

-- it is a member, of `this`
abbrev pub is_of_this : Means → Bool
is_of_this a_member = true
is_of_this of_this = true
is_of_this _ = false
