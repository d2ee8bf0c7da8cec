-- What the tables of a numbered program hold for the bodies of a tree: its call sites, its functions and variables by their names, its classes with their constructors, and the members above a class.
use Rattle.std.specs.Prelude.{◌≡◌, ℕ, ◌<◌, false, true, IsTrue, length, slice_get, Option, None, Some}
use Rattle.dart_syntax.specs.Syntax as t
use Rattle.dart_syntax.specs.Syntax.{Tree, Local, Function, ClassDecl}
use Rattle.program.specs.declared.numbered.Class.{Class}
use Rattle.program.specs.declared.numbered.Selector.{Selector}
use Rattle.program.specs.BuiltIn.{is_open}
use Rattle.program.specs.Parts.{Parts, selector_at}
use Rattle.program.specs.Sound.{FunctionAccepts, MakeAccepts, IsRole, AboveAccepts}
use Rattle.program.specs.Whole.{Declares, SuperAccepts}
use Rattle.dart_values.specs.Values.{Text}
use Rattle.dart_meaning.specs.Classes.{Taking, agrees, class_named, class_number, classes, field_place, is_constructed, object, variable_place}
use Rattle.dart_meaning.specs.Means.{is_class, print_name, super_member, top_named}
use Rattle.dart_meaning.specs.Sites.{Site, site_of, text_sites}
use Rattle.dart_meaning.specs.Agree.{FindsAbove}
use Rattle.dart_meaning.specs.Numbering as num
use Rattle.static_rules.specs.UndefinedName.{has_field}
use Rattle.static_rules.specs.WrongArgumentsOfStatic.{constructor_count, super_count}

-- a member above the class `here`, whose number is `me` where there is a `this`: the one that such a call of `super` finds
abbrev pub ReachesAbove : Tree → Parts → Option Text → Option ℕ → Selector → Type 0
ReachesAbove tree p here me sel =
    FindsAbove tree (site_of tree) p here sel
    × IsRole p me sel.kind (slice_get p.methods (num.super_number tree (site_of tree) here sel.kind sel.name))
    × AboveAccepts p me (num.super_number tree (site_of tree) here sel.kind sel.name) sel.count (slice_get p.methods (num.super_number tree (site_of tree) here sel.kind sel.name))

-- a name that is called and makes an object
abbrev pub Makes : Tree → Parts → Text → ℕ → Type 0
Makes tree p name count =
    (num.function_number tree name ≡ None)
    × (is_constructed tree name ≡ true)
    × IsTrue (is_open (class_number tree name))
    × MakeAccepts count (slice_get p.classes (class_number tree name))

pub record Tables (tree : Tree) (p : Parts) : Type 0 where
  -- each call site of the text has its selector
  pub calls_at : (i : ℕ) (s : Site) → slice_get (text_sites tree) i ≡ Some s → selector_at p (site_of tree s.place) ≡ Some s.selector
  -- functions and variables
  pub functions : (name : Text) (f : Function) → top_named tree name ≡ Some (t.a_function f)
      → (k : ℕ) × (num.function_number tree name ≡ Some k) × FunctionAccepts (length f.params) (slice_get p.functions k)
  pub variables : (name : Text) (v : Local) → top_named tree name ≡ Some (t.a_variable v) → (k : ℕ) × (variable_place tree name ≡ Some k) × (k < length p.globals)
  pub print : (num.function_number tree print_name ≡ None) × (is_constructed tree print_name ≡ false)
  -- classes, no two of one name
  pub named : (i : ℕ) (c : ClassDecl) → slice_get (classes tree) i ≡ Some c → class_named tree c.name.text ≡ Some c
  pub numbers : (name : Text) → is_class tree name ≡ true → class_number tree name < length p.classes
  pub makes : (name : Text) (c : ClassDecl) → top_named tree name ≡ Some (t.a_class c) → c.is_abstract ≡ false → Makes tree p name (constructor_count tree name)
  pub makes_object : top_named tree object ≡ None → Makes tree p object 0
  -- of each class of the text: its fields, the members above it, and the constructor of the class above it
  pub fields : (c : ClassDecl) → class_named tree c.name.text ≡ Some c → (name : Text) → has_field (Some c) name ≡ true
      → Declares p (class_number tree c.name.text) (field_place tree c.name.text name)
  pub above : (c : ClassDecl) → class_named tree c.name.text ≡ Some c → (sel : Selector) (m : Taking) → super_member tree (Some c) sel.kind sel.name ≡ Some m → agrees sel.count m ≡ true
      → ReachesAbove tree p (Some c.name.text) (Some (class_number tree c.name.text)) sel
  pub enters : (c : ClassDecl) → class_named tree c.name.text ≡ Some c → (k : Class) → slice_get p.classes (class_number tree c.name.text) ≡ Some k → SuperAccepts p (super_count tree (Some c)) k.parent
