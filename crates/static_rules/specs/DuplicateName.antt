-- **DuplicateName.** Of two declarations that may not have one name, the second; its place is its name.
use Rattle.std.specs.Prelude.{if◌then◌else◌, List, map, filter_map, Option, None, Some}
use Rattle.std.specs.Str.{bytes_eq}
use Rattle.dart_syntax.specs.declared.tree.Name.{Name}
use Rattle.dart_syntax.specs.Operators.{named}
use Rattle.dart_syntax.specs.Bytes.{Text}
use Rattle.dart_syntax.specs.Syntax as t
use Rattle.dart_syntax.specs.Syntax.{Sta, Stas, Param, Body, Member, ClassDecl, Top, Tree}
use Rattle.dart_meaning.specs.Operators.{operator_name}
use Rattle.dart_meaning.specs.Uses.{locals}
use Rattle.dart_meaning.specs.Means.{top_name, is_built_in}
use Rattle.static_rules.specs.Places.{Fault, at_if, ◌or_else◌, first_in}
use Rattle.static_rules.specs.Repeats.{repeated, repeats}

-- ---- locals of one block

abbrev mutual
  pub in_sta : Sta → Fault
  in_sta (t.block all) = repeats (locals all) or_else in_stas all
  in_sta (t.when c x) = in_sta x
  in_sta (t.when_else c x y) = in_sta x or_else in_sta y
  in_sta (t.while c x) = in_sta x
  in_sta (t.do_while x c) = in_sta x
  in_sta (t.for first c last x) = in_sta x
  in_sta _ = None

  pub in_stas : Stas → Fault
  in_stas t.done = None
  in_stas (t.next x more) = in_sta x or_else in_stas more

-- two locals of a block, or of one inside it
abbrev pub in_block : Stas → Fault
in_block all = repeats (locals all) or_else in_stas all

abbrev pub in_body : Body → Fault
in_body (t.arrow e) = None
in_body (t.code all) = in_block all

-- ---- parameters of one function

-- two parameters of one name
abbrev pub in_params : List Param → Fault
in_params params = repeats (map (λ (p : Param). p.name) params)

-- within a body or block, if there is one
abbrev pub in_some : {A : Type 0} → (A → Fault) → Option A → Fault
in_some f None = None
in_some f (Some x) = f x

-- within one member
abbrev pub in_member : Member → Fault
in_member (t.field l) = None
in_member (t.method n params b) = in_params params or_else in_some in_body b
in_member (t.getter n b) = in_some in_body b
in_member (t.setter n param b) = in_some in_body b
in_member (t.operator op at params b) = in_params params or_else in_some in_body b
in_member (t.constructor n params passed b) = in_params params or_else in_some in_block b

-- ---- members of one class

-- A member that is read by its name, as two getters would be: a getter, a field, a method. An operator is a method; a minus without parameters has the name `unary-`.
abbrev pub read_name : Member → Option Name
read_name (t.field l) = Some l.name
read_name (t.method n params b) = Some n
read_name (t.getter n b) = Some n
read_name (t.setter n param b) = None
read_name (t.operator op at params b) = Some (named (operator_name op params) at)
read_name (t.constructor n params passed b) = None

-- One that is written by its name, as two setters would be: a setter, a field that is not final, and a method too, which no other member may be beside.
abbrev pub written_name : Member → Option Name
written_name (t.field l) = if l.is_final then None else Some l.name
written_name (t.method n params b) = Some n
written_name (t.getter n b) = None
written_name (t.setter n param b) = Some n
written_name (t.operator op at params b) = Some (named (operator_name op params) at)
written_name (t.constructor n params passed b) = None

-- the name by which a constructor is one
abbrev pub constructor_name : Member → Option Name
constructor_name (t.constructor n params passed b) = Some n
constructor_name _ = None

-- a member, not the constructor, with the class's name
abbrev pub has_class_name : Text → Member → Fault
has_class_name class (t.field l) = at_if (bytes_eq l.name.text class) l.name.span
has_class_name class (t.method n params b) = at_if (bytes_eq n.text class) n.span
has_class_name class (t.getter n b) = at_if (bytes_eq n.text class) n.span
has_class_name class (t.setter n param b) = at_if (bytes_eq n.text class) n.span
has_class_name class _ = None

-- two members of one name, a member with the class's name, or within a member
abbrev pub in_class : ClassDecl → Fault
in_class c =
    repeats (filter_map read_name c.members)
    or_else repeats (filter_map written_name c.members)
    or_else repeats (filter_map constructor_name c.members)
    or_else first_in (has_class_name c.name.text) c.members
    or_else first_in in_member c.members

-- ---- declarations of a text

-- within one declaration
abbrev pub in_top : Top → Fault
in_top (t.a_class c) = in_class c
in_top (t.a_function f) = in_params f.params or_else in_body f.body
in_top (t.a_variable v) = None

-- a name of the text that a built-in class or `print` has, too
unfoldable pub duplicate_name : Tree → Fault
duplicate_name tree = repeated is_built_in (map top_name tree.tops) or_else first_in in_top tree.tops
