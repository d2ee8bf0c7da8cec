-- The classes of a tree by their names, the first of each name.
use Rattle.std.specs.Prelude.{List, map, option_map, Option, None, Some}
use Rattle.std.specs.Str.{bytes_eq}
use Rattle.std.specs.HashMap.{HashMap, get_by}
use Rattle.std.specs.Borrow.{Bor}
use Rattle.dart_syntax.specs.declared.tree.ClassDecl as src
use Rattle.dart_syntax.specs.Syntax.{ClassDecl}
use Rattle.dart_syntax.specs.Bytes.{Text}
use Rattle.dart_meaning.specs.Classes.{first_some, if_so}
use Rattle.declaration_rules.specs.Seen.{class_of}

-- the class that a name has, if it has one
abbrev pub Find : Type 0
Find = Text → Option ClassDecl

-- the classes that a map of src/ holds
abbrev pub found_in : {S : Type 0} → HashMap (Bor Text) (Bor src.ClassDecl) S → Find
found_in m q = option_map class_of (get_by (λ k. bytes_eq q k.now) m)

-- the first class of a name
abbrev pub named_of : List ClassDecl → Find
named_of cs q = first_some (map (λ (c : ClassDecl). if_so (bytes_eq c.name.text q) c) cs)

-- the first of two
abbrev pub or_first : Option ClassDecl → Option ClassDecl → Option ClassDecl
or_first (Some c) other = Some c
or_first None other = other
