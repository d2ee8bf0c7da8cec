-- The order of the classes, by what is directly below each.
use Rattle.std.specs.Prelude.{ℕ, zero, suc, if◌then◌else◌, List, [], ◌∷◌, ◌++◌, flat_map, Option, None, Some, unwrap_or, Vec}
use Rattle.std.specs.Option.{option_map}
use Rattle.std.specs.Str.{bytes_eq}
use Rattle.std.specs.HashMap.{HashMap}
use Rattle.std.specs.Borrow.{Bor}
use Rattle.dart_syntax.specs.declared.tree.Name.{Name}
use Rattle.dart_syntax.specs.Syntax.{ClassDecl}
use Rattle.dart_syntax.specs.Bytes.{Text}
use Rattle.dart_meaning.specs.Classes.{object, parent_of}
use Rattle.tree_numbers.specs.declared.order.Waiting.{Waiting}
use Rattle.tree_numbers.specs.Maps.{Known, in_map}
use Rattle.tree_numbers.specs.Parts.{texts}
use Rattle.tree_numbers.specs.ClassFacts.{Facts}

-- the name behind `extends`, or Object where none is written
abbrev pub above_or_object : ClassDecl → Text
above_or_object c = unwrap_or (option_map (λ (n : Name). n.text) c.parent) object

-- the class above another one
abbrev pub above_of : Option Facts → Text → Option Text
above_of facts name = parent_of (option_map (λ (f : Facts). f.class) facts) name

-- the class above another one, by what is known of classes
abbrev pub above_in : Known Facts → Text → Option Text
above_in known name = above_of (known name) name

-- the names directly below each
abbrev pub Below : Type 0
Below = Text → List Text

abbrev pub no_children : Below
no_children q = []

-- one name more directly below a class, behind those that are there
abbrev pub with_child : Text → Text → Below → Below
with_child above name below q = if bytes_eq above q then below above ++ name ∷ [] else below q

-- what was there, and then these classes below those that are above them
abbrev pub also_below : (Text → Option Text) → List ClassDecl → Below → Below
also_below above [] below = below
also_below above (c ∷ more) below = also_below above more (with_child (unwrap_or (above c.name.text) []) c.name.text below)

-- the names of a vector; none where there is no vector
abbrev pub names_in : {A : Type 0} → Option (Vec (Bor Text) A) → List Text
names_in None = []
names_in (Some v) = texts v.items

-- the names that a map of src/ holds below each name
unfoldable pub below_in : {A S : Type 0} → HashMap (Bor Text) (Vec (Bor Text) A) S → Below
below_in m q = names_in (in_map m q)

-- a class and those below it, so many levels deep
abbrev pub ordered : ℕ → Below → Text → List Text
ordered zero below name = []
ordered (suc n) below name = name ∷ flat_map (ordered n below) (below name)

-- the names that wait together, each before those below it
abbrev pub waiting_names : Below → Waiting → List Text
waiting_names below w = flat_map (ordered (suc w.levels) below) (texts w.names.now)

-- what still comes, from the last that waits on
abbrev pub todo_before : Below → List Text → List Waiting → List Text
todo_before below later [] = later
todo_before below later (w ∷ ws) = todo_before below (waiting_names below w ++ later) ws

-- all that still comes
abbrev pub todo : Below → List Waiting → List Text
todo below ws = todo_before below [] ws
