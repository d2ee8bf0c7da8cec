-- What members take, those of built-in classes and of the classes above.
use Rattle.std.specs.Prelude.{ℕ, zero, suc, Bool, false, not, ◌&&◌, nat_le, List, position, find, option_map, Option, None, Some}
use Rattle.std.specs.Option.{option_and_then}
use Rattle.std.specs.Str.{bytes_eq}
use Rattle.dart_syntax.specs.Syntax.{ClassDecl, Tree}
use Rattle.dart_syntax.specs.Bytes.{Text}
use Rattle.program.specs.declared.numbered.Class.{Class}
use Rattle.program.specs.declared.numbered.Method.{Method}
use Rattle.program.specs.declared.numbered.SelectorKind.{SelectorKind}
use Rattle.program.specs.declared.numbered.SelectorKind.TheVariants.{Call, Get, Set}
use Rattle.program.specs.Lookup.{is_declared_by}
use Rattle.dart_meaning.specs.Classes.{own, parent, parent_of}
use Rattle.dart_meaning.specs.Means.{super_member}
use Rattle.static_rules.specs.WrongArgumentsOfStatic.{super_count}
use Rattle.text_names.specs.declared.reached.Takes.{Takes}
use Rattle.text_names.specs.Maps.{Known, or_first}
use Rattle.text_names.specs.Reached.{takes_of}
use Rattle.text_names.specs.Around.{Around}

-- how many parameters the first member of a class has that has this kind and name
abbrev pub required_of : List Method → ℕ → SelectorKind → Text → Option ℕ
required_of methods number kind name = option_map (λ (m : Method). m.required) (find (is_declared_by number kind name) methods)

-- so many arguments and no other number
abbrev pub exactly : ℕ → Takes
exactly n = record { least = n; most = n }

-- what a member of a built-in class takes
abbrev pub built_in_takes : List Class → List Method → Text → SelectorKind → Text → Option Takes
built_in_takes classes methods class kind name = option_and_then (λ number. option_map exactly (required_of methods number kind name)) (position (λ (k : Class). bytes_eq class k.name) classes)

-- a class's own members of a kind
abbrev pub reached_by : SelectorKind → Around → Known Takes
reached_by Call a = a.calls
reached_by Get a = a.reads
reached_by Set a = a.writes

-- what a class's own member takes; a class that is not known is a built-in one
abbrev pub own_takes : List Class → List Method → Option Around → Text → SelectorKind → Text → Option Takes
own_takes classes methods (Some a) class kind name = reached_by kind a name
own_takes classes methods None class kind name = built_in_takes classes methods class kind name

-- the name of the class directly above one; a class that is not known is a built-in one
abbrev pub parent_in : Option Around → Text → Option Text
parent_in (Some a) class = parent_of (Some a.class) class
parent_in None class = parent_of None class

-- what the first member takes from a class up, of so many classes
abbrev pub takes_up : (Text → Option Takes) → (Text → Option Text) → ℕ → Text → Option Takes
takes_up takes parent zero class = None
takes_up takes parent (suc n) class = or_first (takes class) (option_and_then (takes_up takes parent n) (parent class))

-- what is known of the class of this name
abbrev pub named_around : Known Around → Option ClassDecl → Option Around
named_around known (Some c) = known c.name.text
named_around known None = None

-- the same in a tree
abbrev pub own_of : Tree → SelectorKind → Text → Text → Option Takes
own_of tree kind name class = option_map takes_of (own tree class kind name)

-- what the first member of the kind and name takes, from a class up in the tree
abbrev pub nearest : Tree → SelectorKind → Text → ℕ → Text → Option Takes
nearest tree kind name most class = takes_up (own_of tree kind name) (parent tree) most class

-- what `super` reaches from a class that is known
abbrev pub super_by : Tree → SelectorKind → Text → Option Around → Option Takes
super_by tree kind name (Some a) = option_map takes_of (super_member tree (Some a.class) kind name)
super_by tree kind name None = None

-- how many arguments the constructor of the superclass takes
abbrev pub count_by_class : Tree → Option Around → ℕ
count_by_class tree (Some a) = super_count tree (Some a.class)
count_by_class tree None = 0

-- a member is there that takes another number of arguments
abbrev pub is_other : Option Takes → ℕ → Bool
is_other None count = false
is_other (Some t) count = not (nat_le t.least count && nat_le count t.most)
