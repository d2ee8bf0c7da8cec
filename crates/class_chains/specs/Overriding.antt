-- The nearest method of a name above a class, by numbers of classes.
use Rattle.std.specs.Prelude.{ℕ, zero, suc, nat_eq, Bool, false, List, length, map, position, find, option_map, Option, None, Some}
use Rattle.std.specs.Option.{option_and_then}
use Rattle.std.specs.List.{slice_get}
use Rattle.std.specs.Str.{bytes_eq}
use Rattle.std.specs.HashMap.{HashMap, get_by}
use Rattle.std.specs.Borrow.{Bor}
use Rattle.dart_syntax.specs.declared.tree.ClassDecl as src
use Rattle.dart_syntax.specs.Syntax as t
use Rattle.dart_syntax.specs.Syntax.{ClassDecl, Member}
use Rattle.dart_syntax.specs.Bytes.{Text}
use Rattle.program.specs.declared.numbered.Class.{Class}
use Rattle.program.specs.declared.numbered.Method.{Method}
use Rattle.program.specs.declared.numbered.SelectorKind.TheVariants.{Call}
use Rattle.program.specs.Lookup.{is_declared_by}
use Rattle.dart_meaning.specs.Classes.{first_some, parent_of}
use Rattle.static_rules.specs.BadOverride.{own_count, differs}
use Rattle.static_rules.specs.Places.{Fault, at_if, first_in}
use Rattle.declaration_rules.specs.Finding.{Find}
use Rattle.declaration_rules.specs.Seen.{class_of}
use Rattle.class_chains.specs.declared.chains.Chains.{Chains}

-- ---- classes and their own methods

-- the number that a name has
abbrev pub number_in : {S : Type 0} → HashMap (Bor Text) ℕ S → Text → Option ℕ
number_in numbers q = get_by (λ k. bytes_eq q k.now) numbers

-- the number is there, and is n
abbrev pub is_number : ℕ → Option ℕ → Bool
is_number n None = false
is_number n (Some other) = nat_eq other n

-- the class of a name, by its number
abbrev pub found_at : {S : Type 0} → List (Bor src.ClassDecl) → HashMap (Bor Text) ℕ S → Find
found_at all numbers q = option_and_then (λ n. option_map class_of (slice_get all n)) (number_in numbers q)

-- the classes of the text by their names, as the chains have them
abbrev pub find_in : Chains → Find
find_in k = found_at k.all.items k.numbers

-- how many parameters a method of a built-in class has, the class by its number
abbrev pub required_of : List Method → ℕ → Text → Option ℕ
required_of methods number name = option_map (λ (m : Method). m.required) (find (is_declared_by number Call name) methods)

-- the same, the class by its name
abbrev pub built_in_by : List Class → List Method → Text → Text → Option ℕ
built_in_by classes methods class name = option_and_then (λ number. required_of methods number name) (position (λ (k : Class). bytes_eq class k.name) classes)

-- A class that is not found in the text is a built-in one.
abbrev pub count_found : List Class → List Method → Text → Text → Option ClassDecl → Option ℕ
count_found classes methods name class (Some c) = first_some (map (own_count name) c.members)
count_found classes methods name class None = built_in_by classes methods class name

-- how many parameters a class's own method of a name has
abbrev pub count_in_by : List Class → List Method → Find → Text → Text → Option ℕ
count_in_by classes methods find name class = count_found classes methods name class (find class)

-- the same, as the chains know the classes
abbrev pub own_in : Chains → Text → Text → Option ℕ
own_in k = count_in_by k.built_in.now.classes k.built_in.now.methods (find_in k)

-- ---- the way up

-- what a class itself has, or else what those above it have
abbrev pub or_above : Option ℕ → Option ℕ → Option ℕ
or_above (Some n) above = Some n
or_above None above = above

-- that of the first class from this one up, of so many
abbrev pub count_up : (Text → Option ℕ) → Find → ℕ → Text → Option ℕ
count_up count find zero class = None
count_up count find (suc n) class = or_above (count class) (option_and_then (count_up count find n) (parent_of (find class) class))

-- the same from the class directly above
abbrev pub count_above_by : (Text → Option ℕ) → Find → ℕ → Text → Option ℕ
count_above_by count find most class = option_and_then (count_up count find most) (parent_of (find class) class)

-- that of a name, from a class up
unfoldable pub from_up : Chains → Text → Text → Option ℕ
from_up k class name = count_up (own_in k name) (find_in k) k.most class

-- and from the class directly above it
unfoldable pub above : Chains → Text → Text → Option ℕ
above k class name = count_above_by (own_in k name) (find_in k) k.most class

-- ---- the rule, where it is known how many parameters the nearest method of each name above has

-- a method with another number of parameters than the nearest one above, at its name
abbrev pub override_at : (Text → Option ℕ) → Member → Fault
override_at nearest (t.method n params b) = at_if (differs (nearest n.text) (length params)) n.span
override_at nearest _ = None

-- the first of a class's methods that differs
abbrev pub overrides_by : (Text → Option ℕ) → ClassDecl → Fault
overrides_by nearest c = first_in (override_at nearest) c.members

-- the same, as the chains know what stands above
abbrev pub overrides_of : Chains → ClassDecl → Fault
overrides_of k c = overrides_by (above k c.name.text) c
