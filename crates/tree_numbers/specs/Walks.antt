-- Walks up the hierarchy, where no more than so many classes are looked at.
use Rattle.std.specs.Prelude.{ℕ, zero, suc, ◌+◌, Bool, false, if◌then◌else◌, List, [], position, Option, None, Some, unwrap_or}
use Rattle.std.specs.Option.{option_map}
use Rattle.std.specs.List.{list_any}
use Rattle.std.specs.Str.{bytes_eq}
use Rattle.dart_syntax.specs.Bytes.{Text}
use Rattle.program.specs.declared.numbered.Method.{Method}
use Rattle.program.specs.declared.numbered.SelectorKind.{SelectorKind}
use Rattle.program.specs.declared.numbered.SelectorKind.TheVariants.{Call, Get, Set}
use Rattle.program.specs.Lookup.{is_declared_by}
use Rattle.dart_meaning.specs.Classes.{built_in_names}
use Rattle.tree_numbers.specs.Maps.{Known}
use Rattle.tree_numbers.specs.ClassFacts.{Facts}
use Rattle.tree_numbers.specs.Order.{above_in}

-- how many fields a class declares
abbrev pub field_count : Option Facts → ℕ
field_count None = 0
field_count (Some f) = f.field_count

-- how many the classes above one declare
abbrev pub fields_up : ℕ → Known Facts → Text → ℕ
fields_up zero known class = 0
fields_up (suc n) known class = unwrap_or (option_map (λ above. field_count (known above) + fields_up n known above) (above_in known class)) 0

-- a class has a member with a body, of this kind and name
abbrev pub owns_of : SelectorKind → Facts → Text → Bool
owns_of Get f q = f.reads q
owns_of Set f q = f.writes q
owns_of Call f q = f.calls q

-- the same of a built-in class, by its number
abbrev pub has_at : List Method → SelectorKind → Text → Option ℕ → Bool
has_at methods kind name None = false
has_at methods kind name (Some c) = list_any (is_declared_by c kind name) methods

-- the same of any class; one that is not known is a built-in one
abbrev pub owned_if : List Method → SelectorKind → Text → Text → Option Facts → Bool
owned_if methods kind name class None = has_at methods kind name (position (bytes_eq class) built_in_names)
owned_if methods kind name class (Some f) = owns_of kind f name

-- whether a class itself declares such a member with a body
abbrev pub owns_by : List Method → Known Facts → SelectorKind → Text → Text → Bool
owns_by methods known kind name class = owned_if methods kind name class (known class)

-- the first class above one that passes
abbrev pub owner_up : ℕ → (Text → Bool) → (Text → Option Text) → Text → Text
owner_up zero passes above class = []
owner_up (suc n) passes above class = unwrap_or (option_map (λ up. if passes up then up else owner_up n passes above up) (above class)) []
