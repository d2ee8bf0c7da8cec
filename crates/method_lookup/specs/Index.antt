-- Members by numbers: a name goes by the number of the first member that has it.
use Rattle.std.specs.Prelude.{ℕ, Bool, false, ◌&&◌, nat_eq, if◌then◌else◌, List, [], ◌∷◌, map, slice_get, Option, None, Some, option_and_then}
use Rattle.std.specs.Borrow.{Bor}
use Rattle.std.specs.HashMap.{HashMap, get_by}
use Rattle.std.specs.List.{position_from}
use Rattle.std.specs.Str.{bytes_eq}
use Rattle.program.specs.declared.numbered.Method.{Method}
use Rattle.program.specs.declared.numbered.Selector.{Selector}
use Rattle.program.specs.declared.numbered.SelectorKind.{SelectorKind}
use Rattle.program.specs.Hierarchy.{chain}
use Rattle.program.specs.Parts.{Parts, parents}
use Rattle.program.specs.Lookup.{same_kind, or_above, if_accepts}
use Rattle.method_lookup.specs.declared.index.MemberKey.{MemberKey}

-- a member of this name
abbrev pub has_name : List ℕ → Method → Bool
has_name name m = bytes_eq m.name name

-- the number of a name: that of the first member that has it
unfoldable pub name_number : List Method → List ℕ → Option ℕ
name_number methods name = position_from (has_name name) 0 methods

-- the number is there, and is n
abbrev pub is_number : ℕ → Option ℕ → Bool
is_number n None = false
is_number n (Some k) = nat_eq n k

-- a member of class c, of this kind, whose name has the number n
abbrev pub is_keyed_by : (List ℕ → Option ℕ) → ℕ → SelectorKind → ℕ → Method → Bool
is_keyed_by number c role n m = nat_eq c m.owner.0 && (same_kind role m.role && is_number n (number m.name))

-- the same, by the names of these members
abbrev pub is_keyed : List Method → ℕ → SelectorKind → ℕ → Method → Bool
is_keyed methods = is_keyed_by (name_number methods)

-- the first such member
unfoldable pub keyed : List Method → ℕ → SelectorKind → ℕ → Option ℕ
keyed methods c role n = position_from (is_keyed methods c role n) 0 methods

-- that of class c itself, where a name has a number at all
abbrev pub keyed_if : List Method → SelectorKind → Option ℕ → ℕ → Option ℕ
keyed_if methods role None c = None
keyed_if methods role (Some n) c = keyed methods c role n

-- that of the first of these classes that has one
abbrev pub first_keyed : List Method → SelectorKind → Option ℕ → List ℕ → Option ℕ
first_keyed methods role name [] = None
first_keyed methods role name (c ∷ above) = or_above (keyed_if methods role name c) (first_keyed methods role name above)

-- the number of each selector's name
abbrev pub selector_names : List Method → List Selector → List (Option ℕ)
selector_names methods selectors = map (λ s. name_number methods s.name) selectors

-- What the maps of src/ hold.

-- the number of a name, as a map of src/ holds it
abbrev pub number_in : {S : Type 0} → HashMap (Bor (List ℕ)) ℕ S → List ℕ → Option ℕ
number_in names q = get_by (λ k. bytes_eq q k.now) names

-- the key of class c, of this kind, with the name's number n
abbrev pub is_key : ℕ → SelectorKind → ℕ → MemberKey → Bool
is_key c role n k = nat_eq c k.owner && (same_kind role k.role && nat_eq n k.name)

-- the member of that key, as a map of src/ holds it
abbrev pub member_in : {S : Type 0} → HashMap MemberKey ℕ S → ℕ → SelectorKind → ℕ → Option ℕ
member_in members c role n = get_by (is_key c role n) members

abbrev pub if_so : Bool → ℕ → Option ℕ
if_so b m = if b then Some m else None

-- what a call finds, by the number of its name
abbrev pub found_keyed : Parts → ℕ → SelectorKind → Option ℕ → ℕ → Option ℕ
found_keyed p c role name n = option_and_then (λ m. if_accepts n m (slice_get p.methods m)) (first_keyed p.methods role name (chain (parents p.classes) c))
