-- The numbers of members, by class, kind and name.
use Rattle.std.specs.Prelude.{ℕ, ◌+◌, Bool, ◌&&◌, if◌then◌else◌, List, [], ◌∷◌, map, flat_map, slice_index_or, Option, None}
use Rattle.std.specs.Str.{bytes_eq}
use Rattle.std.specs.HashMap.{HashMap, get_by}
use Rattle.std.specs.Borrow.{Bor}
use Rattle.dart_syntax.specs.Syntax.{ClassDecl, Local}
use Rattle.dart_syntax.specs.Bytes.{Text}
use Rattle.program.specs.declared.numbered.Method.{Method}
use Rattle.program.specs.declared.numbered.SelectorKind.{SelectorKind}
use Rattle.program.specs.declared.numbered.SelectorKind.TheVariants.{Call, Get, Set}
use Rattle.dart_meaning.specs.Classes.{if_so}
use Rattle.dart_meaning.specs.Numbering as num
use Rattle.dart_meaning.specs.Numbering.{Key, key, same_key}
use Rattle.tree_numbers.specs.declared.members.Key as src
use Rattle.tree_numbers.specs.declared.members.MemberNumbers.{MemberNumbers}
use Rattle.tree_numbers.specs.Maps.{or_first}
use Rattle.tree_numbers.specs.Parts.{text_of}

-- a key of src/, as a class, a kind and a name
abbrev pub key_of : src.Key → Key
key_of k = key k.class.now k.kind k.name.now

abbrev pub keys_of : List src.Key → List Key
keys_of ks = map key_of ks

-- the getter of a field, and its setter unless it is final
abbrev pub field_keys : Text → Local → List Key
field_keys class f = key class Get f.name.text ∷ (if f.is_final then [] else key class Set f.name.text ∷ [])

abbrev pub key_if : Bool → Key → List Key
key_if b k = if b then k ∷ [] else []

-- the keys of a class's members
unfoldable pub keys_in : ClassDecl → List Key
keys_in c = flat_map (num.member_keys c.name.text) c.members

-- the key of a built-in member, where these are the names of the classes by their numbers
abbrev pub built_in_key : List (Bor Text) → Method → Key
built_in_key names m = key (slice_index_or (map text_of names) m.owner.0 []) m.role m.name

-- ---- maps from a class and a name

-- the number that a class and a name have, if they have one
abbrev pub Pairs : Type 0
Pairs = Text → Text → Option ℕ

abbrev pub no_pairs : Pairs
no_pairs c q = None

-- The first of a class and a name stays.
abbrev pub with_pair : Text → Text → ℕ → Pairs → Pairs
with_pair class name n known c q = or_first (known c q) (if_so (bytes_eq class c && bytes_eq name q) n)

-- the numbers that a map of src/ holds
unfoldable pub in_pairs : {S : Type 0} → HashMap (Bor Text × Bor Text) ℕ S → Pairs
in_pairs m c q = get_by (λ k. bytes_eq c k.0.now && bytes_eq q k.1.now) m

-- ---- the numbers of members

-- the number that a member has, if it is known
abbrev pub Held : Type 0
Held = Key → Option ℕ

abbrev pub no_members : Held
no_members k = None

-- one member more; the first of a key stays
abbrev pub with_key : Key → ℕ → Held → Held
with_key x n known k = or_first (known k) (if_so (same_key x k) n)

-- one of three maps: for reads, for writes, or for calls
abbrev pub by_kind : Pairs → Pairs → Pairs → SelectorKind → Pairs
by_kind gets sets calls Get = gets
by_kind gets sets calls Set = sets
by_kind gets sets calls Call = calls

-- the number of a key, in the map of its kind
abbrev pub by_key : Pairs → Pairs → Pairs → Held
by_key gets sets calls k = by_kind gets sets calls k.kind k.class k.name

-- the numbers that src/ holds of members
abbrev pub held : MemberNumbers → Held
held m = by_key (in_pairs m.gets) (in_pairs m.sets) (in_pairs m.calls)

-- what was known, and then the members from number n on
abbrev pub also_keyed : ℕ → List Key → Held → Held
also_keyed n [] known = known
also_keyed n (k ∷ more) known = also_keyed (n + 1) more (with_key k n known)
