-- Sets of names, and what names stand for, as functions from names.
use Rattle.std.specs.Prelude.{Bool, false, ◌||◌, Option, None, Some}
use Rattle.std.specs.Str.{bytes_eq}
use Rattle.std.specs.HashMap.{HashMap, get_by}
use Rattle.std.specs.HashSet.{HashSet, contains_by}
use Rattle.std.specs.Borrow.{Bor}
use Rattle.dart_syntax.specs.Bytes.{Text}
use Rattle.dart_meaning.specs.Classes.{if_so}

-- a set of names
abbrev pub Names : Type 0
Names = Text → Bool

abbrev pub no_names : Names
no_names q = false

-- one name more
abbrev pub with_name : Text → Names → Names
with_name n known q = bytes_eq n q || known q

-- one name more, if there is one
abbrev pub with_some : Option Text → Names → Names
with_some None known = known
with_some (Some n) known = with_name n known

-- the names that a set of src/ holds
unfoldable pub in_set : {S : Type 0} → HashSet (Bor Text) S → Names
in_set s q = contains_by (λ k. bytes_eq q k.now) s

-- what each name stands for
abbrev pub Known : Type 0 → Type 0
Known V = Text → Option V

abbrev pub nothing_known : {V : Type 0} → Known V
nothing_known q = None

-- what is known already, or else the other
abbrev pub or_first : {V : Type 0} → Option V → Option V → Option V
or_first (Some v) other = Some v
or_first None other = other

-- The first of a name stays.
abbrev pub with_first : {V : Type 0} → Text → V → Known V → Known V
with_first n v known q = or_first (known q) (if_so (bytes_eq n q) v)

-- what a map of src/ says of names
unfoldable pub in_map : {V S : Type 0} → HashMap (Bor Text) V S → Known V
in_map m q = get_by (λ k. bytes_eq q k.now) m
