-- What a map from names says, as a function.
use Rattle.std.specs.Prelude.{if◌then◌else◌, Option, None}
use Rattle.std.specs.Str.{bytes_eq}
use Rattle.std.specs.HashMap.{HashMap, get_by}
use Rattle.std.specs.Borrow.{Bor}
use Rattle.dart_syntax.specs.Bytes.{Text}

-- what each name stands for, if it stands for anything
abbrev pub Meanings : Type 0 → Type 0
Meanings V = Text → Option V

abbrev pub nothing : {V : Type 0} → Meanings V
nothing q = None

-- another meaning of one name
abbrev pub with_meaning : {V : Type 0} → Text → Option V → Meanings V → Meanings V
with_meaning n v m q = if bytes_eq n q then v else m q

-- the meanings that a map of src/ holds
unfoldable pub in_map : {V S : Type 0} → HashMap (Bor Text) V S → Meanings V
in_map m q = get_by (λ k. bytes_eq q k.now) m
