-- Scopes that open and close: what names mean, and what they mean once what was set is put back.
use Rattle.std.specs.Prelude.{ℕ, ◌≡◌, if◌then◌else◌, List, [], ◌∷◌, Option, None, length, take, drop}
use Rattle.std.specs.Str.{bytes_eq}
use Rattle.std.specs.HashMap.{HashMap, get_by}
use Rattle.std.specs.Borrow.{Bor}
use Rattle.dart_syntax.specs.Bytes.{Text}
use Rattle.name_uses.specs.declared.scope.Scope.{Scope}
use Rattle.name_uses.specs.declared.scope.Before.{Before}

-- what a name means, if it means anything
abbrev pub Meanings : Type 0 → Type 0
Meanings V = Text → Option V

abbrev pub nothing : {V : Type 0} → Meanings V
nothing q = None

-- another meaning of one name
abbrev pub with_meaning : {V : Type 0} → Text → Option V → Meanings V → Meanings V
with_meaning n v m q = if bytes_eq n q then v else m q

-- the meanings that a map of src/ holds
unfoldable pub in_map : {V S : Type 0} → HashMap (Bor Text) V S → Meanings V
in_map m q = get_by (λ k. bytes_eq q k.now) m

-- what each name means in a scope
abbrev pub meaning : {V : Type 0} → Scope V → Meanings V
meaning s = in_map s.known

-- Meanings are put back from the last that was set to the first.
unfoldable pub put_back : {V : Type 0} → List (Before V) → Meanings V → Meanings V
put_back [] m = m
put_back (b ∷ more) m = with_meaning b.name.now b.was (put_back more m)

-- what names mean once everything behind a mark is put back
abbrev pub before : {V : Type 0} → Scope V → ℕ → Meanings V
before s mark = put_back (drop mark s.undo.items) (meaning s)

-- What is put back behind the old scope's mark leads to the old scope.
unfoldable pub Extends : {V : Type 0} → Scope V → Scope V → Type 0
Extends old new = (take (length old.undo.items) new.undo.items ≡ old.undo.items) × (before new (length old.undo.items) ≡ meaning old)
