-- Whose variable or member a bare name is, by the text and in the run.
use Rattle.std.specs.Prelude.{◌≡◌, ℕ, Bool, false, ◌||◌, if◌then◌else◌, List, map, Option, None, Some, is_some, codes}
use Rattle.std.specs.Str.{bytes_eq}
use Rattle.dart_syntax.specs.declared.tree.Name.{Name}
use Rattle.dart_syntax.specs.Syntax.{Tree}
use Rattle.dart_values.specs.Values.{Text, Value}
use Rattle.dart_meaning.specs.declared.seen.Seen.{Seen}
use Rattle.dart_meaning.specs.Place.{Place}
use Rattle.dart_meaning.specs.Program.{Entry}
use Rattle.dart_meaning.specs.Run.{Run, M}
use Rattle.dart_meaning.specs.Classes.{Code, class_declares, function_named, is_constructed}
use Rattle.dart_meaning.specs.Meaning.{Bound, find, Owner, of_body, of_this, of_unit, owner_of, call_bare, call_this, call_unit}
use Rattle.dart_meaning.specs.Means as text
use Rattle.dart_meaning.specs.Means.{Means, means}
use Rattle.dart_meaning.specs.Uses.{Part, Use, reads, writes, calls}

-- ---- by the text

-- A local or a parameter is of the body, a member is of `this`, and a declaration of the text is of the unit. Before its declaration a local is nobody's, and so is a name that means nothing.
abbrev pub owner_meant : Means → Option Owner
owner_meant text.too_early = None
owner_meant (text.a_local is_final) = Some of_body
owner_meant text.a_member = Some of_this
owner_meant text.a_top = Some of_unit
owner_meant text.of_this = Some of_this
owner_meant text.nothing = None

-- ---- in the run

-- the names of the open variables, the newest first
abbrev pub names_of : Run Bound → List Text
names_of r = map (λ b. b.name) r.vars

-- a function of the text, a class of which objects are made, or `print`
abbrev pub is_callable : Tree → Text → Bool
is_callable tree name = is_some (function_named tree name) || (is_constructed tree name || bytes_eq name (codes "print"))

-- What a bare call calls: a member of `this` if the class declares one; else what the text declares to be called; else a member of `this`.
abbrev pub callee : Tree → Option Text → Text → Owner
callee tree here name = if class_declares tree here name then of_this else (if is_callable tree name then of_unit else of_this)

-- The run's bare call is the call that `callee` names.
abbrev pub CallsItsCallee : Type 0
CallsItsCallee =
    (tree : Tree) (site_of : Place → ℕ) (here : Option Text) (enter : Entry Code → M Bound Value) (n : Name) (k : ℕ) (args : M Bound (List Value))
    → (callee tree here n.text ≡ of_this → call_bare tree site_of here enter n k args ≡ call_this tree site_of here enter n k args)
    × (callee tree here n.text ≡ of_unit → call_bare tree site_of here enter n k args ≡ call_unit tree site_of here enter n k args (function_named tree n.text))

-- ---- where both agree

-- A use in a part that stands in the class `here`, if any, with variables of these names open.
module _ (tree : Tree) (part : Part) (here : Option Text) (names : List Text) where
  -- A name that is read or written is in each run the variable or member that the text means.
  abbrev pub NameAgrees : Name → Option Seen → Type 0
  NameAgrees n seen =
      (site_of : Place → ℕ) (enter : Entry Code → M Bound Value) (r : Run Bound) → names_of r ≡ names
      → owner_meant (means tree part n seen) ≡ Some (owner_of tree site_of here enter r n.text)

  -- A name that is called is no variable of a body, and calls what the text means.
  pub record CallAgrees (n : Name) (seen : Option Seen) : Type 0 where
    pub no_variable : (r : Run Bound) → names_of r ≡ names → is_some (find n.text r.vars) ≡ false
    pub called : owner_meant (means tree part n seen) ≡ Some (callee tree here n.text)

  -- A use of a bare name; the other uses have none.
  abbrev pub UseAgrees : Use → Type 0
  UseAgrees (reads n seen) = NameAgrees n seen
  UseAgrees (writes n seen) = NameAgrees n seen
  UseAgrees (calls n seen k) = CallAgrees n seen
  UseAgrees _ = Unit {0}
