-- A walk from Object down, which keeps how many parameters the nearest method of each name has from the walk's class up.
use Rattle.std.specs.Prelude.{◌≡◌, ◌<◌, ℕ, zero, suc, Bool, true, false, ◌&&◌, if◌then◌else◌, nat_eq, List, [], ◌∷◌, filter_map, map, length, unwrap_or, Option, None, Some}
use Rattle.std.specs.List.{slice_get}
use Rattle.std.specs.Str.{bytes_eq}
use Rattle.std.specs.HashMap.{HashMap, get_by}
use Rattle.std.specs.Borrow.{Bor}
use Rattle.dart_syntax.specs.declared.tree.ClassDecl as src
use Rattle.dart_syntax.specs.Syntax as t
use Rattle.dart_syntax.specs.Syntax.{ClassDecl, Member}
use Rattle.dart_syntax.specs.Bytes.{Text}
use Rattle.program.specs.declared.numbered.Method.{Method}
use Rattle.program.specs.declared.numbered.SelectorKind.TheVariants.{Call}
use Rattle.program.specs.Lookup.{is_declared_by, same_kind}
use Rattle.dart_meaning.specs.Classes.{parent_of}
use Rattle.static_rules.specs.BadOverride.{own_count}
use Rattle.static_rules.specs.Places.{Fault}
use Rattle.declaration_rules.specs.Finding.{Find}
use Rattle.declaration_rules.specs.Seen.{class_of}
use Rattle.class_chains.specs.declared.chains.Chains.{Chains}
use Rattle.class_chains.specs.declared.nearest.Before.{Before}
use Rattle.class_chains.specs.declared.nearest.Nearest.{Nearest}
use Rattle.class_chains.specs.declared.descent.Step.{Step}
use Rattle.class_chains.specs.declared.descent.Descent.{Descent}
use Rattle.class_chains.specs.Overriding.{find_in, from_up, above, or_above, overrides_of}

-- ---- counts by name

-- how many parameters the method of a name has, if there is one
abbrev pub Counts : Type 0
Counts = Text → Option ℕ

-- the counts that a map of src/ holds
unfoldable pub counted : {S : Type 0} → HashMap (Bor Text) ℕ S → Counts
counted m q = get_by (λ k. bytes_eq q k.now) m

abbrev pub no_count : Counts
no_count q = None

-- another count of one name
abbrev pub with_count : Text → Option ℕ → Counts → Counts
with_count n v counts q = if bytes_eq n q then v else counts q

-- the counts of these members before those of others: of two of one name the first counts
unfoldable pub own_or : List Member → Counts → Counts
own_or [] counts q = counts q
own_or (m ∷ more) counts q = or_above (own_count q m) (own_or more counts q)

-- the same of the built-in methods of a class
unfoldable pub built_in_or : ℕ → List Method → Counts → Counts
built_in_or number [] counts q = counts q
built_in_or number (m ∷ more) counts q = if is_declared_by number Call q m then Some m.required else built_in_or number more counts q

-- the name of a method and its count; other members have none
abbrev pub own_pair : Member → Option (Text × Option ℕ)
own_pair (t.method n params b) = Some (n.text, Some (length params))
own_pair _ = None

-- the same of a built-in member, if it is a method of the class with this number
abbrev pub built_in_pair : ℕ → Method → Option (Text × Option ℕ)
built_in_pair number m = if nat_eq m.owner.0 number && same_kind m.role Call then Some (m.name, Some m.required) else None

-- that count in place of the one before it
abbrev pub put_pair : Option (Text × Option ℕ) → Counts → Counts
put_pair None counts = counts
put_pair (Some (n, v)) counts = with_count n v counts

-- ---- what is put back

-- what a method's name counted
abbrev pub saved : Counts → Member → Option (Text × Option ℕ)
saved counts (t.method n params b) = Some (n.text, counts n.text)
saved counts _ = None

-- a name and what it counted, as src/ keeps it
abbrev pub before_of : Before → Text × Option ℕ
before_of b = (b.name.now, b.count)

-- each of these counts put back, the last one of a name staying
abbrev pub put_all : List (Text × Option ℕ) → Counts → Counts
put_all [] counts = counts
put_all ((n, v) ∷ more) counts = put_all more (with_count n v counts)

-- ---- what a walk keeps

-- a way up ends where there is no class above, or where it ends from that class on
abbrev pub ends_at : (Text → Bool) → Option Text → Bool
ends_at ends None = true
ends_at ends (Some above) = ends above

-- the way up from a class ends, and has no more than so many classes
abbrev pub ends : Find → ℕ → Text → Bool
ends find zero class = false
ends find (suc n) class = ends_at (ends find n) (parent_of (find class) class)

-- the counts are those from the walk's class up, and its way up is short enough
pub record IsNearest (k : Chains) (n : Nearest) : Type 0 where
  pub counts : counted n.counts ≡ from_up k n.class.now
  pub ends : ends (find_in k) n.height n.class.now ≡ true
  pub less : n.height < k.most

-- a class that the walk went down to, with what counted above it
pub record IsStep (k : Chains) (o : Step) : Type 0 where
  pub named : find_in k o.class.now.name.text ≡ Some (class_of o.class)
  pub was : map before_of o.was.items ≡ filter_map (saved (above k o.class.now.name.text)) (class_of o.class).members

-- the same of each class on the walk's way
abbrev pub AreSteps : Chains → List Step → Type 0
AreSteps k [] = Unit {0}
AreSteps k (o ∷ os) = IsStep k o × AreSteps k os

-- what was found in a class, if the walk came to it
abbrev pub place_of : List (Option Fault) → ℕ → Option Fault
place_of places number = unwrap_or (slice_get places number) None

-- P holds of each class in which something was found, by its number
abbrev pub HoldAll : (ℕ → Fault → Type 0) → List (Option Fault) → Type 0
HoldAll P places = (number : ℕ) (at : Fault) → place_of places number ≡ Some at → P number at

-- what was found in a class is the first of its methods that breaks the rule
abbrev pub IsPlace : Chains → ℕ → Fault → Type 0
IsPlace k number at = (c : Bor src.ClassDecl) → slice_get k.all.items number ≡ Some c → at ≡ overrides_of k (class_of c)

-- what holds at each step of the walk
pub record IsDescent (k : Chains) (d : Descent) : Type 0 where
  pub nearest : IsNearest k d.nearest
  pub way : AreSteps k d.way.items
  pub places : HoldAll (IsPlace k) d.places.items
