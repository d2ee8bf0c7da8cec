-- What plain cells keep: a state with its row and stamp for each site, and a table for each selector.
use Rattle.std.specs.Prelude.{◌≡◌, ℕ, ◌+◌, ◌*◌, ◌<◌, ◌≤◌, Bool, true, false, ◌&&◌, ◌||◌, ◌==◌, nat_lt, nat_le, if◌then◌else◌, IsTrue, List, [], ◌∷◌, ◌++◌, length, fold, replicate, All, Option, None, Some, is_some, slice_get, option_and_then}
use Rattle.std.specs.List.{AllByRecursion}
use Rattle.program.specs.declared.numbered.Target.{Target}
use Rattle.program.specs.Parts.{Parts}
use Rattle.program.specs.Program.{parts_of}
use Rattle.program.specs.Lookup.{resolve}
use Rattle.method_lookup.specs.declared.linked.Linked.{Linked}
use Rattle.miss_handler.specs.declared.row.Check.{Check}
use Rattle.miss_handler.specs.declared.state.Advance.{Advance}
use Rattle.miss_handler.specs.declared.state.CallState.{CallState}
use Rattle.miss_handler.specs.declared.state.CallState.TheVariants.{Unlinked, Mono, Single, Cached, Mega}
use Rattle.miss_handler.specs.States.{Receivers, checks_of, covers, target_in, added, SiteCell, unlinked, called, alone}
use Rattle.miss_handler.specs.Sites.{receivers, receivers_at, selector_of}
use Rattle.call_cell.specs.declared.cell.Cell.{Cell}

-- ---- one site

-- the state of a site whose targets stand in its selector's table
abbrev pub is_mega : CallState → Bool
is_mega Unlinked = false
is_mega (Mono a) = false
is_mega (Single lo hi t) = false
is_mega Cached = false
is_mega Mega = true

-- the target, if the test holds
abbrev pub target_if : Bool → Target → Option Target
target_if true t = Some t
target_if false t = None

-- the target that a state has for class c, where t goes with a Mono
abbrev pub target_for : CallState → Target → List Check → ℕ → Option Target
target_for Unlinked t row c = None
target_for (Mono a) t row c = target_if (c == a.0) t
target_for (Single lo hi own) t row c = target_if (nat_le lo.0 c && nat_le c hi.0) own
target_for Cached t row c = target_in row c
target_for Mega t row c = None

-- a cell in the words of the states
abbrev pub site_cell : Cell → SiteCell
site_cell k = record { state = k.state; row = checks_of k.row; stamp = k.stamp }

-- t goes with a Mono
abbrev pub IsMonoTarget : Receivers → CallState → Target → Type 0
IsMonoTarget r Unlinked t = Unit {0}
IsMonoTarget r (Mono a) t = t ≡ r.resolve a.0
IsMonoTarget r (Single lo hi own) t = Unit {0}
IsMonoTarget r Cached t = Unit {0}
IsMonoTarget r Mega t = Unit {0}

-- the same of a cell
abbrev pub HasTarget : Receivers → Cell → Type 0
HasTarget r k = IsMonoTarget r k.state k.target

-- what a row has once the adds are made, where they do not go to the table
abbrev pub row_with_adds : Receivers → List Check → Advance → List Check
row_with_adds r row a = row ++ (added r a.add_first ++ added r a.add_second)

-- a row may have these checks: there are at most four, of classes that are there
abbrev pub IsRow : Receivers → List Check → Type 0
IsRow r row = (length row ≤ 4) × All (λ k. k.class.0 < r.classes) row

-- the row has room for the adds, unless they go to the table
abbrev pub HasRoom : Receivers → List Check → Advance → Type 0
HasRoom r row a = is_mega a.state ≡ false → IsRow r (row_with_adds r row a)

-- the cell is what calls on concrete classes made of a site
pub record WasCalled (r : Receivers) (cell : SiteCell) : Type 0 where
  pub classes : List ℕ
  pub concrete : AllByRecursion (λ c. IsTrue (r.concrete c)) classes
  pub is : cell ≡ alone r classes

-- ---- all sites and all selectors

-- what is kept: of each site, and which classes stand in the table of each selector
pub record Kept : Type 0 where
  pub site : ℕ → SiteCell
  pub added : ℕ → ℕ → Bool

-- before any call
abbrev pub nothing_kept : Kept
nothing_kept = record { site = λ s. unlinked; added = λ q c. false }

-- the site answers for the class, by its state and row or by the table of its selector
abbrev pub is_covered : Parts → Kept → ℕ → ℕ → Bool
is_covered p k s c = covers (k.site s).state (k.site s).row c || (is_mega (k.site s).state && k.added (selector_of p.sites s) c)

-- a function with another value at s
abbrev pub put : {A : Type 0} → (ℕ → A) → ℕ → A → ℕ → A
put f s a x = if s == x then a else f x

-- the tables with class c in that of selector q
abbrev pub with_class : (ℕ → ℕ → Bool) → ℕ → ℕ → (ℕ → ℕ → Bool)
with_class t q c r d = (q == r && c == d) || t r d

-- the tables after a call on class c: where its site is megamorphic then, the class stands in the table of the site's selector
abbrev pub tables_after : CallState → (ℕ → ℕ → Bool) → ℕ → ℕ → (ℕ → ℕ → Bool)
tables_after Unlinked t q c = t
tables_after (Mono a) t q c = t
tables_after (Single lo hi own) t q c = t
tables_after Cached t q c = t
tables_after Mega t q c = with_class t q c

-- a site after a call at it
abbrev pub site_after : Parts → Kept → ℕ → ℕ → SiteCell
site_after p k s c = called (receivers p s) (k.site s) c

-- what is kept after a call, a site and a class
unfoldable pub after_call : Parts → Kept → ℕ × ℕ → Kept
after_call p k call = record {
  site = put k.site call.0 (site_after p k call.0 call.1);
  added = tables_after (site_after p k call.0 call.1).state k.added (selector_of p.sites call.0) call.1;
}

-- the same after these calls, one after the other
unfoldable pub after_calls : Parts → Kept → List (ℕ × ℕ) → Kept
after_calls p k calls = fold (after_call p) k calls

-- the classes called at site s, in order
abbrev pub classes_at : ℕ → List (ℕ × ℕ) → List ℕ
classes_at s [] = []
classes_at s (call ∷ calls) = if call.0 == s then call.1 ∷ classes_at s calls else classes_at s calls

-- ---- the lists of the cells

-- a place of a list, where there is one
abbrev pub cell_or : Option Cell → SiteCell
cell_or None = unlinked
cell_or (Some k) = site_cell k

-- what is kept of site s
unfoldable pub site_in : List Cell → ℕ → SiteCell
site_in cells s = cell_or (slice_get cells s)

-- the entry of class c in the table of selector q; each table has a place for each class
unfoldable pub entry_in : ℕ → List (Option Target) → ℕ → ℕ → Option Target
entry_in width tables q c = if nat_lt c width then option_and_then (λ t. t) (slice_get tables (q * width + c)) else None

-- what the two lists keep
abbrev pub kept_in : ℕ → List Cell → List (Option Target) → Kept
kept_in width cells tables = record { site = site_in cells; added = λ q c. is_some (entry_in width tables q c) }

-- so many cells that had no call
abbrev pub AreUnlinked : ℕ → List Cell → Type 0
AreUnlinked count cells = (k : Cell) × (cells ≡ replicate count k) × (site_cell k ≡ unlinked)

-- what is true of plain cells: each site was called on concrete classes alone, and has the target of its Mono; and the targets in the tables are right
pub record IsKept (linked : Linked) (cells : List Cell) (tables : List (Option Target)) : Type 0 where
  pub sites : length cells ≡ length linked.program.sites
  pub size : length tables ≡ length linked.program.selectors * length linked.program.classes
  pub called : (s : ℕ) (k : Cell) → slice_get cells s ≡ Some k → WasCalled (receivers_at linked s) (site_cell k)
  pub target : (s : ℕ) (k : Cell) → slice_get cells s ≡ Some k → HasTarget (receivers_at linked s) k
  pub right : (q c : ℕ) (t : Target) → entry_in (length linked.program.classes) tables q c ≡ Some t → t ≡ resolve (parts_of linked.program) c q
