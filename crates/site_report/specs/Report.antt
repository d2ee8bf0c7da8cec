-- The texts of `run`, `load`, `check` and `list`.
use Rattle.std.specs.Prelude.{◌≡◌, ℕ, ◌<◌, zero, suc, ◌-◌, Bool, true, false, if◌then◌else◌, List, [], ◌∷◌, ◌++◌, length, map, All, sum, sum_by, slice_get, slice_index, zip, Option, None, Some, codes}
use Rattle.std.specs.List.{flat_map, enumerate_from}
use Rattle.std.specs.Fmt.{decimal}
use Rattle.byte_texts.specs.Texts.{utf8_of}
use Rattle.program.specs.declared.ids.ClassId.{ClassId}
use Rattle.program.specs.declared.numbered.Class.{Class}
use Rattle.program.specs.declared.numbered.Method.{Method}
use Rattle.program.specs.declared.numbered.Selector.{Selector}
use Rattle.program.specs.declared.numbered.SelectorKind.{SelectorKind}
use Rattle.program.specs.declared.numbered.SelectorKind.TheVariants.{Call, Get, Set}
use Rattle.program.specs.declared.numbered.Site.{Site}
use Rattle.program.specs.declared.numbered.SitePlace.{SitePlace}
use Rattle.program.specs.declared.numbered.SitePlace.TheVariants as place
use Rattle.program.specs.declared.numbered.Target.{Target}
use Rattle.program.specs.declared.numbered.Target.TheVariants as target
use Rattle.program.specs.Hierarchy.{Parents, is_above}
use Rattle.program.specs.Lookup.{resolve}
use Rattle.program.specs.Parts.{Parts, parents}
use Rattle.miss_handler.specs.declared.row.Check.{Check}
use Rattle.miss_handler.specs.declared.state.CallState.{CallState}
use Rattle.miss_handler.specs.declared.state.CallState.TheVariants.{Unlinked, Mono, Single, Cached, Mega}
use Rattle.miss_handler.specs.Sites.{IsNamed}
use Rattle.dart_values.specs.declared.fault.Trap.{Trap}
use Rattle.dart_values.specs.declared.fault.Trap.TheVariants as trap
use Rattle.dart_values.specs.Values.{Text}
use Rattle.dart_meaning.specs.Run.{Ending, done, threw, out_of_turns, stack_overflow}
use Rattle.isolate_run.specs.declared.ended.Ended.{Ended}
use Rattle.isolate_run.specs.Ran.{ending_of}

-- ---- names

-- the name of class c
abbrev pub class_name_of : Option Class → List ℕ
class_name_of None = []
class_name_of (Some k) = k.name

unfoldable pub class_name : Parts → ℕ → List ℕ
class_name p c = class_name_of (slice_get p.classes c)

-- `=` behind the name of a setter
abbrev pub setter_mark : SelectorKind → List ℕ
setter_mark Call = []
setter_mark Get = []
setter_mark Set = codes "="

abbrev pub member_text : Parts → Option Method → List ℕ
member_text p None = []
member_text p (Some m) = class_name p m.owner.0 ++ codes "." ++ m.name ++ setter_mark m.role

-- a member, by the class that declares it: `C.name`, a setter `C.name=`
unfoldable pub member_name : Parts → ℕ → List ℕ
member_name p m = member_text p (slice_get p.methods m)

-- where a call goes; `nsm` stands before a `noSuchMethod` that is called in place of a member
abbrev pub target_text : Parts → Target → List ℕ
target_text p (target.Method m) = member_name p m.0
target_text p (target.Nsm m) = codes "nsm " ++ member_name p m.0

-- a selector: `name/COUNT`, `get name` or `set name`
abbrev pub kind_text : SelectorKind → List ℕ → ℕ → List ℕ
kind_text Call name count = name ++ codes "/" ++ decimal count
kind_text Get name count = codes "get " ++ name
kind_text Set name count = codes "set " ++ name

abbrev pub selector_text_of : Option Selector → List ℕ
selector_text_of None = []
selector_text_of (Some s) = kind_text s.kind s.name s.count

unfoldable pub selector_text : Parts → ℕ → List ℕ
selector_text p s = selector_text_of (slice_get p.selectors s)

-- LINE:COL, or the prelude site
abbrev pub place_text : SitePlace → List ℕ
place_text (place.At line column) = decimal line ++ codes ":" ++ decimal column
place_text place.Print = codes "print"
place_text place.List = codes "list"

-- NUMBER SELECTOR PLACE
unfoldable pub site_name : Parts → ℕ → Site → List ℕ
site_name p number site = decimal number ++ codes " " ++ selector_text p site.selector.0 ++ codes " " ++ place_text site.place

-- ---- entries

abbrev pub trap_text : Trap → List ℕ
trap_text trap.TypeFault = codes "TypeFault"
trap_text trap.RangeFault = codes "RangeFault"
trap_text trap.DivideByZero = codes "DivideByZero"
trap_text trap.NegativeShift = codes "NegativeShift"
trap_text (trap.NoSuchMethod name) = codes "NoSuchMethod " ++ utf8_of name
trap_text (trap.Thrown text) = codes "Thrown " ++ utf8_of text

abbrev pub ending_text : Ending → List ℕ
ending_text done = codes "done"
ending_text (threw t) = codes "threw " ++ trap_text t
ending_text out_of_turns = codes "out of turns"
ending_text stack_overflow = codes "stack overflow"

-- What a text tells of an entry: its name, the lines that it printed, and how it ended.
pub record Told : Type 0 where
  pub name : List ℕ
  pub lines : List Text
  pub ending : Ending

-- an entry of this name that ended so
abbrev pub told : List ℕ × Ended → Told
told e = record { name = e.0; lines = e.1.lines.items; ending = ending_of e.1.ending }

-- the entries, each with its name
unfoldable pub told_by : List (List ℕ) → List Ended → List Told
told_by names ended = map told (zip names ended)

-- Each of these entries has a count for each site.
abbrev pub AreCounted : Parts → List Ended → Type 0
AreCounted p ended = All (λ (e : Ended). length e.calls.items ≡ length p.sites) ended

-- how often these entries asked the cell of site s
unfoldable pub count_at : List Ended → ℕ → ℕ
count_at ended s = sum_by (λ (e : Ended). slice_index e.calls.items s) ended

-- how often they asked a cell
unfoldable pub count_of : List Ended → ℕ
count_of ended = sum_by (λ (e : Ended). sum e.calls.items) ended

-- each line, with its line feed
unfoldable pub printed : List Text → List ℕ
printed lines = flat_map (λ line. utf8_of line ++ codes "\n") lines

-- entry NUMBER NAME
unfoldable pub entry_head : ℕ → List ℕ → List ℕ
entry_head number name = codes "entry " ++ decimal number ++ codes " " ++ name

-- `entry NUMBER NAME`, the lines, and `end ENDING`
unfoldable pub entry_text : ℕ × Told → List ℕ
entry_text e =
    entry_head e.0 e.1.name ++ codes "\n" ++ printed e.1.lines ++ codes "end " ++ ending_text e.1.ending ++ codes "\n"

-- ---- sites

-- a class, and where a call on it goes
unfoldable pub arrow_text : Parts → ℕ → Target → List ℕ
arrow_text p c t = class_name p c ++ codes " -> " ++ target_text p t

abbrev pub check_part : Parts → Check → List ℕ
check_part p k = arrow_text p k.class.0 k.target

abbrev pub check_of : Parts → Option Check → List ℕ
check_of p None = []
check_of p (Some k) = check_part p k

abbrev pub next_check : Parts → Check → List ℕ
next_check p k = codes ", " ++ check_part p k

-- the checks of a row, in its order
abbrev pub row_text : Parts → List Check → List ℕ
row_text p [] = []
row_text p (k ∷ more) = codes " " ++ check_part p k ++ flat_map (next_check p) more

-- a state, where calls at the site ask this selector; a class of a Mono goes where the selector resolves
abbrev pub state_text : Parts → ℕ → CallState → List Check → List ℕ
state_text p sel Unlinked row = codes "unlinked"
state_text p sel (Mono a) row = codes "mono " ++ arrow_text p a.0 (resolve p a.0 sel)
state_text p sel (Single lo hi t) row = codes "single " ++ class_name p lo.0 ++ codes ".." ++ arrow_text p hi.0 t
state_text p sel Cached row = codes "cached" ++ row_text p row
state_text p sel Mega row = codes "mega"

-- NUMBER SELECTOR PLACE calls COUNT STATE
unfoldable pub site_line : Parts → ℕ → Site → ℕ → CallState → List Check → List ℕ
site_line p number site count state row =
    site_name p number site ++ codes " calls " ++ decimal count ++ codes " " ++ state_text p site.selector.0 state row ++ codes "\n"

-- the line of a site with its number, how often each was called, and the state and the row of each
abbrev pub numbered_line : Parts → (ℕ → ℕ) → (ℕ → CallState) → (ℕ → List Check) → ℕ × Site → List ℕ
numbered_line p count state row s = site_line p s.0 s.1 (count s.0) (state s.0) (row s.0)

-- `sites S`, and the lines of the sites
unfoldable pub sites_text : Parts → (ℕ → ℕ) → (ℕ → CallState) → (ℕ → List Check) → List ℕ
sites_text p count state row = codes "sites " ++ decimal (length p.sites) ++ codes "\n" ++ flat_map (numbered_line p count state row) (enumerate_from 0 p.sites)

-- The text of `run`: the entries, how often each site was called, and the state and the row of each site.
unfoldable pub report_text : Parts → List Told → (ℕ → ℕ) → (ℕ → CallState) → (ℕ → List Check) → List ℕ
report_text p entries count state row = flat_map entry_text (enumerate_from 0 entries) ++ sites_text p count state row

-- the classes of Monos are classes of the program
abbrev pub AreNamed : Parts → (ℕ → CallState) → Type 0
AreNamed p state = (s : ℕ) → s < length p.sites → IsNamed (length p.classes) (state s)

-- ---- load

-- the last of the lines, where there is one
abbrev pub last_text_of : Option Text → List ℕ
last_text_of None = []
last_text_of (Some line) = codes " last " ++ utf8_of line

unfoldable pub last_text : List Text → List ℕ
last_text lines = last_text_of (slice_get lines (length lines - 1))

-- entry NUMBER NAME lines COUNT last LINE end ENDING
unfoldable pub entry_line : ℕ × Told → List ℕ
entry_line e =
    entry_head e.0 e.1.name ++ codes " lines " ++ decimal (length e.1.lines) ++ last_text e.1.lines
    ++ codes " end " ++ ending_text e.1.ending ++ codes "\n"

-- The text of `load`: the numbers of classes and sites, a line for each entry, and how often cells were asked.
unfoldable pub load_text_of : Parts → List Told → ℕ → List ℕ
load_text_of p entries total =
    codes "classes " ++ decimal (length p.classes) ++ codes "\nsites " ++ decimal (length p.sites) ++ codes "\n"
    ++ flat_map entry_line (enumerate_from 0 entries) ++ codes "calls " ++ decimal total ++ codes "\n"

-- ---- check and list

-- ok classes K methods M selectors N sites S
unfoldable pub check_text_of : Parts → List ℕ
check_text_of p =
    codes "ok classes " ++ decimal (length p.classes) ++ codes " methods " ++ decimal (length p.methods)
    ++ codes " selectors " ++ decimal (length p.selectors) ++ codes " sites " ++ decimal (length p.sites) ++ codes "\n"

-- the greatest number below n that passes a test, or else 0
abbrev pub greatest : (ℕ → Bool) → ℕ → ℕ
greatest test zero = 0
greatest test (suc n) = if test n then n else greatest test n

-- the greatest number among class c and the classes below it
unfoldable pub last_below : Parents → ℕ → ℕ
last_below up c = greatest (is_above up c) (length up)

abbrev pub parent_text : Option ClassId → List ℕ
parent_text None = codes "-"
parent_text (Some c) = decimal c.0

abbrev pub abstract_mark : Bool → List ℕ
abstract_mark true = codes " abstract"
abstract_mark false = []

-- `class ID NAME parent ID last ID`, and `abstract` behind it for an abstract class
unfoldable pub class_line : Parts → ℕ × Class → List ℕ
class_line p k =
    codes "class " ++ decimal k.0 ++ codes " " ++ k.1.name ++ codes " parent " ++ parent_text k.1.parent
    ++ codes " last " ++ decimal (last_below (parents p.classes) k.0) ++ abstract_mark k.1.is_abstract ++ codes "\n"

-- site NUMBER SELECTOR PLACE
unfoldable pub listed_site : Parts → ℕ × Site → List ℕ
listed_site p s = codes "site " ++ site_name p s.0 s.1 ++ codes "\n"

-- The text of `list`: the classes by their ids, and then the sites.
unfoldable pub list_text_of : Parts → List ℕ
list_text_of p = flat_map (class_line p) (enumerate_from 0 p.classes) ++ flat_map (listed_site p) (enumerate_from 0 p.sites)
