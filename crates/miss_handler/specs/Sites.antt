-- The receivers of a site of a program.
use Rattle.std.specs.Prelude.{ℕ, ◌+◌, ◌*◌, ◌<◌, List, length, option_map, slice_get, unwrap_or}
use Rattle.program.specs.declared.numbered.Site.{Site}
use Rattle.program.specs.Parts.{Parts, is_concrete}
use Rattle.program.specs.Program.{parts_of}
use Rattle.program.specs.Lookup.{resolve}
use Rattle.method_lookup.specs.declared.linked.Linked.{Linked}
use Rattle.miss_handler.specs.declared.state.CallState.{CallState}
use Rattle.miss_handler.specs.declared.state.CallState.TheVariants.{Unlinked, Mono, Single, Cached, Mega}
use Rattle.miss_handler.specs.States.{Receivers}

-- the selector that calls at a site ask
abbrev pub selector_of : List Site → ℕ → ℕ
selector_of sites s = unwrap_or (option_map (λ (site : Site). site.selector.0) (slice_get sites s)) 0

-- what calls at site s of a program may meet
unfoldable pub receivers : Parts → ℕ → Receivers
receivers p s = record { classes = length p.classes; concrete = is_concrete p.classes; resolve = λ c. resolve p c (selector_of p.sites s) }

-- the same, of a linked program
abbrev pub receivers_at : Linked → ℕ → Receivers
receivers_at linked s = receivers (parts_of linked.program) s

-- the most classes that so many lookups visit: each goes up a chain for the member and again for `noSuchMethod`
abbrev pub visits : Linked → ℕ → ℕ
visits linked lookups = lookups * (2 * length linked.program.classes)

-- the most that a range visits: no class is looked up twice
abbrev pub range_visits : Linked → ℕ
range_visits linked = visits linked (length linked.program.classes)

-- the most that a miss visits: a range, and the first class of a Mono
abbrev pub miss_visits : Linked → ℕ
miss_visits linked = visits linked (length linked.program.classes + 1)

-- the class of a Mono is one of so many
abbrev pub IsNamed : ℕ → CallState → Type 0
IsNamed count Unlinked = Unit {0}
IsNamed count (Mono a) = a.0 < count
IsNamed count (Single lo hi t) = Unit {0}
IsNamed count Cached = Unit {0}
IsNamed count Mega = Unit {0}

-- a miss in such a state looks no class up
abbrev pub NeedsNoLookup : CallState → Type 0
NeedsNoLookup Unlinked = Unit {0}
NeedsNoLookup (Mono a) = ⊥
NeedsNoLookup (Single lo hi t) = ⊥
NeedsNoLookup Cached = Unit {0}
NeedsNoLookup Mega = Unit {0}
