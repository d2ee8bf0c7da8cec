-- The sites that src/ lists.
use Rattle.std.specs.Prelude.{List, [], ◌∷◌, map, Option, None, Some}
use Rattle.std.specs.HashSet.{HashSet}
use Rattle.site_list.specs.declared.site.TextPlace.{TextPlace}
use Rattle.site_list.specs.declared.site.TextPlace.TheVariants as v
use Rattle.site_list.specs.declared.site.SourceSelector.{SourceSelector}
use Rattle.site_list.specs.declared.site.SourceSite.{SourceSite}
use Rattle.program.specs.declared.numbered.Selector.{Selector}
use Rattle.dart_meaning.specs.Place.{Place, reading, writing}
use Rattle.dart_meaning.specs.Sites.{Site, site}

-- a place of the text, as src/ has it
abbrev pub place_of : TextPlace → Place
place_of (v.Reading byte) = reading byte
place_of (v.Writing byte) = writing byte

-- a selector, as src/ has it
abbrev pub selector_of : SourceSelector → Selector
selector_of sel = record { kind = sel.kind; name = sel.name.now; count = sel.count }

-- a call site, as src/ has it
abbrev pub site_of_source : SourceSite → Site
site_of_source s = site (place_of s.place) (selector_of s.selector)

abbrev pub listed : List SourceSite → List Site
listed all = map site_of_source all

abbrev pub if_listed : Option SourceSite → List Site
if_listed None = []
if_listed (Some s) = site_of_source s ∷ []

-- the selectors of sites
abbrev pub asked : List SourceSite → List Selector
asked all = map (λ (s : SourceSite). selector_of s.selector) all

-- the selectors that a set holds
abbrev pub held : {S : Type 0} → HashSet SourceSelector S → List Selector
held known = map selector_of known.keys
