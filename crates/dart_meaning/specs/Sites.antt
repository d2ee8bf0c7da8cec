-- The call sites of a tree: the calls that ask a cell, each with its place and its selector; and their numbers.
use Rattle.std.specs.Prelude.{ℕ, ◌+◌, ◌*◌, Bool, nat_lt, nat_eq, if◌then◌else◌, List, [], ◌∷◌, ◌++◌, ◌&&◌, length, map, flat_map, find, count_by, Option, codes}
use Rattle.std.specs.List.{list_any}
use Rattle.std.specs.Str.{bytes_eq}
use Rattle.dart_syntax.specs.declared.tree.Unary.{Unary}
use Rattle.dart_syntax.specs.declared.tree.Unary.TheVariants as unary
use Rattle.dart_syntax.specs.Syntax.{Tree}
use Rattle.program.specs.declared.numbered.Selector.{Selector}
use Rattle.program.specs.Lookup.{same_kind}
use Rattle.program.specs.Sound.{binary_name}
use Rattle.dart_values.specs.Values.{Text}
use Rattle.dart_meaning.specs.Place.{Place, reading, writing, in_print, in_list}
use Rattle.dart_meaning.specs.Program.{calling, getting, setting, to_string}
use Rattle.dart_meaning.specs.Uses.{Use, reads, writes, calls, member_reads, member_writes, member_calls, index_reads, index_writes, operates, prefixes, shows, Part, parts}
use Rattle.dart_meaning.specs.Means.{means, is_of_this}

-- a call site: where it stands, and what it calls
pub record Site : Type 0 where
  pub place : Place
  pub selector : Selector

abbrev pub site : Place → Selector → Site
site place selector = record { place = place; selector = selector }

-- the operator that a sign before an operand calls; `!` calls none
abbrev pub prefix_name : Unary → Text
prefix_name unary.Minus = codes "unary-"
prefix_name unary.Complement = codes "~"
prefix_name unary.Not = codes "!"

-- a site, if the name means a member of `this`
abbrev pub if_of_this : Bool → Site → List Site
if_of_this of_this s = if of_this then s ∷ [] else []

-- A member, an index, an operator and the text of an interpolation are called through a cell. So is a bare name that means a member; what `super` reaches is not.
abbrev pub sites_of_use : Tree → Part → Use → List Site
sites_of_use tree part (reads n seen) = if_of_this (is_of_this (means tree part n seen)) (site (reading n.span.start) (getting n.text))
sites_of_use tree part (writes n seen) = if_of_this (is_of_this (means tree part n seen)) (site (writing n.span.start) (setting n.text))
sites_of_use tree part (calls n seen k) = if_of_this (is_of_this (means tree part n seen)) (site (reading n.span.start) (calling n.text k))
sites_of_use tree part (member_reads n) = site (reading n.span.start) (getting n.text) ∷ []
sites_of_use tree part (member_writes n) = site (writing n.span.start) (setting n.text) ∷ []
sites_of_use tree part (member_calls n k) = site (reading n.span.start) (calling n.text k) ∷ []
sites_of_use tree part (index_reads at) = site (reading at.start) (calling (codes "[]") 1) ∷ []
sites_of_use tree part (index_writes at) = site (writing at.start) (calling (codes "[]=") 2) ∷ []
sites_of_use tree part (operates op at) = site (reading at.start) (calling (binary_name op) 1) ∷ []
sites_of_use tree part (prefixes op at) = site (reading at.start) (calling (prefix_name op) 0) ∷ []
sites_of_use tree part (shows at) = site (reading at.start) to_string ∷ []
sites_of_use tree part _ = []

-- the sites of the text, as they are met
unfoldable pub text_sites : Tree → List Site
text_sites tree = flat_map (λ part. flat_map (sites_of_use tree part) part.uses) (parts tree)

-- those of `print` and of a list's text
abbrev pub prelude_sites : List Site
prelude_sites = site in_print to_string ∷ site in_list to_string ∷ []

-- all sites of a tree, those of the prelude last
abbrev pub sites : Tree → List Site
sites tree = text_sites tree ++ prelude_sites

-- The place of a site of the text as a number: at one token the read stands before the write.
abbrev pub key : Place → ℕ
key (reading byte) = 2 * byte
key (writing byte) = 2 * byte + 1
key in_print = 0
key in_list = 0

-- The sites are numbered by their places: the number of a site is how many stand before it. Those of the prelude come last.
abbrev pub site_of : Tree → Place → ℕ
site_of tree (reading byte) = count_by (λ s. nat_lt (key s.place) (key (reading byte))) (text_sites tree)
site_of tree (writing byte) = count_by (λ s. nat_lt (key s.place) (key (writing byte))) (text_sites tree)
site_of tree in_print = length (text_sites tree)
site_of tree in_list = length (text_sites tree) + 1

-- the site of this number
abbrev pub site_at : Tree → ℕ → Option Site
site_at tree number = find (λ s. nat_eq (site_of tree s.place) number) (sites tree)

-- ---- selectors

-- two selectors of one kind, name and number of arguments
abbrev pub same_selector : Selector → Selector → Bool
same_selector x y = same_kind x.kind y.kind && bytes_eq x.name y.name && nat_eq x.count y.count

-- the selectors so far, and behind them each of a list that is not among them
abbrev pub also_used : List Selector → List Selector → List Selector
also_used known [] = known
also_used known (sel ∷ more) = also_used (if list_any (same_selector sel) known then known else known ++ sel ∷ []) more

-- each selector once, where it is used first
abbrev pub each_once : List Selector → List Selector
each_once uses = also_used [] uses

-- the selectors that the sites call
abbrev pub selectors : Tree → List Selector
selectors tree = each_once (map (λ (s : Site). s.selector) (sites tree))
