-- The rows of the tables that src/ makes.
use Rattle.std.specs.Prelude.{◌≡◌, ℕ, ◌<◌, ◌≤◌, ◌^◌, List, [], ◌∷◌, ◌++◌, length, slice_get, Some}
use Rattle.std.specs.List.{position_or_len}
use Rattle.program.specs.declared.numbered.Selector.{Selector}
use Rattle.program.specs.declared.numbered.Site as program
use Rattle.dart_syntax.specs.Syntax.{Tree}
use Rattle.dart_values.specs.Values.{Text}
use Rattle.dart_meaning.specs.Program.{to_string}
use Rattle.dart_meaning.specs.Sites as s
use Rattle.dart_meaning.specs.Sites.{Site, same_selector, selectors, text_sites}
use Rattle.dart_meaning.specs.NumberedForm.{in_order, shown_place}
use Rattle.dart_syntax.specs.Places.{line_at, column_at}
use Rattle.site_list.specs.declared.cursor.Cursor.{Cursor}
use Rattle.site_list.specs.declared.site.SourceSite.{SourceSite}
use Rattle.site_list.specs.SourceSites.{listed, asked}

-- a cursor that knows the line and the column of its byte
pub record Stands (text : Text) (c : Cursor) : Type 0 where
  pub within : c.byte ≤ length text
  pub line : c.line ≡ line_at text c.byte
  pub column : c.column ≡ column_at text c.byte

-- the row of a site, where the selectors before are these
abbrev pub row_in : Text → List Selector → Site → program.Site
row_in text known s = record { selector = record { 0 = position_or_len (same_selector s.selector) known }; place = shown_place text s.place }

-- the selectors of the sites of the text, and those of `print` and of a list's text
abbrev pub all_asked : List SourceSite → List Selector
all_asked all = asked all ++ to_string ∷ to_string ∷ []

-- the sites of a tree in their order, where the tree keeps its limits and no call has too many arguments
pub record AreLimited (tree : Tree) (all : List SourceSite) : Type 0 where
  pub sites : listed all ≡ in_order (text_sites tree)
  pub few_sites : length (s.sites tree) ≤ 65536
  pub few_selectors : length (selectors tree) ≤ 2048
  pub few_arguments : (i : ℕ) (s : Site) → slice_get (text_sites tree) i ≡ Some s → s.selector.count < 2 ^ 32
