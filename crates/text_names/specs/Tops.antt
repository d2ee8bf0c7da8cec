-- What names of the text stand for, the first declaration of each.
use Rattle.std.specs.Prelude.{List, [], ◌∷◌, option_map}
use Rattle.std.specs.HashMap.{HashMap}
use Rattle.std.specs.Borrow.{Bor}
use Rattle.dart_syntax.specs.declared.tree.Top as src
use Rattle.dart_syntax.specs.Syntax.{Top}
use Rattle.dart_syntax.specs.View.{top}
use Rattle.dart_syntax.specs.Bytes.{Text}
use Rattle.dart_meaning.specs.Means.{top_name}
use Rattle.text_names.specs.Maps.{Known, with_first, in_map}

-- the declaration that a reference leads to
abbrev pub top_of : Bor src.Top → Top
top_of t = top t.now

-- the declarations that a map of src/ holds
unfoldable pub stands_for : {S : Type 0} → HashMap (Bor Text) (Bor src.Top) S → Known Top
stands_for m q = option_map top_of (in_map m q)

-- what was known before, and then the first declaration of each name
abbrev pub also_tops : List Top → Known Top → Known Top
also_tops [] known = known
also_tops (t ∷ more) known = also_tops more (with_first (top_name t).text t known)
