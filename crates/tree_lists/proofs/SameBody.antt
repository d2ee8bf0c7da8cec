-- The two ways to write the numbered form of a body.
use Rattle.std.proofs.Common.{◌≡◌, List, Option, refl}
use Rattle.dart_syntax.specs.Syntax as t
use Rattle.dart_syntax.specs.Syntax.{Tree, Body}
use Rattle.dart_values.specs.Values.{Text}
use Rattle.dart_meaning.specs.Sites.{site_of}
use Rattle.dart_meaning.specs.NumberedForm.{numbered_body}
use Rattle.body_numbers.specs.Bodies.{numbered}

pub same_body : (tree : Tree) (here : Option Text) (names : List Text) (b : Body) → numbered tree (site_of tree) here names b ≡ numbered_body tree here names b
same_body tree here names (t.arrow e) = refl
same_body tree here names (t.code all) = refl
