-- What a text does: it is cut into tokens and read as a tree, and an entry of the tree is run with lookup at each call.
use Rattle.std.specs.Prelude.{◌≡◌, ℕ, List, [], ◌∷◌, ◌++◌, flat_map, replicate, Option, Some, None, Result, Ok, Err}
use Rattle.std.specs.Option.{option_map, option_and_then}
use Rattle.dart_syntax.specs.declared.token.Token.{Token}
use Rattle.dart_syntax.specs.Syntax as t
use Rattle.dart_syntax.specs.Syntax.{Tree, Top}
use Rattle.dart_values.specs.Values.{Text}
use Rattle.dart_lexer.specs.Model as lexer
use Rattle.dart_expr.specs.Model as expressions
use Rattle.dart_parser.specs.Statements as statements
use Rattle.dart_parser.specs.Tops as units
use Rattle.dart_meaning.specs.Run.{Ending}
use Rattle.dart_meaning.specs.Sites.{site_of}
use Rattle.dart_meaning.specs.Entry.{Meaning, entry_named, entry_run, greatest_depth, seen}

-- so often, one behind another
abbrev pub times : {A : Type 0} → ℕ → List A → List A
times n xs = flat_map (λ ys. ys) (replicate n xs)

-- the lines of a text, each with its line feed
abbrev pub source : List Text → Text
source = flat_map (λ line. line ++ 10 ∷ [])

-- the tree of the declarations that a parser read
abbrev pub tree_read : {E : Type 0} → Result (List Top × List Token) E → Option Tree
tree_read (Ok p) = Some (t.tree_of p.0)
tree_read (Err e) = None

-- within 200 levels
abbrev pub tree_of_tokens : {E : Type 0} → Result (List Token) E → Option Tree
tree_of_tokens (Ok list) = tree_read (units.whole_unit (statements.stmt 200) (expressions.expr 200) list)
tree_of_tokens (Err e) = None

-- the tree of a text, if it has one
abbrev pub tree_of_text : Text → Option Tree
tree_of_text text = tree_of_tokens (lexer.lex text)

-- an entry of a tree, by name, with a greatest depth and a number of turns
abbrev pub entry_of_tree : ℕ → Text → ℕ → Tree → Option Meaning
entry_of_tree depth name turns tree = option_map (λ f. seen (entry_run tree (site_of tree) depth f turns)) (entry_named tree name)

-- what an entry of a text does, with a greatest depth and a number of turns
abbrev pub meaning_within : ℕ → Text → Text → ℕ → Option Meaning
meaning_within depth text name turns = option_and_then (entry_of_tree depth name turns) (tree_of_text text)

-- The entry of the text prints these lines and ends so; these calls asked a cell, each a site and a class, and these values were tested by `is`, each by its class and the class named.
abbrev pub DoesWithin : ℕ → Text → Text → ℕ → List Text → Ending → List (ℕ × ℕ) → List (ℕ × ℕ) → Type 0
DoesWithin depth text name turns lines ending asked tests =
    meaning_within depth text name turns ≡ Some (record { lines = lines; ending = ending; asked = asked; tests = tests })

-- the same with the depth that every entry may reach
abbrev pub Does : Text → Text → ℕ → List Text → Ending → List (ℕ × ℕ) → List (ℕ × ℕ) → Type 0
Does = DoesWithin greatest_depth
