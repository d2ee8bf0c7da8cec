-- The numbered form of a body, by any numbers of sites.
use Rattle.std.specs.Prelude.{ℕ, List, Option, unwrap_or}
use Rattle.std.specs.Option.{option_map}
use Rattle.dart_syntax.specs.Syntax as t
use Rattle.dart_syntax.specs.Syntax.{Tree, Body, Stas, Exps, Passed}
use Rattle.dart_values.specs.Values.{Text}
use Rattle.dart_meaning.specs.Place.{Place}
use Rattle.dart_meaning.specs.Numbering as num
use Rattle.dart_meaning.specs.Forms.{BodyForm, arrow, block}

-- an arrow or a block, where `here` is its class, if any, and `names` are the open variables
abbrev pub numbered : Tree → (Place → ℕ) → Option Text → List Text → Body → BodyForm
numbered tree site_of here names (t.arrow e) = arrow (num.exp tree site_of here names e)
numbered tree site_of here names (t.code all) = block (num.stas tree site_of here names all)

-- A constructor that passes nothing enters the superclass without arguments.
abbrev pub passed_args : Option Passed → Exps
passed_args passed = unwrap_or (option_map (λ (p : Passed). p.args) passed) t.no_more

-- A constructor without a body does nothing.
abbrev pub block_or_none : Option Stas → Stas
block_or_none body = unwrap_or body t.done
