-- The lists of a program, and what is read off them directly.
use Rattle.std.specs.Prelude.{ℕ, Bool, false, not, List, ◌++◌, map, slice_get, Option, None, Some, option_map, option_and_then, option_to_list}
use Rattle.program.specs.declared.literal.Literal.{Literal}
use Rattle.program.specs.declared.numbered.Class.{Class}
use Rattle.program.specs.declared.numbered.Method.{Method}
use Rattle.program.specs.declared.numbered.Function.{Function}
use Rattle.program.specs.declared.numbered.Selector.{Selector}
use Rattle.program.specs.declared.numbered.Site.{Site}
use Rattle.program.specs.Hierarchy.{Parents, Supers}

-- a program as six lists, where each thing goes by its place in its list
pub record Parts : Type 0 where
  pub classes : List Class
  pub methods : List Method
  pub functions : List Function
  pub selectors : List Selector
  pub sites : List Site
  pub globals : List Literal

abbrev pub parts : List Class → List Method → List Function → List Selector → List Site → List Literal → Parts
parts classes methods functions selectors sites globals = record { classes = classes; methods = methods; functions = functions; selectors = selectors; sites = sites; globals = globals }

-- for each class the number of the one above it by `extends`
abbrev pub parents : List Class → Parents
parents = map (λ k. option_map (λ p. p.0) k.parent)

-- the numbers behind `extends` and `implements` in a class's head
abbrev pub named_above : Class → List ℕ
named_above k = option_to_list (option_map (λ p. p.0) k.parent) ++ map (λ i. i.0) k.interfaces

-- the same for each class
abbrev pub supers : List Class → Supers
supers = map named_above

-- a class that is there and not declared abstract
abbrev pub concrete : Option Class → Bool
concrete None = false
concrete (Some k) = not k.is_abstract

-- class c is there and not declared abstract
abbrev pub is_concrete : List Class → ℕ → Bool
is_concrete classes c = concrete (slice_get classes c)

-- the selector of a site
abbrev pub selector_at : Parts → ℕ → Option Selector
selector_at p s = option_and_then (λ (site : Site). slice_get p.selectors site.selector.0) (slice_get p.sites s)
