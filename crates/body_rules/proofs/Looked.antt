-- A rule that looks at parts whose classes go by their names.
use Rattle.std.proofs.Common.{◌≡◌, List, [], ◌∷◌, map, refl, ap, ◌∙◌}
use Rattle.dart_syntax.specs.Syntax.{Tree}
use Rattle.dart_meaning.specs.Uses as u
use Rattle.name_uses.specs.Looked.{looked}
use Rattle.static_rules.specs.Places.{Fault, ◌or_else◌, first_in}
use Rattle.static_rules.specs.InParts.{in_parts}

by_names : (tree : Tree) (rule : u.Part → u.Use → Fault) (ps : List u.Part) → first_in (λ p. first_in (rule (looked tree p)) p.uses) ps ≡ first_in (λ p. first_in (rule p) p.uses) (map (looked tree) ps)
by_names tree rule [] = refl
by_names tree rule (p ∷ ps) = ap (λ at. first_in (rule (looked tree p)) p.uses or_else at) (by_names tree rule ps)

pub in_looked : (tree : Tree) (rule : u.Part → u.Use → Fault) (ps : List u.Part) → map (looked tree) ps ≡ u.parts tree → first_in (λ p. first_in (rule (looked tree p)) p.uses) ps ≡ in_parts rule tree
in_looked tree rule ps all = by_names tree rule ps ∙ ap (first_in (λ p. first_in (rule p) p.uses)) all
