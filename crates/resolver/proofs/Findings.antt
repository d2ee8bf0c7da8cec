-- The first of the findings.
use Rattle.std.proofs.Common.{◌≡◌, List, [], ◌∷◌, ◌++◌, take, drop, Option, None, Some, refl, ◌∙◌, ap, map}
use Rattle.dart_syntax.specs.declared.token.Span.{Span}
use Rattle.dart_syntax.specs.Syntax.{Tree}
use Rattle.dart_meaning.specs.Uses as u
use Rattle.name_uses.specs.Looked.{looked}
use Rattle.name_uses.proofs.Looked.{looked_parts}
use Rattle.static_rules.specs.declared.rule.Rule.{Rule}
use Rattle.static_rules.specs.declared.rule.Rule.TheVariants.{DuplicateName}
use Rattle.static_rules.specs.DuplicateName.{duplicate_name}
use Rattle.static_rules.specs.Accepted.{Finding, findings, first_broken, failing}

skipped : (xs ys : List Finding) → first_broken xs ≡ None → first_broken (xs ++ ys) ≡ first_broken ys
skipped [] ys h = refl
skipped ((rule, None) ∷ xs) ys h = skipped xs ys h
skipped ((rule, Some place) ∷ xs) ys h = absurd cc

stays : (xs ys : List Finding) (x : Rule × Span) → first_broken xs ≡ Some x → first_broken (xs ++ ys) ≡ Some x
stays [] ys x h = absurd cc
stays ((rule, None) ∷ xs) ys x h = stays xs ys x h
stays ((rule, Some place) ∷ xs) ys x h = h

-- a rule on declarations is broken
pub broken_before : (tree : Tree) (x : Rule × Span) → first_broken (take 4 (findings tree)) ≡ Some x → failing tree ≡ Some x
broken_before tree x h = stays (take 4 (findings tree)) (drop 4 (findings tree)) x h

-- none of them is
pub none_before : (tree : Tree) → first_broken (take 4 (findings tree)) ≡ None → failing tree ≡ first_broken (drop 4 (findings tree))
none_before tree h = skipped (take 4 (findings tree)) (drop 4 (findings tree)) h

first_none : (rule : Rule) (at : Option Span) (more : List Finding) → first_broken ((rule, at) ∷ more) ≡ None → at ≡ None
first_none rule None more h = refl
first_none rule (Some place) more h = absurd cc

-- so each class is the one that its name stands for
pub parts_by_names : (tree : Tree) (ps : List u.Part) → ps ≡ u.parts tree → first_broken (take 4 (findings tree)) ≡ None → map (looked tree) ps ≡ u.parts tree
parts_by_names tree ps whole kept =
    ap (map (looked tree)) whole ∙ looked_parts tree (first_none DuplicateName (duplicate_name tree) (take 3 (drop 1 (findings tree))) kept)

-- a rule on bodies is broken
pub broken_behind : (tree : Tree) (x : Rule × Span) → first_broken (take 4 (findings tree)) ≡ None → first_broken (drop 4 (findings tree)) ≡ Some x → failing tree ≡ Some x
broken_behind tree x before behind = none_before tree before ∙ behind
