-- What an accepted tree keeps at each use of each part.
use Rattle.std.proofs.Common.{◌≡◌, ℕ, Bool, true, false, List, [], ◌∷◌, flat_map, refl, slice_get}
use Rattle.std.specs.Prelude.{Some, None}
use Rattle.dart_syntax.specs.declared.token.Span.{Span}
use Rattle.dart_syntax.specs.Syntax.{Tree}
use Rattle.program.specs.Parts.{Parts, selector_at}
use Rattle.dart_meaning.specs.Sites.{Site, site_of, sites_of_use, text_sites}
use Rattle.dart_meaning.specs.Uses.{Use, Part, parts}
use Rattle.static_rules.specs.Places.{Fault, at_if, ◌or_else◌, first_in}
use Rattle.static_rules.specs.InParts.{in_parts}
use Rattle.static_rules.specs.UndefinedName.{undefined_in, undefined_name}
use Rattle.static_rules.specs.TearOff.{torn_off, tear_off}
use Rattle.static_rules.specs.AbstractMade.{abstract_in, abstract_made}
use Rattle.static_rules.specs.FinalWritten.{final_in, final_written}
use Rattle.static_rules.specs.BadReturnPlace.{misplaced, bad_return_place}
use Rattle.static_rules.specs.WrongArgumentsOfStatic.{wrong_in, wrong_arguments_of_static}
use Rattle.text_trees.specs.Written.{Each}
use Rattle.accepted_trees.proofs.RulesKept.{KeepsRules}
use Rattle.accepted_trees.proofs.bodies.Each.{each_flat, each_from, each_map, each_two}
use Rattle.accepted_trees.proofs.bodies.Tables.{Tables}

-- ---- faults

pub at_none : (b : Bool) (s : Span) → at_if b s ≡ None → b ≡ false
at_none true s h = absurd cc
at_none false s h = refl

pub or_none : (a b : Fault) → (a or_else b) ≡ None → (a ≡ None) × (b ≡ None)
or_none None b h = (refl, h)
or_none (Some x) None h = absurd cc
or_none (Some x) (Some y) h = absurd cc

none_each : {A : Type 0} (f : A → Fault) (xs : List A) → first_in f xs ≡ None → Each (λ x. f x ≡ None) xs
none_each f [] h = tt
none_each f (x ∷ more) h = ((or_none (f x) (first_in f more) h).0, none_each f more (or_none (f x) (first_in f more) h).1)

-- ---- at each use

-- so at each use of each part
abbrev pub Throughout : Tree → (Part → Use → Type 0) → Type 0
Throughout tree R = Each (λ (part : Part). Each (R part) part.uses) (parts tree)

in_all : (rule : Part → Use → Fault) (tree : Tree) → in_parts rule tree ≡ None → Throughout tree (λ part use_of. rule part use_of ≡ None)
in_all rule tree h =
    each_map (λ (part : Part). first_in (rule part) part.uses ≡ None) (λ (part : Part). Each (λ x. rule part x ≡ None) part.uses) (parts tree) (λ part k. none_each (rule part) part.uses k)
    (none_each (λ (part : Part). first_in (rule part) part.uses) (parts tree) h)

through_two : (tree : Tree) (R S : Part → Use → Type 0) → Throughout tree R → Throughout tree S → Throughout tree (λ part x. R part x × S part x)
through_two tree R S h k =
    each_map (λ (part : Part). Each (R part) part.uses × Each (S part) part.uses) (λ (part : Part). Each (λ x. R part x × S part x) part.uses) (parts tree) (λ part both. each_two (R part) (S part) part.uses both.0 both.1)
    (each_two (λ (part : Part). Each (R part) part.uses) (λ (part : Part). Each (S part) part.uses) (parts tree) h k)

-- a call site of the text has its selector
abbrev pub HasSelector : Tree → Parts → Site → Type 0
HasSelector tree p s = selector_at p (site_of tree s.place) ≡ Some s.selector

at_sites : (tree : Tree) (p : Parts) → ((i : ℕ) (s : Site) → slice_get (text_sites tree) i ≡ Some s → HasSelector tree p s) → Throughout tree (λ part x. Each (HasSelector tree p) (sites_of_use tree part x))
unfolding text_sites
at_sites tree p h =
    each_map (λ (part : Part). Each (HasSelector tree p) (flat_map (sites_of_use tree part) part.uses)) (λ (part : Part). Each (λ x. Each (HasSelector tree p) (sites_of_use tree part x)) part.uses) (parts tree)
    (λ part k. each_flat (HasSelector tree p) (sites_of_use tree part) part.uses k)
    (each_flat (HasSelector tree p) (λ part. flat_map (sites_of_use tree part) part.uses) (parts tree) (each_from (HasSelector tree p) (flat_map (λ part. flat_map (sites_of_use tree part) part.uses) (parts tree)) h))

abbrev pub Kept : Tree → Parts → Part → Use → Type 0
Kept tree p part x =
    (undefined_in tree part x ≡ None)
    × ((torn_off tree part x ≡ None)
    × ((abstract_in tree part x ≡ None) × ((final_in tree part x ≡ None) × ((misplaced part x ≡ None) × ((wrong_in tree part x ≡ None) × Each (HasSelector tree p) (sites_of_use tree part x))))))

pub kept : (tree : Tree) (p : Parts) → KeepsRules tree → Tables tree p → Throughout tree (Kept tree p)
unfolding undefined_name tear_off abstract_made final_written bad_return_place wrong_arguments_of_static
kept tree p rules tables =
    through_two tree _ _ (in_all (undefined_in tree) tree rules.defined)
    (through_two tree _ _ (in_all (torn_off tree) tree rules.called)
    (through_two tree _ _ (in_all (abstract_in tree) tree rules.concrete)
    (through_two tree _ _ (in_all (final_in tree) tree rules.unwritten)
    (through_two tree _ _ (in_all misplaced tree rules.returns)
    (through_two tree _ _ (in_all (wrong_in tree) tree rules.arguments) (at_sites tree p tables.calls_at))))))
