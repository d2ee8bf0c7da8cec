-- The classes that a search visits.
use Rattle.std.proofs.Common.{◌≡◌, ℕ, suc, ◌+◌, ◌≤◌, List, [], ◌∷◌, length, slice_get, codes, Option, None, Some, refl, sym, ◌∙◌, ap, arith}
use Rattle.program.specs.declared.numbered.Method.{Method}
use Rattle.program.specs.declared.numbered.Selector.{Selector}
use Rattle.program.specs.declared.numbered.SelectorKind.{SelectorKind}
use Rattle.program.specs.declared.numbered.SelectorKind.TheVariants.{Call}
use Rattle.program.specs.Hierarchy.{Parents, parent_in, chain, chain_of, above_chain, IsPreorder}
use Rattle.program.specs.Parts.{Parts, parents}
use Rattle.program.specs.Lookup.{declared, lookup}
use Rattle.method_lookup.specs.Index.{name_number, keyed_if}
use Rattle.method_lookup.specs.Visits.{and_above, visited, visited_by, if_named, keyed_visits, visits, visits_by, lookup_visits, missing_visits, if_none, resolve_visits}
use Rattle.method_lookup.proofs.Keys.{keyed_is}
use Rattle.method_lookup.proofs.Walks.{step_of}

-- the class itself has the member
pub visited_here : (up : Parents) (methods : List Method) (role : SelectorKind) (name : Option ℕ) → IsPreorder up → (at : Option ℕ) (c m : ℕ) → at ≡ Some c → keyed_if methods role name c ≡ Some m
    → visited_by methods role name (chain_of up at) ≡ 1
visited_here up methods role name h at c m e some =
    ap (visited_by methods role name) (step_of up h at c e) ∙ ap (λ o. and_above o (visited_by methods role name (above_chain up c))) some

-- one class further up, where this one has no such member
pub visited_above : (up : Parents) (methods : List Method) (role : SelectorKind) (name : Option ℕ) → IsPreorder up → (at above : Option ℕ) (c : ℕ) → at ≡ Some c → above ≡ parent_in up c → keyed_if methods role name c ≡ None
    → visited_by methods role name (chain_of up at) ≡ suc (visited_by methods role name (chain_of up above))
visited_above up methods role name h at above c e is none =
    ap (visited_by methods role name) (step_of up h at c e)
    ∙ ap (λ o. and_above o (visited_by methods role name (above_chain up c))) none
    ∙ ap (λ o. suc (visited_by methods role name (chain_of up o))) (sym is)

-- by its number and by the name as many are visited
visited_is : (methods : List Method) (kind : SelectorKind) (name : List ℕ) (cs : List ℕ) → visited_by methods kind (name_number methods name) cs ≡ visited methods kind name cs
visited_is methods kind name [] = refl
visited_is methods kind name (c ∷ cs) =
    ap (λ o. and_above o (visited_by methods kind (name_number methods name) cs)) (keyed_is methods c kind name)
    ∙ ap (and_above (declared methods c kind name)) (visited_is methods kind name cs)

visits_is : (p : Parts) (c : ℕ) (kind : SelectorKind) (name : List ℕ) → keyed_visits p.methods kind (name_number p.methods name) (chain (parents p.classes) c) ≡ visits p c kind name
unfolding visits
visits_is p c kind name = ap (if_named (name_number p.methods name)) (visited_is p.methods kind name (chain (parents p.classes) c))

pub lookup_visits_is : (p : Parts) (c s : ℕ) (sel : Selector) (name : Option ℕ) → slice_get p.selectors s ≡ Some sel → name ≡ name_number p.methods sel.name
    → keyed_visits p.methods sel.kind name (chain (parents p.classes) c) ≡ lookup_visits p c s
unfolding lookup_visits
lookup_visits_is p c s sel name here is =
    ap (λ o. keyed_visits p.methods sel.kind o (chain (parents p.classes) c)) is ∙ visits_is p c sel.kind sel.name ∙ ap (visits_by p c) (sym here)

pub missing_visits_is : (p : Parts) (c : ℕ) (name : Option ℕ) → name ≡ name_number p.methods (codes "noSuchMethod") → keyed_visits p.methods Call name (chain (parents p.classes) c) ≡ missing_visits p c
unfolding missing_visits
missing_visits_is p c name is = ap (λ o. keyed_visits p.methods Call o (chain (parents p.classes) c)) is ∙ visits_is p c Call (codes "noSuchMethod")

pub resolve_visits_found : (p : Parts) (c s m : ℕ) → Some m ≡ lookup p c s → lookup_visits p c s ≡ resolve_visits p c s
unfolding resolve_visits
resolve_visits_found p c s m e =
    let none : if_none (lookup p c s) (missing_visits p c) ≡ 0 = ap (λ o. if_none o (missing_visits p c)) (sym e) in
    omega (arith, none)

pub resolve_visits_missing : (p : Parts) (c s : ℕ) → None ≡ lookup p c s → lookup_visits p c s + missing_visits p c ≡ resolve_visits p c s
unfolding resolve_visits
resolve_visits_missing p c s e = ap (λ o. lookup_visits p c s + if_none o (missing_visits p c)) e

-- No more than there are.

and_above_most : (o : Option ℕ) (n m : ℕ) → n ≤ m → and_above o n ≤ suc m
and_above_most None n m h = omega (arith, h)
and_above_most (Some k) n m h = omega (arith, h)

visited_most : (methods : List Method) (kind : SelectorKind) (name : List ℕ) (cs : List ℕ) → visited methods kind name cs ≤ length cs
visited_most methods kind name [] = omega arith
visited_most methods kind name (c ∷ cs) = and_above_most (declared methods c kind name) (visited methods kind name cs) (length cs) (visited_most methods kind name cs)

if_named_most : (o : Option ℕ) (n m : ℕ) → n ≤ m → if_named o n ≤ m
if_named_most None n m h = omega (arith, h)
if_named_most (Some k) n m h = h

visits_most : (p : Parts) (c : ℕ) (kind : SelectorKind) (name : List ℕ) → visits p c kind name ≤ length (chain (parents p.classes) c)
unfolding visits
visits_most p c kind name =
    if_named_most (name_number p.methods name) (visited p.methods kind name (chain (parents p.classes) c)) (length (chain (parents p.classes) c)) (visited_most p.methods kind name (chain (parents p.classes) c))

visits_by_most : (p : Parts) (c : ℕ) (sel : Option Selector) → visits_by p c sel ≤ length (chain (parents p.classes) c)
visits_by_most p c None = omega arith
visits_by_most p c (Some sel) = visits_most p c sel.kind sel.name

pub lookup_most : (p : Parts) (c s : ℕ) → lookup_visits p c s ≤ length (chain (parents p.classes) c)
unfolding lookup_visits
lookup_most p c s = visits_by_most p c (slice_get p.selectors s)

pub missing_most : (p : Parts) (c : ℕ) → missing_visits p c ≤ length (chain (parents p.classes) c)
unfolding missing_visits
missing_most p c = visits_most p c Call (codes "noSuchMethod")
