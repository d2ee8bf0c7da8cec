-- The walk up a chain, and what it finds.
use Rattle.std.proofs.Common.{◌≡◌, ℕ, suc, ◌<◌, List, ◌∷◌, length, slice_get, get_or, codes, Option, None, Some, option_map, option_and_then, refl, sym, ◌∙◌, ap}
use Rattle.std.proofs.lemmas.List.{length-map}
use Rattle.std.proofs.lemmas.Option.{slice_get_read, slice_get-map}
use Rattle.program.specs.declared.numbered.Method.{Method}
use Rattle.program.specs.declared.numbered.Selector.{Selector}
use Rattle.program.specs.declared.numbered.SelectorKind.{SelectorKind}
use Rattle.program.specs.declared.numbered.SelectorKind.TheVariants.{Call}
use Rattle.program.specs.declared.numbered.Target.TheVariants as target
use Rattle.program.specs.Hierarchy.{Parents, parent_in, chain, chain_of, above_chain, IsPreorder}
use Rattle.program.specs.Parts.{Parts, parents}
use Rattle.program.specs.Lookup.{or_above, if_accepts, found, found_by, lookup, no_such_method, target_or, resolve}
use Rattle.program.proofs.Intervals.{chain_step}
use Rattle.method_lookup.specs.Index.{name_number, selector_names, keyed_if, first_keyed, found_keyed}
use Rattle.method_lookup.proofs.Keys.{first_keyed_is}

pub step_of : (up : Parents) → IsPreorder up → (at : Option ℕ) (c : ℕ) → at ≡ Some c → chain_of up at ≡ c ∷ above_chain up c
step_of up h at c e = ap (chain_of up) e ∙ chain_step up h c

-- one class further up, where this one has no such member
pub found_above : (up : Parents) (methods : List Method) (role : SelectorKind) (name : Option ℕ) → IsPreorder up → (at above : Option ℕ) (c : ℕ) → at ≡ Some c → above ≡ parent_in up c → keyed_if methods role name c ≡ None
    → first_keyed methods role name (chain_of up at) ≡ first_keyed methods role name (chain_of up above)
found_above up methods role name h at above c e is none =
    ap (first_keyed methods role name) (step_of up h at c e)
    ∙ ap (λ o. or_above o (first_keyed methods role name (above_chain up c))) none
    ∙ ap (λ o. first_keyed methods role name (chain_of up o)) (sym is)

pub shorter_above : (up : Parents) → IsPreorder up → (at above : Option ℕ) (c : ℕ) → at ≡ Some c → above ≡ parent_in up c → length (chain_of up at) ≡ suc (length (chain_of up above))
shorter_above up h at above c e is = ap (λ (cs : List ℕ). length cs) (step_of up h at c e) ∙ ap (λ o. suc (length (chain_of up o))) (sym is)

-- The class itself has it.
pub found_here : (up : Parents) (methods : List Method) (role : SelectorKind) (name : Option ℕ) → IsPreorder up → (at : Option ℕ) (c m : ℕ) → at ≡ Some c → keyed_if methods role name c ≡ Some m
    → first_keyed methods role name (chain_of up at) ≡ Some m
found_here up methods role name h at c m e some =
    ap (first_keyed methods role name) (step_of up h at c e) ∙ ap (λ o. or_above o (first_keyed methods role name (above_chain up c))) some

-- By the number of a name the same is found as by the name.
found_is : (p : Parts) (c : ℕ) (role : SelectorKind) (name : List ℕ) (n : ℕ) → found_keyed p c role (name_number p.methods name) n ≡ found p c role name n
found_is p c role name n = ap (option_and_then (λ m. if_accepts n m (slice_get p.methods m))) (first_keyed_is p.methods role name (chain (parents p.classes) c))

pub lookup_is : (p : Parts) (c s : ℕ) (sel : Selector) (name : Option ℕ) → slice_get p.selectors s ≡ Some sel → name ≡ name_number p.methods sel.name → found_keyed p c sel.kind name sel.count ≡ lookup p c s
unfolding lookup
lookup_is p c s sel name here is =
    ap (λ o. found_keyed p c sel.kind o sel.count) is ∙ found_is p c sel.kind sel.name sel.count ∙ ap (option_and_then (found_by p c)) (sym here)

pub missing_is : (p : Parts) (c : ℕ) (name : Option ℕ) → name ≡ name_number p.methods (codes "noSuchMethod") → found_keyed p c Call name 1 ≡ no_such_method p c
unfolding no_such_method
missing_is p c name is = ap (λ o. found_keyed p c Call o 1) is ∙ found_is p c Call (codes "noSuchMethod") 1

-- the number of a selector's name, as it is read
pub name_at : (p : Parts) (names : List (Option ℕ)) (s : ℕ) (sel : Selector) (name : Option ℕ) → names ≡ selector_names p.methods p.selectors → slice_get p.selectors s ≡ Some sel → s < length names → name ≡ get_or names s name → name ≡ name_number p.methods sel.name
name_at p names s sel name same here lt is =
    let read : slice_get names s ≡ Some name = slice_get_read names (length names) s name refl lt is in
    let mapped : slice_get names s ≡ Some (name_number p.methods sel.name) =
    ap (λ xs. slice_get xs s) same ∙ slice_get-map (λ (k : Selector). name_number p.methods k.name) p.selectors s ∙ ap (option_map (λ (k : Selector). name_number p.methods k.name)) here in
    cc

-- Where a call goes.

pub resolve_found : (p : Parts) (c s m : ℕ) → Some m ≡ lookup p c s → target.Method (record { 0 = m }) ≡ resolve p c s
unfolding resolve
resolve_found p c s m e = ap (λ o. target_or o (no_such_method p c)) e

pub resolve_missing : (p : Parts) (c s m : ℕ) → None ≡ lookup p c s → no_such_method p c ≡ Some m → target.Nsm (record { 0 = m }) ≡ resolve p c s
unfolding resolve
resolve_missing p c s m e f = ap (target_or None) (sym f) ∙ ap (λ o. target_or o (no_such_method p c)) e

pub length-names : (methods : List Method) (selectors : List Selector) → length (selector_names methods selectors) ≡ length selectors
length-names methods selectors = simp length-map
