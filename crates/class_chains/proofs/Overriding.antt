-- The nearest method of a name above a class.
use Rattle.std.proofs.Common.{◌≡◌, ℕ, zero, suc, Bool, List, [], ◌∷◌, Option, None, Some, option_map, unwrap_or, refl, sym, ◌∙◌, ap, map, length, drop, bytes_eq, ◌+◌, ◌-◌, ◌<◌, arith, cond, not, nat_lt}
use Rattle.std.specs.Prelude.{position}
use Rattle.std.specs.List.{prefix_len}
use Rattle.std.specs.Option.{option_and_then}
use Rattle.dart_syntax.specs.Bytes.{Text}
use Rattle.dart_syntax.specs.Syntax as t
use Rattle.dart_syntax.specs.Syntax.{ClassDecl, Member, Tree}
use Rattle.program.specs.declared.numbered.Class.{Class}
use Rattle.program.specs.declared.numbered.Method.{Method}
use Rattle.program.specs.BuiltIn.{built_in_classes, built_in_members}
use Rattle.dart_meaning.specs.Classes.{classes, class_named, chain_from, parent_of, parent, first_some}
use Rattle.static_rules.specs.BadOverride.{count_in, count_above, in_member, differs, bad_override}
use Rattle.class_chains.specs.Overriding.{find_in, count_found, required_of, count_in_by, or_above, count_up, count_above_by, above, override_at, overrides_by, overrides_of}
use Rattle.static_rules.specs.Places.{Fault, at_if, first_in}
use Rattle.declaration_rules.specs.Finding.{Find, named_of}
use Rattle.class_chains.specs.declared.chains.Chains.{Chains}

pub first_is : (o : Option ℕ) (more : List (Option ℕ)) → first_some (o ∷ more) ≡ or_above o (first_some more)
first_is None more = refl
first_is (Some n) more = refl

-- the steps of the definition are those by the map
ups : (tree : Tree) (count : Text → Option ℕ) (n : ℕ) (class : Text) → count_up count (class_named tree) n class ≡ first_some (map count (chain_from n tree class))
ups tree count zero class = refl
ups tree count (suc n) class =
    ap (or_above (count class))
    (elim (parent tree class) as (λ o. option_and_then (count_up count (class_named tree) n) o ≡ first_some (map count (unwrap_or (option_map (chain_from n tree) o) []))) [
      | None ↦ refl
      | Some above ↦ ups tree count n above
    ])
    ∙ sym (first_is (count class) (map count (unwrap_or (option_map (chain_from n tree) (parent tree class)) [])))

-- one step up
pub up_one : (count : Text → Option ℕ) (find : Find) (left : ℕ) (at above : Text) (whole : Option ℕ) → 0 < left → None ≡ count at → Some above ≡ parent_of (find at) at → count_up count find left at ≡ whole → count_up count find (left - 1) above ≡ whole
up_one count find left at above whole lt none some was =
    ap (λ o. option_and_then (count_up count find (left - 1)) o) some
    ∙ ap (λ o. or_above o (option_and_then (count_up count find (left - 1)) (parent_of (find at) at))) none
    ∙ ap (λ k. count_up count find k at) (one_less left lt) ∙ was
  where
    one_less : (n : ℕ) → 0 < n → suc (n - 1) ≡ n
    one_less n lt = omega arith

prefix-map : {A B : Type 0} (p : B → Bool) (f : A → B) (xs : List A) → prefix_len p (map f xs) ≡ prefix_len (λ x. p (f x)) xs
prefix-map p f [] = refl
prefix-map p f (x ∷ xs) = ap (λ n. cond (p (f x)) (1 + n) 0) (prefix-map p f xs)

pub length-mapped : {A B : Type 0} (f : A → B) (xs : List A) → length (map f xs) ≡ length xs
length-mapped f [] = refl
length-mapped f (x ∷ xs) = ap (λ n. suc n) (length-mapped f xs)

position-map : {A B : Type 0} (p : B → Bool) (f : A → B) (xs : List A) → position p (map f xs) ≡ position (λ x. p (f x)) xs
position-map p f xs =
    ap (λ n. cond (nat_lt n (length (map f xs))) (Some n) None) (prefix-map (λ y. not (p y)) f xs)
    ∙ ap (λ n. cond (nat_lt (prefix_len (λ x. not (p (f x))) xs) n) (Some (prefix_len (λ x. not (p (f x))) xs)) None) (length-mapped f xs)

-- a class's own methods, by the map
counts_in : (tree : Tree) (name class : Text) → count_in_by built_in_classes built_in_members (class_named tree) name class ≡ count_in class name (class_named tree class)
counts_in tree name class = elim (class_named tree class) as (λ o. count_found built_in_classes built_in_members name class o ≡ count_in class name o) [
  | Some c ↦ refl
  | None ↦ ap (option_and_then (λ number. required_of built_in_members number name)) (sym (position-map (bytes_eq class) (λ (k : Class). k.name) built_in_classes))
]

tail_is : {A : Type 0} (x : A) (xs : List A) → drop 1 (x ∷ xs) ≡ xs
tail_is x [] = refl
tail_is x (y ∷ ys) = refl

one_more : (n : ℕ) → suc (6 + n) ≡ 7 + n
one_more n = omega arith

above_is : (tree : Tree) (name class : Text) → count_above_by (count_in_by built_in_classes built_in_members (class_named tree) name) (class_named tree) (6 + length (classes tree)) class ≡ count_above tree class name
above_is tree name class =
    let n = 6 + length (classes tree) in
    let own : Text → Option ℕ = λ above. count_in above name (class_named tree above) in
    let counts : count_in_by built_in_classes built_in_members (class_named tree) name ≡ own = (λ i above. counts_in tree name above i) in
    let rest = unwrap_or (option_map (chain_from n tree) (parent tree class)) [] in
    ap (λ f. count_above_by f (class_named tree) n class) counts
    ∙ (elim (parent tree class) as (λ o. option_and_then (count_up own (class_named tree) n) o ≡ first_some (map own (unwrap_or (option_map (chain_from n tree) o) []))) [
      | None ↦ refl
      | Some above ↦ ups tree own n above
    ])
    ∙ ap (λ cs. first_some (map own cs)) (sym (tail_is class rest))
    ∙ ap (λ k. first_some (map own (drop 1 (chain_from k tree class)))) (one_more (length (classes tree)))

in_member_is : (tree : Tree) (c : ClassDecl) (m : Member)
    → override_at (λ name. count_above_by (count_in_by built_in_classes built_in_members (class_named tree) name) (class_named tree) (6 + length (classes tree)) c.name.text) m ≡ in_member tree c m
in_member_is tree c (t.method n params b) = ap (λ o. at_if (differs o (length params)) n.span) (above_is tree n.text c.name.text)
in_member_is tree c (t.field l) = refl
in_member_is tree c (t.getter n b) = refl
in_member_is tree c (t.setter n param b) = refl
in_member_is tree c (t.operator op at params b) = refl
in_member_is tree c (t.constructor n params passed b) = refl

-- the rule, by what is known of classes
rule_by : List Class → List Method → Find → ℕ → List ClassDecl → Fault
rule_by ks ms find most cs = first_in (λ (c : ClassDecl). overrides_by (λ name. count_above_by (count_in_by ks ms find name) find most c.name.text) c) cs

pub bad_override_is : (tree : Tree) (k : Chains) (cs : List ClassDecl) → k.built_in.now.classes ≡ built_in_classes → k.built_in.now.methods ≡ built_in_members → cs ≡ classes tree → ((q : _) → find_in k q ≡ named_of cs q) → k.most ≡ 6 + length cs
    → first_in (overrides_of k) cs ≡ bad_override tree
unfolding bad_override above rule_by
bad_override_is tree k cs classes_are methods_are all same count =
    let find_is : find_in k ≡ named_of cs = (λ i q. same q i) in
    ap (λ ds. rule_by ds k.built_in.now.methods (find_in k) k.most cs) classes_are
    ∙ ap (λ ds. rule_by built_in_classes ds (find_in k) k.most cs) methods_are
    ∙ ap (λ f. rule_by built_in_classes built_in_members f k.most cs) find_is
    ∙ ap (λ n. rule_by built_in_classes built_in_members (named_of cs) n cs) count
    ∙ ap (λ ds. rule_by built_in_classes built_in_members (named_of ds) (6 + length ds) ds) all
    ∙ ap (λ (f : ClassDecl → Member → Fault). first_in (λ (c : ClassDecl). first_in (f c) c.members) (classes tree)) (λ i c m. in_member_is tree c m i)
