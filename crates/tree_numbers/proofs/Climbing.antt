-- Walks up the hierarchy go along the classes above.
use Rattle.std.proofs.Common.{◌≡◌, ℕ, zero, suc, ◌+◌, ◌-◌, ◌<◌, Bool, true, false, ◌||◌, cond, if◌then◌else◌, List, [], ◌∷◌, length, map, reverse, drop, is_some, option_map, Option, None, Some, refl, sym, ◌∙◌, ap, subst, arith, unwrap_or, bytes_eq, length-append}
use Rattle.std.specs.Prelude.{flat_map, filter_map, find, position}
use Rattle.std.specs.Option.{option_and_then}
use Rattle.std.specs.List.{list_any, position_from}
use Rattle.std.proofs.lemmas.List.Concat.{flat_map-append}
use Rattle.std.proofs.lemmas.Grind.{reverse_onto}
use Rattle.dart_syntax.specs.Syntax.{Tree, ClassDecl, Local}
use Rattle.dart_syntax.specs.Bytes.{Text}
use Rattle.program.specs.declared.numbered.SelectorKind.{SelectorKind}
use Rattle.program.specs.declared.numbered.SelectorKind.TheVariants.{Call, Get, Set}
use Rattle.program.specs.BuiltIn.{built_in_members}
use Rattle.program.specs.Lookup.{declared, is_declared_by}
use Rattle.dart_meaning.specs.Classes.{classes, class_named, parent, parent_of, chain_from, chain_above, own_fields, declared_fields, field_of, own, in_class, built_in_names, built_in_taking, field_place}
use Rattle.tree_numbers.specs.Maps.{Known}
use Rattle.tree_numbers.specs.ClassFacts.{Facts, facts}
use Rattle.tree_numbers.specs.Order.{above_in}
use Rattle.tree_numbers.specs.Asked.{known_of}
use Rattle.tree_numbers.specs.Walks.{field_count, fields_up, owns_of, has_at, owned_if, owns_by, owner_up}
use Rattle.tree_numbers.proofs.Kept.{names_are, owned_are}

-- ---- one step

sums : (a b n total : ℕ) → (a + b) + n ≡ total → b + (n + a) ≡ total
sums a b n total e = omega (arith, e)

field_step : (known : Known Facts) (left : ℕ) (o : Option Text) (p : Text) (count total : ℕ) → o ≡ Some p
    → unwrap_or (option_map (λ above. field_count (known above) + fields_up left known above) o) 0 + count ≡ total → fields_up left known p + (count + field_count (known p)) ≡ total
field_step known left o p count total e h = sums (field_count (known p)) (fields_up left known p) count total (subst (λ x. unwrap_or (option_map (λ above. field_count (known above) + fields_up left known above) x) 0 + count ≡ total) e h)

one_less : (n : ℕ) → 0 < n → n ≡ suc (n - 1)
one_less n lt = omega (arith, lt)

pub fields_further : (known : Known Facts) (left : ℕ) (at p : Text) (count total : ℕ) → 0 < left → above_in known at ≡ Some p → fields_up left known at + count ≡ total → fields_up (left - 1) known p + (count + field_count (known p)) ≡ total
fields_further known left at p count total lt e h = field_step known (left - 1) (above_in known at) p count total e (subst (λ k. fields_up k known at + count ≡ total) (one_less left lt) h)

same_count : (count total : ℕ) → 0 + count ≡ total → count ≡ total
same_count count total h = omega (arith, h)

fields_none : (known : Known Facts) (left : ℕ) (o : Option Text) → o ≡ None → unwrap_or (option_map (λ above. field_count (known above) + fields_up left known above) o) 0 ≡ 0
fields_none known left o e = ap (λ x. unwrap_or (option_map (λ above. field_count (known above) + fields_up left known above) x) 0) e

pub fields_end : (known : Known Facts) (left : ℕ) (at : Text) (count total : ℕ) → above_in known at ≡ None → fields_up left known at + count ≡ total → count ≡ total
fields_end known zero at count total e h = same_count count total h
fields_end known (suc n) at count total e h = same_count count total (subst (λ k. k + count ≡ total) (fields_none known n (above_in known at) e) h)

module _ (passes : Text → Bool) (above : Text → Option Text) where
  at_next : (n : ℕ) (at p whole : Text) → above at ≡ Some p → owner_up (suc n) passes above at ≡ whole → (if passes p then p else owner_up n passes above p) ≡ whole
  at_next n at p whole e h = subst (λ x. unwrap_or (option_map (λ up. if passes up then up else owner_up n passes above up) x) [] ≡ whole) e h

  pub owner_further : (left : ℕ) (at p whole : Text) → 0 < left → above at ≡ Some p → passes p ≡ false → owner_up left passes above at ≡ whole → owner_up (left - 1) passes above p ≡ whole
  owner_further left at p whole lt e f h =
      sym (ap (λ b. if b then p else owner_up (left - 1) passes above p) f) ∙ at_next (left - 1) at p whole e (subst (λ k. owner_up k passes above at ≡ whole) (one_less left lt) h)

  pub owner_there : (left : ℕ) (at p whole : Text) → 0 < left → above at ≡ Some p → passes p ≡ true → owner_up left passes above at ≡ whole → p ≡ whole
  owner_there left at p whole lt e f h =
      sym (ap (λ b. if b then p else owner_up (left - 1) passes above p) f) ∙ at_next (left - 1) at p whole e (subst (λ k. owner_up k passes above at ≡ whole) (one_less left lt) h)

-- ---- the classes above

abbrev pub up : ℕ → Tree → Text → List Text
up n tree class = unwrap_or (option_map (chain_from n tree) (parent tree class)) []

class_again : (o : Option ClassDecl) → option_map (λ (f : Facts). f.class) (option_map facts o) ≡ o
class_again None = refl
class_again (Some c) = refl

pub above_is : (tree : Tree) → above_in (known_of tree) ≡ parent tree
above_is tree i q = ap (λ o. parent_of o q) (class_again (class_named tree q)) i

tail_is : {A : Type 0} (x : A) (xs : List A) → drop 1 (x ∷ xs) ≡ xs
tail_is x [] = refl
tail_is x (y ∷ ys) = refl

one_more : (n : ℕ) → suc (6 + n) ≡ 7 + n
one_more n = omega arith

pub chain_is : (tree : Tree) (class : Text) → up (6 + length (classes tree)) tree class ≡ chain_above tree class
chain_is tree class =
    sym (tail_is class (up (6 + length (classes tree)) tree class)) ∙ ap (λ n. drop 1 (chain_from n tree class)) (one_more (length (classes tree)))

pub length-mapped : {A B : Type 0} (f : A → B) (xs : List A) → length (map f xs) ≡ length xs
length-mapped f [] = refl
length-mapped f (x ∷ xs) = ap (λ n. suc n) (length-mapped f xs)

own_count : (o : Option ClassDecl) → field_count (option_map facts o) ≡ length (declared_fields o)
own_count None = refl
own_count (Some c) = ap length (names_are (λ (f : Local). f.name.text) field_of c.members) ∙ length-mapped (λ (f : Local). f.name.text) (filter_map field_of c.members)

turn : {A B : Type 0} (f : A → List B) (x : A) (xs : List A) → length (f x) + length (flat_map f (reverse xs)) ≡ length (flat_map f (reverse (x ∷ xs)))
turn f x xs =
    let whole = ap (λ l. length (flat_map f l)) (reverse_onto xs x []) ∙ ap length (flat_map-append f (reverse xs) (x ∷ [])) ∙ length-append (flat_map f (reverse xs)) (flat_map f (x ∷ [])) in
    let last = length-append (f x) [] in
    omega (arith, whole, last)

pub fields_are : (tree : Tree) (n : ℕ) (class : Text) → fields_up n (known_of tree) class ≡ length (flat_map (own_fields tree) (reverse (up n tree class)))
fields_are tree zero class = elim (parent tree class) as (λ o. 0 ≡ length (flat_map (own_fields tree) (reverse (unwrap_or (option_map (chain_from zero tree) o) [])))) [ None ↦ refl | Some p ↦ refl ]
fields_are tree (suc n) class =
    let count = λ (p : Text). field_count (known_of tree p) + fields_up n (known_of tree) p in
    ap (λ (a : Text → Option Text). unwrap_or (option_map count (a class)) 0) (above_is tree)
    ∙ (elim (parent tree class) as (λ o. unwrap_or (option_map count o) 0 ≡ length (flat_map (own_fields tree) (reverse (unwrap_or (option_map (chain_from (suc n) tree) o) [])))) [
      | None ↦ refl
      | Some p ↦ ap (λ k. k + fields_up n (known_of tree) p) (own_count (class_named tree p)) ∙ ap (λ k. length (own_fields tree p) + k) (fields_are tree n p) ∙ turn (own_fields tree) p (up n tree p)
    ])

next_is : (b : Bool) (p : Text) (later : Text) (found : Option Text) → later ≡ unwrap_or found [] → (if b then p else later) ≡ unwrap_or (cond b (Some p) found) []
next_is true p later found e = refl
next_is false p later found e = e

pub owner_is : (tree : Tree) (passes : Text → Bool) (n : ℕ) (class : Text) → owner_up n passes (parent tree) class ≡ unwrap_or (find passes (up n tree class)) []
owner_is tree passes zero class = elim (parent tree class) as (λ o. [] ≡ unwrap_or (find passes (unwrap_or (option_map (chain_from zero tree) o) [])) []) [ None ↦ refl | Some p ↦ refl ]
owner_is tree passes (suc n) class = elim (parent tree class) as (λ o. unwrap_or (option_map (λ p. if passes p then p else owner_up n passes (parent tree) p) o) [] ≡ unwrap_or (find passes (unwrap_or (option_map (chain_from (suc n) tree) o) [])) []) [
  | None ↦ refl
  | Some p ↦ next_is (passes p) p (owner_up n passes (parent tree) p) (find passes (up n tree p)) (owner_is tree passes n p)
]

any_place : {A : Type 0} (t : A → Bool) (n : ℕ) (xs : List A) → list_any t xs ≡ is_some (position_from t n xs)
any_place t n [] = refl
any_place t n (x ∷ xs) = elim (t x) as (λ b. (b || list_any t xs) ≡ is_some (cond b (Some n) (position_from t (n + 1) xs))) [ true ↦ refl | false ↦ any_place t (n + 1) xs ]

some_mapped : {A B : Type 0} (f : A → B) (o : Option A) → is_some o ≡ is_some (option_map f o)
some_mapped f None = refl
some_mapped f (Some a) = refl

built_in_owned : (kind : SelectorKind) (name : Text) (o : Option ℕ) → has_at built_in_members kind name o ≡ is_some (option_and_then (λ c. option_map built_in_taking (declared built_in_members c kind name)) o)
built_in_owned kind name None = refl
built_in_owned kind name (Some c) = any_place (is_declared_by c kind name) 0 built_in_members ∙ some_mapped built_in_taking (declared built_in_members c kind name)

class_owned : (tree : Tree) (class : Text) (kind : SelectorKind) (name : Text) (c : ClassDecl) → owns_of kind (facts c) name ≡ is_some (in_class tree (Some c) class kind name)
class_owned tree class Get name c = owned_are (field_place tree class) class Get name c.members
class_owned tree class Set name c = owned_are (field_place tree class) class Set name c.members
class_owned tree class Call name c = owned_are (field_place tree class) class Call name c.members

pub owns_are : (tree : Tree) (class : Text) (kind : SelectorKind) (name : Text) → owns_by built_in_members (known_of tree) kind name class ≡ is_some (own tree class kind name)
owns_are tree class kind name = elim (class_named tree class) as (λ o. owned_if built_in_members kind name class (option_map facts o) ≡ is_some (in_class tree o class kind name)) [
  | Some c ↦ class_owned tree class kind name c
  | None ↦ built_in_owned kind name (position (bytes_eq class) built_in_names)
]
