-- What members take, those of built-in classes and of the classes above.
use Rattle.std.proofs.Common.{◌≡◌, ℕ, zero, suc, ◌+◌, ◌-◌, ◌<◌, Bool, true, false, not, nat_lt, cond, List, [], ◌∷◌, map, length, drop, option_map, unwrap_or, is_some, Option, None, Some, refl, sym, ◌∙◌, ap, bytes_eq, arith}
use Rattle.std.specs.Prelude.{position, find, slice_get}
use Rattle.std.specs.List.{position_from, prefix_len}
use Rattle.std.specs.Option.{option_and_then}
use Rattle.dart_syntax.specs.Syntax.{ClassDecl, Tree}
use Rattle.dart_syntax.specs.Bytes.{Text}
use Rattle.program.specs.declared.numbered.Class.{Class}
use Rattle.program.specs.declared.numbered.Method.{Method}
use Rattle.program.specs.declared.numbered.SelectorKind.{SelectorKind}
use Rattle.program.specs.declared.numbered.SelectorKind.TheVariants.{Call, Get, Set}
use Rattle.program.specs.BuiltIn.{built_in_classes, built_in_members}
use Rattle.program.specs.Lookup.{declared, is_declared_by}
use Rattle.dart_meaning.specs.Classes.{classes, built_in_names, first_some, Taking, built_in_taking, in_class, field_place, own, parent, parent_of, chain_from, chain_above}
use Rattle.dart_meaning.specs.Means.{super_member}
use Rattle.static_rules.specs.WrongArgumentsOfStatic.{is_wrong_super, super_count}
use Rattle.text_names.specs.declared.reached.Takes.{Takes}
use Rattle.text_names.specs.Maps.{or_first}
use Rattle.text_names.specs.Reached.{takes_of}
use Rattle.text_names.specs.Around.{around}
use Rattle.text_names.specs.Above.{required_of, exactly, built_in_takes, own_takes, parent_in, takes_up, own_of, nearest, super_by, count_by_class, is_other}
use Rattle.text_names.proofs.Reaching.{reached_are}

-- ---- members of the built-in classes

module _ (p : Method → Bool) (all : List Method) where
  abbrev count_at : ℕ → ℕ
  count_at i = unwrap_or (option_map (λ (k : Method). k.required) (slice_get all i)) 0

  plus_none : (i : ℕ) → i ≡ i + 0
  plus_none i = omega arith

  one_further : (i j : ℕ) → (i + 1) + j ≡ i + suc j
  one_further i j = omega arith

  -- the number of the first that passes leads to that one
  found_from : (xs : List Method) (i : ℕ) → ((j : ℕ) → slice_get all (i + j) ≡ slice_get xs j) → option_map count_at (position_from p i xs) ≡ option_map (λ (k : Method). k.required) (find p xs)
  found_from [] i same = refl
  found_from (x ∷ xs) i same =
      elim (p x) as (λ b. option_map count_at (cond b (Some i) (position_from p (i + 1) xs)) ≡ option_map (λ (k : Method). k.required) (cond b (Some x) (find p xs))) [
        | true ↦ ap (λ o. Some (unwrap_or (option_map (λ (k : Method). k.required) o) 0)) (ap (slice_get all) (plus_none i) ∙ same 0)
        | false ↦ found_from xs (i + 1) (λ j. ap (slice_get all) (one_further i j) ∙ same (suc j))
      ]

none_before : (j : ℕ) → 0 + j ≡ j
none_before j = omega arith

required_is : (methods : List Method) (number : ℕ) (kind : SelectorKind) (name : Text) → required_of methods number kind name ≡ option_map (count_at (is_declared_by number kind name) methods) (declared methods number kind name)
required_is methods number kind name = sym (found_from (is_declared_by number kind name) methods methods 0 (λ j. ap (slice_get methods) (none_before j)))

taken : (p : Method → Bool) (o : Option ℕ) → option_map exactly (option_map (count_at p built_in_members) o) ≡ option_map takes_of (option_map built_in_taking o)
taken p None = refl
taken p (Some i) = refl

prefix-map : {A B : Type 0} (p : B → Bool) (f : A → B) (xs : List A) → prefix_len p (map f xs) ≡ prefix_len (λ x. p (f x)) xs
prefix-map p f [] = refl
prefix-map p f (x ∷ xs) = ap (λ n. cond (p (f x)) (1 + n) 0) (prefix-map p f xs)

pub length-mapped : {A B : Type 0} (f : A → B) (xs : List A) → length (map f xs) ≡ length xs
length-mapped f [] = refl
length-mapped f (x ∷ xs) = ap (λ n. suc n) (length-mapped f xs)

position-map : {A B : Type 0} (p : B → Bool) (f : A → B) (xs : List A) → position p (map f xs) ≡ position (λ x. p (f x)) xs
position-map p f xs =
    ap (λ n. cond (nat_lt n (length (map f xs))) (Some n) None) (prefix-map (λ y. not (p y)) f xs)
    ∙ ap (λ n. cond (nat_lt (prefix_len (λ x. not (p (f x))) xs) n) (Some (prefix_len (λ x. not (p (f x))) xs)) None) (length-mapped f xs)

some_number : (f : ℕ → Option Takes) (g : ℕ → Option Taking) (o : Option ℕ) → ((i : ℕ) → f i ≡ option_map takes_of (g i)) → option_and_then f o ≡ option_map takes_of (option_and_then g o)
some_number f g None same = refl
some_number f g (Some i) same = same i

built_in_is : (tree : Tree) (class : Text) (kind : SelectorKind) (name : Text) → built_in_takes built_in_classes built_in_members class kind name ≡ option_map takes_of (in_class tree None class kind name)
built_in_is tree class kind name =
    ap (option_and_then (λ number. option_map exactly (required_of built_in_members number kind name))) (sym (position-map (bytes_eq class) (λ (k : Class). k.name) built_in_classes))
    ∙ some_number (λ number. option_map exactly (required_of built_in_members number kind name)) (λ number. option_map built_in_taking (declared built_in_members number kind name)) (position (bytes_eq class) built_in_names)
    (λ number. ap (option_map exactly) (required_is built_in_members number kind name) ∙ taken (is_declared_by number kind name) (declared built_in_members number kind name))

-- ---- a class's own members, and the class above

pub own_is : (tree : Tree) (class : Text) (kind : SelectorKind) (name : Text) (o : Option ClassDecl) → own_takes built_in_classes built_in_members (option_map around o) class kind name ≡ option_map takes_of (in_class tree o class kind name)
own_is tree class kind name None = built_in_is tree class kind name
own_is tree class Call name (Some c) = reached_are (field_place tree class) class Call c.members name
own_is tree class Get name (Some c) = reached_are (field_place tree class) class Get c.members name
own_is tree class Set name (Some c) = reached_are (field_place tree class) class Set c.members name

pub parent_is : (class : Text) (o : Option ClassDecl) → parent_in (option_map around o) class ≡ parent_of o class
parent_is class None = refl
parent_is class (Some c) = refl

-- ---- the way up

one_less : (n : ℕ) → 0 < n → suc (n - 1) ≡ n
one_less n lt = omega arith

-- one step up
pub up_one : (takes : Text → Option Takes) (parent : Text → Option Text) (left : ℕ) (at above : Text) (whole : Option Takes) → 0 < left → None ≡ takes at → Some above ≡ parent at → takes_up takes parent left at ≡ whole → takes_up takes parent (left - 1) above ≡ whole
up_one takes parent left at above whole lt none some was =
    ap (option_and_then (takes_up takes parent (left - 1))) some
    ∙ ap (λ o. or_first o (option_and_then (takes_up takes parent (left - 1)) (parent at))) none
    ∙ ap (λ k. takes_up takes parent k at) (one_less left lt) ∙ was

-- a member that is there
pub there : (takes : Text → Option Takes) (parent : Text → Option Text) (left : ℕ) (at : Text) (own : Takes) (whole : Option Takes) → 0 < left → Some own ≡ takes at → takes_up takes parent left at ≡ whole → Some own ≡ whole
there takes parent left at own whole lt is was =
    ap (λ o. or_first o (option_and_then (takes_up takes parent (left - 1)) (parent at))) is
    ∙ ap (λ k. takes_up takes parent k at) (one_less left lt) ∙ was

first_is : (o : Option Taking) (more : List (Option Taking)) → or_first (option_map takes_of o) (option_map takes_of (first_some more)) ≡ option_map takes_of (first_some (o ∷ more))
first_is None more = refl
first_is (Some m) more = refl

ups : (tree : Tree) (kind : SelectorKind) (name : Text) (n : ℕ) (class : Text) → nearest tree kind name n class ≡ option_map takes_of (first_some (map (λ c. own tree c kind name) (chain_from n tree class)))
ups tree kind name zero class = refl
ups tree kind name (suc n) class =
    ap (or_first (own_of tree kind name class))
    (elim (parent tree class) as (λ o. option_and_then (nearest tree kind name n) o ≡ option_map takes_of (first_some (map (λ c. own tree c kind name) (unwrap_or (option_map (chain_from n tree) o) [])))) [
      | None ↦ refl
      | Some above ↦ ups tree kind name n above
    ])
    ∙ first_is (own tree class kind name) (map (λ c. own tree c kind name) (unwrap_or (option_map (chain_from n tree) (parent tree class)) []))

tail_is : {A : Type 0} (x : A) (xs : List A) → drop 1 (x ∷ xs) ≡ xs
tail_is x [] = refl
tail_is x (y ∷ ys) = refl

one_more : (n : ℕ) → suc (6 + n) ≡ 7 + n
one_more n = omega arith

pub above_is : (tree : Tree) (kind : SelectorKind) (name : Text) (most : ℕ) (class : Text) → most ≡ 6 + length (classes tree)
    → option_and_then (nearest tree kind name most) (parent tree class) ≡ option_map takes_of (first_some (map (λ c. own tree c kind name) (chain_above tree class)))
above_is tree kind name most class count =
    let n = 6 + length (classes tree) in
    let all : List Text → Option Takes = λ cs. option_map takes_of (first_some (map (λ c. own tree c kind name) cs)) in
    let rest = unwrap_or (option_map (chain_from n tree) (parent tree class)) [] in
    ap (λ k. option_and_then (nearest tree kind name k) (parent tree class)) count
    ∙ (elim (parent tree class) as (λ o. option_and_then (nearest tree kind name n) o ≡ all (unwrap_or (option_map (chain_from n tree) o) [])) [
      | None ↦ refl
      | Some above ↦ ups tree kind name n above
    ])
    ∙ ap all (sym (tail_is class rest))
    ∙ ap (λ k. all (drop 1 (chain_from k tree class))) (one_more (length (classes tree)))

-- ---- what `super` reaches

pub super_is : (tree : Tree) (kind : SelectorKind) (name : Text) (o : Option ClassDecl) → super_by tree kind name (option_map around o) ≡ option_map takes_of (super_member tree o kind name)
super_is tree kind name None = refl
super_is tree kind name (Some c) = refl

pub count_is : (tree : Tree) (o : Option ClassDecl) → count_by_class tree (option_map around o) ≡ super_count tree o
count_is tree None = refl
count_is tree (Some c) = refl

pub some_taken : (o : Option Taking) → is_some (option_map takes_of o) ≡ is_some o
some_taken None = refl
some_taken (Some m) = refl

pub other_is : (count : ℕ) (o : Option Taking) → is_other (option_map takes_of o) count ≡ is_wrong_super count o
other_is count None = refl
other_is count (Some m) = refl
