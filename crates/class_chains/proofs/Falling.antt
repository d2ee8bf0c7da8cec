-- Where ranks never rise on the way up, a class with lesser ones above it is not above itself.
use Rattle.std.proofs.Common.{◌≡◌, ℕ, zero, suc, ◌≤◌, ◌<◌, Bool, true, false, not, ◌||◌, ◌&&◌, nat_eq, nat_le, nat_lt, if◌then◌else◌, List, [], ◌∷◌, ◌++◌, Option, None, Some, option_map, unwrap_or, refl, sym, subst, ◌∙◌, ap, map, bytes_eq, arith}
use Rattle.std.proofs.lemmas.Bool.Decides.{nat_tests}
use Rattle.std.proofs.lemmas.Slice.Eq.{bytes_eq-Decides}
use Rattle.std.specs.Option.{option_to_list}
use Rattle.std.specs.List.{list_any, list_all}
use Rattle.dart_syntax.specs.declared.tree.Name.{Name}
use Rattle.dart_syntax.specs.Bytes.{Text}
use Rattle.dart_syntax.specs.Syntax.{ClassDecl, Tree}
use Rattle.dart_meaning.specs.Classes.{classes, object, parent_of, if_so, first_some, class_named, is_subtype_from, class_count}
use Rattle.class_chains.specs.Ranking.{Rank, AreTold, keeps, interfaces_in, name_texts, above_of, reaches, is_above_itself_by, cycle_at, tells, is_earlier}
use Rattle.declaration_rules.specs.Finding.{Find, named_of}
use Rattle.declaration_rules.specs.Seen.{class_of}
use Rattle.std.specs.Borrow.{Bor}
use Rattle.dart_syntax.specs.declared.tree.ClassDecl as src
use Rattle.dart_syntax.specs.declared.token.Span.{Span}
use Rattle.static_rules.specs.Places.{Fault, at_if, first_in, ◌or_else◌}
use Rattle.static_rules.specs.Supers.{supers, cycle_in_super}

both : (a b : Bool) → (a && b) ≡ true → (a ≡ true) × (b ≡ true)
both true b e = (refl, e)
both false b e = absurd cc

joined : (a b : Bool) → a ≡ true → b ≡ true → (a && b) ≡ true
joined true b h k = k
joined false b h k = absurd cc

pub all_append : {A : Type 0} (p : A → Bool) (xs ys : List A) → list_all p (xs ++ ys) ≡ (list_all p xs && list_all p ys)
all_append p [] ys = refl
all_append p (x ∷ xs) ys = again (p x) (list_all p xs) (list_all p ys) _ (all_append p xs ys)
  where
    again : (a b c d : Bool) → d ≡ (b && c) → (a && d) ≡ ((a && b) && c)
    again true b c d h = h
    again false b c d h = refl

all_map : {A B : Type 0} (p : B → Bool) (f : A → B) (xs : List A) → list_all p (map f xs) ≡ list_all (λ x. p (f x)) xs
all_map p f [] = refl
all_map p f (x ∷ xs) = ap (λ b. p (f x) && b) (all_map p f xs)

at_most : (m k : ℕ) → nat_le m k ≡ true → m ≤ k
at_most m k h = grind (arith, nat_tests)

below : (m k : ℕ) → nat_lt m k ≡ true → m < k
below m k h = grind (arith, nat_tests)

least : (m k : ℕ) → m ≡ 0 → nat_le m k ≡ true
least m k h = grind (arith, nat_tests)

-- one of these passes, and none of them has a greater rank: so what is no greater than each that passes is no greater
under_one : (rank : Rank) (p : Text → Bool) (m k : ℕ) (xs : List Text) → ((x : Text) → p x ≡ true → m ≤ rank x) → list_all (λ x. nat_le (rank x) k) xs ≡ true → list_any p xs ≡ true → m ≤ k
under_one rank p m k [] f all h = absurd cc
under_one rank p m k (x ∷ xs) f all h =
    let parts = both (nat_le (rank x) k) (list_all (λ y. nat_le (rank y) k) xs) all in
    elim (p x) as (λ b. p x ≡ b → (b || list_any p xs) ≡ true → m ≤ k) [
      | true ↦ λ e _. (let here = f x e in let le = at_most (rank x) k parts.0 in omega arith)
      | false ↦ λ e more. under_one rank p m k xs f parts.1 more
    ] refl h

-- the class of a name is one of the classes
named_in : (p : ClassDecl → Bool) (q : Text) (cs : List ClassDecl) (c : ClassDecl) → list_all p cs ≡ true → first_some (map (λ (d : ClassDecl). if_so (bytes_eq d.name.text q) d) cs) ≡ Some c → (p c ≡ true) × (c.name.text ≡ q)
named_in p q [] c all h = absurd cc
named_in p q (d ∷ cs) c all h =
    let parts = both (p d) (list_all p cs) all in
    elim (bytes_eq d.name.text q) as (λ b. bytes_eq d.name.text q ≡ b → first_some (if_so b d ∷ map (λ (d : ClassDecl). if_so (bytes_eq d.name.text q) d) cs) ≡ Some c → (p c ≡ true) × (c.name.text ≡ q)) [
      | true ↦ λ e is. (let same : d ≡ c = cc in subst (λ x. (p x ≡ true) × (x.name.text ≡ q)) same (parts.0, (bytes_eq-Decides d.name.text q).0 e))
      | false ↦ λ e is. named_in p q cs c parts.1 is
    ] refl h

module _ (cs : List ClassDecl) (rank : Rank) (all : list_all (keeps rank) cs ≡ true) (none : rank object ≡ 0) where
  -- none of the classes directly above has a greater rank
  above_keeps : (a : Text) (o : Option ClassDecl) → named_of cs a ≡ o → list_all (λ x. nat_le (rank x) (rank a)) (option_to_list (parent_of o a) ++ interfaces_in o) ≡ true
  above_keeps a None is = elim (bytes_eq a object) as (λ b. list_all (λ x. nat_le (rank x) (rank a)) (option_to_list (if_so (not b) object) ++ []) ≡ true) [
    | true ↦ refl
    | false ↦ joined (nat_le (rank object) (rank a)) true (least (rank object) (rank a) none) refl
  ]
  above_keeps a (Some c) is =
      let facts = named_in (keeps rank) a cs c all is in
      let split : (list_all (λ (n : Name). nat_le (rank n.text) (rank c.name.text)) (option_to_list c.parent) && list_all (λ (n : Name). nat_le (rank n.text) (rank c.name.text)) c.interfaces) ≡ true =
      sym (all_append (λ (n : Name). nat_le (rank n.text) (rank c.name.text)) (option_to_list c.parent) c.interfaces) ∙ facts.0 in
      let parts = both (list_all (λ (n : Name). nat_le (rank n.text) (rank c.name.text)) (option_to_list c.parent)) _ split in
      let others : list_all (λ x. nat_le (rank x) (rank c.name.text)) (name_texts c.interfaces) ≡ true =
      all_map (λ x. nat_le (rank x) (rank c.name.text)) (λ (n : Name). n.text) c.interfaces ∙ parts.1 in
      let parent : nat_le (rank (unwrap_or (option_map (λ (n : Name). n.text) c.parent) object)) (rank c.name.text) ≡ true = of_parent c.parent (rank c.name.text) parts.0 in
      subst (λ q. list_all (λ x. nat_le (rank x) (rank q)) (unwrap_or (option_map (λ (n : Name). n.text) c.parent) object ∷ name_texts c.interfaces) ≡ true) facts.1
      (joined (nat_le (rank (unwrap_or (option_map (λ (n : Name). n.text) c.parent) object)) (rank c.name.text)) _ parent others)
    where
      of_parent : (o : Option Name) (k : ℕ) → list_all (λ (n : Name). nat_le (rank n.text) k) (option_to_list o) ≡ true → nat_le (rank (unwrap_or (option_map (λ (n : Name). n.text) o) object)) k ≡ true
      of_parent None k h = least (rank object) k none
      of_parent (Some n) k h = (both (nat_le (rank n.text) k) true h).0

  -- what a class leads up to has no greater rank
  up_to : (n : ℕ) (a b : Text) → reaches n (named_of cs) a b ≡ true → rank b ≤ rank a
  up_to zero a b h = absurd cc
  up_to (suc n) a b h =
      elim (bytes_eq a b) as (λ s. bytes_eq a b ≡ s → (s || list_any (λ c. reaches n (named_of cs) c b) (above_of (named_of cs) a)) ≡ true → rank b ≤ rank a) [
        | true ↦ λ e _. (let same : rank a ≡ rank b = ap rank ((bytes_eq-Decides a b).0 e) in omega arith)
        | false ↦ λ e more. under_one rank (λ c. reaches n (named_of cs) c b) (rank b) (rank a) (above_of (named_of cs) a) (λ x h. up_to n x b h) (above_keeps a (named_of cs a) refl) more
      ] refl h

  not_one : (most : ℕ) (c : Text) (xs : List Name) → list_all (λ (n : Name). nat_lt (rank n.text) (rank c)) xs ≡ true → list_any (λ (n : Name). reaches most (named_of cs) n.text c) xs ≡ false
  not_one most c [] h = refl
  not_one most c (n ∷ xs) h =
      let parts = both (nat_lt (rank n.text) (rank c)) (list_all (λ (m : Name). nat_lt (rank m.text) (rank c)) xs) h in
      let lt = below (rank n.text) (rank c) parts.0 in
      elim (reaches most (named_of cs) n.text c) as (λ b. reaches most (named_of cs) n.text c ≡ b → (b || list_any (λ (m : Name). reaches most (named_of cs) m.text c) xs) ≡ false) [
        | true ↦ λ e. (let le = up_to most n.text c e in absurd (omega arith))
        | false ↦ λ e. not_one most c xs parts.1
      ] refl

  pub are_told : (most : ℕ) → AreTold most rank (named_of cs)
  are_told most c h = not_one most c.name.text (supers c) h

is_zero : (n : ℕ) → nat_eq n 0 ≡ true → n ≡ 0
is_zero n h = grind (arith, nat_tests)

-- what the test of the ranks tells
pub told_by : (refs : List (Bor src.ClassDecl)) (rank : Rank) (find : Find) (most : ℕ) (answer : Bool) → ((q : _) → find q ≡ named_of (map class_of refs) q) → answer ≡ tells rank refs → answer ≡ true → AreTold most rank find
told_by refs rank find most answer same is h =
    let parts = both (nat_eq (rank object) 0) (list_all (λ c. keeps rank (class_of c)) refs) (sym is ∙ h) in
    let all : list_all (keeps rank) (map class_of refs) ≡ true = all_map (keeps rank) class_of refs ∙ parts.1 in
    let find_is : named_of (map class_of refs) ≡ find = (λ i q. sym (same q) i) in
    subst (AreTold most rank) find_is (are_told (map class_of refs) rank all (is_zero (rank object) parts.0) most)

-- the definition's steps are those by the map
any_same : {A : Type 0} (p q : A → Bool) (xs : List A) → ((x : A) → p x ≡ q x) → list_any p xs ≡ list_any q xs
any_same p q xs same = ap (λ f. list_any f xs) (λ i x. same x i)

subtype_is : (tree : Tree) (n : ℕ) (a b : Text) → reaches n (class_named tree) a b ≡ is_subtype_from n tree a b
subtype_is tree zero a b = refl
subtype_is tree (suc n) a b = ap (λ r. bytes_eq a b || r) (any_same (λ c. reaches n (class_named tree) c b) (λ c. is_subtype_from n tree c b) (above_of (class_named tree) a) (λ c. subtype_is tree n c b))

-- the rule, by a map from names
pub cycle_in_super_is : (tree : Tree) (find : Find) (most : ℕ) (cs : List ClassDecl) → cs ≡ classes tree → ((q : _) → find q ≡ named_of cs q) → most ≡ class_count tree
    → first_in (cycle_at most find) cs ≡ cycle_in_super tree
unfolding cycle_in_super
cycle_in_super_is tree find most cs all same count =
    let find_is : find ≡ named_of cs = (λ i q. same q i) in
    ap (λ f. first_in (λ (c : ClassDecl). at_if (is_above_itself_by most f c) c.name.span) cs) find_is
    ∙ ap (λ ds. first_in (λ (c : ClassDecl). at_if (is_above_itself_by most (named_of ds) c) c.name.span) ds) all
    ∙ ap (λ k. first_in (λ (c : ClassDecl). at_if (is_above_itself_by k (class_named tree) c) c.name.span) (classes tree)) count
    ∙ ap (λ (f : ClassDecl → Bool). first_in (λ (c : ClassDecl). at_if (f c) c.name.span) (classes tree))
    (λ i c. any_same (λ (n : Name). reaches (class_count tree) (class_named tree) n.text c.name.text) (λ (n : Name). is_subtype_from (class_count tree) tree n.text c.name.text) (supers c) (λ n. subtype_is tree (class_count tree) n.text c.name.text) i)

-- a place that is not before the first one so far changes nothing
pub not_earlier : (at : Fault) (wrong : Bool) (place : Span) → is_earlier place at ≡ false → at ≡ (at or_else at_if wrong place)
not_earlier None wrong place h = absurd cc
not_earlier (Some a) true place h = sym (ap (λ b. Some (if b then place else a)) h)
not_earlier (Some a) false place h = refl
