-- What `super` finds as a getter takes no argument, and as a setter one.
use Rattle.std.proofs.Common.{◌≡◌, ℕ, suc, zero, ◌+◌, Bool, true, false, not, cond, ◌&&◌, ◌||◌, List, [], ◌∷◌, map, refl, ap, sym, ◌∙◌, subst, arith, nat_le, nat_eq, slice_get, position}
use Rattle.std.proofs.lemmas.Bool.Decides.{nat_tests}
use Rattle.std.specs.Prelude.{Option, Some, None, unwrap_or, count_by, if◌then◌else◌}
use Rattle.std.specs.Option.{option_map, option_and_then}
use Rattle.std.specs.List.{list_all, position_from}
use Rattle.std.specs.Str.{bytes_eq}
use Rattle.dart_syntax.specs.Syntax as t
use Rattle.dart_syntax.specs.Syntax.{Tree, Param, Member, ClassDecl}
use Rattle.program.specs.declared.numbered.Method.{Method}
use Rattle.program.specs.declared.numbered.SelectorKind.{SelectorKind}
use Rattle.program.specs.declared.numbered.SelectorKind.TheVariants.{Get, Set}
use Rattle.program.specs.BuiltIn.{built_in_members}
use Rattle.program.specs.Lookup.{same_kind, declared, is_declared_by}
use Rattle.dart_values.specs.Values.{Text}
use Rattle.dart_meaning.specs.Program.{coded, reads, writes}
use Rattle.dart_meaning.specs.Classes.{Taking, agrees, body_of, field_place, built_in_names, built_in_taking, chain_above, class_named, first_some, if_so, in_class, in_member, own, taking, with_body}
use Rattle.dart_meaning.specs.Means.{super_member}

first_step : (P : Taking → Type 0) (o : Option Taking) (rest : List (Option Taking)) (m : Taking) → (o ≡ Some m → P m) → (first_some rest ≡ Some m → P m) → first_some (o ∷ rest) ≡ Some m → P m
first_step P None rest m h k e = k e
first_step P (Some x) rest m h k e = h e

first_from : {A : Type 0} (P : Taking → Type 0) (f : A → Option Taking) (xs : List A) (m : Taking) → ((x : A) → f x ≡ Some m → P m) → first_some (map f xs) ≡ Some m → P m
first_from P f [] m h e = absurd cc
first_from P f (x ∷ more) m h e = first_step P (f x) (map f more) m (h x) (first_from P f more m h) e

-- it takes so many
abbrev Takes : ℕ → Taking → Type 0
Takes k m = agrees k m ≡ true

-- ---- members of the text

kept_is : (k : ℕ) (b : Bool) (x m : Taking) → Takes k x → if_so b x ≡ Some m → Takes k m
kept_is k true x m h e = let same : x ≡ m = cc in subst (Takes k) same h
kept_is k false x m h e = absurd cc

body_is : (k : ℕ) (b : Bool) (class : Text) (params : List Param) (body : Option t.Body) (m : Taking) → ((x : t.Body) → (y : Taking) → with_body class params (Some x) ≡ Some y → Takes k y) → (if b then with_body class params body else None) ≡ Some m → Takes k m
body_is k true class params (Some x) m h e = h x m e
body_is k true class params None m h e = absurd cc
body_is k false class params body m h e = absurd cc

one_param : (class : Text) (param : Param) (x : t.Body) (m : Taking) → with_body class (param ∷ []) (Some x) ≡ Some m → Takes 1 m
one_param class param x m e =
    let same : taking (count_by (λ (p : Param). not p.optional) (param ∷ [])) 1 (coded (body_of (Some class) (param ∷ []) x)) ≡ m = cc in
    subst (Takes 1) same (one param.optional) where
      one : (b : Bool) → (nat_le (count_by (λ (p : Param). not p.optional) (record param { optional = b } ∷ [])) 1 && nat_le 1 1) ≡ true
      one true = refl
      one false = refl

no_param : (class : Text) (x : t.Body) (m : Taking) → with_body class [] (Some x) ≡ Some m → Takes 0 m
no_param class x m e =
    let same : taking 0 0 (coded (body_of (Some class) [] x)) ≡ m = cc in subst (Takes 0) same refl

member_gets : (place : Text → ℕ) (class name : Text) (m : Taking) (x : Member) → in_member place class Get name x ≡ Some m → Takes 0 m
member_gets place class name m (t.field f) e = kept_is 0 (bytes_eq f.name.text name) (taking 0 0 (reads (place name))) m refl e
member_gets place class name m (t.getter n body) e = body_is 0 (bytes_eq n.text name) class [] body m (λ x y. no_param class x y) e
member_gets place class name m (t.method n params body) e = absurd cc
member_gets place class name m (t.setter n param body) e = absurd cc
member_gets place class name m (t.operator op at params body) e = absurd cc
member_gets place class name m (t.constructor n params passed body) e = absurd cc

member_sets : (place : Text → ℕ) (class name : Text) (m : Taking) (x : Member) → in_member place class Set name x ≡ Some m → Takes 1 m
member_sets place class name m (t.field f) e = kept_is 1 (bytes_eq f.name.text name && not f.is_final) (taking 1 1 (writes (place name))) m refl e
member_sets place class name m (t.setter n param body) e = body_is 1 (bytes_eq n.text name) class (param ∷ []) body m (λ x y. one_param class param x y) e
member_sets place class name m (t.method n params body) e = absurd cc
member_sets place class name m (t.getter n body) e = absurd cc
member_sets place class name m (t.operator op at params body) e = absurd cc
member_sets place class name m (t.constructor n params passed body) e = absurd cc

-- ---- built-in members

abbrev PlaceIs : {A : Type 0} → (A → Bool) → ℕ → List A → ℕ → Type 0
PlaceIs {A} q n xs i = (j : ℕ) × (i ≡ n + j) × (x : A) × (slice_get xs j ≡ Some x) × (q x ≡ true)

place_step : {A : Type 0} (q : A → Bool) (n : ℕ) (x : A) (xs : List A) (b : Bool) (o : Option ℕ) (i : ℕ) → q x ≡ b → ((k : ℕ) → o ≡ Some k → PlaceIs q (n + 1) xs k) → cond b (Some n) o ≡ Some i → PlaceIs q n (x ∷ xs) i
place_step q n x xs true o i e h is = let same : n ≡ i = cc in (0, omega (arith, same), x, refl, e)
place_step q n x xs false o i e h is = later (h i is) where
  later : PlaceIs q (n + 1) xs i → PlaceIs q n (x ∷ xs) i
  later (j, at, y, found, test) = (suc j, omega (arith, at), y, found, test)

place_is : {A : Type 0} (q : A → Bool) (n : ℕ) (xs : List A) (i : ℕ) → position_from q n xs ≡ Some i → PlaceIs q n xs i
place_is q n [] i e = absurd cc
place_is q n (x ∷ xs) i e = place_step q n x xs (q x) (position_from q (n + 1) xs) i refl (place_is q (n + 1) xs) e

and_true : (a b : Bool) → (a && b) ≡ true → (a ≡ true) × (b ≡ true)
and_true true b h = (refl, h)
and_true false b h = absurd cc

tested : {A : Type 0} (q : A → Bool) (xs : List A) → list_all q xs ≡ true → (i : ℕ) (x : A) → slice_get xs i ≡ Some x → q x ≡ true
tested q [] h i x e = absurd cc
tested q (y ∷ more) h zero x e = let same : y ≡ x = cc in subst (λ z. q z ≡ true) same (and_true (q y) (list_all q more) h).0
tested q (y ∷ more) h (suc i) x e = tested q more (and_true (q y) (list_all q more) h).1 i x e

-- each built-in member of this kind has so many parameters
abbrev has_count : SelectorKind → ℕ → Method → Bool
has_count kind k m = not (same_kind m.role kind) || nat_eq m.required k

known_count : (a : Bool) (n k : ℕ) → a ≡ true → (not a || nat_eq n k) ≡ true → nat_eq n k ≡ true
known_count true n k e h = h
known_count false n k e h = absurd cc

same_agrees : (n k : ℕ) → nat_eq n k ≡ true → (nat_le n k && nat_le k n) ≡ true
same_agrees n k h = grind (arith, nat_tests, h)

built_in_is : (kind : SelectorKind) (k c : ℕ) (name : Text) (m : Taking) → list_all (has_count kind k) built_in_members ≡ true → (o : Option ℕ) → declared built_in_members c kind name ≡ o → option_map built_in_taking o ≡ Some m → Takes k m
built_in_is kind k c name m all None at e = absurd cc
built_in_is kind k c name m all (Some i) at e = found (place_is (is_declared_by c kind name) 0 built_in_members i at) where
  found : PlaceIs (is_declared_by c kind name) 0 built_in_members i → Takes k m
  found (j, is, x, there, test) =
      let i_is : i ≡ j = omega (arith, is) in
      let kind_is : same_kind x.role kind ≡ true = (and_true (same_kind x.role kind) (bytes_eq x.name name) (and_true (nat_eq x.owner.0 c) (same_kind x.role kind && bytes_eq x.name name) test).1).0 in
      let count_is : nat_eq x.required k ≡ true = known_count (same_kind x.role kind) x.required k kind_is (tested (has_count kind k) built_in_members all j x there) in
      let same : built_in_taking i ≡ m = cc in
      let at_i : slice_get built_in_members i ≡ Some x = ap (slice_get built_in_members) i_is ∙ there in
      subst (Takes k) same (subst (λ o. (nat_le (unwrap_or (option_map (λ (y : Method). y.required) o) 0) k && nat_le k (unwrap_or (option_map (λ (y : Method). y.required) o) 0)) ≡ true) (sym at_i) (same_agrees x.required k count_is))

-- ---- the classes above

in_built_in : (kind : SelectorKind) (k : ℕ) (name : Text) (m : Taking) → list_all (has_count kind k) built_in_members ≡ true → (o : Option ℕ)
    → option_and_then (λ c. option_map built_in_taking (declared built_in_members c kind name)) o ≡ Some m → Takes k m
in_built_in kind k name m all None e = absurd cc
in_built_in kind k name m all (Some c) e = built_in_is kind k c name m all (declared built_in_members c kind name) refl e

in_class_is : (kind : SelectorKind) (k : ℕ) (tree : Tree) (o : Option ClassDecl) (class name : Text) (m : Taking) → list_all (has_count kind k) built_in_members ≡ true
    → ((place : Text → ℕ) (x : Member) → in_member place class kind name x ≡ Some m → Takes k m) → in_class tree o class kind name ≡ Some m → Takes k m
in_class_is kind k tree (Some c) class name m all h e = first_from (Takes k) (in_member (field_place tree class) class kind name) c.members m (h (field_place tree class)) e
in_class_is kind k tree None class name m all h e = in_built_in kind k name m all (position (bytes_eq class) built_in_names) e

above_is : (kind : SelectorKind) (k : ℕ) (tree : Tree) (o : Option ClassDecl) (name : Text) (m : Taking) → list_all (has_count kind k) built_in_members ≡ true
    → ((place : Text → ℕ) (class : Text) (x : Member) → in_member place class kind name x ≡ Some m → Takes k m) → super_member tree o kind name ≡ Some m → Takes k m
above_is kind k tree None name m all h e = absurd cc
above_is kind k tree (Some c) name m all h e =
    first_from (Takes k) (λ class. own tree class kind name) (chain_above tree c.name.text) m (λ class is. in_class_is kind k tree (class_named tree class) class name m all (λ place x. h place class x) is) e

pub getter_takes : (tree : Tree) (o : Option ClassDecl) (name : Text) (m : Taking) → super_member tree o Get name ≡ Some m → agrees 0 m ≡ true
getter_takes tree o name m e = above_is Get 0 tree o name m refl (λ place class x. member_gets place class name m x) e

pub setter_takes : (tree : Tree) (o : Option ClassDecl) (name : Text) (m : Taking) → super_member tree o Set name ≡ Some m → agrees 1 m ≡ true
setter_takes tree o name m e = above_is Set 1 tree o name m refl (λ place class x. member_sets place class name m x) e
