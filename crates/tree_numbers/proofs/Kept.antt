-- What is kept of a tree is what the tree has.
use Rattle.std.proofs.Common.{◌≡◌, ℕ, suc, ◌+◌, Bool, true, false, not, ◌||◌, ◌&&◌, cond, if◌then◌else◌, List, [], ◌∷◌, map, length, is_some, option_map, Option, None, Some, refl, sym, ◌∙◌, ap, bytes_eq, nat_lt}
use Rattle.std.specs.Prelude.{filter_map, position}
use Rattle.std.specs.List.{list_any, position_from, cons_option, prefix_len}
use Rattle.std.proofs.lemmas.Iterator.Adapters.{position_from-zero}
use Rattle.dart_syntax.specs.Syntax as t
use Rattle.dart_syntax.specs.Syntax.{Member, Local, ClassDecl, Param, Body, Tree}
use Rattle.dart_syntax.specs.Bytes.{Text}
use Rattle.program.specs.declared.numbered.SelectorKind.{SelectorKind}
use Rattle.program.specs.declared.numbered.SelectorKind.TheVariants.{Call, Get, Set}
use Rattle.dart_meaning.specs.Classes.{if_so, first_some, in_member, with_body, is_member, Taking, taking, class_named, classes}
use Rattle.dart_meaning.specs.Program.{reads, writes}
use Rattle.dart_meaning.specs.Operators.{operator_name}
use Rattle.tree_numbers.specs.Maps.{Names, no_names, with_some, Known, nothing_known, or_first, with_first}
use Rattle.std.specs.Borrow.{Bor}
use Rattle.tree_numbers.specs.Parts.{text_of, texts}
use Rattle.tree_numbers.specs.Places.{also_placed}
use Rattle.tree_numbers.specs.ClassFacts.{named, also_named, owned, also_owned, Facts, facts, also_classes}

or_assoc : {V : Type 0} (a b c : Option V) → or_first (or_first a b) c ≡ or_first a (or_first b c)
or_assoc None b c = refl
or_assoc (Some v) b c = refl

or_none : {V : Type 0} (o : Option V) → o ≡ or_first o None
or_none None = refl
or_none (Some v) = refl

-- ---- places

first_is : (b : Bool) (n : ℕ) (rest : Option ℕ) → or_first (if_so b n) rest ≡ cond b (Some n) rest
first_is true n rest = refl
first_is false n rest = refl

placed_are : (n : ℕ) (names : List Text) (known : Known ℕ) (q : Text) → also_placed n names known q ≡ or_first (known q) (position_from (λ x. bytes_eq x q) n names)
placed_are n [] known q = or_none (known q)
placed_are n (x ∷ xs) known q =
    let rest = position_from (λ y. bytes_eq y q) (n + 1) xs in
    placed_are (n + 1) xs (with_first x n known) q ∙ or_assoc (known q) (if_so (bytes_eq x q) n) rest ∙ ap (or_first (known q)) (first_is (bytes_eq x q) n rest)

-- the place of each name
pub places_are : (names : List Text) (q : Text) → also_placed 0 names nothing_known q ≡ position (λ x. bytes_eq x q) names
places_are names q = placed_are 0 names nothing_known q ∙ sym (position_from-zero (λ x. bytes_eq x q) names)

prefix-map : {A B : Type 0} (p : B → Bool) (f : A → B) (xs : List A) → prefix_len p (map f xs) ≡ prefix_len (λ x. p (f x)) xs
prefix-map p f [] = refl
prefix-map p f (x ∷ xs) = ap (λ n. cond (p (f x)) (1 + n) 0) (prefix-map p f xs)

length-mapped : {A B : Type 0} (f : A → B) (xs : List A) → length (map f xs) ≡ length xs
length-mapped f [] = refl
length-mapped f (x ∷ xs) = ap (λ n. suc n) (length-mapped f xs)

pub position-map : {A B : Type 0} (p : B → Bool) (f : A → B) (xs : List A) → position p (map f xs) ≡ position (λ x. p (f x)) xs
position-map p f xs =
    ap (λ n. cond (nat_lt n (length (map f xs))) (Some n) None) (prefix-map (λ y. not (p y)) f xs)
    ∙ ap (λ n. cond (nat_lt (prefix_len (λ x. not (p (f x))) xs) n) (Some (prefix_len (λ x. not (p (f x))) xs)) None) (length-mapped f xs)

named_step : {A : Type 0} (f : A → Text) (o : Option A) (xs : List A) → cons_option (option_map f o) (map f xs) ≡ map f (cons_option o xs)
named_step f None xs = refl
named_step f (Some a) xs = refl

pub names_are : {A B : Type 0} (f : B → Text) (g : A → Option B) (xs : List A) → filter_map (λ x. option_map f (g x)) xs ≡ map f (filter_map g xs)
names_are f g [] = refl
names_are f g (x ∷ xs) = ap (cons_option (option_map f (g x))) (names_are f g xs) ∙ named_step f (g x) (filter_map g xs)

-- the place of each name among declarations that have it
pub named_places : {A B : Type 0} (f : B → Text) (g : A → Option B) (xs : List A) (q : Text) → also_placed 0 (filter_map (λ x. option_map f (g x)) xs) nothing_known q ≡ position (λ d. bytes_eq (f d) q) (filter_map g xs)
named_places f g xs q =
    places_are (filter_map (λ x. option_map f (g x)) xs) q ∙ ap (position (λ x. bytes_eq x q)) (names_are f g xs) ∙ position-map (λ x. bytes_eq x q) f (filter_map g xs)

-- ---- members

abbrev is_this : Text → Option Text → Bool
is_this q None = false
is_this q (Some n) = bytes_eq n q

or_false : (b : Bool) → b ≡ (b || false)
or_false true = refl
or_false false = refl

turned : (b h r : Bool) → ((b || h) || r) ≡ (h || (b || r))
turned true true r = refl
turned true false r = refl
turned false true r = refl
turned false false r = refl

with_is : (o : Option Text) (known : Names) (q : Text) → with_some o known q ≡ (is_this q o || known q)
with_is None known q = refl
with_is (Some n) known q = refl

any_alike : {A : Type 0} (f g : A → Bool) (xs : List A) → ((x : A) → f x ≡ g x) → list_any f xs ≡ list_any g xs
any_alike f g xs same = ap (λ h. list_any h xs) (λ i x. same x i)

named_is : (ms : List Member) (known : Names) (q : Text) → also_named ms known q ≡ (known q || list_any (λ m. is_this q (named m)) ms)
named_is [] known q = or_false (known q)
named_is (m ∷ ms) known q =
    let rest = list_any (λ m. is_this q (named m)) ms in
    named_is ms (with_some (named m) known) q ∙ ap (λ b. b || rest) (with_is (named m) known q) ∙ turned (is_this q (named m)) (known q) rest

member_is : (q : Text) (m : Member) → is_this q (named m) ≡ is_member q m
member_is q (t.field l) = refl
member_is q (t.method n params b) = refl
member_is q (t.getter n b) = refl
member_is q (t.setter n param b) = refl
member_is q (t.operator op at params b) = refl
member_is q (t.constructor n params passed b) = refl

pub members_are : (q : Text) (ms : List Member) → also_named ms no_names q ≡ list_any (is_member q) ms
members_are q ms = named_is ms no_names q ∙ any_alike (λ m. is_this q (named m)) (is_member q) ms (member_is q)

-- ---- members with a body

owned_is : (kind : SelectorKind) (ms : List Member) (known : Names) (q : Text) → also_owned kind ms known q ≡ (known q || list_any (λ m. is_this q (owned kind m)) ms)
owned_is kind [] known q = or_false (known q)
owned_is kind (m ∷ ms) known q =
    let rest = list_any (λ m. is_this q (owned kind m)) ms in
    owned_is kind ms (with_some (owned kind m) known) q ∙ ap (λ b. b || rest) (with_is (owned kind m) known q) ∙ turned (is_this q (owned kind m)) (known q) rest

coded_is : (class q n : Text) (params : List Param) (b : Option Body) → is_this q (if_so (is_some b) n) ≡ is_some (if bytes_eq n q then with_body class params b else None)
coded_is class q n params None = elim (bytes_eq n q) as (λ same. false ≡ is_some (if same then with_body class params None else None)) [ true ↦ refl | false ↦ refl ]
coded_is class q n params (Some x) = elim (bytes_eq n q) as (λ same. same ≡ is_some (if same then with_body class params (Some x) else None)) [ true ↦ refl | false ↦ refl ]

so_is : (b : Bool) (m : Taking) → b ≡ is_some (if_so b m)
so_is true m = refl
so_is false m = refl

set_is : (g : Bool) (n q : Text) (m : Taking) → is_this q (if_so g n) ≡ is_some (if_so (bytes_eq n q && g) m)
set_is true n q m = elim (bytes_eq n q) as (λ x. x ≡ is_some (if_so (x && true) m)) [ true ↦ refl | false ↦ refl ]
set_is false n q m = elim (bytes_eq n q) as (λ x. false ≡ is_some (if_so (x && false) m)) [ true ↦ refl | false ↦ refl ]

one_is : (place : Text → ℕ) (class : Text) (kind : SelectorKind) (q : Text) (m : Member) → is_this q (owned kind m) ≡ is_some (in_member place class kind q m)
one_is place class Get q (t.field l) = so_is (bytes_eq l.name.text q) (taking 0 0 (reads (place q)))
one_is place class Set q (t.field l) = set_is (not l.is_final) l.name.text q (taking 1 1 (writes (place q)))
one_is place class Call q (t.field l) = refl
one_is place class Get q (t.method n params b) = refl
one_is place class Set q (t.method n params b) = refl
one_is place class Call q (t.method n params b) = coded_is class q n.text params b
one_is place class Get q (t.getter n b) = coded_is class q n.text [] b
one_is place class Set q (t.getter n b) = refl
one_is place class Call q (t.getter n b) = refl
one_is place class Get q (t.setter n param b) = refl
one_is place class Set q (t.setter n param b) = coded_is class q n.text (param ∷ []) b
one_is place class Call q (t.setter n param b) = refl
one_is place class Get q (t.operator op at params b) = refl
one_is place class Set q (t.operator op at params b) = refl
one_is place class Call q (t.operator op at params b) = coded_is class q (operator_name op params) params b
one_is place class Get q (t.constructor n params passed b) = refl
one_is place class Set q (t.constructor n params passed b) = refl
one_is place class Call q (t.constructor n params passed b) = refl

some_first : {A : Type 0} (o : Option A) (more : List (Option A)) → (is_some o || is_some (first_some more)) ≡ is_some (first_some (o ∷ more))
some_first None more = refl
some_first (Some a) more = refl

any_some : (place : Text → ℕ) (class : Text) (kind : SelectorKind) (q : Text) (ms : List Member) → list_any (λ m. is_this q (owned kind m)) ms ≡ is_some (first_some (map (in_member place class kind q) ms))
any_some place class kind q [] = refl
any_some place class kind q (m ∷ ms) =
    ap (λ b. b || list_any (λ m. is_this q (owned kind m)) ms) (one_is place class kind q m)
    ∙ ap (λ b. is_some (in_member place class kind q m) || b) (any_some place class kind q ms)
    ∙ some_first (in_member place class kind q m) (map (in_member place class kind q) ms)

pub owned_are : (place : Text → ℕ) (class : Text) (kind : SelectorKind) (q : Text) (ms : List Member) → also_owned kind ms no_names q ≡ is_some (first_some (map (in_member place class kind q) ms))
owned_are place class kind q ms = owned_is kind ms no_names q ∙ any_some place class kind q ms

-- ---- classes

first_class : (b : Bool) (c : ClassDecl) (more : List (Option ClassDecl)) → or_first (if_so b (facts c)) (option_map facts (first_some more)) ≡ option_map facts (first_some (if_so b c ∷ more))
first_class true c more = refl
first_class false c more = refl

classes_from : (cs : List ClassDecl) (known : Known Facts) (q : Text) → also_classes cs known q ≡ or_first (known q) (option_map facts (first_some (map (λ (c : ClassDecl). if_so (bytes_eq c.name.text q) c) cs)))
classes_from [] known q = or_none (known q)
classes_from (c ∷ cs) known q =
    classes_from cs (with_first c.name.text (facts c) known) q
    ∙ or_assoc (known q) (if_so (bytes_eq c.name.text q) (facts c)) (option_map facts (first_some (map (λ (d : ClassDecl). if_so (bytes_eq d.name.text q) d) cs)))
    ∙ ap (or_first (known q)) (first_class (bytes_eq c.name.text q) c (map (λ (d : ClassDecl). if_so (bytes_eq d.name.text q) d) cs))

pub classes_are : (tree : Tree) (q : Text) → also_classes (classes tree) nothing_known q ≡ option_map facts (class_named tree q)
classes_are tree q = classes_from (classes tree) nothing_known q

pub position_texts : (q : Text) (xs : List (Bor Text)) → position (λ x. bytes_eq q x.now) xs ≡ position (bytes_eq q) (texts xs)
position_texts q xs = sym (position-map (bytes_eq q) text_of xs)
