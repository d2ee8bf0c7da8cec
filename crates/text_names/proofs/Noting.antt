-- Members of some sort, by their names.
use Rattle.std.proofs.Common.{◌≡◌, Bool, true, false, not, ◌||◌, ◌&&◌, List, [], ◌∷◌, is_some, Option, None, Some, refl, sym, ◌∙◌, ap, bytes_eq}
use Rattle.std.specs.Prelude.{filter_map, flat_map}
use Rattle.std.proofs.lemmas.List.Folds.{list_any-append}
use Rattle.std.specs.List.{list_any}
use Rattle.dart_syntax.specs.Syntax as t
use Rattle.dart_syntax.specs.Syntax.{Member, Local, ClassDecl, Tree}
use Rattle.dart_syntax.specs.Bytes.{Text}
use Rattle.dart_meaning.specs.Classes.{if_so, field_of, is_member, classes}
use Rattle.static_rules.specs.Members.{Declared, declared_by, user_members, is_method_of, is_accessor_of}
use Rattle.static_rules.specs.UndefinedName.{has_field}
use Rattle.static_rules.specs.FinalWritten.{is_initialised}
use Rattle.text_names.specs.declared.noted.Sort.{Sort}
use Rattle.text_names.specs.declared.noted.Sort.TheVariants as sort
use Rattle.text_names.specs.Maps.{Names, no_names, with_some}
use Rattle.text_names.specs.Noted.{is_field_of, has_methods, has_accessors, noted, also_noted, also_noted_in}

abbrev is_this : Text → Option Text → Bool
is_this q None = false
is_this q (Some n) = bytes_eq n q

or_false : (b : Bool) → b ≡ (b || false)
or_false true = refl
or_false false = refl

turned : (b h r : Bool) → ((b || h) || r) ≡ (h || (b || r))
turned true true r = refl
turned true false r = refl
turned false true r = refl
turned false false r = refl

with_is : (o : Option Text) (known : Names) (q : Text) → with_some o known q ≡ (is_this q o || known q)
with_is None known q = refl
with_is (Some n) known q = refl

-- what was there, and what is noted
pub also_is : (s : Sort) (ms : List Member) (known : Names) (q : Text) → also_noted s ms known q ≡ (known q || list_any (λ m. is_this q (noted s m)) ms)
also_is s [] known q = or_false (known q)
also_is s (m ∷ ms) known q =
    let rest = list_any (λ m. is_this q (noted s m)) ms in
    also_is s ms (with_some (noted s m) known) q ∙ ap (λ b. b || rest) (with_is (noted s m) known q) ∙ turned (is_this q (noted s m)) (known q) rest

gate : (g : Bool) (n q : Text) → is_this q (if_so g n) ≡ (bytes_eq n q && g)
gate true n q = elim (bytes_eq n q) as (λ x. x ≡ (x && true)) [ true ↦ refl | false ↦ refl ]
gate false n q = elim (bytes_eq n q) as (λ x. false ≡ (x && false)) [ true ↦ refl | false ↦ refl ]

three : (x a b : Bool) → (x && (a && b)) ≡ ((x && a) && b)
three true a b = refl
three false a b = refl

named_is : (q : Text) (m : Member) → is_this q (noted sort.Named m) ≡ is_member q m
named_is q (t.field l) = refl
named_is q (t.method n params b) = refl
named_is q (t.getter n b) = refl
named_is q (t.setter n param b) = refl
named_is q (t.operator op at params b) = refl
named_is q (t.constructor n params passed b) = refl

any_alike : {A : Type 0} (f g : A → Bool) (xs : List A) → ((x : A) → f x ≡ g x) → list_any f xs ≡ list_any g xs
any_alike f g xs same = ap (λ h. list_any h xs) (λ i x. same x i)

pub members_are : (q : Text) (ms : List Member) → also_noted sort.Named ms no_names q ≡ list_any (is_member q) ms
members_are q ms = also_is sort.Named ms no_names q ∙ any_alike (λ m. is_this q (noted sort.Named m)) (is_member q) ms (named_is q)

any_field : (s : Sort) (p : Local → Bool) (q : Text) → ((l : Local) → is_this q (noted s (t.field l)) ≡ p l) → ((n : _) (ps : _) (b : _) → is_this q (noted s (t.method n ps b)) ≡ false)
    → ((n : _) (b : _) → is_this q (noted s (t.getter n b)) ≡ false) → ((n : _) (p : _) (b : _) → is_this q (noted s (t.setter n p b)) ≡ false)
    → (ms : List Member) → list_any (λ m. is_this q (noted s m)) ms ≡ list_any p (filter_map field_of ms)
any_field s p q f m g st [] = refl
any_field s p q f m g st (t.field l ∷ ms) = ap (λ b. b || list_any (λ m. is_this q (noted s m)) ms) (f l) ∙ ap (λ b. p l || b) (any_field s p q f m g st ms)
any_field s p q f m g st (t.method n ps b ∷ ms) = ap (λ b. b || list_any (λ m. is_this q (noted s m)) ms) (m n ps b) ∙ any_field s p q f m g st ms
any_field s p q f m g st (t.getter n b ∷ ms) = ap (λ b. b || list_any (λ m. is_this q (noted s m)) ms) (g n b) ∙ any_field s p q f m g st ms
any_field s p q f m g st (t.setter n x b ∷ ms) = ap (λ b. b || list_any (λ m. is_this q (noted s m)) ms) (st n x b) ∙ any_field s p q f m g st ms
any_field s p q f m g st (t.operator op at ps b ∷ ms) = any_field s p q f m g st ms
any_field s p q f m g st (t.constructor n ps x b ∷ ms) = any_field s p q f m g st ms

pub fields_are : (c : ClassDecl) (q : Text) → also_noted sort.Field c.members no_names q ≡ has_field (Some c) q
fields_are c q =
    also_is sort.Field c.members no_names q
    ∙ any_field sort.Field (λ (f : Local). bytes_eq f.name.text q) q (λ l. refl) (λ n ps b. refl) (λ n b. refl) (λ n p b. refl) c.members

pub initialised_are : (c : ClassDecl) (q : Text) → also_noted sort.Initialised c.members no_names q ≡ is_initialised (Some c) q
initialised_are c q =
    also_is sort.Initialised c.members no_names q
    ∙ any_field sort.Initialised (λ (f : Local). bytes_eq f.name.text q && f.is_final && is_some f.value) q (λ l. gate (l.is_final && is_some l.value) l.name.text q ∙ three (bytes_eq l.name.text q) l.is_final (is_some l.value)) (λ n ps b. refl) (λ n b. refl) (λ n p b. refl) c.members

-- ---- the members of all classes

or_three : (a b c : Bool) → ((a || b) || c) ≡ (a || (b || c))
or_three true b c = refl
or_three false b c = refl

also_in : (s : Sort) (cs : List ClassDecl) (known : Names) (q : Text) → also_noted_in s cs known q ≡ (known q || list_any (λ (c : ClassDecl). list_any (λ m. is_this q (noted s m)) c.members) cs)
also_in s [] known q = or_false (known q)
also_in s (c ∷ cs) known q =
    let rest = list_any (λ (c : ClassDecl). list_any (λ m. is_this q (noted s m)) c.members) cs in
    also_in s cs (also_noted s c.members known) q
    ∙ ap (λ b. b || rest) (also_is s c.members known q)
    ∙ or_three (known q) (list_any (λ m. is_this q (noted s m)) c.members) rest

any_flat : {A B : Type 0} (p : B → Bool) (f : A → List B) (xs : List A) → list_any (λ x. list_any p (f x)) xs ≡ list_any p (flat_map f xs)
any_flat p f [] = refl
any_flat p f (x ∷ xs) = ap (λ b. list_any p (f x) || b) (any_flat p f xs) ∙ sym (list_any-append p (f x) (flat_map f xs))

module _ (s : Sort) (g : Bool → Bool) (q : Text) (f : (l : Local) → is_field_of s l ≡ g false) (m : has_methods s ≡ g true) (a : has_accessors s ≡ g false) where
  abbrev passes : Declared → Bool
  passes d = bytes_eq d.name.text q && g d.is_method

  abbrev is_noted : Member → Bool
  is_noted x = is_this q (noted s x)

  one_is : (b : Bool) (n : Text) (e : Bool) → b ≡ g e → is_this q (if_so b n) ≡ (bytes_eq n q && g e)
  one_is b n e h = gate b n q ∙ ap (λ x. bytes_eq n q && x) h

  any_declared : (ms : List Member) → list_any is_noted ms ≡ list_any passes (filter_map declared_by ms)
  any_declared [] = refl
  any_declared (t.field l ∷ ms) = ap (λ b. b || list_any is_noted ms) (one_is (is_field_of s l) l.name.text false (f l)) ∙ ap (λ b. (bytes_eq l.name.text q && g false) || b) (any_declared ms)
  any_declared (t.method n ps b ∷ ms) = ap (λ b. b || list_any is_noted ms) (one_is (has_methods s) n.text true m) ∙ ap (λ b. (bytes_eq n.text q && g true) || b) (any_declared ms)
  any_declared (t.getter n b ∷ ms) = ap (λ b. b || list_any is_noted ms) (one_is (has_accessors s) n.text false a) ∙ ap (λ b. (bytes_eq n.text q && g false) || b) (any_declared ms)
  any_declared (t.setter n x b ∷ ms) = ap (λ b. b || list_any is_noted ms) (one_is (has_accessors s) n.text false a) ∙ ap (λ b. (bytes_eq n.text q && g false) || b) (any_declared ms)
  any_declared (t.operator op at ps b ∷ ms) = any_declared ms
  any_declared (t.constructor n ps x b ∷ ms) = any_declared ms

  in_all : (tree : Tree) → also_noted_in s (classes tree) no_names q ≡ list_any passes (user_members tree)
  in_all tree =
      also_in s (classes tree) no_names q
      ∙ any_alike (λ (c : ClassDecl). list_any is_noted c.members) (λ (c : ClassDecl). list_any passes (filter_map declared_by c.members)) (classes tree) (λ c. any_declared c.members)
      ∙ any_flat passes (λ (c : ClassDecl). filter_map declared_by c.members) (classes tree)

pub methods_are : (tree : Tree) (q : Text) → also_noted_in sort.Method (classes tree) no_names q ≡ is_method_of (user_members tree) q
methods_are tree q = in_all sort.Method (λ b. b) q (λ l. refl) refl refl tree

pub accessors_are : (tree : Tree) (q : Text) → also_noted_in sort.Accessor (classes tree) no_names q ≡ is_accessor_of (user_members tree) q
accessors_are tree q = in_all sort.Accessor not q (λ l. refl) refl refl tree
