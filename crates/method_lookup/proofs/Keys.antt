-- What `==` of member keys computes, and members by keys are members by names.
use Rattle.std.proofs.Common.{◌≡◌, ℕ, Bool, true, false, ◌&&◌, cond, nat_eq, List, [], ◌∷◌, ◌+◌, slice_get, Option, None, Some, inl, inr, refl, sym, ◌∙◌, ap, arith}
use Rattle.std.proofs.lemmas.Bool.Decides.{nat_tests}
use Rattle.std.proofs.lemmas.Bool.{cases_eq}
use Rattle.std.specs.HashMap.{HashMap, get_by}
use Rattle.std.specs.List.{position_from}
use Rattle.program.proofs.Each.{and_both}
use Rattle.std.specs.Str.{bytes_eq}
use Rattle.program.specs.declared.numbered.Method.{Method}
use Rattle.program.specs.declared.numbered.SelectorKind.{SelectorKind}
use Rattle.program.specs.declared.numbered.SelectorKind.TheVariants.{Call, Get, Set}
use Rattle.program.specs.Lookup.{same_kind, is_declared_by, declared, first_declared, or_above}
use Rattle.program.proofs.BuiltInSound.{bytes_same, same_bytes}
use Rattle.program.proofs.Entries.{found_at}
use Rattle.method_lookup.specs.declared.index.MemberKey.{MemberKey}
use Rattle.method_lookup.specs.contracts.index.MemberKeyPartialEq.TheImpl as the
use Rattle.method_lookup.specs.Index.{has_name, name_number, is_number, is_keyed, keyed, keyed_if, first_keyed, is_key, member_in}

by_role : (a b : SelectorKind) (c d n k : ℕ) → the.eq-value.it (record { owner = c; role = a; name = n }) (record { owner = d; role = b; name = k }) ≡ is_key c a n (record { owner = d; role = b; name = k })
by_role Call Call c d n k = refl
by_role Call Get c d n k = refl
by_role Call Set c d n k = refl
by_role Get Call c d n k = refl
by_role Get Get c d n k = refl
by_role Get Set c d n k = refl
by_role Set Call c d n k = refl
by_role Set Get c d n k = refl
by_role Set Set c d n k = refl

pub derived_is : (k x : MemberKey) → the.eq-value.it k x ≡ is_key k.owner k.role k.name x
derived_is k x = by_role k.role x.role k.owner x.owner k.name x.name

-- Names have one number where they are the same.

number_has : (methods : List Method) (name : List ℕ) (n : ℕ) → name_number methods name ≡ Some n → (m : Method) × (slice_get methods n ≡ Some m) × (m.name ≡ name)
unfolding name_number
number_has methods name n e = let f = found_at (has_name name) methods n e in (f.0, f.2, bytes_same f.0.name name f.3)

same_number : (methods : List Method) (a b : List ℕ) (n : ℕ) → name_number methods a ≡ Some n → name_number methods b ≡ Some n → a ≡ b
same_number methods a b n e f =
    let x = number_has methods a n e in
    let y = number_has methods b n f in
    let same : x.0 ≡ y.0 = (let p = x.1 in let q = y.1 in cc) in
    sym x.2 ∙ ap (λ (m : Method). m.name) same ∙ y.2

nat_hit : (n k : ℕ) → n ≡ k → nat_eq n k ≡ true
nat_hit n k e = grind (arith, nat_tests)

nat_miss : (n k : ℕ) → (n ≡ k → ⊥) → nat_eq n k ≡ false
nat_miss n k e = grind (arith, nat_tests)

bytes_miss : (a b : List ℕ) → (a ≡ b → ⊥) → bytes_eq a b ≡ false
bytes_miss a b ne = (elim (bytes_eq a b) as (λ t. bytes_eq a b ≡ t → t ≡ false) [ true ↦ λ e. absurd (ne (bytes_same a b e)) | false ↦ λ e. refl ]) refl

number_is : (methods : List Method) (a b : List ℕ) (n : ℕ) (o : Option ℕ) → name_number methods a ≡ o → name_number methods b ≡ Some n → is_number n o ≡ bytes_eq a b
number_is methods a b n None e f = sym (bytes_miss a b (λ same. let moved = ap (name_number methods) same in absurd (cc)))
number_is methods a b n (Some k) e f = elim (cases_eq n k) [
  | inl is ↦ nat_hit n k is ∙ sym (same_bytes a b (same_number methods a b n (e ∙ ap Some (sym is)) f))
  | inr ne ↦ nat_miss n k ne ∙ sym (bytes_miss a b (λ same. ne (let moved = ap (name_number methods) same in cc)))
]

nat_swap : (a b : ℕ) → nat_eq a b ≡ nat_eq b a
nat_swap a b = grind (arith, nat_tests)

kind_swap : (a b : SelectorKind) → same_kind a b ≡ same_kind b a
kind_swap Call Call = refl
kind_swap Call Get = refl
kind_swap Call Set = refl
kind_swap Get Call = refl
kind_swap Get Get = refl
kind_swap Get Set = refl
kind_swap Set Call = refl
kind_swap Set Get = refl
kind_swap Set Set = refl

keyed_test : (methods : List Method) (c n : ℕ) (kind : SelectorKind) (name : List ℕ) → name_number methods name ≡ Some n → (m : Method) → is_keyed methods c kind n m ≡ is_declared_by c kind name m
keyed_test methods c n kind name e m =
    ap (λ b. b && (same_kind kind m.role && is_number n (name_number methods m.name))) (nat_swap c m.owner.0)
    ∙ ap (λ b. nat_eq m.owner.0 c && (b && is_number n (name_number methods m.name))) (kind_swap kind m.role)
    ∙ ap (λ b. nat_eq m.owner.0 c && (same_kind m.role kind && b)) (number_is methods m.name name n (name_number methods m.name) refl e)

-- where no item passes a test, none passes a narrower one
none_narrower : {A : Type 0} (q t : A → Bool) → ((x : A) → t x ≡ true → q x ≡ true) → (n : ℕ) (xs : List A) → position_from q n xs ≡ None → position_from t n xs ≡ None
none_narrower q t narrower n [] e = refl
none_narrower q t narrower n (x ∷ xs) e =
    (elim (q x) as (λ b. q x ≡ b → cond b (Some n) (position_from q (n + 1) xs) ≡ None → cond (t x) (Some n) (position_from t (n + 1) xs) ≡ None) [
      | true ↦ λ is some. absurd (cc)
      | false ↦ λ is some.
          let miss : t x ≡ false = (elim (t x) as (λ b. t x ≡ b → b ≡ false) [ true ↦ λ h. let hit = narrower x h in absurd (cc) | false ↦ λ h. refl ]) refl in
          ap (λ b. cond b (Some n) (position_from t (n + 1) xs)) miss ∙ none_narrower q t narrower (n + 1) xs some
    ]) refl e

last_of_three : (a b c : Bool) → (a && (b && c)) ≡ true → c ≡ true
last_of_three true true c h = h
last_of_three true false c h = absurd (cc)
last_of_three false b c h = absurd (cc)

-- A member by its key is the member of the class, kind and name.
pub keyed_is : (methods : List Method) (c : ℕ) (kind : SelectorKind) (name : List ℕ) → keyed_if methods kind (name_number methods name) c ≡ declared methods c kind name
unfolding keyed name_number
keyed_is methods c kind name =
    (elim (name_number methods name) as (λ o. name_number methods name ≡ o → keyed_if methods kind o c ≡ declared methods c kind name) [
      | None ↦ λ e. sym (none_narrower (has_name name) (is_declared_by c kind name) (λ m h. last_of_three (nat_eq m.owner.0 c) (same_kind m.role kind) (bytes_eq m.name name) h) 0 methods e)
      | Some n ↦ λ e. ap (λ t. position_from t 0 methods) (λ i m. keyed_test methods c n kind name e m i)
    ]) refl

pub first_keyed_is : (methods : List Method) (kind : SelectorKind) (name : List ℕ) (cs : List ℕ) → first_keyed methods kind (name_number methods name) cs ≡ first_declared methods kind name cs
first_keyed_is methods kind name [] = refl
first_keyed_is methods kind name (c ∷ cs) =
    ap (λ o. or_above o (first_keyed methods kind (name_number methods name) cs)) (keyed_is methods c kind name)
    ∙ ap (or_above (declared methods c kind name)) (first_keyed_is methods kind name cs)

-- A name without a number is no member's.
pub first_keyed_none : (methods : List Method) (kind : SelectorKind) (cs : List ℕ) → first_keyed methods kind None cs ≡ None
first_keyed_none methods kind [] = refl
first_keyed_none methods kind (c ∷ cs) = first_keyed_none methods kind cs

-- Maps by member keys.

key_swap : (c n : ℕ) (a : SelectorKind) (x : MemberKey) → is_key x.owner x.role x.name (record { owner = c; role = a; name = n }) ≡ is_key c a n x
key_swap c n a x =
    ap (λ b. b && (same_kind x.role a && nat_eq x.name n)) (nat_swap x.owner c)
    ∙ ap (λ b. nat_eq c x.owner && (b && nat_eq x.name n)) (kind_swap x.role a)
    ∙ ap (λ b. nat_eq c x.owner && (same_kind a x.role && b)) (nat_swap x.name n)

pub in_map : {S : Type 0} (m : HashMap MemberKey ℕ S) (c n : ℕ) (a : SelectorKind) → get_by (the.eq-value.it (record { owner = c; role = a; name = n })) m ≡ member_in m c a n
in_map m c n a = ap (λ t. get_by t m) (λ i x. derived_is (record { owner = c; role = a; name = n }) x i)

pub hits : (c n : ℕ) (a : SelectorKind) (x : MemberKey) → the.eq-value.it x (record { owner = c; role = a; name = n }) ≡ is_key c a n x
hits c n a x = derived_is x (record { owner = c; role = a; name = n }) ∙ key_swap c n a x

kind_same : (a b : SelectorKind) → same_kind a b ≡ true → a ≡ b
kind_same Call Call h = refl
kind_same Get Get h = refl
kind_same Set Set h = refl
kind_same Call Get h = absurd (cc)
kind_same Call Set h = absurd (cc)
kind_same Get Call h = absurd (cc)
kind_same Get Set h = absurd (cc)
kind_same Set Call h = absurd (cc)
kind_same Set Get h = absurd (cc)

nat_same : (a b : ℕ) → nat_eq a b ≡ true → a ≡ b
nat_same a b h = grind (arith, nat_tests)

-- What a key finds, its equal finds.
pub same_find : {S : Type 0} (m : HashMap MemberKey ℕ S) (c n : ℕ) (a : SelectorKind) (x : MemberKey) → is_key c a n x ≡ true → member_in m c a n ≡ member_in m x.owner x.role x.name
same_find m c n a x h =
    let p = and_both (nat_eq c x.owner) (same_kind a x.role && nat_eq n x.name) h in
    let q = and_both (same_kind a x.role) (nat_eq n x.name) p.1 in
    ap (λ (k : ℕ). member_in m k a n) (nat_same c x.owner p.0) ∙ ap (λ k. member_in m x.owner k n) (kind_same a x.role q.0) ∙ ap (λ (k : ℕ). member_in m x.owner x.role k) (nat_same n x.name q.1)

-- What a map finds after a key was put.
pub put_by : {S : Type 0} (old new : HashMap MemberKey ℕ S) (c n m : ℕ) (a : SelectorKind) (x : MemberKey)
    → get_by (the.eq-value.it (record { owner = c; role = a; name = n })) new ≡ cond (the.eq-value.it x (record { owner = c; role = a; name = n })) (Some m) (get_by (the.eq-value.it (record { owner = c; role = a; name = n })) old)
    → member_in new c a n ≡ cond (is_key c a n x) (Some m) (member_in old c a n)
put_by old new c n m a x e =
    sym (in_map new c n a) ∙ e
    ∙ ap (λ b. cond b (Some m) (get_by (the.eq-value.it (record { owner = c; role = a; name = n })) old)) (hits c n a x)
    ∙ ap (cond (is_key c a n x) (Some m)) (in_map old c n a)
