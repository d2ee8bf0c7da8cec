-- Numbers by class and name, and by kind.
use Rattle.std.proofs.Common.{◌≡◌, ℕ, ◌+◌, Bool, true, false, ◌&&◌, cond, is_some, List, [], ◌∷◌, Option, None, Some, refl, sym, ◌∙◌, ap, subst, bytes_eq}
use Rattle.std.specs.List.{position_from}
use Rattle.std.specs.Prelude.{position}
use Rattle.std.proofs.lemmas.Iterator.Adapters.{position_from-zero}
use Rattle.std.proofs.lemmas.Slice.Eq.{bytes_eq-Decides}
use Rattle.dart_syntax.specs.Bytes.{Text}
use Rattle.program.specs.declared.numbered.SelectorKind.{SelectorKind}
use Rattle.program.specs.declared.numbered.SelectorKind.TheVariants.{Call, Get, Set}
use Rattle.program.specs.Lookup.{same_kind}
use Rattle.dart_meaning.specs.Classes.{if_so}
use Rattle.dart_meaning.specs.Numbering.{Key, key, same_key}
use Rattle.tree_numbers.specs.Maps.{or_first}
use Rattle.tree_numbers.specs.Members.{Pairs, with_pair, Held, no_members, with_key, by_kind, by_key, also_keyed}

or_none : {V : Type 0} (o : Option V) → or_first o None ≡ o
or_none None = refl
or_none (Some v) = refl

some_stays : {V : Type 0} (o : Option V) (other : Option V) → is_some o ≡ true → o ≡ or_first o other
some_stays None other h = absurd cc
some_stays (Some v) other h = refl

none_first : {V : Type 0} (v : V) (o : Option V) → is_some o ≡ false → Some v ≡ or_first o (Some v)
none_first v None e = refl
none_first v (Some u) e = absurd cc

both : (class name c q : Text) → (P : Text → Text → Type 0) → (bytes_eq class c && bytes_eq name q) ≡ true → P class name → P c q
both class name c q P e p = two (bytes_eq class c) refl e
  where
    two : (b : Bool) → bytes_eq class c ≡ b → (b && bytes_eq name q) ≡ true → P c q
    two true x y = subst (λ t. P t q) ((bytes_eq-Decides class c).0 x) (subst (λ t. P class t) ((bytes_eq-Decides name q).0 y) p)
    two false x y = absurd cc

-- where a class and a name are known already
pub stays_known : (known : Pairs) (class name : Text) (n : ℕ) → is_some (known class name) ≡ true → known ≡ with_pair class name n known
stays_known known class name n h i c q = same c q i
  where
    same : (c q : Text) → known c q ≡ or_first (known c q) (if_so (bytes_eq class c && bytes_eq name q) n)
    same c q = elim (bytes_eq class c && bytes_eq name q) as (λ b. (bytes_eq class c && bytes_eq name q) ≡ b → known c q ≡ or_first (known c q) (if_so b n)) [
      | true ↦ λ e. some_stays (known c q) (Some n) (both class name c q (λ x y. is_some (known x y) ≡ true) e h)
      | false ↦ λ e. sym (or_none (known c q))
    ] refl

-- where they are new
pub comes_new : (known next : Pairs) (class name : Text) (n : ℕ) → is_some (known class name) ≡ false → ((c q : Text) → next c q ≡ cond (bytes_eq class c && bytes_eq name q) (Some n) (known c q)) → next ≡ with_pair class name n known
comes_new known next class name n h each i c q = (each c q ∙ same c q) i
  where
    same : (c q : Text) → cond (bytes_eq class c && bytes_eq name q) (Some n) (known c q) ≡ or_first (known c q) (if_so (bytes_eq class c && bytes_eq name q) n)
    same c q = elim (bytes_eq class c && bytes_eq name q) as (λ b. (bytes_eq class c && bytes_eq name q) ≡ b → cond b (Some n) (known c q) ≡ or_first (known c q) (if_so b n)) [
      | true ↦ λ e. none_first n (known c q) (both class name c q (λ x y. is_some (known x y) ≡ false) e h)
      | false ↦ λ e. sym (or_none (known c q))
    ] refl

and_false : (b : Bool) → false ≡ (b && false)
and_false true = refl
and_false false = refl

-- a member of another kind changes nothing
other_kind : (o : Option ℕ) (b : Bool) (n : ℕ) → o ≡ or_first o (if_so (b && false) n)
other_kind o b n = sym (or_none o) ∙ ap (λ x. or_first o (if_so x n)) (and_false b)

pub keeps_get : (gets sets calls next : Pairs) (class name : Text) (n : ℕ) → next ≡ with_pair class name n gets → by_key next sets calls ≡ with_key (key class Get name) n (by_key gets sets calls)
keeps_get gets sets calls next class name n e i k = (ap (λ m. by_key m sets calls k) e ∙ at k.kind) i
  where
    at : (kind : SelectorKind) → by_kind (with_pair class name n gets) sets calls kind k.class k.name ≡ or_first (by_kind gets sets calls kind k.class k.name) (if_so (bytes_eq class k.class && (same_kind Get kind && bytes_eq name k.name)) n)
    at Get = refl
    at Set = other_kind (sets k.class k.name) (bytes_eq class k.class) n
    at Call = other_kind (calls k.class k.name) (bytes_eq class k.class) n

pub keeps_set : (gets sets calls next : Pairs) (class name : Text) (n : ℕ) → next ≡ with_pair class name n sets → by_key gets next calls ≡ with_key (key class Set name) n (by_key gets sets calls)
keeps_set gets sets calls next class name n e i k = (ap (λ m. by_key gets m calls k) e ∙ at k.kind) i
  where
    at : (kind : SelectorKind) → by_kind gets (with_pair class name n sets) calls kind k.class k.name ≡ or_first (by_kind gets sets calls kind k.class k.name) (if_so (bytes_eq class k.class && (same_kind Set kind && bytes_eq name k.name)) n)
    at Get = other_kind (gets k.class k.name) (bytes_eq class k.class) n
    at Set = refl
    at Call = other_kind (calls k.class k.name) (bytes_eq class k.class) n

pub keeps_call : (gets sets calls next : Pairs) (class name : Text) (n : ℕ) → next ≡ with_pair class name n calls → by_key gets sets next ≡ with_key (key class Call name) n (by_key gets sets calls)
keeps_call gets sets calls next class name n e i k = (ap (λ m. by_key gets sets m k) e ∙ at k.kind) i
  where
    at : (kind : SelectorKind) → by_kind gets sets (with_pair class name n calls) kind k.class k.name ≡ or_first (by_kind gets sets calls kind k.class k.name) (if_so (bytes_eq class k.class && (same_kind Call kind && bytes_eq name k.name)) n)
    at Get = other_kind (gets k.class k.name) (bytes_eq class k.class) n
    at Set = other_kind (sets k.class k.name) (bytes_eq class k.class) n
    at Call = refl

or_assoc : {V : Type 0} (a b c : Option V) → or_first (or_first a b) c ≡ or_first a (or_first b c)
or_assoc None b c = refl
or_assoc (Some v) b c = refl

first_is : (b : Bool) (n : ℕ) (rest : Option ℕ) → or_first (if_so b n) rest ≡ cond b (Some n) rest
first_is true n rest = refl
first_is false n rest = refl

keyed_are : (n : ℕ) (ks : List Key) (known : Held) (k : Key) → also_keyed n ks known k ≡ or_first (known k) (position_from (λ x. same_key x k) n ks)
keyed_are n [] known k = sym (or_none (known k))
keyed_are n (x ∷ xs) known k =
    let rest = position_from (λ y. same_key y k) (n + 1) xs in
    keyed_are (n + 1) xs (with_key x n known) k ∙ or_assoc (known k) (if_so (same_key x k) n) rest ∙ ap (or_first (known k)) (first_is (same_key x k) n rest)

-- ---- equality of keys, the other way round

bytes_swap : (a b : Text) → bytes_eq a b ≡ bytes_eq b a
bytes_swap a b = way (bytes_eq a b) (bytes_eq b a) refl refl
  where
    way : (x y : Bool) → bytes_eq a b ≡ x → bytes_eq b a ≡ y → x ≡ y
    way true true e f = refl
    way false false e f = refl
    way true false e f = sym ((bytes_eq-Decides b a).1 (sym ((bytes_eq-Decides a b).0 e))) ∙ f
    way false true e f = sym e ∙ (bytes_eq-Decides a b).1 (sym ((bytes_eq-Decides b a).0 f))

kind_swap : (a b : SelectorKind) → same_kind a b ≡ same_kind b a
kind_swap Call Call = refl
kind_swap Call Get = refl
kind_swap Call Set = refl
kind_swap Get Call = refl
kind_swap Get Get = refl
kind_swap Get Set = refl
kind_swap Set Call = refl
kind_swap Set Get = refl
kind_swap Set Set = refl

key_swap : (x k : Key) → same_key x k ≡ same_key k x
key_swap x k =
    ap (λ b. b && (same_kind x.kind k.kind && bytes_eq x.name k.name)) (bytes_swap x.class k.class)
    ∙ ap (λ b. bytes_eq k.class x.class && (b && bytes_eq x.name k.name)) (kind_swap x.kind k.kind)
    ∙ ap (λ b. bytes_eq k.class x.class && (same_kind k.kind x.kind && b)) (bytes_swap x.name k.name)

-- the number of each member
pub numbers_are : (ks : List Key) (k : Key) → also_keyed 0 ks no_members k ≡ position (same_key k) ks
numbers_are ks k = keyed_are 0 ks no_members k ∙ sym (position_from-zero (λ x. same_key x k) ks) ∙ ap (λ f. position f ks) (λ i x. key_swap x k i)

pub position_swap : (q : Text) (xs : List Text) → position (λ x. bytes_eq x q) xs ≡ position (bytes_eq q) xs
position_swap q xs = ap (λ f. position f xs) (λ i x. bytes_swap x q i)
