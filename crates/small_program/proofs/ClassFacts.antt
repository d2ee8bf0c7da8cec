-- The classes of a small program: their order, and that each is sound.
use Rattle.std.proofs.Common.{◌≡◌, ℕ, zero, suc, ◌+◌, ◌-◌, ◌<◌, ◌≤◌, inl, inr, Bool, true, false, ◌&&◌, ◌||◌, nat_eq, nat_lt, nat_le, List, [], ◌∷◌, ◌++◌, length, Option, None, Some, IsTrue, slice_get, option_and_then, unwrap_or, refl, sym, ◌∙◌, ap, subst, arith, codes, lit<}
use Rattle.std.proofs.lemmas.Bool.Decides.{nat_tests}
use Rattle.std.proofs.lemmas.Bool.{cases_lt}
use Rattle.std.proofs.lemmas.List.{length-append, length-map}
use Rattle.std.proofs.lemmas.Option.{slice_get_past, slice_get-get_or}
use Rattle.std.specs.List.{AllByRecursion, list_all}
use Rattle.std.specs.Str.{IsAscii}
use Rattle.program.specs.declared.ids.ClassId.{ClassId}
use Rattle.program.specs.declared.numbered.Class.{Class}
use Rattle.program.specs.BuiltIn.{built_in_class, built_in_classes}
use Rattle.program.specs.Hierarchy.{Parents, Supers, parent_in, chain, is_above, follows, IsPreorder, ends_within, supers_in}
use Rattle.program.specs.Parts.{Parts, parents, supers}
use Rattle.program.specs.Sound.{ConstructorAccepts, MakeAccepts}
use Rattle.program.specs.Whole.{IsClass, SuperAccepts, IsNamed}
use Rattle.program.proofs.Always.{length-parents}
use Rattle.program.proofs.Each.{ascii}
use Rattle.program.proofs.Subtypes.{ends_by_rank}
use Rattle.small_program.specs.declared.small.SmallClass.{SmallClass}
use Rattle.small_program.specs.Small.{IsSmallClass}
use Rattle.small_program.specs.Numbering.{chain_below}
use Rattle.small_program.proofs.Lists.{all_append, all_at, each_place}

abbrev pub all_classes : List SmallClass → List Class
all_classes ks = built_in_classes ++ chain_below 0 7 ks

pub length-chain : (up c : ℕ) (ks : List SmallClass) → length (chain_below up c ks) ≡ length ks
length-chain up c [] = refl
length-chain up c (k ∷ ks) = ap suc (length-chain c (suc c) ks)

pub length-all : (ks : List SmallClass) → length (all_classes ks) ≡ 7 + length ks
length-all ks = length-append built_in_classes (chain_below 0 7 ks) ∙ ap (λ n. 7 + n) (length-chain 0 7 ks)

long_parents : (ks : List SmallClass) → length (parents (all_classes ks)) ≡ 7 + length ks
long_parents ks = length-parents (all_classes ks) ∙ length-all ks

long_supers : (ks : List SmallClass) → length (supers (all_classes ks)) ≡ length (all_classes ks)
long_supers ks = simp length-map

-- Order.

-- the class above the one at a place of the chain
abbrev prior : ℕ → ℕ → ℕ → ℕ
prior up c zero = up
prior up c (suc i) = c + i

parent_chain : (up c : ℕ) (ks : List SmallClass) (i : ℕ) → i < length ks → parent_in (parents (chain_below up c ks)) i ≡ Some (prior up c i)
parent_chain up c [] i lt = absurd (omega arith)
parent_chain up c (k ∷ ks) zero lt = refl
parent_chain up c (k ∷ ks) (suc zero) lt = parent_chain c (suc c) ks zero (omega arith) ∙ (let e : c ≡ c + 0 = omega arith in ap Some e)
parent_chain up c (k ∷ ks) (suc (suc i)) lt = parent_chain c (suc c) ks (suc i) (omega arith) ∙ (let e : suc c + i ≡ c + suc i = omega arith in ap Some e)

self_or : (a : ℕ) (b : Bool) → IsTrue (nat_eq a a || b)
self_or a b = let t : nat_eq a a ≡ true = grind (arith, nat_tests) in subst (λ x. IsTrue (x || b)) (sym t) refl

above_itself : (up : Parents) (a : ℕ) → IsTrue (is_above up a a)
unfolding chain
above_itself up a = self_or a _

both_true : (a b : Bool) → IsTrue a → IsTrue b → IsTrue (a && b)
both_true true b h k = k
both_true false b h k = absurd cc

next_follows : (up : Parents) (c : ℕ) → IsTrue (follows up (suc c) (Some c))
next_follows up c =
    let lt : IsTrue (nat_lt c (suc c)) = grind (arith, nat_tests) in
    let e : suc c - 1 ≡ c = omega arith in
    both_true (nat_lt c (suc c)) (is_above up c (suc c - 1)) lt (subst (λ n. IsTrue (is_above up c n)) (sym e) (above_itself up c))

pub order : (ks : List SmallClass) → IsPreorder (parents (all_classes ks))
unfolding chain
order ks = record {
  some = omega (arith, long_parents ks);
  each = follow;
  root = refl;
}
  where
    up : Parents
    up = parents (all_classes ks)

    follow : (c : ℕ) → c < length (parents (all_classes ks)) → IsTrue (follows (parents (all_classes ks)) c (parent_in (parents (all_classes ks)) c))
    follow zero lt = refl
    follow (suc zero) lt = refl
    follow (suc (suc zero)) lt = refl
    follow (suc (suc (suc zero))) lt = refl
    follow (suc (suc (suc (suc zero)))) lt = refl
    follow (suc (suc (suc (suc (suc zero))))) lt = refl
    follow (suc (suc (suc (suc (suc (suc zero)))))) lt = refl
    follow (suc (suc (suc (suc (suc (suc (suc zero))))))) lt =
        subst (λ o. IsTrue (follows (parents (all_classes ks)) 7 o)) (sym (parent_chain 0 7 ks 0 (omega (arith, long_parents ks)))) refl
    follow (suc (suc (suc (suc (suc (suc (suc (suc i)))))))) lt =
        let e : 7 + i ≡ suc (suc (suc (suc (suc (suc (suc i)))))) = omega arith in
        subst (λ o. IsTrue (follows (parents (all_classes ks)) (suc (suc (suc (suc (suc (suc (suc (suc i)))))))) o)) (sym (parent_chain 0 7 ks (suc i) (omega (arith, long_parents ks)) ∙ ap Some e))
        (next_follows (parents (all_classes ks)) (suc (suc (suc (suc (suc (suc (suc i))))))))

-- No class is above itself.

supers_chain : (up c : ℕ) (ks : List SmallClass) (i : ℕ) → up < c → IsTrue (list_all (λ e. nat_lt e (c + i)) (supers_in (supers (chain_below up c ks)) i))
supers_chain up c [] i lt = refl
supers_chain up c (k ∷ ks) zero lt = let t : nat_lt up (c + 0) ≡ true = grind (arith, nat_tests) in subst (λ b. IsTrue (b && true)) (sym t) refl
supers_chain up c (k ∷ ks) (suc i) lt =
    let e : suc c + i ≡ c + suc i = omega arith in
    subst (λ n. IsTrue (list_all (λ d. nat_lt d n) (supers_in (supers (chain_below c (suc c) ks)) i))) e (supers_chain c (suc c) ks i (omega arith))

supers_before : (ks : List SmallClass) (c : ℕ) → IsTrue (list_all (λ e. nat_lt e c) (supers_in (supers (all_classes ks)) c))
supers_before ks zero = refl
supers_before ks (suc zero) = refl
supers_before ks (suc (suc zero)) = refl
supers_before ks (suc (suc (suc zero))) = refl
supers_before ks (suc (suc (suc (suc zero)))) = refl
supers_before ks (suc (suc (suc (suc (suc zero))))) = refl
supers_before ks (suc (suc (suc (suc (suc (suc zero)))))) = refl
supers_before ks (suc (suc (suc (suc (suc (suc (suc i))))))) =
    let e : 7 + i ≡ suc (suc (suc (suc (suc (suc (suc i)))))) = omega arith in
    subst (λ n. IsTrue (list_all (λ d. nat_lt d n) (supers_in (supers (chain_below 0 7 ks)) i))) e (supers_chain 0 7 ks i (lit< tt))

none_past : (named : Supers) (n c : ℕ) → length named ≤ c → IsTrue (ends_within (suc n) named c)
none_past named n c le = subst (λ (o : Option (List ℕ)). IsTrue (list_all (ends_within n named) (unwrap_or o []))) (sym (slice_get_past named c le)) refl

pub acyclic : (ks : List SmallClass) (c : ℕ) → IsTrue (ends_within (length (all_classes ks)) (supers (all_classes ks)) c)
acyclic ks c = elim (cases_lt c (length (all_classes ks))) [
  | inl lt ↦ ends_by_rank (supers (all_classes ks)) (λ d. d) (supers_before ks) (length (all_classes ks)) c lt
  | inr le ↦
      let same : length (all_classes ks) ≡ suc (6 + length ks) = omega (arith, length-all ks) in
      subst (λ n. IsTrue (ends_within n (supers (all_classes ks)) c)) (sym same) (none_past (supers (all_classes ks)) (6 + length ks) c (omega (arith, long_supers ks)))
]

-- Each class.

-- a class that may be constructed without arguments
pub record IsPlain (k : Class) : Type 0 where
  pub concrete : k.is_abstract ≡ false
  pub none_written : k.constructor ≡ None

abbrev plain : {name : List ℕ} {up : Option ClassId} → IsPlain (built_in_class name up)
plain = record { concrete = refl; none_written = refl }

plain_chain : (up c : ℕ) (ks : List SmallClass) → AllByRecursion IsPlain (chain_below up c ks)
plain_chain up c [] = tt
plain_chain up c (k ∷ ks) = (plain, plain_chain c (suc c) ks)

pub all_plain : (ks : List SmallClass) → AllByRecursion IsPlain (all_classes ks)
all_plain ks = all_append IsPlain built_in_classes (chain_below 0 7 ks) (plain, (plain, (plain, (plain, (plain, (plain, (plain, tt))))))) (plain_chain 0 7 ks)

pub no_constructor : (ks : List SmallClass) (d : ℕ) → option_and_then (λ (k : Class). k.constructor) (slice_get (all_classes ks) d) ≡ None
no_constructor ks d = each_place IsPlain (λ o. option_and_then (λ (k : Class). k.constructor) o ≡ None) refl (λ k is. is.none_written) (all_classes ks) (all_plain ks) d

pub makes : (ks : List SmallClass) (d : ℕ) → d < length (all_classes ks) → MakeAccepts 0 (slice_get (all_classes ks) d)
makes ks d lt =
    let at = slice_get-get_or (all_classes ks) d (built_in_class [] None) lt in
    let is = all_at IsPlain (all_classes ks) (all_plain ks) d _ at in
    subst (MakeAccepts 0) (sym at) (is.concrete, subst (ConstructorAccepts 0) (sym is.none_written) refl)

module _ (p : Parts) (ks : List SmallClass) (are : p.classes ≡ all_classes ks) where
  takes_none : (up : Option ClassId) → SuperAccepts p 0 up
  takes_none None = refl
  takes_none (Some d) = subst (ConstructorAccepts 0) (sym (ap (λ (cs : List Class). option_and_then (λ (k : Class). k.constructor) (slice_get cs d.0)) are ∙ no_constructor ks d.0)) refl

  sound_class : (name : List ℕ) (up : Option ClassId) → IsAscii name → IsNamed p up → (c : ℕ) → IsClass p c (Some (built_in_class name up))
  sound_class name up text named c = record { text = text; parent = named; interfaces = λ i. tt; constructor = tt; above = takes_none up }

  abbrev IsSoundClass : Class → Type 0
  IsSoundClass k = (c : ℕ) → IsClass p c (Some k)

  sound_chain : (up c : ℕ) (more : List SmallClass) → IsNamed p (Some (record { 0 = up })) → 7 ≤ c → c + length more ≤ length p.classes → AllByRecursion IsSmallClass more → AllByRecursion IsSoundClass (chain_below up c more)
  sound_chain up c [] named low fits h = tt
  sound_chain up c (k ∷ more) named low fits h =
      let open_class : nat_eq c 0 || nat_le 7 c ≡ true = grind (arith, nat_tests) in
      (sound_class k.name (Some (record { 0 = up })) h.0.text named, sound_chain c (suc c) more (omega arith, open_class) (omega arith) (omega arith) h.1)

  below_object : (name : List ℕ) → IsTrue (list_all (λ b. nat_lt b 128) name) → 7 ≤ length p.classes → IsSoundClass (built_in_class name (Some (record { 0 = 0 })))
  below_object name text some = sound_class name (Some (record { 0 = 0 })) (ascii name text) (omega arith, refl)

  pub classes_sound : AllByRecursion IsSmallClass ks → (c : ℕ) → IsClass p c (slice_get p.classes c)
  classes_sound h c =
      let long : length p.classes ≡ 7 + length ks = ap (λ (cs : List Class). length cs) are ∙ length-all ks in
      let some : 7 ≤ length p.classes = omega arith in
      let front : AllByRecursion IsSoundClass built_in_classes = (
        sound_class (codes "Object") None (ascii (codes "Object") refl) tt,
        (
          below_object (codes "Null") refl some,
          (
            below_object (codes "bool") refl some,
            (
              below_object (codes "int") refl some,
              (below_object (codes "String") refl some, (below_object (codes "List") refl some, (below_object (codes "Invocation") refl some, tt))),
            ),
          ),
        ),
      ) in
      let back = sound_chain 0 7 ks (omega arith, refl) (omega arith) (omega arith) h in
      let all = all_append IsSoundClass built_in_classes (chain_below 0 7 ks) front back in
      subst (λ (cs : List Class). IsClass p c (slice_get cs c)) (sym are) (each_place IsSoundClass (λ o. IsClass p c o) tt (λ k is. is c) (all_classes ks) all c)
