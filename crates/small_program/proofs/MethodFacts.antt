-- The methods of a small program: that each is sound, and no two are the same.
use Rattle.std.proofs.Common.{◌≡◌, ℕ, suc, ◌+◌, ◌<◌, ◌≤◌, ◌&&◌, nat_eq, List, [], ◌∷◌, ◌++◌, length, map, Some, IsTrue, slice_get, refl, sym, ◌∙◌, ap, subst, arith, lit≤}
use Rattle.std.proofs.lemmas.Bool.Decides.{nat_tests}
use Rattle.std.proofs.lemmas.List.{length-append, length-map}
use Rattle.std.proofs.lemmas.List.Sums.{sum_by-append, sum_by-cons}
use Rattle.std.specs.List.{AllByRecursion, sum_by}
use Rattle.std.specs.Str.{bytes_eq}
use Rattle.program.specs.declared.literal.Literal.TheVariants as literal
use Rattle.program.specs.declared.numbered.Method.{Method}
use Rattle.program.specs.declared.numbered.SelectorKind.TheVariants.{Call}
use Rattle.program.specs.Bodies as c
use Rattle.program.specs.BuiltIn.{built_in_members, built_in_parts}
use Rattle.program.specs.Lookup.{same_kind}
use Rattle.program.specs.Parts.{Parts}
use Rattle.program.specs.Sizes.{method_size, exp_size}
use Rattle.program.specs.Sound.{Sound}
use Rattle.program.specs.Whole.{IsMethod, SoundMethod, AreDistinct, same_member}
use Rattle.program.proofs.Each.{and_both}
use Rattle.program.proofs.BuiltInSound.{built_in_methods, built_in_differ, built_in_sound, members_swap}
use Rattle.small_program.specs.declared.small.SmallMethod.{SmallMethod}
use Rattle.small_program.specs.declared.small.SmallClass.{SmallClass}
use Rattle.small_program.specs.Small.{IsSmallClass, IsSmallMethod, same_name}
use Rattle.small_program.specs.Numbering.{method_of, methods_from}
use Rattle.small_program.proofs.Lists.{all_append, all_map, all_known, all_at, each_place, each_both, came_from, differ_both}
use Rattle.small_program.proofs.Views.{constant_is}

abbrev pub all_methods : List SmallClass → List Method
all_methods ks = built_in_members ++ methods_from 7 ks

-- Numbers.

abbrev pub count_methods : List SmallClass → ℕ
count_methods ks = sum_by (λ (k : SmallClass). length k.methods) ks

pub length-methods : (n : ℕ) (ks : List SmallClass) → length (methods_from n ks) ≡ count_methods ks
length-methods n [] = refl
length-methods n (k ∷ ks) =
    length-append (map (method_of n) k.methods) (methods_from (suc n) ks)
    ∙ ap (λ x. x + length (methods_from (suc n) ks)) (length-map k.methods (method_of n))
    ∙ ap (λ x. length k.methods + x) (length-methods (suc n) ks)
    ∙ sym (sum_by-cons (λ (q : SmallClass). length q.methods) k ks)

pub length-all_methods : (ks : List SmallClass) → length (all_methods ks) ≡ 49 + count_methods ks
length-all_methods ks = length-append built_in_members (methods_from 7 ks) ∙ ap (λ n. 49 + n) (length-methods 7 ks)

-- a method has one expression
one : (n : ℕ) (m : SmallMethod) → method_size (method_of n m) ≡ 1
one n m = let e : exp_size (c.exp _) ≡ 1 = ap exp_size (constant_is (literal.Int m.value)) in omega (arith, e)

ones : (n : ℕ) (ms : List SmallMethod) → sum_by method_size (map (method_of n) ms) ≡ length ms
ones n [] = refl
ones n (m ∷ ms) = sum_by-cons method_size (method_of n m) (map (method_of n) ms) ∙ omega (arith, one n m, ones n ms)

pub size-methods : (n : ℕ) (ks : List SmallClass) → sum_by method_size (methods_from n ks) ≡ count_methods ks
size-methods n [] = refl
size-methods n (k ∷ ks) =
    sum_by-append method_size (map (method_of n) k.methods) (methods_from (suc n) ks)
    ∙ ap (λ x. x + sum_by method_size (methods_from (suc n) ks)) (ones n k.methods)
    ∙ ap (λ x. length k.methods + x) (size-methods (suc n) ks)
    ∙ sym (sum_by-cons (λ (q : SmallClass). length q.methods) k ks)

-- Each method.

module _ (p : Parts) where
  abbrev IsOwn : Method → Type 0
  IsOwn k = (m : ℕ) → 49 ≤ m → IsMethod p m (Some k)

  own : (n : ℕ) → 7 ≤ n → n < length p.classes → (m : SmallMethod) → IsSmallMethod m → IsOwn (method_of n m)
  own n low there k h m user = record {
    owner = there;
    of_user = λ le. low;
    takes = tt;
    no_such_method = λ call name. absurd (h.named name);
    code = (user, subst (Sound p (Some n) 0) (sym (constant_is (literal.Int k.value))) tt);
  }

  all_own : (n : ℕ) (ks : List SmallClass) → 7 ≤ n → n + length ks ≤ length p.classes → AllByRecursion IsSmallClass ks → AllByRecursion IsOwn (methods_from n ks)
  all_own n [] low fits h = tt
  all_own n (k ∷ ks) low fits h =
      all_append IsOwn (map (method_of n) k.methods) (methods_from (suc n) ks) (all_map (method_of n) IsSmallMethod IsOwn (own n low (omega arith)) k.methods h.0.methods) (all_own (suc n) ks (omega arith) (omega arith) h.1)

  pub methods_sound : (ks : List SmallClass) → 7 + length ks ≤ length p.classes → AllByRecursion IsSmallClass ks → (m : ℕ) → IsMethod p m (slice_get (all_methods ks) m)
  methods_sound ks fits h =
      each_both (IsMethod p) built_in_members (methods_from 7 ks) (built_in_methods p (omega arith))
      (λ k. each_place IsOwn (IsMethod p (49 + k)) tt (λ q is. is (49 + k) (omega arith)) (methods_from 7 ks) (all_own 7 ks (lit≤ tt) fits h) k)

-- No two are the same.

same_number : (a b : ℕ) → IsTrue (nat_eq a b) → a ≡ b
same_number a b h = grind (arith, nat_tests)

owners : (n : ℕ) (ks : List SmallClass) → AllByRecursion (λ (k : Method). n ≤ k.owner.0) (methods_from n ks)
owners n [] = tt
owners n (k ∷ ks) =
    all_append (λ (q : Method). n ≤ q.owner.0) (map (method_of n) k.methods) (methods_from (suc n) ks) (here k.methods)
    (all_known (λ (q : Method). suc n ≤ q.owner.0) (λ (q : Method). n ≤ q.owner.0) (λ q le. omega arith) (methods_from (suc n) ks) (owners (suc n) ks))
  where
    here : (ms : List SmallMethod) → AllByRecursion (λ (q : Method). n ≤ q.owner.0) (map (method_of n) ms)
    here [] = tt
    here (m ∷ ms) = (omega arith, here ms)

in_class : (n : ℕ) (ms : List SmallMethod) → AreDistinct same_name ms → AreDistinct same_member (map (method_of n) ms)
in_class n ms differ i j a b e f s =
    let x = came_from (method_of n) ms i a e in
    let y = came_from (method_of n) ms j b f in
    let t : IsTrue (same_member (method_of n x.0) (method_of n y.0)) = subst (λ q. IsTrue (same_member (method_of n x.0) q)) (sym y.2) (subst (λ q. IsTrue (same_member q b)) (sym x.2) s) in
    let u = and_both (nat_eq n n) (same_kind Call Call && bytes_eq x.0.name y.0.name) t in
    differ i j x.0 y.0 x.1 y.1 u.1

pub own_differ : (n : ℕ) (ks : List SmallClass) → AllByRecursion IsSmallClass ks → AreDistinct same_member (methods_from n ks)
own_differ n [] h = λ i j a b e f s. absurd cc
own_differ n (k ∷ ks) h =
    differ_both same_member members_swap (map (method_of n) k.methods) (methods_from (suc n) ks) (in_class n k.methods h.0.differ) (own_differ (suc n) ks h.1)
    (λ i j a b e f s.
    let x = came_from (method_of n) k.methods i a e in
    let owner : n ≡ a.owner.0 = ap (λ (q : Method). q.owner.0) x.2 in
    let further : suc n ≤ b.owner.0 = all_at (λ (q : Method). suc n ≤ q.owner.0) (methods_from (suc n) ks) (owners (suc n) ks) j b f in
    let same = same_number a.owner.0 b.owner.0 (and_both (nat_eq a.owner.0 b.owner.0) _ s).0 in
    omega arith)

pub methods_differ : (ks : List SmallClass) → AllByRecursion IsSmallClass ks → AreDistinct same_member (all_methods ks)
methods_differ ks h =
    differ_both same_member members_swap built_in_members (methods_from 7 ks) built_in_differ (own_differ 7 ks h)
    (λ i j a b e f s.
    let sound : SoundMethod built_in_parts i a = subst (IsMethod built_in_parts i) e (built_in_sound.methods i) in
    let low : a.owner.0 < 7 = sound.owner in
    let further : 7 ≤ b.owner.0 = all_at (λ (q : Method). 7 ≤ q.owner.0) (methods_from 7 ks) (owners 7 ks) j b f in
    let same = same_number a.owner.0 b.owner.0 (and_both (nat_eq a.owner.0 b.owner.0) _ s).0 in
    omega arith)
