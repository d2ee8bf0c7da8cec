-- The program of the built-in classes and members is sound.
use Rattle.std.proofs.Common.{◌≡◌, ℕ, zero, suc, ◌^◌, ◌<◌, ◌≤◌, Bool, true, false, ◌&&◌, nat_eq, nat_lt, List, [], length, None, Some, IsTrue, slice_get, refl, sym, ap, subst, arith, codes, lit<, lit≤}
use Rattle.std.proofs.lemmas.Bool.Decides.{nat_tests}
use Rattle.std.proofs.lemmas.Slice.Eq.{bytes_eq-Decides}
use Rattle.std.specs.List.{list_all}
use Rattle.std.specs.Str.{bytes_eq}
use Rattle.program.specs.declared.numbered.Class.{Class}
use Rattle.program.specs.declared.numbered.Method.{Method}
use Rattle.program.specs.declared.literal.Literal.{Literal}
use Rattle.program.specs.declared.numbered.Function.{Function}
use Rattle.program.specs.declared.numbered.Selector.{Selector}
use Rattle.program.specs.declared.numbered.Site.{Site}
use Rattle.program.specs.declared.numbered.MethodBody.{MethodBody}
use Rattle.program.specs.declared.numbered.MethodBody.TheVariants as does
use Rattle.program.specs.declared.numbered.SelectorKind.{SelectorKind}
use Rattle.program.specs.declared.numbered.SelectorKind.TheVariants.{Call, Get, Set}
use Rattle.program.specs.Hierarchy.{IsPreorder, follows, parent_in, chain, ends_within}
use Rattle.program.specs.Parts.{Parts, parts, parents, supers}
use Rattle.program.specs.Lookup.{same_kind}
use Rattle.program.specs.BuiltIn.{built_in_parts, built_in_class, below_object, built_in_classes, built_in_members}
use Rattle.program.specs.Sizes.{size}
use Rattle.program.specs.Sound.{Accepts}
use Rattle.program.specs.Whole.{IsSound, IsClass, IsMethod, SoundCode, TakesByRole, AreDistinct, same_member, IsSelector, IsSite}
use Rattle.program.proofs.Each.{Each, each_at, tested, and_both, both_and, are_distinct, ascii}

abbrev p : Parts
p = built_in_parts

-- classes

order : IsPreorder (parents built_in_classes)
unfolding chain
order = record {
  some = lit< tt;
  each = follow;
  root = refl;
}
  where
    follow : (c : ℕ) → c < 7 → IsTrue (follows (parents built_in_classes) c (parent_in (parents built_in_classes) c))
    follow zero lt = refl
    follow (suc zero) lt = refl
    follow (suc (suc zero)) lt = refl
    follow (suc (suc (suc zero))) lt = refl
    follow (suc (suc (suc (suc zero)))) lt = refl
    follow (suc (suc (suc (suc (suc zero))))) lt = refl
    follow (suc (suc (suc (suc (suc (suc zero)))))) lt = refl
    follow (suc (suc (suc (suc (suc (suc (suc c))))))) lt = absurd (omega arith)

below : (name : List ℕ) → IsTrue (list_all (λ b. nat_lt b 128) name) → (c : ℕ) → IsClass p c (Some (below_object name))
below name h c = record { text = ascii name h; parent = (lit< tt, refl); interfaces = λ i. tt; constructor = tt; above = refl }

object_class : IsClass p 0 (Some (built_in_class (codes "Object") None))
object_class = record { text = ascii (codes "Object") refl; parent = tt; interfaces = λ i. tt; constructor = tt; above = refl }

classes : Each (IsClass p) built_in_classes
classes = (
  object_class,
  (
    below (codes "Null") refl 1,
    (
      below (codes "bool") refl 2,
      (
        below (codes "int") refl 3,
        (below (codes "String") refl 4, (below (codes "List") refl 5, (below (codes "Invocation") refl 6, tt))),
      ),
    ),
  ),
)

acyclic : (c : ℕ) → IsTrue (ends_within 7 (supers built_in_classes) c)
acyclic zero = refl
acyclic (suc zero) = refl
acyclic (suc (suc zero)) = refl
acyclic (suc (suc (suc zero))) = refl
acyclic (suc (suc (suc (suc zero)))) = refl
acyclic (suc (suc (suc (suc (suc zero))))) = refl
acyclic (suc (suc (suc (suc (suc (suc zero)))))) = refl
acyclic (suc (suc (suc (suc (suc (suc (suc c))))))) = refl

-- members

abbrev is_native : ℕ → MethodBody → Bool
is_native m (does.Native n) = nat_eq n.0 m
is_native m _ = false

abbrev takes_test : SelectorKind → ℕ → ℕ → Bool
takes_test Call required defaults = true
takes_test Get required defaults = nat_eq required 0 && nat_eq defaults 0
takes_test Set required defaults = nat_eq required 1 && nat_eq defaults 0

abbrev one_test : Bool → ℕ → ℕ → Bool
one_test true required defaults = nat_eq required 1
one_test false required defaults = true

abbrev is_row : ℕ → Method → Bool
is_row m k = is_native m k.body && (nat_lt m 49 && (nat_lt k.owner.0 7 && (takes_test k.role k.required (length k.defaults) && one_test (bytes_eq k.name (codes "noSuchMethod")) k.required (length k.defaults))))

native_code : (q : Parts) (m : ℕ) (k : Method) (b : MethodBody) → IsTrue (is_native m b) → m < 49 → SoundCode q m k b
native_code q m k (does.Native n) h lt = (let same : n.0 ≡ m = grind (arith, nat_tests) in same, lt)
native_code q m k (does.ReadField f) h lt = absurd (cc)
native_code q m k (does.WriteField f) h lt = absurd (cc)
native_code q m k (does.Code b) h lt = absurd (cc)

takes : (role : SelectorKind) (required defaults : ℕ) → IsTrue (takes_test role required defaults) → TakesByRole role required defaults
takes Call r d h = tt
takes Get r d h = let both = and_both (nat_eq r 0) (nat_eq d 0) h in (let one = both.0 in let e : r ≡ 0 = grind (arith, nat_tests) in e, let two = both.1 in let e : d ≡ 0 = grind (arith, nat_tests) in e)
takes Set r d h = let both = and_both (nat_eq r 1) (nat_eq d 0) h in (let one = both.0 in let e : r ≡ 1 = grind (arith, nat_tests) in e, let two = both.1 in let e : d ≡ 0 = grind (arith, nat_tests) in e)

one : (name : List ℕ) (required defaults : ℕ) → IsTrue (one_test (bytes_eq name (codes "noSuchMethod")) required defaults) → name ≡ codes "noSuchMethod" → Accepts required defaults 1
one name required defaults h e =
    let same : bytes_eq name (codes "noSuchMethod") ≡ true = ap (λ n. bytes_eq n (codes "noSuchMethod")) e in
    let test : IsTrue (nat_eq required 1) = subst (λ b. IsTrue (one_test b required defaults)) same h in
    let is : required ≡ 1 = grind (arith, nat_tests) in
    (omega arith, omega arith)

row : (q : Parts) → 7 ≤ length q.classes → (m : ℕ) (k : Method) → IsTrue (is_row m k) → IsMethod q m (Some k)
row q some m k h =
    let a = and_both (is_native m k.body) _ h in
    let b = and_both (nat_lt m 49) _ a.1 in
    let c = and_both (nat_lt k.owner.0 7) _ b.1 in
    let d = and_both (takes_test k.role k.required (length k.defaults)) _ c.1 in
    let low : m < 49 = (let t = b.0 in grind (arith, nat_tests)) in
    let owner : k.owner.0 < 7 = (let t = c.0 in grind (arith, nat_tests)) in
    record {
      owner = omega arith;
      of_user = λ le. absurd (omega arith);
      takes = takes k.role k.required (length k.defaults) d.0;
      no_such_method = λ call e. one k.name k.required (length k.defaults) d.1 e;
      code = native_code q m k k.body a.0 low;
    }

-- The built-in members are sound in each program that has the built-in classes.
pub built_in_methods : (q : Parts) → 7 ≤ length q.classes → (m : ℕ) → IsMethod q m (slice_get built_in_members m)
built_in_methods q some = tested is_row (IsMethod q) (λ i. tt) (row q some) built_in_members refl

same_number : (a b : ℕ) → IsTrue (nat_eq a b) → a ≡ b
same_number a b h = grind (arith, nat_tests)

kinds_swap : (a b : SelectorKind) → IsTrue (same_kind a b) → IsTrue (same_kind b a)
kinds_swap Call Call h = refl
kinds_swap Get Get h = refl
kinds_swap Set Set h = refl
kinds_swap Call Get h = absurd (cc)
kinds_swap Call Set h = absurd (cc)
kinds_swap Get Call h = absurd (cc)
kinds_swap Get Set h = absurd (cc)
kinds_swap Set Call h = absurd (cc)
kinds_swap Set Get h = absurd (cc)

pub bytes_same : (xs ys : List ℕ) → IsTrue (bytes_eq xs ys) → xs ≡ ys
bytes_same xs ys h = (bytes_eq-Decides xs ys).0 h

pub same_bytes : (xs ys : List ℕ) → xs ≡ ys → IsTrue (bytes_eq xs ys)
same_bytes xs ys e = (bytes_eq-Decides xs ys).1 e

pub members_swap : (a b : Method) → IsTrue (same_member a b) → IsTrue (same_member b a)
members_swap a b h =
    let x = and_both (nat_eq a.owner.0 b.owner.0) _ h in
    let y = and_both (same_kind a.role b.role) _ x.1 in
    let owners : IsTrue (nat_eq b.owner.0 a.owner.0) = (let t = x.0 in grind (arith, nat_tests)) in
    let kinds = kinds_swap a.role b.role y.0 in
    let names : IsTrue (bytes_eq b.name a.name) = same_bytes b.name a.name (sym (bytes_same a.name b.name y.1)) in
    both_and _ _ owners (both_and _ _ kinds names)

pub built_in_differ : AreDistinct same_member built_in_members
built_in_differ = are_distinct same_member members_swap built_in_members refl

-- functions, selectors and sites

selectors : Each (λ s. IsSelector) (built_in_parts.selectors)
selectors = ((ascii (codes "toString") refl, tt), tt)

sites : Each (IsSite p) (built_in_parts.sites)
sites = ((lit< tt, (refl, (refl, refl, refl))), ((lit< tt, (refl, (refl, refl, refl))), tt))

few_nodes : size p < 2 ^ 26
unfolding size
few_nodes = lit< tt

pub built_in_sound : IsSound built_in_parts
built_in_sound = record {
  order = order;
  built_in_classes = refl;
  classes = each_at (IsClass p) (λ c. tt) built_in_classes classes;
  acyclic = acyclic;
  built_in_members = refl;
  methods = built_in_methods p (lit≤ tt);
  methods_differ = built_in_differ;
  functions = λ f. tt;
  functions_differ = λ i j a b e f s. absurd (cc);
  selectors = each_at (λ s. IsSelector) (λ s. tt) built_in_parts.selectors selectors;
  prelude = lit≤ tt;
  sites = each_at (IsSite p) (λ s. tt) built_in_parts.sites sites;
  few_classes = lit≤ tt;
  few_methods = lit≤ tt;
  few_functions = lit≤ tt;
  few_selectors = lit≤ tt;
  few_sites = lit≤ tt;
  few_nodes = few_nodes;
}

-- the same of lists that are these
pub sound_of : {classes : List Class} {methods : List Method} {functions : List Function} {selectors : List Selector} {sites : List Site} {globals : List Literal}
    → classes ≡ built_in_classes → methods ≡ built_in_members → functions ≡ [] → selectors ≡ built_in_parts.selectors → sites ≡ built_in_parts.sites → globals ≡ []
    → ∥ IsSound (parts classes methods functions selectors sites globals) ∥₁
sound_of a b c d e f = rw (a, b, c, d, e, f) (∣ built_in_sound ∣₁)
