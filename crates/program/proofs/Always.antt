-- Each class finds a `noSuchMethod`, since each chain ends at Object.
use Rattle.std.proofs.Common.{◌≡◌, ℕ, zero, suc, ◌+◌, ◌<◌, inl, inr, true, ◌&&◌, nat_eq, nat_le, List, [], ◌∷◌, length, ◌++◌, take, drop, slice_get, None, Some, IsTrue, codes, refl, sym, ◌∙◌, ap, subst, arith, option_and_then, if◌then◌else◌}
use Rattle.std.proofs.lemmas.List.{length-map, take-append-drop}
use Rattle.std.proofs.lemmas.Bool.Decides.{nat_tests}
use Rattle.std.proofs.lemmas.Bool.{cases_eq}
use Rattle.std.specs.List.{list_any}
use Rattle.program.specs.declared.numbered.Class.{Class}
use Rattle.program.specs.declared.numbered.Method.{Method}
use Rattle.program.specs.declared.numbered.SelectorKind.{SelectorKind}
use Rattle.program.specs.declared.numbered.SelectorKind.TheVariants.{Call, Get, Set}
use Rattle.program.specs.Hierarchy.{Parents, parent_in, chain, follows, IsPreorder}
use Rattle.program.specs.Parts.{Parts, parents}
use Rattle.program.specs.Lookup.{same_kind, is_declared_by, declared, or_above, first_declared, accepts, if_accepts, no_such_method}
use Rattle.program.specs.BuiltIn.{built_in_members}
use Rattle.program.specs.Sound.{Accepts}
use Rattle.program.specs.Whole.{IsSound, IsMethod, SoundMethod}
use Rattle.program.proofs.Each.{and_both}
use Rattle.program.proofs.Entries.{found_at}
use Rattle.program.proofs.Intervals.{Above, above_self, above_up, before}
use Rattle.program.proofs.BuiltInSound.{bytes_same}

pub length-parents : (classes : List Class) → length (parents classes) ≡ length classes
length-parents classes = simp length-map

-- Object is above every class.
object_below : (up : Parents) → IsPreorder up → (n c : ℕ) → c < n → c < length up → Above up 0 c
object_below up h zero c lt in_range = absurd (omega arith)
object_below up h (suc n) c lt in_range =
    (elim (parent_in up c) as (λ o. parent_in up c ≡ o → IsTrue (follows up c o) → Above up 0 c) [
      | None ↦ λ e f. let root : c ≡ 0 = grind (arith, nat_tests) in subst (λ (k : ℕ). Above up 0 k) (sym root) (above_self up h 0)
      | Some p ↦ λ e f. let low : p < c = before up h c p e in above_up up h 0 c p e (object_below up h n p (omega arith) (omega arith))
    ]) refl (h.each c in_range)

pub object_above : (up : Parents) → IsPreorder up → (c : ℕ) → c < length up → Above up 0 c
object_above up h c lt = object_below up h (suc c) c (omega arith) lt

-- the first member of a kind and name, where a class of the list declares one
some_declared : (methods : List Method) (kind : SelectorKind) (name : List ℕ) (cs : List ℕ) (c k : ℕ)
    → declared methods c kind name ≡ Some k → IsTrue (list_any (nat_eq c) cs) → (m : ℕ) × (first_declared methods kind name cs ≡ Some m)
some_declared methods kind name [] c k has among = absurd (cc)
some_declared methods kind name (d ∷ more) c k has among =
    (elim (declared methods d kind name) as (λ o. declared methods d kind name ≡ o → (m : ℕ) × (or_above o (first_declared methods kind name more) ≡ Some m)) [
      | Some m ↦ λ e. (m, refl)
      | None ↦ λ e. elim (cases_eq c d) [
        | inl same ↦ let there = ap (λ x. declared methods x kind name) same in absurd (cc)
        | inr ne ↦ some_declared methods kind name more c k has (grind (arith, nat_tests))
      ]
    ]) refl

-- what is declared is a member of that class, kind and name
pub declared_is : (methods : List Method) (c : ℕ) (kind : SelectorKind) (name : List ℕ) (m : ℕ) → declared methods c kind name ≡ Some m
    → (k : Method) × (m < length methods) × (slice_get methods m ≡ Some k) × (is_declared_by c kind name k ≡ true)
declared_is methods c kind name m e = found_at (is_declared_by c kind name) methods m e

-- the member that the walk finds
pub walk_finds : (methods : List Method) (kind : SelectorKind) (name : List ℕ) (cs : List ℕ) (m : ℕ) → first_declared methods kind name cs ≡ Some m
    → (d : ℕ) × (k : Method) × (m < length methods) × (slice_get methods m ≡ Some k) × (is_declared_by d kind name k ≡ true)
walk_finds methods kind name [] m e = absurd (cc)
walk_finds methods kind name (d ∷ more) m e =
    (elim (declared methods d kind name) as (λ o. declared methods d kind name ≡ o → or_above o (first_declared methods kind name more) ≡ Some m → (d : ℕ) × (k : Method) × (m < length methods) × (slice_get methods m ≡ Some k) × (is_declared_by d kind name k ≡ true)) [
      | Some j ↦ λ at is. let f = declared_is methods d kind name m (at ∙ is) in (d, f.0, f.1, f.2, f.3)
      | None ↦ λ at is. walk_finds methods kind name more m is
    ]) refl e

-- Object's own `noSuchMethod` is member 2, whatever follows the built-in members.
object_declares : (methods : List Method) → take 49 methods ≡ built_in_members → declared methods 0 Call (codes "noSuchMethod") ≡ Some 2
object_declares methods e =
    subst (λ (xs : List Method). declared xs 0 Call (codes "noSuchMethod") ≡ Some 2) (ap (λ (xs : List Method). xs ++ drop 49 methods) (sym e) ∙ take-append-drop 49 methods) refl

takes_one : (a b : ℕ) → Accepts a b 1 → (nat_le a 1 && nat_le 1 (a + b)) ≡ true
takes_one a b h = grind (arith, nat_tests)

kind_is : (a b : SelectorKind) → IsTrue (same_kind a b) → a ≡ b
kind_is Call Call h = refl
kind_is Get Get h = refl
kind_is Set Set h = refl
kind_is Call Get h = absurd (cc)
kind_is Call Set h = absurd (cc)
kind_is Get Call h = absurd (cc)
kind_is Get Set h = absurd (cc)
kind_is Set Call h = absurd (cc)
kind_is Set Get h = absurd (cc)

-- A member is of the kind and name that it is found by.
pub kind_and_name : (c : ℕ) (kind : SelectorKind) (name : List ℕ) (k : Method) → is_declared_by c kind name k ≡ true → (k.owner.0 ≡ c) × (k.role ≡ kind) × (k.name ≡ name)
kind_and_name c kind name k h =
    let a = and_both (nat_eq k.owner.0 c) _ h in
    let b = and_both (same_kind k.role kind) _ a.1 in
    ((let t = a.0 in let same : k.owner.0 ≡ c = grind (arith, nat_tests) in same), kind_is k.role kind b.0, bytes_same k.name name b.1)

accepted : (methods : List Method) (n m : ℕ) (k : Method) → slice_get methods m ≡ Some k → accepts n k ≡ true → if_accepts n m (slice_get methods m) ≡ Some m
accepted methods n m k here h =
    ap (if_accepts n m) here ∙ subst (λ b. (if b then Some m else None) ≡ Some m) (sym h) refl

-- the member that class c finds under the name
pub always : (p : Parts) → IsSound p → (c : ℕ) → c < length p.classes → (m : ℕ) × (no_such_method p c ≡ Some m)
unfolding no_such_method
always p s c lt =
    let up : Parents = parents p.classes in
    let above = object_above up s.order c (subst (λ (n : ℕ). c < n) (sym (length-parents p.classes)) lt) in
    let first = some_declared p.methods Call (codes "noSuchMethod") (chain up c) 0 2 (object_declares p.methods s.built_in_members) above in
    let walk = walk_finds p.methods Call (codes "noSuchMethod") (chain up c) first.0 first.1 in
    let is = kind_and_name walk.0 Call (codes "noSuchMethod") walk.1 walk.4 in
    let sound : SoundMethod p first.0 walk.1 = subst (IsMethod p first.0) walk.3 (s.methods first.0) in
    let one = sound.no_such_method is.1 is.2 in (
      first.0,
      ap (option_and_then (λ m. if_accepts 1 m (slice_get p.methods m))) first.1
          ∙ accepted p.methods 1 first.0 walk.1 walk.3 (takes_one walk.1.required (length walk.1.defaults) one),
    )
