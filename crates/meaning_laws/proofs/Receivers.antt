-- `this` is of the class that holds the body, or of one below it.
use Rattle.std.proofs.Common.{◌≡◌, ℕ, zero, suc, ◌≤◌, List, [], ◌∷◌, ◌++◌, length, refl, sym, ap, ◌∙◌, subst, arith}
use Rattle.std.specs.Prelude.{Bool, true, false, ◌||◌, nat_eq, not, IsTrue, slice_get, unwrap_or, Option, Some, None}
use Rattle.std.specs.Option.{option_map, option_and_then}
use Rattle.std.specs.List.{list_any}
use Rattle.std.proofs.lemmas.Bool.Decides.{nat_tests}
use Rattle.program.specs.declared.ids.ClassId.{ClassId}
use Rattle.program.specs.declared.numbered.Class.{Class}
use Rattle.program.specs.declared.numbered.Method.{Method}
use Rattle.program.specs.declared.numbered.MethodBody.{MethodBody}
use Rattle.program.specs.declared.numbered.MethodBody.TheVariants as does
use Rattle.program.specs.BuiltIn.{is_open}
use Rattle.program.specs.Hierarchy.{above_chain, parent_in, is_above}
use Rattle.program.specs.Parts.{Parts, parents}
use Rattle.program.specs.Sound.{AboveAccepts}
use Rattle.program.specs.Whole.{IsSound, IsMethod, SoundMethod, SoundCode, IsClass}
use Rattle.program.proofs.Always.{kind_and_name}
use Rattle.program.proofs.Intervals.{Above, chain_step, above_self, above_up, above_trans}
use Rattle.dart_values.specs.Values as v
use Rattle.dart_values.specs.Values.{Value, Heap, Thing, object, classes, thing_class, class_of, class_of_thing}
use Rattle.dart_meaning.specs.Classes.{if_so}
use Rattle.dart_meaning.specs.Numbered.{Code, the_method, the_constructor, method_at, method_found, constructor_at, fields}
use Rattle.dart_meaning.specs.Program.{Found, coded}
use Rattle.meaning_laws.specs.ThisLaws.{IsOf, MayEnter, CallsMayEnter, SupersMayEnter, ConstructorsMayEnter, NewObjectsMayEnter}
use Rattle.meaning_laws.proofs.Lookups.{walk_finds, found_takes}

-- the code of a member that is one
is_code : Found Code → Option Code
is_code (coded code) = Some code
is_code _ = None

module _ (p : Parts) (sound : IsSound p) where
  abbrev up : List (Option ℕ)
  up = parents p.classes

  -- the member's owner, where the member has code, is one of the user's
  with_body : (m : ℕ) (k : Method) (b : MethodBody) (code : Code) → slice_get p.methods m ≡ Some k → SoundMethod p m k → SoundCode p m k b → method_found m b ≡ coded code
      → (code ≡ the_method m) × (7 ≤ k.owner.0)
  unfolding is_code
  with_body m k (does.Code b) code there ok c e = (sym (ap (λ o. unwrap_or o code) (ap is_code e)), ok.of_user c.0)
  with_body m k (does.Native i) code there ok c e = absurd (cc)
  with_body m k (does.ReadField i) code there ok c e = absurd (cc)
  with_body m k (does.WriteField i) code there ok c e = absurd (cc)

  member_enters : (m : ℕ) (k : Method) (heap : Heap) (me : Value) (code : Code) → slice_get p.methods m ≡ Some k → IsTrue (is_above up k.owner.0 (class_of heap me))
      → method_at p m ≡ Some (coded code) → MayEnter p heap code me
  member_enters m k heap me code there above e =
      let ok : SoundMethod p m k = subst (IsMethod p m) there (sound.methods m) in
      let found : method_found m k.body ≡ coded code = ap (λ o. unwrap_or o (coded code)) (sym (ap (option_map (λ (k : Method). method_found m k.body)) there) ∙ e) in
      let both = with_body m k k.body code there ok ok.code found in
      subst (λ (c : Code). MayEnter p heap c me) (sym both.0) (subst (λ (o : Option Method). IsOf p heap (option_map (λ (k : Method). k.owner.0) o) me) (sym there) (both.1, above))

pub calls_may_enter : CallsMayEnter
calls_may_enter p sound heap u sel m code h e =
    let found = found_takes p (class_of heap u) sel m h in
    member_enters p sound m found.method heap u code found.there found.owner e

module _ (p : Parts) (sound : IsSound p) where
  behind : (a b : Bool) → IsTrue b → IsTrue (a || b)
  behind true b h = refl
  behind false b h = h

  -- what `super` names is declared by a class above the one that holds the body
  super_enters : (class m count : ℕ) (o : Option Method) (heap : Heap) (me : Value) (code : Code) → slice_get p.methods m ≡ o → IsOf p heap (Some class) me
      → AboveAccepts p (Some class) m count o → method_at p m ≡ Some (coded code) → MayEnter p heap code me
  super_enters class m count None heap me code there h a e = absurd a
  super_enters class m count (Some k) heap me code there h a e =
      let walk = walk_finds p.methods k.role k.name (above_chain (parents p.classes) class) m a.0 in
      let same : walk.1 ≡ k = ap (λ o. unwrap_or o k) (sym walk.2 ∙ there) in
      let owner : k.owner.0 ≡ walk.0 = ap (λ (m : Method). m.owner.0) (sym same) ∙ (kind_and_name walk.0 k.role k.name walk.1 walk.3).0 in
      let here : Above (parents p.classes) walk.0 class =
      subst (λ xs. IsTrue (list_any (nat_eq walk.0) xs)) (sym (chain_step (parents p.classes) sound.order class)) (behind (nat_eq walk.0 class) _ walk.4) in
      member_enters p sound m k heap me code there
      (above_trans (parents p.classes) sound.order k.owner.0 class (class_of heap me) (subst (λ d. Above (parents p.classes) d class) (sym owner) here) h.1) e

  -- Object's constructor is none
  user_class : (class : ℕ) → IsTrue (is_open class) → (code : Code) → constructor_at class ≡ Some code → (code ≡ the_constructor class) × (7 ≤ class)
  user_class class h code e = by (nat_eq class 0) refl e
    where
      by : (b : Bool) → nat_eq class 0 ≡ b → if_so (not b) (the_constructor class) ≡ Some code → (code ≡ the_constructor class) × (7 ≤ class)
      by true z e = absurd (cc)
      by false z e = (ap (λ o. unwrap_or o code) (sym e), grind (arith, nat_tests))

  new_class : (heap : Heap) (thing : Thing) → class_of_thing (slice_get (heap ++ thing ∷ []) (length heap)) ≡ thing_class thing
  new_class [] thing = refl
  new_class (t ∷ heap) thing = new_class heap thing

  parent_of : (class q : ℕ) → parent_in (parents p.classes) class ≡ Some q → IsTrue (is_open q)
  parent_of class q e = by (slice_get p.classes class) refl (sound.classes class) (up_is p.classes class ∙ e)
    where
      up_is : (ks : List Class) (c : ℕ) → option_and_then (λ (k : Class). option_map (λ (d : ClassId). d.0) k.parent) (slice_get ks c) ≡ parent_in (parents ks) c
      up_is [] c = refl
      up_is (k ∷ ks) zero = refl
      up_is (k ∷ ks) (suc c) = up_is ks c

      named : (o : Option ClassId) → Rattle.program.specs.Whole.IsNamed p o → option_map (λ (d : ClassId). d.0) o ≡ Some q → IsTrue (is_open q)
      named (Some d) h e = subst (λ c. IsTrue (is_open c)) (ap (λ o. unwrap_or o q) e) h.1
      named None h e = absurd (cc)

      by : (o : Option Class) → slice_get p.classes class ≡ o → IsClass p class o → option_and_then (λ (k : Class). option_map (λ (d : ClassId). d.0) k.parent) o ≡ Some q → IsTrue (is_open q)
      by (Some k) there ok e = named k.parent ok.parent e
      by None there ok e = absurd (cc)

  above_enters : (class : ℕ) (o : Option ℕ) (heap : Heap) (me : Value) (code : Code) → parent_in (parents p.classes) class ≡ o → IsOf p heap (Some class) me
      → constructor_at (unwrap_or o 0) ≡ Some code → MayEnter p heap code me
  above_enters class None heap me code there h e = absurd (cc)
  above_enters class (Some q) heap me code there h e =
      let both = user_class q (parent_of class q there) code e in
      subst (λ (c : Code). MayEnter p heap c me) (sym both.0)
      (both.1, above_trans (parents p.classes) sound.order q class (class_of heap me) (above_up (parents p.classes) sound.order q class q there (above_self (parents p.classes) sound.order q)) h.1)

pub supers_may_enter : SupersMayEnter
supers_may_enter p sound heap me class m count code h a e = super_enters p sound class m count (slice_get p.methods m) heap me code refl h a e

pub constructors_may_enter : ConstructorsMayEnter
constructors_may_enter p sound heap me class code h e = above_enters p sound class (parent_in (parents p.classes) class) heap me code refl h e

pub new_objects_may_enter : NewObjectsMayEnter
new_objects_may_enter p sound heap class code h e =
    let both = user_class p sound class h code e in
    subst (λ (c : Code). MayEnter p (heap ++ object class (fields p class) ∷ []) c (v.at (length heap))) (sym both.0)
    (both.1, subst (Above (parents p.classes) class) (sym (new_class p sound heap (object class (fields p class)))) (above_self (parents p.classes) sound.order class))
