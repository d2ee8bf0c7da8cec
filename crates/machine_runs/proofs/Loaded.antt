-- A sound program with its pool, and what its classes and built-in members are.
use Rattle.std.proofs.Common.{◌≡◌, ℕ, zero, suc, ◌+◌, ◌-◌, ◌<◌, ◌≤◌, List, [], ◌++◌, length, map, refl, sym, ap, ◌∙◌, subst, arith, ⊎_elim}
use Rattle.std.specs.Prelude.{Bool, true, false, ◌||◌, IsTrue, nat_eq, replicate, slice_get, unwrap_or, option_to_list, Option, Some, None, option_map, option_and_then}
use Rattle.std.specs.List.{list_any}
use Rattle.std.proofs.lemmas.Bool.{eq-eqb, cases_lt}
use Rattle.std.proofs.lemmas.List.{length-map}
use Rattle.std.proofs.lemmas.Option.{slice_get-map, slice_get_within}
use Rattle.program.specs.declared.ids.ClassId.{ClassId}
use Rattle.program.specs.declared.ids.UnitId.{UnitId}
use Rattle.program.specs.declared.numbered.Class.{Class}
use Rattle.program.specs.declared.numbered.Function.{Function}
use Rattle.program.specs.declared.numbered.Method.{Method}
use Rattle.program.specs.declared.numbered.MethodBody.{MethodBody}
use Rattle.program.specs.declared.numbered.MethodBody.TheVariants as does
use Rattle.program.specs.declared.numbered.Site.{Site}
use Rattle.program.specs.declared.numbered.Target.{Target}
use Rattle.program.specs.BuiltIn.{is_open, built_in_classes, built_in_members}
use Rattle.program.specs.Hierarchy.{parent_in, ends_within, reaches, is_above, is_subtype, supers_in}
use Rattle.program.specs.Lookup.{resolve}
use Rattle.program.specs.Parts.{Parts, parents, supers, named_above}
use Rattle.program.specs.Sound.{Accepts}
use Rattle.program.specs.Whole.{IsSound, IsClass, IsNamed, IsMethod, SoundMethod}
use Rattle.program.proofs.Each.{slice_get-take}
use Rattle.program.proofs.Intervals.{here, further, how, before}
use Rattle.program.proofs.Subtypes.{ends_more, subtype_step}
use Rattle.dart_values.specs.Values as values
use Rattle.dart_values.specs.Values.{Value, Heap, Thing, object, list, invocation, class_of, class_of_thing}
use Rattle.dart_meaning.specs.Calls.{list_to_string}
use Rattle.meaning_laws.specs.Laws.{IsThing, IsHeap}
use Rattle.meaning_laws.proofs.Heaps.{is_thing}
use Rattle.code_pool.specs.declared.pool.MethodBody.TheVariants.{Native, ReadField, WriteField, Code}
use Rattle.code_pool.specs.Pool.{Pool}

-- What the pool has for a member: a built-in one is itself, but for the text of a list, which is a unit.
abbrev pub HasMember : Pool → ℕ → MethodBody → Type 0
HasMember pool m (does.Native n) =
    (nat_eq n.0 list_to_string ≡ false → slice_get pool.methods m ≡ Some (Native n)) × (nat_eq n.0 list_to_string ≡ true → (u : UnitId) × (slice_get pool.methods m ≡ Some (Code u)))
HasMember pool m (does.ReadField k) = slice_get pool.methods m ≡ Some (ReadField k)
HasMember pool m (does.WriteField k) = slice_get pool.methods m ≡ Some (WriteField k)
HasMember pool m (does.Code b) = (u : UnitId) × (slice_get pool.methods m ≡ Some (Code u))

-- the number of a class's constructor, behind those of the functions
abbrev pub constructor_number : Parts → ℕ → ℕ
constructor_number p class = length p.functions + (class - 7)

-- The lists of the pool are those of the program: it has something for each number of a site, a function, a constructor and a member.
pub record Tables (p : Parts) (pool : Pool) : Type 0 where
  pub sites : (s : ℕ) (x : Site) → slice_get p.sites s ≡ Some x → slice_get pool.sites s ≡ Some x.selector
  pub functions : (f : ℕ) (k : Function) → slice_get p.functions f ≡ Some k → (u : UnitId) × (slice_get pool.statics f ≡ Some u)
  pub constructors : (class : ℕ) → 7 ≤ class → class < length p.classes → (u : UnitId) × (slice_get pool.statics (constructor_number p class) ≡ Some u)
  pub methods : (m : ℕ) (k : Method) → slice_get p.methods m ≡ Some k → HasMember pool m k.body

-- A sound program, with a pool of such lists. Each turn pays for so many instructions.
pub record Loaded : Type 0 where
  pub p : Parts
  pub pays : ℕ
  pub sound : IsSound p
  pub pool : Pool
  pub tables : Tables p pool

-- cells answer what Resolve says
abbrev pub answers : Loaded → ℕ → ℕ → Target
answers prog = resolve prog.p

-- A class is another, or below it by `extends`.
abbrev pub Extends : Parts → ℕ → ℕ → Type 0
Extends p c owner = IsTrue (is_above (parents p.classes) owner c)

module _ (p : Parts) (sound : IsSound p) where
  abbrev up : List (Option ℕ)
  up = parents p.classes

  abbrev named : List (List ℕ)
  named = supers p.classes

  -- ---- classes

  -- the class above one, as its class names it
  pub parent_is : (c q : ℕ) → parent_in up c ≡ Some q → (k : Class) × (slice_get p.classes c ≡ Some k) × (option_map (λ (i : ClassId). i.0) k.parent ≡ Some q)
  parent_is c q e = by_class (slice_get p.classes c) refl
    where
      read : (o : Option Class) → slice_get p.classes c ≡ o → option_and_then (λ x. x) (option_map (λ (k : Class). option_map (λ (i : ClassId). i.0) k.parent) o) ≡ Some q
      read o h =
          sym (ap (option_and_then (λ x. x)) (slice_get-map (λ (k : Class). option_map (λ (i : ClassId). i.0) k.parent) p.classes c ∙ ap (option_map (λ (k : Class). option_map (λ (i : ClassId). i.0) k.parent)) h)) ∙ e

      by_class : (o : Option Class) → slice_get p.classes c ≡ o → (k : Class) × (slice_get p.classes c ≡ Some k) × (option_map (λ (i : ClassId). i.0) k.parent ≡ Some q)
      by_class (Some k) h = (k, h, read (Some k) h)
      by_class None h = let none = read None h in absurd (cc)

  -- the class above one is among those that it names
  first_super : (c q : ℕ) → parent_in up c ≡ Some q → (test : ℕ → Bool) → test q ≡ true → IsTrue (list_any test (supers_in named c))
  first_super c q e test is =
      let f = parent_is c q e in
      let names : supers_in named c ≡ named_above f.0 = ap (λ o. unwrap_or o []) (slice_get-map named_above p.classes c ∙ ap (option_map named_above) f.1) in
      subst (λ xs. IsTrue (list_any test xs)) (sym names) (by_parent f.0.parent (map (λ i. i.0) f.0.interfaces) f.2)
    where
      by_parent : (o : Option ClassId) (more : List ℕ) → option_map (λ (i : ClassId). i.0) o ≡ Some q → IsTrue (list_any test (option_to_list (option_map (λ (i : ClassId). i.0) o) ++ more))
      by_parent o more h = rw (h, is) refl

  ends_all : (c : ℕ) → IsTrue (ends_within (length named) named c)
  ends_all c = subst (λ k. IsTrue (ends_within k named c)) (sym (length-map p.classes named_above)) (sound.acyclic c)

  owned_below : (bound c o : ℕ) → c < bound → Extends p c o → is_subtype named c o ≡ true
  unfolding is_subtype
  owned_below zero c o lt h = absurd (omega (arith, lt))
  owned_below (suc bound) c o lt h =
      let step : is_subtype named c o ≡ (nat_eq c o || list_any (λ e. reaches (length named) named e o) (supers_in named c)) =
      subtype_step named (length named) c o (ends_more named (length named) (suc (length named)) c (omega arith) (ends_all c)) (ends_all c) in
      elim (how up sound.order o c h) [
        | here e ↦ step ∙ or_first (nat_eq c o) _ (eq-eqb c o (sym e))
        | further q e f ↦
            let low : q < c = before up sound.order c q e in
            step ∙ or_second (nat_eq c o) _ (first_super c q e (λ x. reaches (length named) named x o) (owned_below bound q o (omega (arith, low, lt)) f))
      ]
    where
      or_first : (a b : Bool) → a ≡ true → (a || b) ≡ true
      or_first a b e = rw e refl

      or_second : (a b : Bool) → IsTrue b → (a || b) ≡ true
      or_second true b h = refl
      or_second false b h = h

  -- what a class extends, it is a subtype of
  pub owned : (c o : ℕ) → Extends p c o → is_subtype named c o ≡ true
  owned c o h = owned_below (suc c) c o (omega arith) h

  parent_open : (c q : ℕ) → parent_in up c ≡ Some q → IsTrue (is_open q)
  parent_open c q e =
      let f = parent_is c q e in
      of_parent f.0.parent (subst (IsClass p c) f.1 (sound.classes c)).parent f.2
    where
      of_parent : (o : Option ClassId) → IsNamed p o → option_map (λ (i : ClassId). i.0) o ≡ Some q → IsTrue (is_open q)
      of_parent (Some i) h is = let same : i.0 ≡ q = ap (λ o. unwrap_or o 0) is in subst (λ k. IsTrue (is_open k)) same h.1
      of_parent None h is = absurd (cc)

  only_list : (bound c : ℕ) → c < bound → Extends p c 5 → c ≡ 5
  only_list zero c lt h = absurd (omega (arith, lt))
  only_list (suc bound) c lt h = elim (how up sound.order 5 c h) [
    | here e ↦ sym e
    | further q e f ↦
        let low : q < c = before up sound.order c q e in
        let is : q ≡ 5 = only_list bound q (omega (arith, low, lt)) f in
        absurd (not_open (subst (λ k. IsTrue (is_open k)) is (parent_open c q e)))
  ]
    where
      not_open : IsTrue (is_open 5) → ⊥
      not_open h = cc

  -- nothing is below List but itself
  pub list_alone : (c : ℕ) → Extends p c 5 → c ≡ 5
  list_alone c h = only_list (suc c) c (omega arith) h

  pub class_at : (c : ℕ) → c < 7 → slice_get p.classes c ≡ slice_get built_in_classes c
  class_at c lt = sym (slice_get-take p.classes 7 c lt) ∙ ap (λ (ks : List Class). slice_get ks c) sound.built_in_classes

  pub seven : 7 ≤ length p.classes
  seven = ⊎_elim (λ lt. absurd (omega (arith, lt, slice_get_within p.classes 6 _ (class_at 6 (omega arith))))) (λ le. le) (cases_lt (length p.classes) 7)

  thing_class_there : (o : Option Thing) → ((thing : Thing) → o ≡ Some thing → IsThing p thing) → class_of_thing o < length p.classes
  thing_class_there (Some (object c held)) is = (is (object c held) refl).2
  thing_class_there (Some (list items)) is = omega (arith, seven)
  thing_class_there (Some (invocation name args kind)) is = omega (arith, seven)
  thing_class_there None is = omega (arith, seven)

  -- each value is of a class that is there
  pub class_there : (heap : Heap) (w : Value) → IsHeap p heap → class_of heap w < length p.classes
  class_there heap (values.at a) good = thing_class_there (slice_get heap a) (λ thing x. is_thing p heap a thing x good)
  class_there heap values.null good = omega (arith, seven)
  class_there heap (values.bool b) good = omega (arith, seven)
  class_there heap (values.num z) good = omega (arith, seven)
  class_there heap (values.text t) good = omega (arith, seven)

  -- ---- members

  pub built_in_at : (m : ℕ) → m < 49 → slice_get p.methods m ≡ slice_get built_in_members m
  built_in_at m lt = sym (slice_get-take p.methods 49 m lt) ∙ ap (λ (ks : List Method). slice_get ks m) sound.built_in_members

  no_defaults : map (λ (k : Method). length k.defaults) built_in_members ≡ replicate 49 0
  no_defaults = refl

  slice_replicate : (n i k : ℕ) → slice_get (replicate n 0) i ≡ Some k → k ≡ 0
  slice_replicate zero i k e = absurd (cc)
  slice_replicate (suc n) zero k e = cc
  slice_replicate (suc n) (suc i) k e = slice_replicate n i k e

  -- a built-in member takes as many arguments as it requires
  pub native_takes : (m args : ℕ) (k : Method) → m < 49 → slice_get p.methods m ≡ Some k → Accepts k.required (length k.defaults) args → args ≡ k.required
  native_takes m args k lt there accepts =
      let at : slice_get built_in_members m ≡ Some k = sym (built_in_at m lt) ∙ there in
      let z : length k.defaults ≡ 0 =
      slice_replicate 49 m (length k.defaults)
      (ap (λ xs. slice_get xs m) (sym no_defaults) ∙ slice_get-map (λ (k : Method). length k.defaults) built_in_members m ∙ ap (option_map (λ (k : Method). length k.defaults)) at) in
      omega (arith, z, accepts.0, accepts.1)

  pub method_facts : (m : ℕ) (k : Method) → slice_get p.methods m ≡ Some k → SoundMethod p m k
  method_facts m k there = subst (IsMethod p m) there (sound.methods m)
