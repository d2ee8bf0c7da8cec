-- What callers read off a program's soundness, one fact each. A fact with at most one proof is taken out of the truncation.
use Rattle.std.proofs.Common.{◌≡◌, ℕ, ◌+◌, ◌-◌, ◌^◌, ◌<◌, ◌≤◌, false, IsTrue, List, length, map, slice_get, get_or, Some, None, Option, option_and_then, unwrap_or, refl, sym, ◌∙◌, ap, subst, arith, codes}
use Rattle.std.proofs.Math.Logic.{∥∥₁_elim}
use Rattle.std.proofs.Props.{props}
use Rattle.std.proofs.lemmas.Option.{slice_get-get_or, slice_get_read}
use Rattle.std.proofs.lemmas.Str.{IsUtf8-from_ascii}
use Rattle.std.specs.Coded.{le_prop, Coded-set, coded_option}
use Rattle.std.specs.Str.{IsAscii, IsUtf8}
use Rattle.program.specs.contracts.numbered.Method as method_codes
use Rattle.program.specs.contracts.numbered.Class as class_codes
use Rattle.program.specs.declared.body.Body.{Body}
use Rattle.program.specs.declared.ids.ClassId.{ClassId}
use Rattle.program.specs.declared.numbered.Class.{Class}
use Rattle.program.specs.declared.numbered.Constructor.{Constructor}
use Rattle.program.specs.declared.numbered.Function.{Function}
use Rattle.program.specs.declared.numbered.Method.{Method}
use Rattle.program.specs.declared.numbered.MethodBody.{MethodBody}
use Rattle.program.specs.declared.numbered.MethodBody.TheVariants as does
use Rattle.program.specs.declared.numbered.SitePlace.{SitePlace}
use Rattle.program.specs.declared.numbered.SitePlace.TheVariants as place
use Rattle.program.specs.declared.numbered.Selector.{Selector}
use Rattle.program.specs.declared.numbered.SelectorKind.TheVariants.{Call, Get, Set}
use Rattle.program.specs.declared.numbered.Site.{Site}
use Rattle.program.specs.Bodies as c
use Rattle.program.specs.Hierarchy.{IsPreorder, ends_within}
use Rattle.program.specs.Parts.{Parts, parents, supers, selector_at}
use Rattle.program.specs.Lookup.{no_such_method}
use Rattle.program.specs.BuiltIn.{built_in_members, built_in_classes}
use Rattle.program.specs.Sizes.{size}
use Rattle.program.specs.Sound.{Is, Accepts, ConstructorAccepts, Sound, AllSound, SoundStas, SoundBody}
use Rattle.program.specs.Whole.{IsSound, IsClass, SoundClass, IsNamed, IsMethod, SoundMethod, SoundCode, Declares, HasSoundConstructor, SoundConstructor, IsFunction, AreDistinct, same_member, same_name, TakesByRole, SuperAccepts, passed, IsPlaced, IsSite, IsSelector}
use Rattle.program.proofs.Props.{Is-prop, ConstructorAccepts-prop, AllSound-prop, SoundStas-prop, SoundBody-prop}
use Rattle.program.proofs.Each.{slice_get-take}
use Rattle.program.proofs.Always.{always}

module _ (p : Parts) (sound : ∥ IsSound p ∥₁) where
  -- Bounds.

  pub few_classes : length p.classes ≤ 2048
  few_classes = ∥∥₁_elim sound le_prop (λ i. i.few_classes)

  pub few_methods : length p.methods ≤ 32767
  few_methods = ∥∥₁_elim sound le_prop (λ i. i.few_methods)

  pub few_functions : length p.functions + (length p.classes - 7) ≤ 32767
  few_functions = ∥∥₁_elim sound le_prop (λ i. i.few_functions)

  pub few_selectors : length p.selectors ≤ 2048
  few_selectors = ∥∥₁_elim sound le_prop (λ i. i.few_selectors)

  pub few_sites : length p.sites ≤ 65536
  few_sites = ∥∥₁_elim sound le_prop (λ i. i.few_sites)

  pub few_nodes : size p < 2 ^ 26
  few_nodes = ∥∥₁_elim sound le_prop (λ i. i.few_nodes)

  -- Classes.

  pub order : IsPreorder (parents p.classes)
  order = ∥∥₁_elim sound (hlevel props) (λ i. i.order)

  pub acyclic : (class : ℕ) → IsTrue (ends_within (length p.classes) (supers p.classes) class)
  acyclic = ∥∥₁_elim sound (hlevel props) (λ i. i.acyclic)

  class_is : (class : ℕ) (k : Class) → slice_get p.classes class ≡ Some k → IsSound p → SoundClass p class k
  class_is class k here i = subst (IsClass p class) here (i.classes class)

  pub class_ascii : (class : ℕ) (k : Class) → slice_get p.classes class ≡ Some k → IsAscii k.name
  class_ascii class k here = ∥∥₁_elim sound (hlevel props) (λ i. (class_is class k here i).text)

  pub class_text : (class : ℕ) (k : Class) → slice_get p.classes class ≡ Some k → IsUtf8 k.name
  class_text class k here = IsUtf8-from_ascii k.name (class_ascii class k here)

  pub parent_there : (class : ℕ) (k : Class) (d : ClassId) → slice_get p.classes class ≡ Some k → k.parent ≡ Some d → d.0 < length p.classes
  parent_there class k d here is = ∥∥₁_elim sound le_prop (λ i. (subst (IsNamed p) is (class_is class k here i).parent).0)

  pub interface_there : (class at : ℕ) (k : Class) (d : ClassId) → slice_get p.classes class ≡ Some k → slice_get k.interfaces at ≡ Some d → d.0 < length p.classes
  interface_there class at k d here is = ∥∥₁_elim sound le_prop (λ i. (subst (IsNamed p) is ((class_is class k here i).interfaces at)).0)

  pub built_in_class_at : (class : ℕ) → class < 7 → slice_get p.classes class ≡ slice_get built_in_classes class
  built_in_class_at class lt = ∥∥₁_elim sound (Coded-set (coded_option class_codes.the_row.coded) _ _) (λ i. sym (slice_get-take p.classes 7 class lt) ∙ ap (λ (ks : List Class). slice_get ks class) i.built_in_classes)

  -- Constructors.

  constructor_is : (class : ℕ) (k : Class) (b : Constructor) → slice_get p.classes class ≡ Some k → k.constructor ≡ Some b → IsSound p → SoundConstructor p class b
  constructor_is class k b here is i = subst (HasSoundConstructor p class) is (class_is class k here i).constructor

  pub each_parameter : (class : ℕ) (k : Class) (b : Constructor) → slice_get p.classes class ≡ Some k → k.constructor ≡ Some b → length b.sets ≡ b.required + length b.defaults
  each_parameter class k b here is = ∥∥₁_elim sound (hlevel props) (λ i. (constructor_is class k b here is i).each)

  pub sets_declared : (class at field : ℕ) (k : Class) (b : Constructor) → slice_get p.classes class ≡ Some k → k.constructor ≡ Some b → slice_get b.sets at ≡ Some (Some field) → Declares p class field
  sets_declared class at field k b here is set = ∥∥₁_elim sound (hlevel props) (λ i. subst (Rattle.program.specs.Whole.SetsField p class) set ((constructor_is class k b here is i).sets at))

  pub passes_sound : (class : ℕ) (k : Class) (b : Constructor) → slice_get p.classes class ≡ Some k → k.constructor ≡ Some b → AllSound p None (length b.sets) (c.exps (map c.exp b.passes))
  passes_sound class k b here is = ∥∥₁_elim sound (AllSound-prop p None (length b.sets) (c.exps (map c.exp b.passes))) (λ i. (constructor_is class k b here is i).passes)

  pub constructor_sound : (class : ℕ) (k : Class) (b : Constructor) → slice_get p.classes class ≡ Some k → k.constructor ≡ Some b → SoundStas p (Some class) false (length b.sets) false (c.stas (map c.sta b.body))
  constructor_sound class k b here is = ∥∥₁_elim sound (SoundStas-prop p (Some class) false (length b.sets) false (c.stas (map c.sta b.body))) (λ i. (constructor_is class k b here is i).body)

  -- Members.

  method_is : (m : ℕ) (k : Method) → slice_get p.methods m ≡ Some k → IsSound p → SoundMethod p m k
  method_is m k here i = subst (IsMethod p m) here (i.methods m)

  code_is : (m : ℕ) (k : Method) (b : MethodBody) → slice_get p.methods m ≡ Some k → k.body ≡ b → IsSound p → SoundCode p m k b
  code_is m k b here is i = subst (SoundCode p m k) is (method_is m k here i).code

  pub owner_there : (m : ℕ) (k : Method) → slice_get p.methods m ≡ Some k → k.owner.0 < length p.classes
  owner_there m k here = ∥∥₁_elim sound le_prop (λ i. (method_is m k here i).owner)

  pub methods_differ : AreDistinct same_member p.methods
  methods_differ = ∥∥₁_elim sound (hlevel props) (λ i. i.methods_differ)

  pub native_is : (m : ℕ) (k : Method) (n : ℕ) → slice_get p.methods m ≡ Some k → k.body ≡ does.Native (record { 0 = n }) → (n ≡ m) × (m < 49)
  native_is m k n here is = ∥∥₁_elim sound (hlevel props) (code_is m k (does.Native (record { 0 = n })) here is)

  pub read_declared : (m field : ℕ) (k : Method) → slice_get p.methods m ≡ Some k → k.body ≡ does.ReadField field → Declares p k.owner.0 field
  read_declared m field k here is = ∥∥₁_elim sound (hlevel props) (λ i. (code_is m k (does.ReadField field) here is i).2)

  pub write_declared : (m field : ℕ) (k : Method) → slice_get p.methods m ≡ Some k → k.body ≡ does.WriteField field → Declares p k.owner.0 field
  write_declared m field k here is = ∥∥₁_elim sound (hlevel props) (λ i. (code_is m k (does.WriteField field) here is i).2)

  -- The body of a member is sound in a frame of its parameters.
  pub method_sound : (m : ℕ) (k : Method) (b : Body) → slice_get p.methods m ≡ Some k → k.body ≡ does.Code b → SoundBody p (Some k.owner.0) (k.required + length k.defaults) b
  method_sound m k b here is = ∥∥₁_elim sound (SoundBody-prop p (Some k.owner.0) (k.required + length k.defaults) b) (λ i. (code_is m k (does.Code b) here is i).1)

  pub built_in_member_at : (m : ℕ) → m < 49 → slice_get p.methods m ≡ slice_get built_in_members m
  built_in_member_at m lt = ∥∥₁_elim sound (Coded-set (coded_option method_codes.the_row.coded) _ _) (λ i. sym (slice_get-take p.methods 49 m lt) ∙ ap (λ (ks : List Method). slice_get ks m) i.built_in_members)

  -- Each class finds a `noSuchMethod`.
  pub always_found : (class : ℕ) → class < length p.classes → no_such_method p class ≡ Some (unwrap_or (no_such_method p class) 2)
  always_found class lt = ∥∥₁_elim sound (hlevel props) (λ i. let some = always p i class lt in some.1 ∙ ap (λ o. Some (unwrap_or o 2)) (sym some.1))

  -- Functions and sites.

  -- The body of a function is sound in a frame of its parameters.
  pub function_sound : (f : ℕ) (k : Function) → slice_get p.functions f ≡ Some k → SoundBody p None (k.required + length k.defaults) k.body
  function_sound f k here = ∥∥₁_elim sound (SoundBody-prop p None (k.required + length k.defaults) k.body) (λ i. subst (IsFunction p) here (i.functions f))

  pub functions_differ : AreDistinct same_name p.functions
  functions_differ = ∥∥₁_elim sound (hlevel props) (λ i. i.functions_differ)

  pub prelude : 2 ≤ length p.sites
  prelude = ∥∥₁_elim sound le_prop (λ i. i.prelude)

  pub selector_there : (s : ℕ) (site : Site) → slice_get p.sites s ≡ Some site → site.selector.0 < length p.selectors
  selector_there s site here = ∥∥₁_elim sound le_prop (λ i. (subst (IsSite p s) here (i.sites s)).0)

  pub selector_ascii : (s : ℕ) (sel : Selector) → slice_get p.selectors s ≡ Some sel → IsAscii sel.name
  selector_ascii s sel here = ∥∥₁_elim sound (hlevel props) (λ i. (subst IsSelector here (i.selectors s)).0)

  -- the selector of a site, as it is read by two indices
  pub selector_read : (s : ℕ) (d : Site) (x : Selector) → s < length p.sites → x ≡ get_or p.selectors (get_or p.sites s d).selector.0 x → Some x ≡ selector_at p s
  selector_read s d x lt e =
      let here : slice_get p.sites s ≡ Some (get_or p.sites s d) = slice_get-get_or p.sites s d lt in
      sym (ap (option_and_then (λ (site : Site). slice_get p.selectors site.selector.0)) here
      ∙ slice_get_read p.selectors (length p.selectors) (get_or p.sites s d).selector.0 x refl (selector_there s (get_or p.sites s d) here) e)

  -- In a sound body each slot and each global that is named is there.

  pub slot_open : (here : Option ℕ) (slots k : ℕ) → Sound p here slots (c.local k) → k < slots
  slot_open here slots k h = h

  pub global_there : (here : Option ℕ) (slots k : ℕ) → Sound p here slots (c.global k) → k < length p.globals
  global_there here slots k h = h

  -- What members and constructors take.

  pub getter_takes : (m : ℕ) (k : Method) → slice_get p.methods m ≡ Some k → k.role ≡ Get → (k.required ≡ 0) × (length k.defaults ≡ 0)
  getter_takes m k here role = ∥∥₁_elim sound (hlevel props) (λ i. subst (λ r. TakesByRole r k.required (length k.defaults)) role (method_is m k here i).takes)

  pub setter_takes : (m : ℕ) (k : Method) → slice_get p.methods m ≡ Some k → k.role ≡ Set → (k.required ≡ 1) × (length k.defaults ≡ 0)
  setter_takes m k here role = ∥∥₁_elim sound (hlevel props) (λ i. subst (λ r. TakesByRole r k.required (length k.defaults)) role (method_is m k here i).takes)

  pub missing_takes_one : (m : ℕ) (k : Method) → slice_get p.methods m ≡ Some k → k.role ≡ Call → k.name ≡ codes "noSuchMethod" → Accepts k.required (length k.defaults) 1
  missing_takes_one m k here role name = ∥∥₁_elim sound (hlevel props) (λ i. (method_is m k here i).no_such_method role name)

  pub user_owner : (m : ℕ) (k : Method) → slice_get p.methods m ≡ Some k → 49 ≤ m → 7 ≤ k.owner.0
  user_owner m k here user = ∥∥₁_elim sound le_prop (λ i. (method_is m k here i).of_user user)

  -- The superclass's constructor takes what it is passed.
  pub super_takes : (class : ℕ) (k : Class) (d : ClassId) → slice_get p.classes class ≡ Some k → k.parent ≡ Some d → ConstructorAccepts (passed k.constructor) (option_and_then (λ (up : Class). up.constructor) (slice_get p.classes d.0))
  super_takes class k d here is = ∥∥₁_elim sound (ConstructorAccepts-prop (passed k.constructor) (option_and_then (λ (up : Class). up.constructor) (slice_get p.classes d.0))) (λ i. subst (SuperAccepts p (passed k.constructor)) is (class_is class k here i).above)

  -- The sites of `print` and of a list's text call `toString`.

  at_print : (s : ℕ) (at : SitePlace) → IsPlaced p s at → s + 2 ≡ length p.sites → Is Call (codes "toString") 0 (selector_at p s)
  at_print s (place.At line column) h e = absurd (omega arith)
  at_print s place.Print h e = h.1
  at_print s place.List h e = let one = h.0 in absurd (omega arith)

  at_list : (s : ℕ) (at : SitePlace) → IsPlaced p s at → s + 1 ≡ length p.sites → Is Call (codes "toString") 0 (selector_at p s)
  at_list s (place.At line column) h e = absurd (omega arith)
  at_list s place.Print h e = let one = h.0 in absurd (omega arith)
  at_list s place.List h e = h.1

  placed : (s : ℕ) → s < length p.sites → IsSound p → (at : SitePlace) × IsPlaced p s at
  placed s lt i =
      let none : Site = record { selector = record { 0 = 0 }; place = place.Print } in
      let site : Site = get_or p.sites s none in
      (site.place, (subst (IsSite p s) (slice_get-get_or p.sites s none lt) (i.sites s)).1)

  pub print_site : (s : ℕ) → s + 2 ≡ length p.sites → Is Call (codes "toString") 0 (selector_at p s)
  print_site s e = ∥∥₁_elim sound (Is-prop Call (codes "toString") 0 (selector_at p s)) (λ i. let at = placed s (omega arith) i in at_print s at.0 at.1 e)

  pub list_site : (s : ℕ) → s + 1 ≡ length p.sites → Is Call (codes "toString") 0 (selector_at p s)
  list_site s e = ∥∥₁_elim sound (Is-prop Call (codes "toString") 0 (selector_at p s)) (λ i. let at = placed s (omega arith) i in at_list s at.0 at.1 e)
