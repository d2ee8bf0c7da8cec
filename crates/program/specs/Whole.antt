-- All that is true of every numbered program.
use Rattle.std.specs.Prelude.{◌≡◌, ℕ, ◌+◌, ◌-◌, ◌^◌, ◌<◌, ◌≤◌, Bool, false, IsTrue, ◌&&◌, nat_eq, List, [], ◌∷◌, length, map, take, slice_get, Option, None, Some, option_and_then, codes, IsAscii}
use Rattle.std.specs.Str.{bytes_eq}
use Rattle.program.specs.declared.ids.ClassId.{ClassId}
use Rattle.program.specs.declared.numbered.Class.{Class}
use Rattle.program.specs.declared.numbered.Constructor.{Constructor}
use Rattle.program.specs.declared.numbered.Method.{Method}
use Rattle.program.specs.declared.numbered.MethodBody.{MethodBody}
use Rattle.program.specs.declared.numbered.MethodBody.TheVariants as does
use Rattle.program.specs.declared.numbered.Function.{Function}
use Rattle.program.specs.declared.numbered.Selector.{Selector}
use Rattle.program.specs.declared.numbered.SelectorKind.{SelectorKind}
use Rattle.program.specs.declared.numbered.SelectorKind.TheVariants.{Call, Get, Set}
use Rattle.program.specs.declared.numbered.Site.{Site}
use Rattle.program.specs.declared.numbered.SitePlace.{SitePlace}
use Rattle.program.specs.declared.numbered.SitePlace.TheVariants as place
use Rattle.program.specs.Bodies as c
use Rattle.program.specs.Hierarchy.{IsPreorder, ends_within, above_chain}
use Rattle.program.specs.Parts.{Parts, parents, supers, selector_at}
use Rattle.program.specs.Lookup.{same_kind}
use Rattle.program.specs.BuiltIn.{built_in_classes, built_in_members, is_open}
use Rattle.program.specs.Sizes.{size}
use Rattle.program.specs.Sound.{Is, Accepts, ConstructorAccepts, AllSound, SoundStas, SoundBody}

-- Fields. In an object the fields of the classes above come first, the highest class's before all.

-- how many fields a class itself declares
abbrev pub own_fields : Option Class → ℕ
own_fields None = 0
own_fields (Some k) = length k.fields

-- how many fields these classes declare
abbrev pub fields_of : List Class → List ℕ → ℕ
fields_of classes [] = 0
fields_of classes (c ∷ more) = own_fields (slice_get classes c) + fields_of classes more

-- how many fields stand before those that class c declares
abbrev pub fields_above : Parts → ℕ → ℕ
fields_above p c = fields_of p.classes (above_chain (parents p.classes) c)

-- a field that class c itself declares, by its place in the object
abbrev pub Declares : Parts → ℕ → ℕ → Type 0
Declares p c field = (fields_above p c ≤ field) × (field < fields_above p c + own_fields (slice_get p.classes c))

-- Classes.

-- only Object and the user's classes are extended or implemented
abbrev pub IsNamed : Parts → Option ClassId → Type 0
IsNamed p None = Unit {0}
IsNamed p (Some d) = (d.0 < length p.classes) × IsTrue (is_open d.0)

-- what a parameter sets, if it is a `this.x`, is a field of the class
abbrev pub SetsField : Parts → ℕ → Option (Option ℕ) → Type 0
SetsField p class (Some (Some field)) = Declares p class field
SetsField p class _ = Unit {0}

-- A constructor's `this.x` set fields that the class declares. What it passes on has no `this`; it and the body have a slot for each parameter.
pub record SoundConstructor (p : Parts) (class : ℕ) (b : Constructor) : Type 0 where
  pub each : length b.sets ≡ b.required + length b.defaults
  pub sets : (i : ℕ) → SetsField p class (slice_get b.sets i)
  pub passes : AllSound p None (length b.sets) (c.exps (map c.exp b.passes))
  pub body : SoundStas p (Some class) false (length b.sets) false (c.stas (map c.sta b.body))

-- a class need not have a written constructor
abbrev pub HasSoundConstructor : Parts → ℕ → Option Constructor → Type 0
HasSoundConstructor p class None = Unit {0}
HasSoundConstructor p class (Some b) = SoundConstructor p class b

-- how many arguments a class's constructor passes to that of the superclass
abbrev pub passed : Option Constructor → ℕ
passed None = 0
passed (Some b) = length b.passes

-- The constructor of the superclass takes what it is passed.
abbrev pub SuperAccepts : Parts → ℕ → Option ClassId → Type 0
SuperAccepts p n None = n ≡ 0
SuperAccepts p n (Some d) = ConstructorAccepts n (option_and_then (λ (k : Class). k.constructor) (slice_get p.classes d.0))

-- what holds of class number `class`, which is k
pub record SoundClass (p : Parts) (class : ℕ) (k : Class) : Type 0 where
  pub text : IsAscii k.name
  pub parent : IsNamed p k.parent
  pub interfaces : (i : ℕ) → IsNamed p (slice_get k.interfaces i)
  pub constructor : HasSoundConstructor p class k.constructor
  pub above : SuperAccepts p (passed k.constructor) k.parent

-- A number with no class asks nothing.
abbrev pub IsClass : Parts → ℕ → Option Class → Type 0
IsClass p class None = Unit {0}
IsClass p class (Some k) = SoundClass p class k

-- Members.

-- a getter has no parameters and a setter has one, without a default
abbrev pub TakesByRole : SelectorKind → ℕ → ℕ → Type 0
TakesByRole Call required defaults = Unit {0}
TakesByRole Get required defaults = (required ≡ 0) × (defaults ≡ 0)
TakesByRole Set required defaults = (required ≡ 1) × (defaults ≡ 0)

-- Only a built-in member has a native body, its own. A body that reads or writes a field is a getter or a setter of a class that declares it.
abbrev pub SoundCode : Parts → ℕ → Method → MethodBody → Type 0
SoundCode p m k (does.Native n) = (n.0 ≡ m) × (m < 49)
SoundCode p m k (does.ReadField field) = (49 ≤ m) × (k.role ≡ Get) × Declares p k.owner.0 field
SoundCode p m k (does.WriteField field) = (49 ≤ m) × (k.role ≡ Set) × Declares p k.owner.0 field
SoundCode p m k (does.Code b) = (49 ≤ m) × SoundBody p (Some k.owner.0) (k.required + length k.defaults) b

-- what holds of member number m, which is k
pub record SoundMethod (p : Parts) (m : ℕ) (k : Method) : Type 0 where
  pub owner : k.owner.0 < length p.classes
  pub of_user : 49 ≤ m → 7 ≤ k.owner.0
  pub takes : TakesByRole k.role k.required (length k.defaults)
  pub no_such_method : k.role ≡ Call → k.name ≡ codes "noSuchMethod" → Accepts k.required (length k.defaults) 1
  pub code : SoundCode p m k k.body

-- A number with no member asks nothing.
abbrev pub IsMethod : Parts → ℕ → Option Method → Type 0
IsMethod p m None = Unit {0}
IsMethod p m (Some k) = SoundMethod p m k

-- two members of one class, kind and name
abbrev pub same_member : Method → Method → Bool
same_member a b = nat_eq a.owner.0 b.owner.0 && (same_kind a.role b.role && bytes_eq a.name b.name)

-- two functions of one name
abbrev pub same_name : Function → Function → Bool
same_name a b = bytes_eq a.name b.name

-- no two places of a list have items that are the same
abbrev pub AreDistinct : {A : Type 0} → (A → A → Bool) → List A → Type 0
AreDistinct {A} same xs = (i j : ℕ) (a b : A) → slice_get xs i ≡ Some a → slice_get xs j ≡ Some b → IsTrue (same a b) → i ≡ j

-- Functions, selectors and sites.

-- A function's body stands in no class, and has a slot for each parameter.
abbrev pub IsFunction : Parts → Option Function → Type 0
IsFunction p None = Unit {0}
IsFunction p (Some f) = SoundBody p None (f.required + length f.defaults) f.body

-- a read has no argument, and a write has one
abbrev pub CountsByKind : SelectorKind → ℕ → Type 0
CountsByKind Call n = Unit {0}
CountsByKind Get n = n ≡ 0
CountsByKind Set n = n ≡ 1

-- a selector's name is ASCII, and its arguments fit its kind
abbrev pub IsSelector : Option Selector → Type 0
IsSelector None = Unit {0}
IsSelector (Some sel) = IsAscii sel.name × CountsByKind sel.kind sel.count

-- The last two sites are those of `print` and of a list's text, and both call `toString`.
abbrev pub IsPlaced : Parts → ℕ → SitePlace → Type 0
IsPlaced p s (place.At line column) = s + 2 < length p.sites
IsPlaced p s place.Print = (s + 2 ≡ length p.sites) × Is Call (codes "toString") 0 (selector_at p s)
IsPlaced p s place.List = (s + 1 ≡ length p.sites) × Is Call (codes "toString") 0 (selector_at p s)

-- a site's selector is there, and its place fits its number
abbrev pub IsSite : Parts → ℕ → Option Site → Type 0
IsSite p s None = Unit {0}
IsSite p s (Some site) = (site.selector.0 < length p.selectors) × IsPlaced p s site.place

-- what every numbered program keeps
pub record IsSound (p : Parts) : Type 0 where
  -- classes
  pub order : IsPreorder (parents p.classes)
  pub built_in_classes : take 7 p.classes ≡ built_in_classes
  pub classes : (class : ℕ) → IsClass p class (slice_get p.classes class)
  -- no class is above itself
  pub acyclic : (class : ℕ) → IsTrue (ends_within (length p.classes) (supers p.classes) class)
  -- members
  pub built_in_members : take 49 p.methods ≡ built_in_members
  pub methods : (m : ℕ) → IsMethod p m (slice_get p.methods m)
  pub methods_differ : AreDistinct same_member p.methods
  -- functions, selectors and sites
  pub functions : (f : ℕ) → IsFunction p (slice_get p.functions f)
  pub functions_differ : AreDistinct same_name p.functions
  pub selectors : (s : ℕ) → IsSelector (slice_get p.selectors s)
  pub prelude : 2 ≤ length p.sites
  pub sites : (s : ℕ) → IsSite p s (slice_get p.sites s)
  -- bounds
  pub few_classes : length p.classes ≤ 2048
  pub few_methods : length p.methods ≤ 32767
  pub few_functions : length p.functions + (length p.classes - 7) ≤ 32767
  pub few_selectors : length p.selectors ≤ 2048
  pub few_sites : length p.sites ≤ 65536
  pub few_nodes : size p < 2 ^ 26
