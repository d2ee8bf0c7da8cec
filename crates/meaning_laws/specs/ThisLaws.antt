-- `this` in a body is an object of the class that holds the body, or of one below it.
use Rattle.std.specs.Prelude.{List, ◌≡◌, ℕ, ◌<◌, ◌≤◌, Bool, [], ◌∷◌, ◌++◌, length, IsTrue, slice_get, Option, Some, None}
use Rattle.std.specs.Option.{option_map}
use Rattle.program.specs.declared.numbered.Method.{Method}
use Rattle.program.specs.declared.numbered.Selector.{Selector}
use Rattle.program.specs.Bodies.{Exp, Sta}
use Rattle.program.specs.BuiltIn.{is_open}
use Rattle.program.specs.BuiltIn as built_in
use Rattle.program.specs.Hierarchy.{is_above}
use Rattle.program.specs.Lookup.{found_by}
use Rattle.program.specs.Parts.{Parts, parents}
use Rattle.program.specs.Sound.{AboveAccepts, Sound, SoundSta}
use Rattle.program.specs.Whole.{IsSound, Declares}
use Rattle.dart_values.specs.Natives.{thing_at}
use Rattle.dart_values.specs.Reads.{object_fields}
use Rattle.dart_values.specs.Values.{Value, at, Heap, object, class_of, list}
use Rattle.dart_meaning.specs.Numbered.{Code, the_function, the_method, the_constructor, method_at, constructor_at, class_above, fields, value, doing, inside, enter}
use Rattle.dart_meaning.specs.Program.{coded, Entry, running, listing}
use Rattle.dart_meaning.specs.Run.{Run, M}
use Rattle.meaning_laws.specs.Laws.{IfWent, IsHeap}

-- v is an object of the class, one of the user's, or of one below it; nothing where there is no class
abbrev pub IsOf : Parts → Heap → Option ℕ → Value → Type 0
IsOf p heap None v = Unit {0}
IsOf p heap (Some class) v = (7 ≤ class) × IsTrue (is_above (parents p.classes) class (class_of heap v))

-- the class that holds the code
abbrev pub holder : Parts → Code → Option ℕ
holder p (the_function f) = None
holder p (the_method m) = option_map (λ (k : Method). k.owner.0) (slice_get p.methods m)
holder p (the_constructor class) = Some class

-- Code may be entered with this value as `this`.
abbrev pub MayEnter : Parts → Heap → Code → Value → Type 0
MayEnter p heap code v = IsOf p heap (holder p code) v

-- What a call finds on a class may be entered with each value of that class.
abbrev pub CallsMayEnter : Type 0
CallsMayEnter = (p : Parts) → IsSound p → (heap : Heap) (v : Value) (sel : Selector) (m : ℕ) (code : Code) →
    found_by p (class_of heap v) sel ≡ Some m → method_at p m ≡ Some (coded code) → MayEnter p heap code v

-- What a body calls by `super` may be entered with its `this`.
abbrev pub SupersMayEnter : Type 0
SupersMayEnter = (p : Parts) → IsSound p → (heap : Heap) (me : Value) (class m count : ℕ) (code : Code) → IsOf p heap (Some class) me →
    AboveAccepts p (Some class) m count (slice_get p.methods m) → method_at p m ≡ Some (coded code) → MayEnter p heap code me

-- The constructor of the superclass may be entered with the object that is made.
abbrev pub ConstructorsMayEnter : Type 0
ConstructorsMayEnter = (p : Parts) → IsSound p → (heap : Heap) (me : Value) (class : ℕ) (code : Code) → IsOf p heap (Some class) me →
    constructor_at (class_above p class) ≡ Some code → MayEnter p heap code me

-- The constructor of a class may be entered with a new object of it.
abbrev pub NewObjectsMayEnter : Type 0
NewObjectsMayEnter = (p : Parts) → IsSound p → (heap : Heap) (class : ℕ) (code : Code) → IsTrue (is_open class) →
    constructor_at class ≡ Some code → MayEnter p (heap ++ object class (fields p class) ∷ []) code (at (length heap))

-- Behind an expression of a body, `this` is still such an object.
abbrev pub ExpressionsLeaveThis : Type 0
ExpressionsLeaveThis = (p : Parts) → IsSound p → (here : Option ℕ) (slots : ℕ) (e : Exp) → Sound p here slots e →
    (depth : ℕ) (r : Run Value) → IsOf p r.store.heap here r.this →
    IfWent (value p (enter p depth) e r) (λ s. IsOf p s.store.heap here s.this)

-- Behind a statement too.
abbrev pub StatementsLeaveThis : Type 0
StatementsLeaveThis = (p : Parts) → IsSound p → (here : Option ℕ) (answers loops : Bool) (slots : ℕ) (x : Sta) → SoundSta p here answers slots loops x →
    (depth : ℕ) (r : Run Value) → IsOf p r.store.heap here r.this →
    IfWent (doing p (enter p depth) x r) (λ s. IsOf p s.store.heap here s.this)

-- an entry with such a `this`
abbrev pub Fits : Parts → Heap → Entry Code → Type 0
Fits p heap (running code me args) = MayEnter p heap code me
Fits p heap (listing v) = Unit {0}

-- Whatever an entry enters has such a `this`: how the others would be entered does not matter.
abbrev pub AllEntriesFit : Type 0
AllEntriesFit = (p : Parts) → IsSound p → (depth : ℕ) (other : Entry Code → M Value Value) →
    ((x : Entry Code) (r : Run Value) → Fits p r.store.heap x → other x r ≡ enter p depth x r) →
    (x : Entry Code) (r : Run Value) → Fits p r.store.heap x → inside p other x r ≡ inside p (enter p depth) x r

-- An object has each field that its class declares, or one above it.
abbrev pub DeclaredFieldsAreThere : Type 0
DeclaredFieldsAreThere = (p : Parts) → IsSound p → (heap : Heap) (v : Value) (owner field : ℕ) → IsHeap p heap → IsOf p heap (Some owner) v →
    Declares p owner field → field < length (object_fields (thing_at heap v))

-- What is of class List is a list.
abbrev pub ListsAreThere : Type 0
ListsAreThere = (p : Parts) (heap : Heap) (v : Value) → IsHeap p heap → class_of heap v ≡ built_in.list →
    (items : List Value) × (thing_at heap v ≡ Some (list items))
