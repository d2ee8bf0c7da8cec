-- Units that are the code of their bodies, whatever constants come after them.
use Rattle.std.specs.Prelude.{◌≡◌, ℕ, ◌+◌, ◌<◌, ◌≤◌, Bool, true, false, nat_eq, List, [], ◌∷◌, ◌++◌, length, slice_get, Option, Some, None, max, pos, codes, ◌-◌, map}
use Rattle.program.specs.declared.ids.UnitId.{UnitId}
use Rattle.program.specs.declared.literal.Literal.{Literal}
use Rattle.program.specs.declared.literal.Literal.TheVariants as literals
use Rattle.program.specs.declared.body.Body.{Body}
use Rattle.program.specs.declared.numbered.Class.{Class}
use Rattle.program.specs.declared.numbered.Constructor.{Constructor}
use Rattle.program.specs.declared.numbered.Function.{Function}
use Rattle.program.specs.declared.numbered.Method.{Method}
use Rattle.program.specs.declared.numbered.MethodBody as program_body
use Rattle.program.specs.declared.numbered.MethodBody.TheVariants as does
use Rattle.program.specs.Bodies.{Exps, Stas, exp, exps}
use Rattle.code_writer.specs.Views.{stas_of}
use Rattle.compiler.specs.declared.units.ConstructorParts.{ConstructorParts}
use Rattle.program.specs.Parts.{Parts}
use Rattle.dart_meaning.specs.Calls.{list_to_string}
use Rattle.dart_meaning.specs.Numbered as n
use Rattle.code_unit.specs.declared.unit.Unit as declared_unit
use Rattle.code_pool.specs.declared.pool.MethodBody as pool_body
use Rattle.code_pool.specs.declared.pool.MethodBody.TheVariants as pooled
use Rattle.program_code.specs.Depths.{depths_from, list_text_depths}
use Rattle.program_code.specs.IsCode.{BodyCode, ConstructorCode, ListCode, passes_of, body_of, sets_of, required_of, defaults_of, unit_id}
use Rattle.code_writer.specs.declared.layout.Layout.{Layout}
use Rattle.code_writer.specs.Constants.{number_in}
use Rattle.code_writer.specs.Laws.{IsLayout, IsKnown}
use Rattle.code_writer.specs.Out.{Out, turned}

-- the unit of what is written, with its parameters and slots
pub record IsUnit (s : Out) (params scratch : ℕ) (defaults : List Literal) (unit : declared_unit.Unit) : Type 0 where
  pub code : unit.code ≡ turned (length s.code) s.code
  pub depths : unit.depths ≡ depths_from 0 unit.code
  pub takes : unit.params ≡ params
  pub defaults_are : unit.defaults ≡ defaults
  pub locals : unit.locals ≡ scratch + max 1 s.room

-- What was written as a unit for the text of a list, whose depths are a list of their own.
pub record IsTextUnit (s : Out) (unit : declared_unit.Unit) : Type 0 where
  pub code : unit.code ≡ turned (length s.code) s.code
  pub depths : unit.depths ≡ list_text_depths
  pub takes : unit.params ≡ 1
  pub defaults_are : unit.defaults ≡ []
  pub locals : unit.locals ≡ 3

module _ (base : Layout) where
  -- the code of a body
  abbrev pub IsBodyUnit : List Literal → Bool → Body → ℕ → List Literal → declared_unit.Unit → Type 0
  IsBodyUnit table of_this b required defaults unit =
      (p : Parts) → IsLayout p base → (more : List Literal) → BodyCode p (table ++ more) (number_in (table ++ more)) of_this b required defaults unit

  -- the code of the constructor of a class
  abbrev pub IsConstructorUnit : List Literal → Class → declared_unit.Unit → Type 0
  IsConstructorUnit table k unit =
      (p : Parts) → IsLayout p base → (more : List Literal) → (class : ℕ) → slice_get p.classes class ≡ Some k
      → ConstructorCode p (table ++ more) (number_in (table ++ more)) class (n.constructor_of p class) unit

  -- the code of each constructor with these parts, below a class
  abbrev pub IsPartsUnit : List Literal → ℕ → List (Option ℕ) → Exps → Stas → ℕ → List Literal → declared_unit.Unit → Type 0
  IsPartsUnit table above sets passes all required defaults unit =
      (p : Parts) → IsLayout p base → (more : List Literal) → (class : ℕ) (o : Option Constructor) → n.class_above p class ≡ above
      → sets_of o ≡ sets → passes_of o ≡ passes → body_of o ≡ all → required_of o ≡ required → defaults_of o ≡ defaults
      → ConstructorCode p (table ++ more) (number_in (table ++ more)) class o unit

-- the literals of a list's text, and null
pub record HasListLiterals (all : List Literal) : Type 0 where
  pub null : IsKnown all literals.Null
  pub open_bracket : IsKnown all (literals.Str (codes "["))
  pub zero : IsKnown all (literals.Int (pos 0))
  pub no_text : IsKnown all (literals.Str [])
  pub comma : IsKnown all (literals.Str (codes ", "))
  pub close_bracket : IsKnown all (literals.Str (codes "]"))

-- the code of the text of a list, with its literals among the constants
abbrev pub IsListUnit : ℕ → List Literal → declared_unit.Unit → Type 0
IsListUnit list_site table unit =
    (p : Parts) → list_site ≡ length p.sites - 1 → (more : List Literal)
    → ListCode p (table ++ more) (number_in (table ++ more)) unit × HasListLiterals (table ++ more)

-- Units and constants that begin with these.
pub record Grows (units : List declared_unit.Unit) (table : List Literal) (units_now : List declared_unit.Unit) (table_now : List Literal) : Type 0 where
  pub more_units : List declared_unit.Unit
  pub units_are : units_now ≡ units ++ more_units
  pub more : List Literal
  pub begins : table_now ≡ table ++ more

-- the unit of a number has the property
pub record HasItem (units : List declared_unit.Unit) (id : UnitId) (P : declared_unit.Unit → Type 0) : Type 0 where
  pub unit : declared_unit.Unit
  pub there : slice_get units id.0 ≡ Some unit
  pub is : P unit

-- Each of the first `count` sources has its answer.
pub record Built {A B : Type 0} (P : A → B → Type 0) (sources : List A) (count : ℕ) (answers : List B) : Type 0 where
  pub as_many : length answers ≡ count
  pub each : (g : ℕ) (k : A) → g < count → slice_get sources g ≡ Some k → (r : B) × (slice_get answers g ≡ Some r) × P k r

-- Each unit from one number up to another is what some answer stands for.
pub record Reaches {B : Type 0} (item : ℕ → B) (answers : List B) (from to : ℕ) : Type 0 where
  pub on : from ≤ to
  pub each : (u : ℕ) → from ≤ u → u < to → (i : ℕ) × (slice_get answers i ≡ Some (item u))

-- Each unit from one number up to another is what this answer stands for.
pub record IsFor {B : Type 0} (item : ℕ → B) (answer : B) (from to : ℕ) : Type 0 where
  pub on : from ≤ to
  pub each : (u : ℕ) → from ≤ u → u < to → answer ≡ item u

-- the body of a member with unit u
abbrev pub code_of : ℕ → pool_body.MethodBody
code_of u = pooled.Code (unit_id u)

module _ (base : Layout) (units : List declared_unit.Unit) (table : List Literal) where
  -- what a function has
  abbrev pub FunctionHas : Function → UnitId → Type 0
  FunctionHas k id = HasItem units id (IsBodyUnit base table false k.body k.required k.defaults)

  -- what a class has
  abbrev pub ClassHas : Class → UnitId → Type 0
  ClassHas k id = HasItem units id (IsConstructorUnit base table k)

  -- what a member has, where the text of a list is this unit
  abbrev pub MemberHas : UnitId → program_body.MethodBody → Method → pool_body.MethodBody → Type 0
  MemberHas text (does.Native x) k r =
      (nat_eq x.0 list_to_string ≡ false → r ≡ pooled.Native x) × (nat_eq x.0 list_to_string ≡ true → r ≡ pooled.Code text)
  MemberHas text (does.ReadField field) k r = r ≡ pooled.ReadField field
  MemberHas text (does.WriteField field) k r = r ≡ pooled.WriteField field
  MemberHas text (does.Code b) k r =
      (id : UnitId) × (r ≡ pooled.Code id) × HasItem units id (IsBodyUnit base table true b k.required k.defaults)

  -- what a member has, by its body
  abbrev pub MethodHas : UnitId → Method → pool_body.MethodBody → Type 0
  MethodHas text k r = MemberHas text k.body k r

-- constants that begin with these
pub record BeginsWith (front all : List Literal) : Type 0 where
  pub more : List Literal
  pub is : all ≡ front ++ more

-- the parts of a constructor, written or not
pub record HasParts (o : Option Constructor) (parts : ConstructorParts) : Type 0 where
  pub required : required_of o ≡ parts.required
  pub defaults : defaults_of o ≡ parts.defaults.now
  pub sets : sets_of o ≡ parts.sets.now
  pub passes : passes_of o ≡ exps (map exp parts.passes.now)
  pub body : body_of o ≡ stas_of parts.body.now
