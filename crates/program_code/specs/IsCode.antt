-- The code of a program: what its pool holds.
use Rattle.std.specs.Prelude.{◌≡◌, ℕ, pos, ◌+◌, ◌-◌, ◌<◌, ◌≤◌, Bool, true, false, nat_eq, List, [], length, map, slice_get, Option, Some, None, codes}
use Rattle.program.specs.declared.ids.SelectorId.{SelectorId}
use Rattle.program.specs.declared.ids.UnitId.{UnitId}
use Rattle.program.specs.declared.literal.Literal.{Literal}
use Rattle.program.specs.declared.literal.Literal.TheVariants as literals
use Rattle.program.specs.declared.body.Body.{Body}
use Rattle.program.specs.declared.numbered.Constructor.{Constructor}
use Rattle.program.specs.declared.numbered.Function.{Function}
use Rattle.program.specs.declared.numbered.Method.{Method}
use Rattle.program.specs.declared.numbered.MethodBody as program_body
use Rattle.program.specs.declared.numbered.MethodBody.TheVariants as does
use Rattle.program.specs.declared.numbered.Site.{Site}
use Rattle.program.specs.Bodies as c
use Rattle.program.specs.Bodies.{Exps, Stas}
use Rattle.program.specs.Parts.{Parts}
use Rattle.dart_meaning.specs.Calls.{list_to_string}
use Rattle.dart_meaning.specs.Numbered as n
use Rattle.code_unit.specs.declared.unit.Unit as declared_unit
use Rattle.code_pool.specs.declared.pool.MethodBody.TheVariants as pooled
use Rattle.code_pool.specs.Pool.{Pool}
use Rattle.program_code.specs.Code as d
use Rattle.program_code.specs.Depths.{depths_from, list_text_depths}
use Rattle.program_code.specs.Needs.{CoversBody, CoversAll, CoversStas, RoomyBody, RoomyAll}

-- the unit of a number
abbrev pub unit_id : ℕ → UnitId
unit_id u = record { 0 = u }

-- the slot of a body's first parameter: `this` stands before it, where there is one
abbrev pub first_of : Bool → ℕ
first_of true = 1
first_of false = 0

-- the selector that a site calls
abbrev pub selector_of : Site → SelectorId
selector_of s = s.selector

-- ---- a constructor, or that of a class where none is written

-- what it passes on
abbrev pub passes_of : Option Constructor → Exps
passes_of None = c.no_more
passes_of (Some b) = c.exps (map c.exp b.passes)

-- its body
abbrev pub body_of : Option Constructor → Stas
body_of None = c.end_of
body_of (Some b) = c.stas (map c.sta b.body)

-- the field that each parameter sets
abbrev pub sets_of : Option Constructor → List (Option ℕ)
sets_of None = []
sets_of (Some b) = b.sets

-- the parameters without a default
abbrev pub required_of : Option Constructor → ℕ
required_of None = 0
required_of (Some b) = b.required

-- the defaults of the others
abbrev pub defaults_of : Option Constructor → List Literal
defaults_of None = []
defaults_of (Some b) = b.defaults

-- ---- units

-- `constant` gives the number of a literal among the constants.
module _ (p : Parts) (constants : List Literal) (constant : Literal → ℕ) where
  -- a literal is there, at its number
  abbrev pub Known : Literal → Type 0
  Known l = slice_get constants (constant l) ≡ Some l

  -- The unit is the code of a body with so many required parameters, and these defaults: room for variables, for values that are used twice and for arguments, and its literals known.
  pub record BodyCode (of_this : Bool) (b : Body) (required : ℕ) (defaults : List Literal) (unit : declared_unit.Unit) : Type 0 where
    pub takes : unit.params ≡ first_of of_this + (required + length defaults)
    pub defaults_are : unit.defaults ≡ defaults
    pub scratch : ℕ
    pub most : ℕ
    pub room : ℕ
    pub apart : first_of of_this + most ≤ scratch
    pub spares : scratch + 1 ≤ unit.locals
    pub rooms : scratch + room ≤ unit.locals
    pub small : required + length defaults ≤ most
    pub code : unit.code ≡ d.body_code p constant (first_of of_this) scratch b (required + length defaults)
    pub depths : unit.depths ≡ depths_from 0 unit.code
    pub covers : CoversBody Known room b
    pub roomy : RoomyBody most (required + length defaults) b

  -- The unit is the code of the text of a list, which is `this`; its other two slots are its own.
  pub record ListCode (unit : declared_unit.Unit) : Type 0 where
    pub takes : unit.params ≡ 1
    pub defaults_are : unit.defaults ≡ []
    pub three : 3 ≤ unit.locals
    pub code : unit.code ≡ d.list_text_code p constant 1 1
    pub depths : unit.depths ≡ list_text_depths

  -- The unit is the code of a class's constructor, written or not.
  pub record ConstructorCode (class : ℕ) (o : Option Constructor) (unit : declared_unit.Unit) : Type 0 where
    pub takes : unit.params ≡ 1 + (required_of o + length (defaults_of o))
    pub defaults_are : unit.defaults ≡ defaults_of o
    pub scratch : ℕ
    pub most : ℕ
    pub room : ℕ
    pub apart : 1 + most ≤ scratch
    pub spares : scratch + 1 ≤ unit.locals
    pub rooms : scratch + room ≤ unit.locals
    pub small : required_of o + length (defaults_of o) ≤ most
    pub code : unit.code ≡ d.constructor_code p constant 1 scratch (n.class_above p class) (sets_of o) (passes_of o) (body_of o) (required_of o + length (defaults_of o))
    pub depths : unit.depths ≡ depths_from 0 unit.code
    -- Object's constructor is passed nothing, and not entered.
    pub passes_cover : nat_eq (n.class_above p class) 0 ≡ false → CoversAll Known room (passes_of o)
    pub covers : CoversStas Known room (body_of o)
    pub roomy : RoomyAll most (required_of o + length (defaults_of o)) (body_of o)

-- ---- a pool

module _ (p : Parts) (pool : Pool) (constant : Literal → ℕ) where
  -- unit u of the pool has the property
  pub record HasUnit (u : ℕ) (P : declared_unit.Unit → Type 0) : Type 0 where
    pub unit : declared_unit.Unit
    pub there : slice_get pool.units u ≡ Some unit
    pub is : P unit

  -- What the pool has for member m: a native one is itself, but for the text of a list, which is a unit.
  abbrev pub MethodCode : ℕ → Method → program_body.MethodBody → Type 0
  MethodCode m k (does.Native x) =
      (nat_eq x.0 list_to_string ≡ false → slice_get pool.methods m ≡ Some (pooled.Native x))
      × (nat_eq x.0 list_to_string ≡ true → (u : ℕ) × (slice_get pool.methods m ≡ Some (pooled.Code (unit_id u))) × HasUnit u (ListCode p pool.constants constant))
  MethodCode m k (does.ReadField field) = slice_get pool.methods m ≡ Some (pooled.ReadField field)
  MethodCode m k (does.WriteField field) = slice_get pool.methods m ≡ Some (pooled.WriteField field)
  MethodCode m k (does.Code b) =
      (u : ℕ) × (slice_get pool.methods m ≡ Some (pooled.Code (unit_id u)))
      × HasUnit u (BodyCode p pool.constants constant true b k.required k.defaults)

  -- null, and the literals of a list's text
  pub record LiteralsThere : Type 0 where
    pub null : Known p pool.constants constant literals.Null
    pub open_bracket : Known p pool.constants constant (literals.Str (codes "["))
    pub zero : Known p pool.constants constant (literals.Int (pos 0))
    pub no_text : Known p pool.constants constant (literals.Str [])
    pub comma : Known p pool.constants constant (literals.Str (codes ", "))
    pub close_bracket : Known p pool.constants constant (literals.Str (codes "]"))

  -- Each function, constructor and member of the program has its unit. An entry point is entered by the number of its function.
  pub record IsCode : Type 0 where
    pub literals_there : LiteralsThere
    pub sites : pool.sites ≡ map selector_of p.sites
    pub functions : (g : ℕ) (k : Function) → slice_get p.functions g ≡ Some k
        → (u : ℕ) × (slice_get pool.statics g ≡ Some (unit_id u)) × HasUnit u (BodyCode p pool.constants constant false k.body k.required k.defaults)
    pub entries : (g : ℕ) → g < length p.functions → slice_get pool.entries g ≡ slice_get pool.statics g
    pub methods : (m : ℕ) (k : Method) → slice_get p.methods m ≡ Some k → MethodCode m k k.body
    pub constructors : (class : ℕ) → 7 ≤ class → class < length p.classes
        → (u : ℕ) × (slice_get pool.statics (length p.functions + (class - 7)) ≡ Some (unit_id u))
        × HasUnit u (ConstructorCode p pool.constants constant class (n.constructor_of p class))

-- what a unit of the pool is there for
pub data HasUse (p : Parts) (pool : Pool) (u : ℕ) : Type 0 where
  of_function : (f : ℕ) → f < length p.functions → slice_get pool.statics f ≡ Some (unit_id u) → HasUse p pool u
  of_constructor : (class : ℕ) → 7 ≤ class → class < length p.classes
      → slice_get pool.statics (length p.functions + (class - 7)) ≡ Some (unit_id u) → HasUse p pool u
  of_member : (m : ℕ) → m < length p.methods → slice_get pool.methods m ≡ Some (pooled.Code (unit_id u)) → HasUse p pool u

-- the pool has no other unit
abbrev pub HasNoOtherUnit : Parts → Pool → Type 0
HasNoOtherUnit p pool = (u : ℕ) → u < length pool.units → HasUse p pool u

-- Some numbering of the literals makes the pool the code of the program.
pub record HasCode (p : Parts) (pool : Pool) : Type 0 where
  pub constant : Literal → ℕ
  pub is_code : IsCode p pool constant
