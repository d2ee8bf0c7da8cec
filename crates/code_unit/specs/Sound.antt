-- Sound units: no step of a run of the code leaves it, and none lacks a slot or an operand.
use Rattle.std.specs.Prelude.{◌≡◌, ℕ, ◌+◌, ◌-◌, ◌<◌, ◌≤◌, length, slice_get, Some, IfSome}
use Rattle.std.specs.Bool.{OnTrue}
use Rattle.code_unit.specs.declared.instr.Instr.{Instr}
use Rattle.code_unit.specs.declared.unit.Unit.{Unit}
use Rattle.code_unit.specs.declared.effect.Effect.{Effect}
use Rattle.code_unit.specs.Effects.{effect}

-- this instruction stands at the place
abbrev pub IsAt : Unit → ℕ → Instr → Type 0
IsAt u t i = slice_get u.code t ≡ Some i

-- the place is in the code, and so many operands are stated for it
abbrev pub IsDepth : Unit → ℕ → ℕ → Type 0
IsDepth u t d = slice_get u.depths t ≡ Some d

-- the place that an instruction may jump to is in the code
abbrev pub JumpsInCode : Unit → Effect → Type 0
JumpsInCode u e = IfSome e.jump (λ to. to < length u.code)

-- where it goes on, the next place is in the code
abbrev pub GoesOnInCode : Unit → ℕ → Effect → Type 0
GoesOnInCode u next e = OnTrue e.goes_on (next < length u.code)

-- the slot that it uses is one of the unit's
abbrev pub HasSlot : Unit → Effect → Type 0
HasSlot u e = IfSome e.slot (λ k. k < u.locals)

-- Of d operands it takes no more than these, and the next place and that of the jump state what is then left.
pub record DepthsAgreeAt (u : Unit) (next d : ℕ) (e : Effect) : Type 0 where
  pub operands : e.takes ≤ d
  pub on : OnTrue e.goes_on (IsDepth u next (d - e.takes + e.leaves))
  pub jump : IfSome e.jump (λ to. IsDepth u to (d - e.takes))

-- A run begins with no operand, and each step leads from the depth of its place to the depth of the next.
pub record DepthsAgree (u : Unit) : Type 0 where
  pub stated : length u.depths ≡ length u.code
  pub first : IsDepth u 0 0
  pub steps : (t : ℕ) (i : Instr) (d : ℕ) → IsAt u t i → IsDepth u t d → DepthsAgreeAt u (t + 1) d (effect i)

-- the four parts of a sound unit
pub record IsSound (u : Unit) : Type 0 where
  pub jumps : (t : ℕ) (i : Instr) → IsAt u t i → JumpsInCode u (effect i)
  pub no_end : (0 < length u.code) × ((t : ℕ) (i : Instr) → IsAt u t i → GoesOnInCode u (t + 1) (effect i))
  pub slots : (t : ℕ) (i : Instr) → IsAt u t i → HasSlot u (effect i)
  pub depths : DepthsAgree u

-- one place of a sound unit
pub record IsFine (u : Unit) (t : ℕ) (i : Instr) : Type 0 where
  pub jump : JumpsInCode u (effect i)
  pub on : GoesOnInCode u (t + 1) (effect i)
  pub slot : HasSlot u (effect i)
  pub depth : (d : ℕ) × IsDepth u t d × DepthsAgreeAt u (t + 1) d (effect i)
