-- The lists of a pool.
use Rattle.std.specs.Prelude.{List}
use Rattle.program.specs.declared.ids.UnitId.{UnitId}
use Rattle.program.specs.declared.ids.SelectorId.{SelectorId}
use Rattle.program.specs.declared.literal.Literal.{Literal}
use Rattle.code_unit.specs.declared.unit.Unit.{Unit}
use Rattle.code_pool.specs.declared.pool.MethodBody.{MethodBody}

-- the code of a program: each list by the numbers that instructions name
pub record Pool : Type 0 where
  pub units : List Unit
  pub constants : List Literal
  -- the unit of each function and constructor
  pub statics : List UnitId
  -- the selector of each site
  pub sites : List SelectorId
  -- the unit of each entry point
  pub entries : List UnitId
  pub methods : List MethodBody
