-- Which statements declare a variable.
use Rattle.std.specs.Prelude.{Bool, true, false}
use Rattle.program.specs.Bodies as c
use Rattle.program.specs.Bodies.{Sta}

-- whether a variable is open behind the statement that was not open before
abbrev pub declared : Sta → Bool
declared (c.declare e) = true
declared _ = false
