use Rattle.std.proofs.Common.{ap}
use Rattle.program.specs.declared.literal.Literal.TheVariants as literal
use Rattle.dart_values.proofs.Wraps.{negated}
use Rattle.dart_meaning.proofs.operators.minus.Goals as goal

pub returns : goal.returns
returns c = ap literal.Int (negated c.args.n c.wrapping_neg.result c.ranges.n (record { sfits = c.wrapping_neg.type_inv }) c.wrapping_neg.ensures)
