use Rattle.dart_values.proofs.Wraps.{quotient_is}
use Rattle.dart_values.proofs.numbers.quotient.Goals as goal

pub returns : goal.returns
returns c = quotient_is c.args.x c.args.y c.wrapping_div.result c.if-y-eq0.false c.ranges.x c.ranges.y (record { sfits = c.wrapping_div.type_inv }) c.wrapping_div.ensures
