use Rattle.std.proofs.Common.{ap}
use Rattle.dart_values.specs.Values.{num}
use Rattle.dart_values.proofs.Wraps.{negated}
use Rattle.dart_values.proofs.numbers.int_member.Goals as goal

pub returns-in-Negate-clause-value : goal.returns-in-Negate-clause-value
returns-in-Negate-clause-value c = λ texts.
    rw c.in-Negate.is (ap num (negated c.args.x c.wrapping_neg.result c.ranges.x (record { sfits = c.wrapping_neg.type_inv }) c.wrapping_neg.ensures))
