use Rattle.std.proofs.Common.{ap, w64, Ok}
use Rattle.std.proofs.lemmas.Int.{wrapping_add_is, wrapping_sub_is}
use Rattle.dart_values.specs.Values.{num}
use Rattle.dart_values.proofs.numbers.int_with.Goals as goal

pub returns-in-Add-clause-value : goal.returns-in-Add-clause-value
returns-in-Add-clause-value c = λ texts. rw c.in-Add.is (ap (λ z. Ok (num z)) (wrapping_add_is w64 c.args.x c.args.y c.ranges.x c.ranges.y))

pub returns-in-Subtract-clause-value : goal.returns-in-Subtract-clause-value
returns-in-Subtract-clause-value c = λ texts. rw c.in-Subtract.is (ap (λ z. Ok (num z)) (wrapping_sub_is w64 c.args.x c.args.y c.ranges.x c.ranges.y))
