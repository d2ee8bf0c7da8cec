use Rattle.std.proofs.Common.{◌≡◌}
use Rattle.dart_syntax.specs.View.{unit}
use Rattle.text_names.specs.Above.{nearest}
use Rattle.text_names.proofs.names.TextNames.takes_up.Given as goal

abbrev pub invariant-loop-left : goal.invariant-loop-left
invariant-loop-left l = nearest (unit l.self.tree.now) l.kind l.name l.left l.at ≡ nearest (unit l.self.tree.now) l.kind l.name l.most l.class

abbrev pub decreases-loop-left : goal.decreases-loop-left
decreases-loop-left l = l.left
