use Rattle.dart_syntax.specs.View.{unit}
use Rattle.dart_meaning.specs.Classes.{parent}
use Rattle.text_names.specs.Above.{own_of}
use Rattle.text_names.proofs.Taken.{there, up_one}
use Rattle.text_names.proofs.names.TextNames.takes_up.Goals as goal

pub loop-left-preserved : goal.loop-left-preserved
loop-left-preserved c =
    let tree = unit c.args.self.now.tree.now in
    up_one (own_of tree c.args.kind c.args.name.now) (parent tree) c.loop-left.left c.loop-left.at.now c.in-Some-parent.parent.now _ c.loop-left-test.true c.in_default.ensures c.in-Some-parent.ensures c.loop-left.invariant

pub returns-in-Some : goal.returns-in-Some
returns-in-Some c =
    let tree = unit c.args.self.now.tree.now in
    there (own_of tree c.args.kind c.args.name.now) (parent tree) c.loop-left.left c.loop-left.at.now c.in-Some.takes _ c.loop-left-test.true c.in-Some.ensures c.loop-left.invariant
