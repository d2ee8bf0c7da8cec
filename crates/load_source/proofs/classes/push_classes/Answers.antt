use Rattle.load_source.proofs.Steps.{class_next, number_next}
use Rattle.load_source.proofs.classes.push_classes.Goals as goal

pub loop-k-preserved : goal.loop-k-preserved
loop-k-preserved c =
    let before = c.loop-k.invariant in (
      class_next c.args.number c.loop-k.k c.loop-k.x c.args.out.now.items c.loop-k.out.items c.push_class.new.out.items before.0 before.1 c.in_ok-push_class.ensures,
      number_next c.args.number c.loop-k.k c.loop-k.x c.next-x.result before.1 c.next-x.ensures,
    )
