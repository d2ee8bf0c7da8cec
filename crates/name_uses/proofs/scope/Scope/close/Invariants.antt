use Rattle.std.proofs.Common.{◌≡◌, take}
use Rattle.name_uses.specs.Undo.{before}
use Rattle.name_uses.proofs.scope.Scope.close.Given as goal

abbrev pub invariant-loop-self : goal.invariant-loop-self
invariant-loop-self g l =
    record {
      back : before l.self l.mark ≡ before l.fn.self l.mark;
      undo : take l.mark l.self.undo.items ≡ take l.mark l.fn.self.undo.items;
    }

abbrev pub decreases-loop-self : goal.decreases-loop-self
decreases-loop-self g l = goal.left-loop-self g l
