use Rattle.std.proofs.Common.{◌∙◌, ◌<◌, sym, length, rules, arith}
use Rattle.name_uses.specs.Undo.{meaning}
use Rattle.name_uses.proofs.Meanings.{back_by_one, undo_by_one, nothing_left}
use Rattle.name_uses.proofs.scope.Scope.close.Goals as goal

pub loop-self-preserved-in-Continue-1 : goal.loop-self-preserved-in-Continue-1
loop-self-preserved-in-Continue-1 g c =
    let items = c.loop-self.self.undo.items in
    let rest = c.pop.new.self.items in
    let some : c.args.mark < length items = search (rules, arith) in
    record {
      back = back_by_one rest items c.in-Some.last c.args.mark (meaning c.loop-self.self) _ c.in-Some.ensures.items some c.in_ok-put.ensures ∙ c.loop-self.invariant.back;
      undo = undo_by_one rest items c.in-Some.last c.args.mark c.in-Some.ensures.items some ∙ c.loop-self.invariant.undo;
    }

pub returns-clause-back : goal.returns-clause-back
returns-clause-back g c = sym (nothing_left c.loop-self.self.undo.items c.args.mark (meaning c.loop-self.self) (search (rules, arith))) ∙ c.loop-self.invariant.back
