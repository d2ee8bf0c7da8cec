use Rattle.std.proofs.Common.{rules, ◌≡◌, length}
use Rattle.isolate_state.proofs.Moves.{dups_two_at}
use Rattle.isolate_state.proofs.slots.dup_two.Goals as goal

pub returns : goal.returns
returns c =
    let size : c.len-count.result ≡ length c.args.isolate.now.values.items = search rules in
    dups_two_at c.len-count.result c.args.isolate.now (record c.args.isolate.now { values = c.push.new.self }) (record c.args.isolate.now { values = c.push-2.new.self }) c.args.frame.now
    c.index-v.result.now c.index-w.result.now size c.requires.some c.index-v.ensures c.index-w.ensures c.in_ok-push.ensures.items c.in_ok-push-2.ensures.items
