use Rattle.std.proofs.Common.{rules, ◌≡◌, length}
use Rattle.isolate_state.proofs.Moves.{dups_at}
use Rattle.isolate_state.proofs.slots.dup.Goals as goal

pub returns : goal.returns
returns c =
    let size : c.len.result ≡ length c.args.isolate.now.values.items = search rules in
    dups_at c.len.result c.args.isolate.now (record c.args.isolate.now { values = c.push.new.self }) c.args.frame.now c.index-v.result.now size c.requires.some c.index-v.ensures c.in_ok-push.ensures.items
