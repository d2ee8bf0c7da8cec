use Rattle.std.proofs.Common.{◌≡◌, ◌++◌, [], ◌∷◌, ap, ◌∙◌}
use Rattle.isolate_state.proofs.Returns.{answers_caller}
use Rattle.isolate_state.proofs.frames.give_back.Goals as goal

pub returns : goal.returns
returns c = answers_caller c.args.isolate.now (record c.args.isolate.now { values = c.take_last-v.new.self }) (record c.args.isolate.now { values = c.push.new.self; callers = c.take_last-caller.new.self })
    c.args.frame.now c.take_last-caller.result c.take_last-v.result c.take_last-v.ensures.items c.take_last-caller.ensures.items
    (c.in_ok-push.ensures.items ∙ ap (λ vs. vs ++ c.take_last-v.result ∷ []) c.truncate.ensures.items)
