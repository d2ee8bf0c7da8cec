use Rattle.std.proofs.Common.{rules, ◌≡◌, ◌++◌, [], ◌∷◌, sym, ap, ◌∙◌}
use Rattle.std.specs.Option.{option_copied}
use Rattle.isolate_state.proofs.Things.{emits, emits_none}
use Rattle.isolate_state.proofs.objects.emit.Goals as goal

pub returns-in_default : goal.returns-in_default
returns-in_default c = emits_none c.args.isolate.now (record c.args.isolate.now { values = c.take_last-v.new.self }) c.take_last-v.result c.take_last-v.ensures.items
    (sym c.text_of.ensures ∙ ap option_copied c.in_default.is)

pub returns : goal.returns
returns c =
    let same : c.in_ok-line.line ≡ c.in-Some.units.now = search rules in
    emits c.args.isolate.now (record c.args.isolate.now { values = c.take_last-v.new.self; lines = c.push.new.self }) c.take_last-v.result c.in-Some.units.now c.take_last-v.ensures.items
    (sym c.text_of.ensures ∙ ap option_copied c.in-Some.is) (c.in_ok-push.ensures.items ∙ ap (λ line. c.args.isolate.now.lines.items ++ line ∷ []) same)
