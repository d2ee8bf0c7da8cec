use Rattle.std.proofs.Common.{◌+◌, ap, sym, ◌∙◌, drop, map, List, ◌∷◌, Some}
use Rattle.dart_syntax.specs.declared.tree.Name.{Name}
use Rattle.dart_syntax.specs.declared.tree.Param.{Param}
use Rattle.dart_syntax.specs.Syntax as syn
use Rattle.dart_syntax.specs.View.{param}
use Rattle.static_rules.specs.Places.{◌or_else◌}
use Rattle.static_rules.specs.Repeats.{repeated}
use Rattle.declaration_rules.specs.Seen.{has, name_of}
use Rattle.declaration_rules.proofs.Firsts.{next_name, cut}
use Rattle.declaration_rules.proofs.duplicates.repeated_param.Goals as goal

abbrev names : List Param → List Name
names ps = map (λ (p : syn.Param). p.name) (map param ps)

pub loop-p-preserved : goal.loop-p-preserved
loop-p-preserved c =
    next_name (has c.loop-p.seen) (has c.note_name.new.seen) (Some (name_of c.as_named.result)) (names (drop (c.loop-p.p-index + 1) c.args.params.now)) c.loop-p.at c.in_ok-at.at _
    (ap (λ n. c.loop-p.at or_else repeated (has c.loop-p.seen) (n ∷ names (drop (c.loop-p.p-index + 1) c.args.params.now))) c.as_named.ensures
    ∙ sym (ap (λ xs. c.loop-p.at or_else repeated (has c.loop-p.seen) (names xs)) (cut c.args.params.now c.loop-p.p-index c.p-item.result c.loop-p-test.true c.p-item.is)) ∙ c.loop-p.invariant)
    c.in_ok-at.ensures.place c.in_ok-at.ensures.more
