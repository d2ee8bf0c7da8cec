use Rattle.std.proofs.Common.{◌+◌, ◌||◌, ap, sym, ◌∙◌, drop, map, List, bytes_eq}
use Rattle.dart_syntax.specs.declared.tree.Name.{Name}
use Rattle.dart_syntax.specs.declared.tree.Top.{Top}
use Rattle.dart_syntax.specs.View.{top}
use Rattle.dart_meaning.specs.Means.{top_name}
use Rattle.static_rules.specs.Places.{◌or_else◌, at_if}
use Rattle.static_rules.specs.Repeats.{repeated}
use Rattle.declaration_rules.specs.Known.{also_known, class_names, is_built_in_of}
use Rattle.declaration_rules.specs.Seen.{has}
use Rattle.declaration_rules.proofs.Firsts.{next_known, cut}
use Rattle.declaration_rules.proofs.tops.repeated_top.Goals as goal

abbrev names : List Top → List Name
names ts = map top_name (map top ts)

pub loop-t-preserved : goal.loop-t-preserved
loop-t-preserved c =
    let f = is_built_in_of (class_names c.args.built_in.now) in
    next_known f (has c.loop-t.seen) (has c.note_top.new.seen) (top_name (top c.t-item.result)) (names (drop (c.loop-t.t-index + 1) c.args.tops.now)) c.loop-t.at c.in_ok-at.at _
    (sym (ap (λ xs. c.loop-t.at or_else repeated (also_known f (has c.loop-t.seen)) (names xs)) (cut c.args.tops.now c.loop-t.t-index c.t-item.result c.loop-t-test.true c.t-item.is)) ∙ c.loop-t.invariant)
    (c.in_ok-at.ensures.place ∙ ap (λ (n : Name). c.loop-t.at or_else at_if (also_known f (has c.loop-t.seen) n.text) n.span) c.top_name.ensures)
    (λ q. c.in_ok-at.ensures.more q ∙ ap (λ (n : Name). bytes_eq n.text q || has c.loop-t.seen q) c.top_name.ensures)
