use Rattle.std.proofs.Common.{◌||◌, ◌+◌, ap, sym, ◌∙◌, drop, map, bytes_eq}
use Rattle.declaration_rules.specs.Seen.{has, class_of}
use Rattle.declaration_rules.specs.Known.{is_declared}
use Rattle.declaration_rules.proofs.Firsts.{cut}
use Rattle.declaration_rules.proofs.Names.{turned}
use Rattle.declaration_rules.proofs.classes.names_of.Goals as goal

pub loop-c-preserved : goal.loop-c-preserved
loop-c-preserved c = λ q.
    let rest = is_declared (map class_of (drop (c.loop-c.c-index + 1) c.args.classes.now)) q in
    ap (λ b. b || rest) (c.in_ok-note.ensures.more q ∙ ap (λ t. bytes_eq t q || has c.loop-c.known q) c.as_slice.ensures)
    ∙ turned (bytes_eq c.c-item.result.now.name.text q) (has c.loop-c.known q) rest
    ∙ sym (ap (λ cs. has c.loop-c.known q || is_declared (map class_of cs) q) (cut c.args.classes.now c.loop-c.c-index c.c-item.result c.loop-c-test.true c.c-item.is))
    ∙ c.loop-c.invariant q
