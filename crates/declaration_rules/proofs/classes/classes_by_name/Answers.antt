use Rattle.std.proofs.Common.{◌+◌, ap, sym, ◌∙◌, drop, map, bytes_eq}
use Rattle.dart_meaning.specs.Classes.{if_so}
use Rattle.declaration_rules.specs.Finding.{found_in, named_of, or_first}
use Rattle.declaration_rules.specs.Seen.{class_of}
use Rattle.declaration_rules.proofs.Firsts.{cut}
use Rattle.declaration_rules.proofs.Finding.{or_first_assoc, named_more}
use Rattle.declaration_rules.proofs.classes.classes_by_name.Goals as goal

pub loop-c-preserved : goal.loop-c-preserved
loop-c-preserved c = λ q.
    let d = class_of c.c-item.result in
    let rest = map class_of (drop (c.loop-c.c-index + 1) c.args.classes.now) in
    ap (λ o. or_first o (named_of rest q)) (c.in_ok-keep_first.ensures q)
    ∙ or_first_assoc (found_in c.loop-c.known q) (if_so (bytes_eq d.name.text q) d) (named_of rest q)
    ∙ ap (or_first (found_in c.loop-c.known q)) (sym (named_more d rest q))
    ∙ sym (ap (λ cs. or_first (found_in c.loop-c.known q) (named_of (map class_of cs) q)) (cut c.args.classes.now c.loop-c.c-index c.c-item.result c.loop-c-test.true c.c-item.is))
    ∙ c.loop-c.invariant q
