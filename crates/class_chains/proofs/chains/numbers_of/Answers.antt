use Rattle.std.proofs.Common.{◌+◌, ap, sym, ◌∙◌, drop, map, bytes_eq}
use Rattle.dart_meaning.specs.Classes.{if_so}
use Rattle.declaration_rules.specs.Finding.{named_of, or_first}
use Rattle.declaration_rules.specs.Seen.{class_of}
use Rattle.declaration_rules.proofs.Firsts.{cut}
use Rattle.declaration_rules.proofs.Finding.{or_first_assoc, named_more}
use Rattle.class_chains.specs.Overriding.{found_at}
use Rattle.class_chains.proofs.chains.numbers_of.Goals as goal

pub loop-number-preserved : goal.loop-number-preserved
loop-number-preserved c = λ q.
    let all = c.args.all.now in
    let d = class_of c.index-all-number.result in
    let was = found_at all c.loop-number.numbers q in
    let rest = map class_of (drop (c.loop-number.number + 1) all) in
    ap (λ o. or_first o (named_of rest q)) (c.in_ok-keep_first.ensures q)
    ∙ or_first_assoc was (if_so (bytes_eq d.name.text q) d) (named_of rest q)
    ∙ ap (or_first was) (sym (named_more d rest q))
    ∙ sym (ap (λ cs. or_first was (named_of (map class_of cs) q)) (cut all c.loop-number.number c.index-all-number.result c.loop-number-test.true c.index-all-number.is))
    ∙ c.loop-number.invariant q
