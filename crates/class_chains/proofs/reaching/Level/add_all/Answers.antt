use Rattle.std.proofs.Common.{◌||◌, ◌+◌, ap, sym, ◌∙◌, drop}
use Rattle.std.specs.List.{list_any}
use Rattle.class_chains.specs.Ranking.{name_texts, texts}
use Rattle.declaration_rules.proofs.Firsts.{cut}
use Rattle.class_chains.proofs.Steps.{or_three}
use Rattle.class_chains.proofs.reaching.Level.add_all.Goals as goal

pub loop-name-preserved : goal.loop-name-preserved
loop-name-preserved c =
    record {
      each = c.in_ok-add.ensures.each;
      any = λ p.
          let rest = list_any p (name_texts (drop (c.loop-name.name-index + 1) c.args.all.now)) in
          let old = list_any p (texts c.loop-name.self.names.items) in
          ap (λ b. b || rest) (c.in_ok-add.ensures.any p ∙ ap (λ t. old || p t) c.as_slice.ensures)
          ∙ or_three old (p c.name-item.result.text) rest
          ∙ sym (ap (λ xs. old || list_any p (name_texts xs)) (cut c.args.all.now c.loop-name.name-index c.name-item.result c.loop-name-test.true c.name-item.is))
          ∙ c.loop-name.invariant.any p;
    }
