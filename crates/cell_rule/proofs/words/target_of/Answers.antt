use Rattle.std.proofs.Common.{sym, ap, ◌∙◌}
use Rattle.cell_rule.specs.Words.{target_word, entry_of}
use Rattle.cell_rule.proofs.Packs.{data_inj}
use Rattle.cell_rule.proofs.words.target_of.Goals as goal

pub returns : goal.returns
returns c k i f e =
    let same = data_inj _ _ k i c.in-Some.ensures.0 f (sym c.in-Some.ensures.1 ∙ e) in
    c.pack_target.ensures ∙ (ap (target_word c.in-Some.stamp) c.entry_for-stub.ensures ∙ (λ j. target_word (same.0 j) (entry_of (same.1 j))))
