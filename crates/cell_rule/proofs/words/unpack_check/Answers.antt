use Rattle.std.proofs.Common.{sym, ◌∙◌}
use Rattle.miss_handler.specs.States.{check}
use Rattle.cell_rule.specs.Words.{check_word}
use Rattle.cell_rule.proofs.Packs.{check_parts}
use Rattle.cell_rule.proofs.words.unpack_check.Goals as goal

pub returns-else-pack_check-word : goal.returns-else-pack_check-word
returns-else-pack_check-word c packed =
    let e = packed.2 in let q = check_parts c.args.word packed.0 packed.1 e in
    c.if-pack_check-word.false (c.pack_check.ensures ∙ ((λ j. check_word (check (q.0 j) ((c.target_in-target.ensures.0 ∙ q.1) j))) ∙ sym e))
