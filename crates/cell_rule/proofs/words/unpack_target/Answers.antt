use Rattle.std.proofs.Common.{◌≡◌, ℕ, sym, ◌∙◌, subst, true}
use Rattle.cell_rule.specs.declared.words.Entry.{Entry}
use Rattle.cell_rule.specs.Words.{entry, target_word, StubFits}
use Rattle.cell_rule.proofs.Packs.{stub_parts, entry_parts}
use Rattle.cell_rule.proofs.words.unpack_target.Goals as goal
use Rattle.cell_rule.proofs.words.unpack_target.Goals.{else-fits_target-via-then-fits_target+else-pack_target-word, else-fits_target-via-else-fits_target}

pub returns-else-fits_target : goal.returns-else-fits_target
returns-else-fits_target c packed =
    let k = packed.0 in let i = packed.1 in let f = packed.2 in let e = packed.3 in
    let n : ℕ = c.args.word in
    let same : entry c.stub_in-stub.result c.target_in-target.result ≡ i = (λ j. entry (c.stub_in-stub.ensures j) (c.target_in-target.ensures.0 j)) ∙ stub_parts n k i f e in
    let stamp = (entry_parts n k i f e).stamp in
    elim c.else-fits_target.branch [
      | else-fits_target-via-then-fits_target+else-pack_target-word w ↦ w.if-pack_target-word.false (w.pack_target.ensures ∙ ((λ j. target_word (stamp j) (same j)) ∙ sym e))
      | else-fits_target-via-else-fits_target w ↦ (let t : c.fits_target.result ≡ true = c.fits_target.ensures.1 (subst (λ (z : Entry). StubFits z.stub z.target) (sym same) f.stub) in cc)
    ]
