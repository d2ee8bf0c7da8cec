use Rattle.std.proofs.Common.{◌≡◌, ℕ, ◌/◌, ◌%◌, sym, ap, ◌∙◌, subst, true}
use Rattle.cell_rule.specs.declared.words.Info.{Info}
use Rattle.cell_rule.specs.Words.{info, data_word, StateFits}
use Rattle.cell_rule.specs.Unpacked.{target_from, state_from}
use Rattle.cell_rule.proofs.Packs.{info_parts, data_parts}
use Rattle.cell_rule.proofs.words.unpack_data.Goals as goal
use Rattle.cell_rule.proofs.words.unpack_data.Goals.{else-fits_data-via-then-fits_data+else-pack_data-word, else-fits_data-via-else-fits_data}

pub returns-else-fits_data : goal.returns-else-fits_data
returns-else-fits_data c packed =
    let k = packed.0 in let i = packed.1 in let f = packed.2 in let e = packed.3 in
    let n : ℕ = c.args.word in let t_is = c.target_in-target.ensures.0 in let s_is = c.state_in-state.ensures in
    let s_as : c.state_in-state.result ≡ state_from (n / 1099511627776 % 256) (n / 268435456 % 4096) (n / 65536 % 4096) (target_from (n % 65536)) = s_is ∙ ap (state_from (n / 1099511627776 % 256) (n / 268435456 % 4096) (n / 65536 % 4096)) t_is in
    let same : info c.state_in-state.result c.target_in-target.result ≡ i = (λ j. info (s_as j) (t_is j)) ∙ info_parts n k i f e in
    let stamp = (data_parts n k i f e).stamp in
    elim c.else-fits_data.branch [
      | else-fits_data-via-then-fits_data+else-pack_data-word w ↦ w.if-pack_data-word.false (w.pack_data.ensures ∙ ((λ j. data_word (stamp j) (same j)) ∙ sym e))
      | else-fits_data-via-else-fits_data w ↦ (let t : c.fits_data.result ≡ true = c.fits_data.ensures.1 (subst (λ (z : Info). StateFits z.state z.target) (sym same) f.state) in cc)
    ]
