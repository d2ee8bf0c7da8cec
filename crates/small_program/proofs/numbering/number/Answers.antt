use Rattle.std.proofs.Common.{rules, ◌≡◌, ap, arith, length, ◌∙◌}
use Rattle.small_program.specs.Numbering.{selectors_of, sites_with}
use Rattle.small_program.proofs.SmallSound.{sound_of, few_selectors}
use Rattle.small_program.proofs.numbering.number.Goals as goal

pub sites-requires : goal.sites-requires
sites-requires c =
    let few = few_selectors c.args.small.now c.requires in
    let same : c.as_slice-4.result.now ≡ selectors_of c.args.small.now = search rules in
    omega (arith, ap length same)

pub invariant_of-result : goal.invariant_of-result
invariant_of-result c =
    let selectors : c.as_slice-4.result.now ≡ selectors_of c.args.small.now = search rules in
    let prints : c.as_slice-5.result.now ≡ c.args.small.now.prints = search rules in
    let sites = c.in_ok-sites.ensures ∙ ap (λ s. sites_with s c.as_slice-5.result.now) selectors ∙ ap (sites_with (selectors_of c.args.small.now)) prints in
    record { sound = sound_of c.args.small.now c.requires (search rules) (search rules) (search rules) (search rules) sites (search rules) }
