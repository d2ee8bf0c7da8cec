use Rattle.std.proofs.Common.{◌≡◌, ℕ, ◌+◌, ◌*◌, List, [], length, sym, ap, ◌∙◌, subst}
use Rattle.atomic_table.specs.Table.{opening}
use Rattle.program.specs.declared.numbered.Numbered.{Numbered}
use Rattle.method_lookup.specs.declared.linked.Linked.{Linked}
use Rattle.cell_rule.specs.About.{about_of}
use Rattle.cell_rule.specs.Rule.{Ruled}
use Rattle.cell_rule.specs.Told.{newcomer}
use Rattle.cell_rule.proofs.Views.{starts}
use Rattle.cell_rule.proofs.Programs.{sound_of}
use Rattle.cell_rule.proofs.table.CellWords.build.Goals as goal

pub of_words-requires : goal.of_words-requires
of_words-requires c =
    let sites : c.len.result ≡ length c.args.linked.now.program.sites = c.len.ensures ∙ ap (λ (p : Numbered). length p.sites) c.program.ensures in
    subst (λ (z : Linked × List ℕ). Ruled (about_of z.0) (opening z.1 [] newcomer)) (λ j. (sym c.of-about.ensures j, sym (c.as_slice.ensures.value ∙ c.in_ok-words.ensures) j))
    (starts (about_of c.args.linked.now) (6 * c.len.result + 1) (sound_of c.args.linked.now) (ap (λ (n : ℕ). 6 * n + 1) sites))
