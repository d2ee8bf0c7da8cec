use Rattle.std.proofs.Common.{◌≡◌, ℕ, ◌+◌, ◌*◌, List, [], length, sym, ap, ◌∙◌, subst}
use Rattle.atomic_table.specs.Table.{opening}
use Rattle.program.specs.declared.numbered.Numbered.{Numbered}
use Rattle.method_lookup.specs.declared.linked.Linked.{Linked}
use Rattle.mega_cache.specs.Places.{last_generation, words_up_to}
use Rattle.mega_cache.specs.Region.{about_of, width_of, Ruled}
use Rattle.mega_cache.specs.Told.{nothing}
use Rattle.mega_cache.proofs.Keeps.{starts}
use Rattle.mega_cache.proofs.Programs.{sound_of}
use Rattle.mega_cache.proofs.table.MegaTable.build.Goals as goal

pub of_words-requires : goal.of_words-requires
unfolding about_of
of_words-requires c =
    let linked = c.args.linked.now in let selectors : c.len-2.result ≡ length linked.program.selectors = c.len-2.ensures ∙ ap (λ (p : Numbered). length p.selectors) c.program-2.ensures in
    let classes : c.len.result ≡ length linked.program.classes = c.len.ensures ∙ ap (λ (p : Numbered). length p.classes) c.program.ensures in
    let width : c.words_up_to-width.result ≡ width_of (about_of linked) = c.words_up_to-width.ensures.words ∙ ap words_up_to (c.last_generation-last.ensures.generation ∙ ap last_generation classes) in
    let size : 1 + c.len-2.result * c.words_up_to-width.result ≡ 1 + length linked.program.selectors * width_of (about_of linked) = λ j. 1 + selectors j * width j in
    subst (λ (z : Linked × List ℕ). Ruled (about_of z.0) (opening z.1 [] nothing)) (λ j. (sym c.of-about.ensures j, sym (c.as_slice.ensures.value ∙ c.in_ok-words.ensures) j)) (starts (about_of linked) _ (sound_of linked) size)
