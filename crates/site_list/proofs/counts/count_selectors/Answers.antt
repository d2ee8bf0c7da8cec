use Rattle.std.proofs.Common.{◌∙◌, [], ◌∷◌, map, ap}
use Rattle.dart_meaning.specs.Sites.{also_used}
use Rattle.site_list.specs.SourceSites.{selector_of, asked}
use Rattle.site_list.proofs.Sets.{counted}
use Rattle.site_list.proofs.counts.count_selectors.Goals as goal

pub returns : goal.returns
returns c = λ tree e.
    c.len.ensures.len
    ∙ counted tree c.args.all.now c.note.new.known.keys e
    (c.in_ok-note.ensures.known
    ∙ ap (λ k. also_used k (selector_of c.calling.result ∷ [])) (c.in_ok-note_all.ensures ∙ ap (λ ks. also_used (map selector_of ks) (asked c.args.all.now)) c.new-known.ensures.empty)
    ∙ ap (λ s. also_used (also_used [] (asked c.args.all.now)) (s ∷ [])) c.calling.ensures)
