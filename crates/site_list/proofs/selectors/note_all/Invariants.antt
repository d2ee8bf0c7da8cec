use Rattle.std.proofs.Common.{◌≡◌, drop}
use Rattle.dart_meaning.specs.Sites.{also_used}
use Rattle.site_list.specs.SourceSites.{held, asked}
use Rattle.site_list.proofs.selectors.note_all.Given as goal

abbrev pub invariant-loop-site : goal.invariant-loop-site
invariant-loop-site l = also_used (held l.known) (asked (drop l.site-index l.sites)) ≡ also_used (held l.fn.known) (asked l.sites)
