use Rattle.std.proofs.Common.{◌∙◌, ap, map}
use Rattle.site_list.specs.SourceSites.{selector_of}
use Rattle.site_list.proofs.Sets.{held_insert, place_is}
use Rattle.site_list.proofs.selectors.note.Goals as goal

pub returns-clause-known : goal.returns-clause-known
returns-clause-known c = ap (map selector_of) c.in_ok-number.ensures.keys ∙ held_insert c.args.known.now.keys c.args.selector

pub returns-clause-number : goal.returns-clause-number
returns-clause-number c = c.in_ok-number.ensures.index ∙ place_is c.args.selector c.args.known.now.keys
