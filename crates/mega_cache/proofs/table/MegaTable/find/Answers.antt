use Rattle.mega_cache.specs.Region.{about_of}
use Rattle.mega_cache.proofs.Laws.{find_keeps}
use Rattle.mega_cache.proofs.table.MegaTable.find.Goals as goal

pub search-requires-clause-reach : goal.search-requires-clause-reach
unfolding about_of
search-requires-clause-reach g c = (c.requires.pass, c.requires.selector)

pub returns-clause-target : goal.returns-clause-target
unfolding about_of
returns-clause-target g c = c.search.ensures.target

pub returns-clause-later : goal.returns-clause-later
returns-clause-later g c = find_keeps c.args.sel.0 c.args.c.0 c.search.result c.args.pass.now.seat.me.0 c.search.new.seat.me.0 c.search.ensures.found
