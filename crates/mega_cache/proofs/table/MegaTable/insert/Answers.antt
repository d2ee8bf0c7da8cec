use Rattle.mega_cache.specs.Region.{about_of}
use Rattle.mega_cache.proofs.table.MegaTable.insert.Goals as goal

pub add-requires-clause-reach : goal.add-requires-clause-reach
unfolding about_of
add-requires-clause-reach g c = (c.requires.pass, c.requires.selector)

pub add-requires-clause-entry : goal.add-requires-clause-entry
unfolding about_of
add-requires-clause-entry g c = (c.requires.class, c.requires.target)

pub returns-clause-within : goal.returns-clause-within
unfolding about_of
returns-clause-within g c = c.add.ensures.within
