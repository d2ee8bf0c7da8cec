use Rattle.mega_cache.specs.Region.{about_of}
use Rattle.mega_cache.specs.Finds.{linked_of}
use Rattle.mega_cache.proofs.table.MegaTable.insert.Given as goal

abbrev pub ghosts-add : goal.ghosts-add
ghosts-add g a = record { about = about_of (linked_of a.table.now); selector = a.selector.0 }
