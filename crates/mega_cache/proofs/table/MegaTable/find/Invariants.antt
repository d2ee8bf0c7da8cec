use Rattle.mega_cache.specs.Region.{about_of}
use Rattle.mega_cache.specs.Finds.{linked_of}
use Rattle.mega_cache.proofs.table.MegaTable.find.Given as goal

abbrev pub ghosts-search : goal.ghosts-search
ghosts-search g a = record { about = about_of (linked_of a.table.now); selector = a.selector.0 }
