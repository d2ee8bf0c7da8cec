use Rattle.cell_rule.specs.About.{about_of}
use Rattle.cell_rule.specs.Told.{newcomer}
use Rattle.cell_rule.proofs.table.CellWords.join.Given as goal

abbrev pub ghosts-look : goal.ghosts-look
ghosts-look a = record { about = about_of a.self.now.table.shared.key.value; site = 0; class = 0; start = newcomer }
