use Rattle.cell_rule.specs.About.{about_of}
use Rattle.shared_cells.proofs.table.Pass.dispatch.Given as goal

abbrev pub ghosts-run : goal.ghosts-run
ghosts-run g a = record { about = about_of a.linked.now; site = a.site.0; class = a.class.0; start = a.seat.now.me.0 }
