-- The counts that src/ makes.
use Rattle.std.specs.Prelude.{◌+◌, ◌-◌, length}
use Rattle.program.specs.Parts.{Parts}
use Rattle.static_rules.specs.Accepted as accepted
use Rattle.resolver.specs.declared.limits.Counts.{Counts}

-- the counts, as src/ has them
abbrev pub counts_of : Counts → accepted.Counts
counts_of c = record { classes = c.classes; methods = c.methods; functions = c.functions; selectors = c.selectors; sites = c.sites }

-- The same of a numbered program, where the constructor of each class of the text counts as a function.
abbrev pub counts_of_parts : Parts → accepted.Counts
counts_of_parts p = record {
  classes = length p.classes;
  methods = length p.methods;
  functions = length p.functions + (length p.classes - 7);
  selectors = length p.selectors;
  sites = length p.sites;
}
