use Rattle.std.proofs.Common.{◌≡◌, ◌++◌, map, drop}
use Rattle.program_code.specs.IsCode.{selector_of}
use Rattle.compiler.proofs.selectors.Given as goal

abbrev pub invariant-loop-site : goal.invariant-loop-site
invariant-loop-site l = l.all.items ++ map selector_of (drop l.site-index l.sites) ≡ map selector_of l.sites
