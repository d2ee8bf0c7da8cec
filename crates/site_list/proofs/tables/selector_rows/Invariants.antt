use Rattle.std.proofs.Common.{◌≡◌, ◌++◌, drop, map}
use Rattle.site_list.specs.SourceSites.{selector_of}
use Rattle.site_list.proofs.tables.selector_rows.Given as goal

abbrev pub invariant-loop-selector : goal.invariant-loop-selector
invariant-loop-selector l = l.rows ++ map selector_of (drop l.selector-index l.all) ≡ map selector_of l.all
