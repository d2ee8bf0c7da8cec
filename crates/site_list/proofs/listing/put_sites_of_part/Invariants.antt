use Rattle.std.proofs.Common.{◌≡◌, ◌++◌, drop, map}
use Rattle.std.specs.Prelude.{flat_map}
use Rattle.dart_meaning.specs.Sites.{sites_of_use}
use Rattle.name_uses.specs.Using.{used}
use Rattle.name_uses.specs.Found.{part_of}
use Rattle.name_uses.specs.Looked.{looked}
use Rattle.site_list.specs.SourceSites.{listed}
use Rattle.site_list.proofs.listing.put_sites_of_part.Given as goal

abbrev pub invariant-loop-one : goal.invariant-loop-one
invariant-loop-one g l =
    let tree = g.N.Names.tree l.names in
    let sites = sites_of_use tree (looked tree (part_of l.part)) in
    listed l.out.items ++ flat_map sites (map used (drop l.one-index l.all)) ≡ listed l.fn.out.items ++ flat_map sites (map used l.all)
