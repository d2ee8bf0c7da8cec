use Rattle.std.proofs.Common.{◌≡◌, ◌++◌, drop, map}
use Rattle.std.specs.Prelude.{flat_map}
use Rattle.dart_meaning.specs.Uses as u
use Rattle.dart_meaning.specs.Sites.{sites_of_use}
use Rattle.name_uses.specs.Found.{part_of}
use Rattle.name_uses.specs.Looked.{looked}
use Rattle.site_list.specs.SourceSites.{listed}
use Rattle.site_list.proofs.listing.sites_of_parts.Given as goal

abbrev pub invariant-loop-part : goal.invariant-loop-part
invariant-loop-part g l =
    let tree = g.N.Names.tree l.names in
    let sites = λ (part : u.Part). flat_map (sites_of_use tree part) part.uses in
    listed l.out.items ++ flat_map sites (map (looked tree) (map part_of (drop l.part-index l.parts))) ≡ flat_map sites (map (looked tree) (map part_of l.parts))
