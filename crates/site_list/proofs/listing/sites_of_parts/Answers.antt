use Rattle.dart_meaning.specs.Uses as u
use Rattle.std.proofs.Common.{flat_map, arith}
use Rattle.dart_meaning.specs.Sites.{sites_of_use}
use Rattle.name_uses.specs.Found.{part_of}
use Rattle.name_uses.specs.Looked.{looked}
use Rattle.site_list.specs.SourceSites.{listed}
use Rattle.site_list.proofs.Lists.{one_more}
use Rattle.site_list.proofs.listing.sites_of_parts.Goals as goal

pub loop-part-preserved : goal.loop-part-preserved
loop-part-preserved g c =
    let tree = g.N.Names.tree c.args.names.now in
    one_more (λ (part : u.Part). flat_map (sites_of_use tree part) part.uses) (looked tree) part_of c.args.parts.now c.loop-part.part-index c.part-item.result (listed c.loop-part.out.items) (listed c.put_sites_of_part.new.out.items) _
    (omega arith) c.part-item.is c.in_ok-put_sites_of_part.ensures c.loop-part.invariant
