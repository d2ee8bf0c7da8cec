use Rattle.std.proofs.Common.{◌≡◌, ◌++◌, drop, map}
use Rattle.dart_meaning.specs.Sites.{also_used}
use Rattle.site_list.specs.Rows.{Stands, row_in}
use Rattle.site_list.specs.SourceSites.{listed, asked, held}
use Rattle.site_list.proofs.rows.rows_of_text.Given as goal

abbrev pub invariant-loop-site : goal.invariant-loop-site
invariant-loop-site l =
    let all = also_used (held l.fn.known) (asked l.sites) in
    record {
      known : also_used (held l.known) (asked (drop l.site-index l.sites)) ≡ all;
      stands : Stands l.text l.cursor;
      rows : l.rows.items ++ map (row_in l.text all) (listed (drop l.site-index l.sites)) ≡ map (row_in l.text all) (listed l.sites);
    }
