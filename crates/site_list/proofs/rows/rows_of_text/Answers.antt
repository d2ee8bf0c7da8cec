use Rattle.std.proofs.Common.{drop, arith}
use Rattle.site_list.specs.SourceSites.{asked, held}
use Rattle.site_list.proofs.Numbers.{known_more, rows_more, few_more}
use Rattle.site_list.proofs.rows.rows_of_text.Goals as goal

pub row_of-requires-clause-few : goal.row_of-requires-clause-few
row_of-requires-clause-few c = few_more (held c.loop-site.known) (asked (drop c.loop-site.site-index c.args.sites.now)) _ c.loop-site.invariant.known c.requires.few

pub loop-site-preserved : goal.loop-site-preserved
loop-site-preserved c =
    let h = c.in_ok-row_of.ensures in
    record {
      known = known_more c.args.sites.now c.loop-site.site-index _ (held c.loop-site.known) (held c.row_of.new.known) _ (omega arith) h.known c.loop-site.invariant.known;
      stands = h.stands;
      rows = rows_more c.args.text.now c.args.sites.now c.loop-site.site-index _ (held c.loop-site.known) _ c.in_ok-row_of.field-0 c.loop-site.rows.items c.push.new.self.items _ (omega arith) c.loop-site.invariant.known h.row c.in_ok-push.ensures.items c.loop-site.invariant.rows;
    }
