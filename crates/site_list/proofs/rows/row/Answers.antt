use Rattle.std.proofs.Common.{arith}
use Rattle.site_list.specs.SourceSites.{selector_of, held}
use Rattle.site_list.proofs.Numbers.{place_most}
use Rattle.site_list.proofs.rows.row.Goals as goal

pub overflow_cast-result : goal.overflow_cast-result
overflow_cast-result c = let h = place_most (selector_of c.args.selector) (held c.args.known.now) in let e = c.in_ok-number.ensures.number in omega (arith, h, e)
