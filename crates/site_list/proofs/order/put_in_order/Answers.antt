use Rattle.std.proofs.Common.{rules}
use Rattle.site_list.proofs.Places.{sorted_by_closure}
use Rattle.site_list.proofs.order.put_in_order.Goals as goal

pub returns : goal.returns
returns c = sorted_by_closure c.args.sites.now.items c.sort_by_key.new.self.items c.in_ok-sort_by_key.ensures.sorted c.in_ok-sort_by_key.ensures.stable (λ a r q k. search rules)
