use Rattle.std.proofs.Common.{rules, nat_lt}
use Rattle.std.proofs.lemmas.List.Sorted.{IsPartitionPoint-from_clause}
use Rattle.dart_meaning.specs.Sites.{text_sites}
use Rattle.site_list.proofs.Places.{by, number_at, parted}
use Rattle.site_list.proofs.order.site_number.Goals as goal

pub returns : goal.returns
returns c = λ tree e.
    let m = c.key_of-key.result in
    let xs = c.args.sites.now in
    number_at tree c.args.place m xs c.partition_point-before.result c.key_of-key.ensures c.partition_point-before.ensures.bound
    (IsPartitionPoint-from_clause (λ s. nat_lt (by s) m) xs c.partition_point-before.result c.partition_point-before.ensures.partitioned (parted m xs (text_sites tree) e) (λ a r q k. search rules))
    e
