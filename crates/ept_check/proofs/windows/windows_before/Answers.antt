use Rattle.std.proofs.Common.{of_calls, rules}
use Rattle.std.specs.Prelude.{◌+◌, nat_le}
use Rattle.std.proofs.lemmas.List.Sorted.{IsPartitionPoint-from_clause}
use Rattle.ept_check.proofs.Borders.{ends_parted, past_from}
use Rattle.ept_check.proofs.windows.windows_before.Goals as goal

pub returns : goal.returns
returns c =
    let ws = c.args.windows.now in
    past_from ws c.args.addr c.partition_point.result c.partition_point.ensures.bound
    (IsPartitionPoint-from_clause (λ w. nat_le (w.guest + w.size) c.args.addr) ws c.partition_point.result c.partition_point.ensures.partitioned
    (λ i j d l m h. ends_parted ws c.requires c.args.addr i j d l m h) (λ a r f k. search (rules, of_calls)))
