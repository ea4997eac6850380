use Rattle.std.proofs.Common.{rules}
use Rattle.std.specs.Prelude.{nat_lt}
use Rattle.std.proofs.lemmas.Bool.{ltb-true, ltb-false}
use Rattle.std.proofs.lemmas.List.Sorted.{IsPartitionPoint-from_clause, IsPartitionedBy-ltb}
use Rattle.device_bench.proofs.at_tick.count_before.Goals as goal

pub returns : goal.returns
returns g c =
    let point = IsPartitionPoint-from_clause (λ x. nat_lt (g.T.Ticked.tick x) c.args.tick) c.args.items.now c.partition_point.result c.partition_point.ensures.partitioned (IsPartitionedBy-ltb g.T.Ticked.tick c.args.items.now c.args.tick c.requires) (λ a r f h. search rules) in
    record {
      before = record { within = c.partition_point.ensures.bound; earlier = λ k d low l. ltb-true _ _ (point.0 k d low l) };
      behind = λ k d low l. ltb-false _ _ (point.1 k d low l);
    }
