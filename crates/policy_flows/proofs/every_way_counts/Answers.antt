use Rattle.policy_flows.proofs.EventWays.{way_counts}
use Rattle.policy_flows.proofs.every_way_counts.Goals as goal

pub returns : goal.returns
returns c = way_counts
