use Rattle.device_flows.proofs.HeldFlows.{reach_is_least}
use Rattle.device_flows.proofs.laws.device_closures_are_least.Goals as goal

pub returns : goal.returns
returns c = reach_is_least
