use Rattle.std.proofs.Common.{◌≡◌, take}
use Rattle.std.specs.List.{enumerate_from, flat_map}
use Rattle.rules_channels.specs.ChannelEnds.{met_channel_ends}
use Rattle.rules_channels.proofs.channel_ends.all_channel_ends.Given as goal

abbrev pub invariant-loop-index : goal.invariant-loop-index
invariant-loop-index l = l.noted.items ≡ flat_map (met_channel_ends l.policy) (enumerate_from 0 (take l.index l.policy.subjects))
