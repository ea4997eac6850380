use Rattle.std.proofs.Common.{◌≡◌, ◌++◌, map, take}
use Rattle.rules_channels.specs.ChannelEnds.{met}
use Rattle.rules_channels.specs.Parties.{party}
use Rattle.rules_channels.proofs.channel_ends.note_channel_ends.Given as goal

abbrev pub invariant-loop-end : goal.invariant-loop-end
invariant-loop-end l = l.noted.items ≡ l.initial.noted.items ++ map (λ e. (e.channel, met (party (l.index, l.subject)) e)) (take l.end-index l.ends)
