use Rattle.std.proofs.Common.{◌≡◌, ◌++◌, take}
use Rattle.std.specs.List.{filter_map}
use Rattle.expand_grants.specs.Raising.{channel_end_entry}
use Rattle.expand_grants.proofs.events.add_channel_ends.Given as goal

abbrev pub invariant-loop-end : goal.invariant-loop-end
invariant-loop-end l = l.entries.items ≡ l.initial.entries.items ++ filter_map (channel_end_entry l.channels l.readers) (take l.end-index l.ends)
