use Rattle.std.proofs.Common.{◌≡◌, ◌++◌, take}
use Rattle.std.specs.List.{filter_map}
use Rattle.expand_grants.specs.Raising.{source_entry}
use Rattle.expand_grants.proofs.events.add_sources.Given as goal

abbrev pub invariant-loop-source : goal.invariant-loop-source
invariant-loop-source l = l.entries.items ≡ l.initial.entries.items ++ filter_map (source_entry l.events l.targets) (take l.source-index l.sources)
