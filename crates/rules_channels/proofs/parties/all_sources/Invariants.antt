use Rattle.std.proofs.Common.{◌≡◌, take}
use Rattle.std.specs.List.{enumerate_from, flat_map}
use Rattle.rules_channels.specs.Parties.{source_parties}
use Rattle.rules_channels.proofs.parties.all_sources.Given as goal

abbrev pub invariant-loop-index : goal.invariant-loop-index
invariant-loop-index l = l.noted.items ≡ flat_map source_parties (enumerate_from 0 (take l.index l.subjects))
