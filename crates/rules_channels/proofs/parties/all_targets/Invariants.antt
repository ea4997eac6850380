use Rattle.std.proofs.Common.{◌≡◌, take}
use Rattle.std.specs.List.{enumerate_from, flat_map}
use Rattle.rules_channels.specs.Parties.{target_parties}
use Rattle.rules_channels.proofs.parties.all_targets.Given as goal

abbrev pub invariant-loop-index : goal.invariant-loop-index
invariant-loop-index l = l.noted.items ≡ flat_map target_parties (enumerate_from 0 (take l.index l.subjects))
