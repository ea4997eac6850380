use Rattle.std.proofs.Common.{◌≡◌, ◌++◌, map, take}
use Rattle.rules_channels.specs.Parties.{party}
use Rattle.rules_channels.proofs.parties.note_targets.Given as goal

abbrev pub invariant-loop-target : goal.invariant-loop-target
invariant-loop-target l = l.noted.items ≡ l.initial.noted.items ++ map (λ e. (e.event, party (l.index, l.subject))) (take l.target-index l.subject.targets)
