use Rattle.std.proofs.Common.{◌≡◌, ◌++◌, map, take}
use Rattle.rules_channels.specs.Parties.{party}
use Rattle.rules_channels.proofs.parties.note_sources.Given as goal

abbrev pub invariant-loop-source : goal.invariant-loop-source
invariant-loop-source l = l.noted.items ≡ l.initial.noted.items ++ map (λ e. (e.event, party (l.index, l.subject))) (take l.source-index l.subject.sources)
