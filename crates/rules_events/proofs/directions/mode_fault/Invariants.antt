use Rattle.std.proofs.Common.{◌≡◌, drop}
use Rattle.muen_num.specs.Search.{first_in}
use Rattle.rules_events.specs.Directions.{source_fault}
use Rattle.rules_events.proofs.directions.mode_fault.Given as goal

abbrev pub invariant-loop-source : goal.invariant-loop-source
invariant-loop-source l =
    first_in (source_fault l.groups l.mode l.name l.targets) (drop l.source-index l.sources) ≡ first_in (source_fault l.groups l.mode l.name l.targets) l.sources
