use Rattle.rules_events.specs.Directions.{source_fault}
use Rattle.rules_events.proofs.FirstFault.{fault_found, no_fault}
use Rattle.rules_events.proofs.directions.mode_fault.Goals as goal

pub returns-in-Some : goal.returns-in-Some
returns-in-Some c =
    fault_found (source_fault c.args.groups.now c.args.mode c.args.name.now c.args.targets.now) c.args.sources.now c.loop-source.source-index c.source-item.result c.source_fault.result c.in-Some.offence
    c.loop-source-test.true c.source-item.is c.source_fault.ensures c.in-Some.is c.loop-source.invariant

pub loop-source-preserved : goal.loop-source-preserved
loop-source-preserved c =
    no_fault (source_fault c.args.groups.now c.args.mode c.args.name.now c.args.targets.now) c.args.sources.now c.loop-source.source-index c.source-item.result c.source_fault.result
    c.loop-source-test.true c.source-item.is c.source_fault.ensures c.in_default.is c.loop-source.invariant
