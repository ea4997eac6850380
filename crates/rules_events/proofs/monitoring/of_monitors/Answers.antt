use Rattle.std.proofs.Common.{arith}
use Rattle.rules_events.proofs.Monitored.{kept}
use Rattle.rules_events.proofs.monitoring.of_monitors.Goals as goal

pub loop-monitor-preserved : goal.loop-monitor-preserved
loop-monitor-preserved c =
    let k = kept c.loop-monitor.marks c.mark.new.marks c.args.subjects.now c.args.subject.now c.items-monitor-items.result.now c.loop-monitor.monitor-index _ c.is_marked-is_new.result c.monitor_fault.result
    c.items-monitor-items.ensures c.loop-monitor-test.true (omega arith) (omega arith) c.loop-monitor.invariant.marks c.is_marked-is_new.ensures c.monitor_fault.ensures c.in_default.is c.mark.ensures c.loop-monitor.invariant.rest in
    record { marks = k.marks; rest = k.rest }
