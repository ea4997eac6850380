use Rattle.std.proofs.Common.{◌≡◌, ℕ, ◌<◌, false, not, get_or, take, length}
use Rattle.std.specs.Prelude.{◌&&◌}
use Rattle.rules_events.specs.Monitors.{is_monitored}
use Rattle.rules_events.proofs.monitoring.clear.Given as goal

abbrev pub invariant-loop-monitor : goal.invariant-loop-monitor
invariant-loop-monitor l =
    (k : ℕ) → k < length l.initial.marks → get_or l.marks k false ≡ (get_or l.initial.marks k false && not (is_monitored (take l.monitor-index l.monitors) k))
