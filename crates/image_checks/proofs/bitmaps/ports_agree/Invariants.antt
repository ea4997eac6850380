use Rattle.std.proofs.Common.{◌≡◌, ◌<◌, ℕ, not}
use Rattle.std.specs.List.{list_any}
use Rattle.policy_lawful.specs.PortRanges.{has_port}
use Rattle.machine_layout.specs.Exits.{port_exits}
use Rattle.image_checks.proofs.bitmaps.ports_agree.Given as goal

-- the ports so far agree
abbrev pub invariant-loop-number : goal.invariant-loop-number
invariant-loop-number l = (port : ℕ) → port < l.number → port_exits l.a l.b port 1 ≡ not (list_any (λ r. has_port r port) l.ranges)
