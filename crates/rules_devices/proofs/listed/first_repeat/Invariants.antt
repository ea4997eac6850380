-- The names so far, and the rest is searched.
use Rattle.std.proofs.Common.{◌≡◌, map, take, drop}
use Rattle.rules_devices.proofs.Names.{repeat_after}
use Rattle.rules_devices.specs.Domains.{first_repeat}
use Rattle.rules_devices.proofs.listed.first_repeat.Given as goal

abbrev pub invariant-loop-x : goal.invariant-loop-x
invariant-loop-x l = record {
  same : l.names ≡ map (λ x. x.name) (take l.x-index l.listed);
  rest : repeat_after l.names (drop l.x-index l.listed) ≡ first_repeat l.listed;
}
