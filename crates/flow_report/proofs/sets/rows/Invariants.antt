use Rattle.std.proofs.Common.{◌≡◌, map, take}
use Rattle.flow_report.specs.ByIndex.{flows_between}
use Rattle.flow_report.proofs.sets.rows.Given as goal

abbrev pub invariant-loop-contacts : goal.invariant-loop-contacts
invariant-loop-contacts l = l.rows.items ≡ map (λ u. map (flows_between u) l.all_contacts) (take l.contacts-index l.all_contacts)
