use Rattle.std.proofs.Common.{◌≡◌, map, take}
use Rattle.std.specs.List.{enumerate_from}
use Rattle.flow_report.specs.ByIndex.{contacts_of}
use Rattle.flow_report.proofs.contacts.all_contacts.Given as goal

abbrev pub invariant-loop-index : goal.invariant-loop-index
invariant-loop-index l = l.all_contacts.items ≡ map (contacts_of l.policy) (enumerate_from 0 (take l.index l.policy.subjects))
