use Rattle.std.proofs.Common.{◌≡◌, map, take}
use Rattle.flow_report.specs.ByIndex.{rows_of}
use Rattle.flow_report.specs.Marks.{after_rounds, alone_marked}
use Rattle.flow_report.proofs.sets.sets_after.Given as goal

abbrev pub invariant-loop-contacts : goal.invariant-loop-contacts
invariant-loop-contacts l = l.sets ≡ map (λ f. after_rounds (rows_of l.all_contacts) (alone_marked l.all_contacts f.index) l.rounds) (take l.contacts-index l.all_contacts)
