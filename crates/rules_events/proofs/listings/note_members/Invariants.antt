use Rattle.std.proofs.Common.{◌≡◌, ◌++◌, map, take}
use Rattle.rules_events.proofs.listings.note_members.Given as goal

abbrev pub invariant-loop-member : goal.invariant-loop-member
invariant-loop-member l = l.noted.items ≡ l.initial.noted.items ++ map (λ i. (i, l.index)) (take l.member-index l.group.subjects)
