use Rattle.rules_events.proofs.Distinct.{Followed}
use Rattle.rules_events.proofs.numbers.all_follow.Given as goal

abbrev pub invariant-loop-number : goal.invariant-loop-number
invariant-loop-number l = Followed l.marks l.first l.last l.numbers l.number-index
