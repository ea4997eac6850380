-- One round more.
use Rattle.std.proofs.Common.{◌≡◌, ℕ, ◌+◌, Bool, List, refl, ap, add-one}
use Rattle.policy_flows.specs.Flows.{rounds}
use Rattle.flow_report.specs.Marks.{after_rounds, round}

-- no round
pub no_round : (rows : List (List Bool)) (marks : List Bool) → after_rounds rows marks 0 ≡ marks
unfolding after_rounds
no_round rows marks = refl

-- one more
pub one_round : (rows : List (List Bool)) (marks : List Bool) (n : ℕ) → after_rounds rows marks (n + 1) ≡ round rows (after_rounds rows marks n)
unfolding after_rounds
one_round rows marks n = ap (λ k. rounds k (round rows) marks) (add-one n)

pub ruleset by_rounds = (no_round, one_round)
