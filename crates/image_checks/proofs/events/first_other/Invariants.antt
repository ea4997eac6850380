use Rattle.std.proofs.Common.{ℕ, ◌<◌}
use Rattle.image_checks.proofs.events.first_other.Given as goal
use Rattle.image_checks.specs.Agreement.{subjects_of_both}
use Rattle.image_checks.specs.Firsts.{HoldsAt}
use Rattle.image_soundness.specs.Sound.{IsSubjectOf}
use Rattle.policy_lawful.specs.Resolution.{source_of}

abbrev pub invariant-loop-index : goal.invariant-loop-index
invariant-loop-index l =
    (j : ℕ) → j < l.index → HoldsAt (λ e. IsSubjectOf (source_of l.lawful) e.0 e.1) (subjects_of_both l.lawful l.parts) j
