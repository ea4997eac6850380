-- How many MSRs the first grants have.
use Rattle.std.proofs.Common.{◌≡◌, refl, [], ℕ, ◌≤◌, List, take}
use Rattle.std.proofs.lemmas.List.Sums.{sum_by-take-le}
use Rattle.msrbm_emit.specs.Area.{msr_count, size_of}
use Rattle.policy_lawful.specs.resources.MsrGrant.{MsrGrant}

pub count_none : 0 ≡ msr_count []
unfolding msr_count
count_none = refl

pub count_most : (msrs : List MsrGrant) (i : ℕ) → msr_count (take i msrs) ≤ msr_count msrs
unfolding msr_count
count_most msrs i = sum_by-take-le size_of msrs i
