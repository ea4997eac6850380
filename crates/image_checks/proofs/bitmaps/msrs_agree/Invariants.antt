use Rattle.std.proofs.Common.{◌+◌, ◌<◌, ℕ, Bool}
use Rattle.image_checks.specs.Agree.{MsrAgrees}
use Rattle.image_checks.proofs.bitmaps.msrs_agree.Given as goal

-- the MSRs so far agree
abbrev pub invariant-loop-k : goal.invariant-loop-k
invariant-loop-k l = (k : ℕ) (write : Bool) → k < l.k → MsrAgrees l.bitmap l.msrs (l.first + k) write
