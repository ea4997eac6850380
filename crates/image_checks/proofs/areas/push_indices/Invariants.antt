use Rattle.std.proofs.Common.{◌≡◌, ◌+◌, ◌++◌, map}
use Rattle.muen_num.specs.Range.{numbers_below}
use Rattle.image_checks.proofs.areas.push_indices.Given as goal

-- the first ones of the range are appended
abbrev pub invariant-loop-k : goal.invariant-loop-k
invariant-loop-k l = l.found.items ≡ l.fn.found.items ++ map (λ k. l.grant.start + k) (numbers_below l.k)
