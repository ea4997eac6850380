-- What is left is searched as all is.
use Rattle.std.proofs.Common.{◌≡◌, drop}
use Rattle.policy_lint.specs.Seen.{found_among}
use Rattle.policy_lint.proofs.seen.found_among.Given as goal

abbrev pub invariant-loop-other : goal.invariant-loop-other
invariant-loop-other l = found_among l.file (drop l.other-index l.others) ≡ found_among l.file l.others
