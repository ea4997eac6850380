use Rattle.std.proofs.Common.{◌≡◌, None}
use Rattle.muen_num.specs.Range.{numbers_below}
use Rattle.muen_num.specs.Search.{first_in}
use Rattle.policy_rules.specs.Majors.{missing_offence}
use Rattle.policy_rules.proofs.major_frames.first_missing.Given as goal

abbrev pub invariant-loop-cpu : goal.invariant-loop-cpu
invariant-loop-cpu l = first_in (missing_offence l.cpus l.index) (numbers_below l.cpu) ≡ None
