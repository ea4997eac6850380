use Rattle.std.proofs.Common.{◌≡◌, [], take, drop}
use Rattle.muen_num.specs.Search.{first_after}
use Rattle.policy_rules.specs.Majors.{cpu_frames_offence}
use Rattle.policy_rules.proofs.major_frames.first_entry.Given as goal

abbrev pub invariant-loop-i : goal.invariant-loop-i
invariant-loop-i l =
    first_after (cpu_frames_offence l.groups l.index) (take l.i l.cpus) (drop l.i l.cpus) ≡ first_after (cpu_frames_offence l.groups l.index) [] l.cpus
