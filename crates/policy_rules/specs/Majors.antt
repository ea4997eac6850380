-- Rule 16 of a resolved policy: major frames, with the groups by their indexes.
use Rattle.std.specs.Prelude.{ℕ, ◌==◌, ◌&&◌, not, Bool, true, List, [], length, slice_get, nat_lt, Option, option_map}
use Rattle.std.specs.Option.{option_map_or, option_or}
use Rattle.std.specs.List.{enumerate_from, list_any, list_all}
use Rattle.muen_num.specs.Range.{numbers_below}
use Rattle.muen_num.specs.Search.{first_in, first_after, unless}
use Rattle.policy_lawful.specs.ByIndex.{ticks_in}
use Rattle.policy_lawful.specs.Offences.{two}
use Rattle.policy_lawful.specs.Resolution.{Resolution}
use Rattle.policy_lawful.specs.Rules.{major_name, cpu_name, is_on}
use Rattle.policy_lawful.specs.declared.offence.Offence.{Offence}
use Rattle.policy_lawful.specs.declared.resolved.Group.{Group}
use Rattle.policy_lawful.specs.declared.resolved.MajorFrame.{MajorFrame}
use Rattle.policy_lawful.specs.declared.resolved.CpuFrames.{CpuFrames}
use Rattle.policy_lawful.specs.declared.resolved.MinorFrame.{MinorFrame}

-- the CPU of the group at an index
abbrev pub cpu_of_group : List Group → ℕ → Option ℕ
cpu_of_group groups index = option_map (λ g. g.cpu) (slice_get groups index)

abbrev pub is_resolved_frame : List Group → ℕ → MinorFrame → Bool
is_resolved_frame groups cpu f = nat_lt 0 f.ticks && is_on (cpu_of_group groups f.group) cpu

abbrev pub has_first_ticks : List CpuFrames → CpuFrames → Bool
has_first_ticks before c = option_map_or (λ b. ticks_in b == ticks_in c) (slice_get before 0) true

abbrev pub is_listed_cpu : List CpuFrames → ℕ → Bool
is_listed_cpu cpus cpu = list_any (λ c. c.cpu == cpu) cpus

abbrev pub is_resolved_major_entry : List Group → List CpuFrames → CpuFrames → Bool
is_resolved_major_entry groups before c =
    not (is_listed_cpu before c.cpu)
    && not (length c.minor_frames == 0)
    && list_all (is_resolved_frame groups c.cpu) c.minor_frames
    && has_first_ticks before c

abbrev pub cpu_frames_offence : List Group → ℕ → List CpuFrames → CpuFrames → Option Offence
cpu_frames_offence groups k before c = unless (is_resolved_major_entry groups before c) (two (major_name k) (cpu_name c.cpu))

abbrev pub missing_offence : List CpuFrames → ℕ → ℕ → Option Offence
missing_offence cpus k cpu = unless (is_listed_cpu cpus cpu) (two (major_name k) (cpu_name cpu))

-- the listed entries, then the CPUs that aren't named
abbrev pub resolved_major_offence : List Group → ℕ → ℕ × MajorFrame → Option Offence
resolved_major_offence groups count (k, m) =
    option_or (first_after (cpu_frames_offence groups k) [] m.cpus) (first_in (missing_offence m.cpus k) (numbers_below count))

-- the first of any major frame
abbrev pub frames_offence : Resolution → Option Offence
frames_offence r =
    first_in (resolved_major_offence r.scheduling.groups r.processor.logical_cpus) (enumerate_from 0 r.scheduling.major_frames)
