-- The plan of a resolved policy, by the indexes of its groups and subjects, and when its numbers fit.
use Rattle.std.specs.Prelude.{ℕ, ◌^◌, ◌==◌, ◌&&◌, Bool, List, [], length, map, slice_get, slice_index, nat_lt}
use Rattle.std.specs.Option.{option_map_or}
use Rattle.std.specs.List.{find, list_all}
use Rattle.muen_num.specs.Range.{numbers_below}
use Rattle.frame_clock.specs.declared.plan.GroupPart.{GroupPart}
use Rattle.frame_clock.specs.declared.plan.Minor.{Minor}
use Rattle.frame_clock.specs.declared.plan.Major.{Major}
use Rattle.frame_clock.specs.declared.plan.Plan.{Plan}
use Rattle.policy_lawful.specs.ByIndex.{ticks_in}
use Rattle.policy_lawful.specs.Resolution.{Resolution}
use Rattle.policy_lawful.specs.declared.resolved.Group.{Group}
use Rattle.policy_lawful.specs.declared.resolved.MajorFrame.{MajorFrame}
use Rattle.policy_lawful.specs.declared.resolved.CpuFrames.{CpuFrames}
use Rattle.policy_lawful.specs.declared.resolved.MinorFrame.{MinorFrame}

-- ---- the parts of a plan

abbrev pub minor_part : MinorFrame → Minor
minor_part f = record { group = f.group; ticks = f.ticks }

-- the minor frames of the entry that names a CPU
abbrev pub cpu_part : List CpuFrames → ℕ → List Minor
cpu_part entries cpu = option_map_or (λ c. map minor_part c.minor_frames) (find (λ c. c.cpu == cpu) entries) []

-- the ticks of the first entry
abbrev pub first_ticks : List CpuFrames → ℕ
first_ticks entries = option_map_or ticks_in (slice_get entries 0) 0

-- a major frame for so many CPUs
abbrev pub major_part : ℕ → MajorFrame → Major
major_part count m = record { ticks = first_ticks m.cpus; cpus = map (cpu_part m.cpus) (numbers_below count) }

abbrev pub group_part : Group → GroupPart
group_part g = record { cpu = g.cpu; first = slice_index g.subjects 0 }

-- the plan of these groups and major frames for so many CPUs
abbrev pub plan_of : ℕ → List Group → List MajorFrame → Plan
plan_of count groups majors = record { groups = map group_part groups; majors = map (major_part count) majors }

abbrev pub emitted : Resolution → Plan
emitted r = plan_of r.processor.logical_cpus r.scheduling.groups r.scheduling.major_frames

-- ---- numbers that fit

abbrev pub fits_minor : MinorFrame → Bool
fits_minor f = nat_lt f.group (2 ^ 8) && nat_lt f.ticks (2 ^ 32)

abbrev pub fits_entry : CpuFrames → Bool
fits_entry c = list_all fits_minor c.minor_frames && nat_lt (ticks_in c) (2 ^ 32)

abbrev pub fits_major : MajorFrame → Bool
fits_major m = list_all fits_entry m.cpus

-- a group has a member, too
abbrev pub fits_group : Group → Bool
fits_group g = nat_lt g.cpu (2 ^ 8) && nat_lt 0 (length g.subjects) && list_all (λ i. nat_lt i (2 ^ 8)) g.subjects
