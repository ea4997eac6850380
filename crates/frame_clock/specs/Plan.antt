-- The scheduling plan of an image, and when it is one (this project's own format, after Muen's scheduling plans).
use Rattle.std.specs.Prelude.{ℕ, ◌==◌, ◌&&◌, Bool, false, List, [], ◌∷◌, length, map, slice_get, slice_index_or, nat_le, nat_lt}
use Rattle.std.specs.Option.{option_map_or}
use Rattle.std.specs.List.{list_all, sum_by, enumerate_from}
use Rattle.muen_num.specs.Frame.{Frame}
use Rattle.muen_num.specs.declared.limits.TheConstants.{MOST_CPUS, MOST_MAJOR_FRAMES, MOST_MINOR_FRAMES, MOST_TICKS}
use Rattle.frame_clock.specs.declared.plan.GroupPart.{GroupPart}
use Rattle.frame_clock.specs.declared.plan.Minor.{Minor}
use Rattle.frame_clock.specs.declared.plan.Major.{Major}
use Rattle.frame_clock.specs.declared.plan.Plan.{Plan}

-- ---- the frames of a CPU

abbrev pub frame_of_minor : Minor → Frame
frame_of_minor f = record { group = f.group; ticks = f.ticks }

-- the minor frames of a CPU, in each of the major frames
unfoldable pub frames_in : Plan → ℕ → List (List Frame)
frames_in p cpu = map (λ m. map frame_of_minor (slice_index_or m.cpus cpu [])) p.majors

-- how many CPUs it plans
abbrev pub cpus_in : List Major → ℕ
cpus_in [] = 0
cpus_in (m ∷ ms) = length m.cpus

abbrev pub cpus_of : Plan → ℕ
cpus_of p = cpus_in p.majors

-- ---- a plan that can run

-- the group is there, and on this CPU
abbrev pub is_group_on : List GroupPart → ℕ → ℕ → Bool
is_group_on groups cpu group = option_map_or (λ g. g.cpu == cpu) (slice_get groups group) false

-- a minor frame has ticks, and its group is on its CPU
abbrev pub is_minor : List GroupPart → ℕ → Minor → Bool
is_minor groups cpu f = nat_lt 0 f.ticks && is_group_on groups cpu f.group

-- a CPU has minor frames, as many as it may, and in all the major's ticks
abbrev pub is_cpu : List GroupPart → ℕ → ℕ × List Minor → Bool
is_cpu groups ticks (cpu, frames) =
    nat_lt 0 (length frames)
    && nat_le (length frames) MOST_MINOR_FRAMES
    && list_all (is_minor groups cpu) frames
    && (sum_by (λ f. f.ticks) frames == ticks)

-- a major frame has minor frames for as many CPUs, and ticks, as many as it may
abbrev pub is_major : List GroupPart → ℕ → Major → Bool
is_major groups cpus m =
    (length m.cpus == cpus)
    && nat_lt 0 m.ticks
    && nat_le m.ticks MOST_TICKS
    && list_all (is_cpu groups m.ticks) (enumerate_from 0 m.cpus)

-- there are CPUs and major frames, as many as there may be, and each group is on one of the CPUs
unfoldable pub is_plan : Plan → Bool
is_plan p =
    nat_lt 0 (cpus_of p)
    && nat_le (cpus_of p) MOST_CPUS
    && nat_lt 0 (length p.majors)
    && nat_le (length p.majors) MOST_MAJOR_FRAMES
    && list_all (λ g. nat_lt g.cpu (cpus_of p)) p.groups
    && list_all (is_major p.groups (cpus_of p)) p.majors
