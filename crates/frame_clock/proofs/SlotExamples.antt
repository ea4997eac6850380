-- Plans and frame slots, where they compute.
use Rattle.std.proofs.Common.{◌≡◌, ℕ, true, false, List, [], ◌∷◌, Some, None, refl}
use Rattle.std.specs.Prelude.{replicate}
use Rattle.muen_num.specs.Frame.{Frame}
use Rattle.frame_clock.specs.Plan.{frames_in, is_plan}
use Rattle.frame_clock.specs.Slot.{slot_at}
use Rattle.frame_clock.specs.declared.plan.GroupPart.{GroupPart}
use Rattle.frame_clock.specs.declared.plan.Minor.{Minor}
use Rattle.frame_clock.specs.declared.plan.Major.{Major}
use Rattle.frame_clock.specs.declared.plan.Plan.{Plan}

-- ---- frame slots

-- two major frames, of 3 and 2 ticks
frames : List (List Frame)
frames =
    (record { group = 0; ticks = 1 } ∷ record { group = 1; ticks = 2 } ∷ [])
    ∷ (record { group = 1; ticks = 2 } ∷ [])
    ∷ []

slot_in_second_frame : slot_at frames 2 ≡ Some (record { major = 0; group = 1; first = false; remaining = 1 })
unfolding slot_at frames
slot_in_second_frame = refl

slot_in_second_major : slot_at frames 3 ≡ Some (record { major = 1; group = 1; first = true; remaining = 2 })
unfolding slot_at frames
slot_in_second_major = refl

slot_begins_anew : slot_at frames 10 ≡ Some (record { major = 0; group = 0; first = true; remaining = 1 })
unfolding slot_at frames
slot_begins_anew = refl

slot_of_no_frames : slot_at [] 0 ≡ None
unfolding slot_at
slot_of_no_frames = refl

-- ---- plans

abbrev group : ℕ → GroupPart
group cpu = record { cpu = cpu; first = 0 }

abbrev minor : ℕ → ℕ → Minor
minor group ticks = record { group = group; ticks = ticks }

abbrev major : ℕ → List (List Minor) → Major
major ticks cpus = record { ticks = ticks; cpus = cpus }

-- groups 0 and 1 are on CPU 0, and group 2 on CPU 1; the major frames have 3 and 2 ticks; these are the frames of both
-- CPUs in the first
abbrev plan_with : List Minor → List Minor → Plan
plan_with zero one = record {
  groups = group 0 ∷ group 0 ∷ group 1 ∷ [];
  majors = major 3 (zero ∷ one ∷ []) ∷ major 2 ((minor 1 2 ∷ []) ∷ (minor 2 1 ∷ minor 2 1 ∷ []) ∷ []) ∷ [];
}

valid : is_plan (plan_with (minor 0 1 ∷ minor 1 2 ∷ []) (minor 2 3 ∷ [])) ≡ true
unfolding is_plan
valid = refl

frames_of_valid : frames_in (plan_with (minor 0 1 ∷ minor 1 2 ∷ []) (minor 2 3 ∷ [])) 0 ≡ frames
unfolding frames_in frames
frames_of_valid = refl

ticks_missing : is_plan (plan_with (minor 0 1 ∷ minor 1 1 ∷ []) (minor 2 3 ∷ [])) ≡ false
unfolding is_plan
ticks_missing = refl

ticks_too_many : is_plan (plan_with (minor 0 1 ∷ minor 1 2 ∷ []) (minor 2 4 ∷ [])) ≡ false
unfolding is_plan
ticks_too_many = refl

frame_without_ticks : is_plan (plan_with (minor 0 0 ∷ minor 1 3 ∷ []) (minor 2 3 ∷ [])) ≡ false
unfolding is_plan
frame_without_ticks = refl

group_of_another_cpu : is_plan (plan_with (minor 0 1 ∷ minor 2 2 ∷ []) (minor 2 3 ∷ [])) ≡ false
unfolding is_plan
group_of_another_cpu = refl

group_not_there : is_plan (plan_with (minor 0 1 ∷ minor 1 2 ∷ []) (minor 3 3 ∷ [])) ≡ false
unfolding is_plan
group_not_there = refl

cpu_without_frames : is_plan (record { groups = []; majors = major 0 ([] ∷ []) ∷ [] }) ≡ false
unfolding is_plan
cpu_without_frames = refl

no_major_frames : is_plan (record { groups = []; majors = [] }) ≡ false
unfolding is_plan
no_major_frames = refl

-- a group on a CPU that isn't planned
group_past_the_cpus : is_plan (record { groups = group 0 ∷ group 1 ∷ []; majors = major 1 ((minor 0 1 ∷ []) ∷ []) ∷ [] }) ≡ false
unfolding is_plan
group_past_the_cpus = refl

-- a second major frame for more CPUs than the first
cpus_differ : is_plan (record { groups = group 0 ∷ []; majors = major 1 ((minor 0 1 ∷ []) ∷ []) ∷ major 1 ((minor 0 1 ∷ []) ∷ (minor 0 1 ∷ []) ∷ []) ∷ [] }) ≡ false
unfolding is_plan
cpus_differ = refl

-- ---- the limits

-- one CPU and one group: major frames of one minor frame each
abbrev simple : ℕ → ℕ → Plan
simple majors ticks = record { groups = group 0 ∷ []; majors = replicate majors (major ticks ((minor 0 ticks ∷ []) ∷ [])) }

-- one major frame of one tick a minor frame
abbrev fine : ℕ → Plan
fine minors = record { groups = group 0 ∷ []; majors = major minors (replicate minors (minor 0 1) ∷ []) ∷ [] }

most_majors : is_plan (simple 16 1) ≡ true
unfolding is_plan
most_majors = refl

too_many_majors : is_plan (simple 17 1) ≡ false
unfolding is_plan
too_many_majors = refl

most_ticks : is_plan (simple 1 100000) ≡ true
unfolding is_plan
most_ticks = refl

too_many_ticks : is_plan (simple 1 100001) ≡ false
unfolding is_plan
too_many_ticks = refl

most_minors : is_plan (fine 64) ≡ true
unfolding is_plan
most_minors = refl

too_many_minors : is_plan (fine 65) ≡ false
unfolding is_plan
too_many_minors = refl
