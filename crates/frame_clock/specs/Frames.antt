-- Which major frame comes next, and which minor frame a CPU has in it (this project's profile of Muen's scheduling plans). The
-- major frames run in the plan's order, again and again, unless a pick names the next one.
use Rattle.std.specs.Prelude.{ℕ, ◌+◌, ◌-◌, ◌==◌, if◌then◌else◌, nat_lt, List, map, length, slice_get, Option, Some, None, option_and_then}
use Rattle.std.specs.List.{flat_map}
use Rattle.muen_num.specs.Frame.{Frame}
use Rattle.frame_clock.specs.Slot.{Slot, frame_slots}
use Rattle.frame_clock.specs.declared.plan.Plan.{Plan}
use Rattle.frame_clock.specs.declared.frame_at.FrameAt.{FrameAt}

-- the first major frame, from tick 0 on
abbrev pub first_frame : FrameAt
first_frame = record { major = 0; start = 0 }

-- the major frame after this one, of so many: the one that is picked; the same one again where there is no such; and the one
-- behind it where nothing is picked
abbrev pub next_major : ℕ → ℕ → Option ℕ → ℕ
next_major count major (Some pick) = if nat_lt pick count then pick else major
next_major count major None = if nat_lt (major + 1) count then major + 1 else 0

-- how many ticks each major frame has
abbrev pub ticks_of_plan_majors : Plan → List ℕ
ticks_of_plan_majors p = map (λ m. m.ticks) p.majors

abbrev pub frame_by_ticks : ℕ → FrameAt → Option ℕ → ℕ → Option ℕ → FrameAt
frame_by_ticks count at pick tick None = at
frame_by_ticks count at pick tick (Some ticks) =
    if tick == at.start + ticks then record { major = next_major count at.major pick; start = tick } else at

-- the major frame at a tick, by that at the tick before: where its ticks are over, the next major frame begins
abbrev pub frame_at_tick : List ℕ → FrameAt → Option ℕ → ℕ → FrameAt
frame_at_tick ticks at pick tick = frame_by_ticks (length ticks) at pick tick (slice_get ticks at.major)

-- the slot of a CPU at a tick, by the major frame that runs then, of the CPU's minor frames in each of the major frames
abbrev pub slot_in : List (List Frame) → FrameAt → ℕ → Option Slot
slot_in frames at tick =
    option_and_then (λ m. slice_get (flat_map (frame_slots at.major) m) (tick - at.start)) (slice_get frames at.major)
