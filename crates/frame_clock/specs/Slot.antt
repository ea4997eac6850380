-- Which frame a CPU has at a tick (this project's profile of Muen's scheduling plans): the major frames in order, again
-- and again, and in each the CPU's minor frames in order.
use Rattle.std.specs.Prelude.{ℕ, ◌+◌, ◌-◌, ◌%◌, ◌==◌, Bool, List, [], ◌∷◌, ◌++◌, length, map, slice_get, Option}
use Rattle.std.specs.List.{flat_map}
use Rattle.muen_num.specs.Frame.{Frame}
use Rattle.muen_num.specs.Range.{numbers_below}

-- a tick of a CPU: the major frame, the scheduling group, whether it is the first tick of its minor frame, and how many
-- of the frame's ticks remain with this one counted
pub record Slot : Type 0 where
  pub major : ℕ
  pub group : ℕ
  pub first : Bool
  pub remaining : ℕ

-- the ticks of a minor frame
abbrev pub frame_slots : ℕ → Frame → List Slot
frame_slots major f =
    map (λ k. record { major = major; group = f.group; first = k == 0; remaining = f.ticks - k }) (numbers_below f.ticks)

-- the ticks of a CPU in all major frames, numbered from here on
abbrev pub slots_from : ℕ → List (List Frame) → List Slot
slots_from major [] = []
slots_from major (m ∷ ms) = flat_map (frame_slots major) m ++ slots_from (major + 1) ms

-- the frame slot of a CPU at a tick, of the CPU's minor frames in each of the major frames: they are laid out tick by
-- tick, and begin anew at their end
unfoldable pub slot_at : List (List Frame) → ℕ → Option Slot
slot_at frames tick = slice_get (slots_from 0 frames) (tick % length (slots_from 0 frames))
