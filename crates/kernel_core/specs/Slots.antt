-- What the kernel keeps of the slots that it found (this project's own).
use Rattle.std.specs.Prelude.{◌≡◌, ℕ, ◌≤◌, List, Option, Some, slice_get}
use Rattle.muen_num.specs.Frame.{Frame}
use Rattle.frame_clock.specs.Frames.{slot_in}
use Rattle.frame_clock.specs.FrameSlot.{slot_of}
use Rattle.frame_clock.specs.Plan.{frames_in}
use Rattle.frame_clock.specs.declared.plan.Plan.{Plan}
use Rattle.kernel_core.specs.declared.slots.KeptSlot.{KeptSlot}

-- what is kept is the slot that a CPU with these minor frames, of each of the major frames, has at its tick
pub record IsSlotKept (frames : List (List Frame)) (kept : KeptSlot) : Type 0 where
  pub begun : kept.at.start ≤ kept.tick
  pub slot : slot_in frames kept.at kept.tick ≡ Some (slot_of kept.slot)

-- what is kept for each CPU of a plan, by the CPU's number
pub record AreSlotsKept (plan : Plan) (slots : List (Option KeptSlot)) : Type 0 where
  pub each : (cpu : ℕ) (kept : KeptSlot) → slice_get slots cpu ≡ Some (Some kept) → IsSlotKept (frames_in plan cpu) kept
