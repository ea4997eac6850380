-- What an answer of the clock tells.
use Rattle.frame_clock.specs.Slot.{Slot}
use Rattle.frame_clock.specs.declared.FrameSlot.{FrameSlot}

abbrev pub slot_of : FrameSlot → Slot
slot_of s = record { major = s.major; group = s.group; first = s.first; remaining = s.remaining }
