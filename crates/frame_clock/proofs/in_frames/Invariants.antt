use Rattle.std.proofs.Common.{◌≡◌, map, drop}
use Rattle.std.specs.Prelude.{slice_get}
use Rattle.std.specs.List.{flat_map}
use Rattle.frame_clock.specs.Plan.{frame_of_minor}
use Rattle.frame_clock.specs.Slot.{frame_slots}
use Rattle.frame_clock.proofs.in_frames.Given as goal

-- the frames that remain have what remains of the tick where all of them have the tick
abbrev pub invariant-loop-frame : goal.invariant-loop-frame
invariant-loop-frame l =
    slice_get (flat_map (frame_slots l.major) (map frame_of_minor (drop l.frame-index l.frames))) l.rest ≡ slice_get (flat_map (frame_slots l.major) (map frame_of_minor l.frames)) l.tick
