use Rattle.std.proofs.Common.{◌<◌, ◌≤◌, ◌∙◌, sym, length, arith}
use Rattle.std.specs.Prelude.{slice_index_or}
use Rattle.frame_clock.specs.declared.plan.Minor.{Minor}
use Rattle.frame_clock.proofs.FrameSearch.{frame_here, frame_past}
use Rattle.frame_clock.proofs.in_frames.Goals as goal

abbrev nothing : Minor
nothing = record { group = 0; ticks = 0 }

pub returns-then-rest-frame : goal.returns-then-rest-frame
returns-then-rest-frame c =
    let i = c.loop-frame.frame-index in
    let fs = c.args.frames.now in
    sym c.loop-frame.invariant ∙ frame_here c.args.major fs i c.loop-frame.rest nothing (omega arith) (omega arith)

pub loop-frame-preserved : goal.loop-frame-preserved
loop-frame-preserved c =
    let i = c.loop-frame.frame-index in
    let fs = c.args.frames.now in
    let within : i < length fs = omega arith in
    let past : (slice_index_or fs i nothing).ticks ≤ c.loop-frame.rest = omega arith in
    frame_past c.args.major fs i c.loop-frame.rest nothing within past ∙ c.loop-frame.invariant
