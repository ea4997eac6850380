use Rattle.std.proofs.Common.{◌∙◌, List, map, sym, ap}
use Rattle.std.specs.Prelude.{slice_get, option_map}
use Rattle.std.specs.List.{flat_map}
use Rattle.frame_clock.specs.Plan.{frame_of_minor}
use Rattle.frame_clock.specs.Slot.{frame_slots}
use Rattle.frame_clock.specs.declared.plan.Minor.{Minor}
use Rattle.frame_clock.proofs.MinorFrames.{no_major, no_cpu, in_frames_there}
use Rattle.frame_clock.proofs.frame_at.slot.Goals as goal

pub returns-in-None : goal.returns-in-None
returns-in-None c =
    no_major c.args.p.now c.args.cpu c.args.at c.args.tick
    (ap (λ ms. slice_get ms c.args.at.major) (sym c.items.ensures) ∙ sym c.major_at.ensures ∙ ap (option_map (λ m. m.now)) c.in-None.is)

pub returns-in-None-frames_of : goal.returns-in-None-frames_of
returns-in-None-frames_of c =
    no_cpu c.args.p.now c.args.cpu c.args.at c.args.tick c.in-Some.major.now
    (ap (λ ms. slice_get ms c.args.at.major) (sym c.items.ensures) ∙ sym c.major_at.ensures ∙ ap (option_map (λ m. m.now)) c.in-Some.is)
    (sym c.frames_of.ensures ∙ ap (option_map (λ f. f.now)) c.in-None-frames_of.is)

pub returns-in-Some-frames_of : goal.returns-in-Some-frames_of
returns-in-Some-frames_of c =
    let at = c.args.at in
    let frames = c.in-Some-frames_of.frames.now in
    sym c.in_frames.ensures
    ∙ ap (λ (fs : List Minor). slice_get (flat_map (frame_slots at.major) (map frame_of_minor fs)) c.saturating_sub.result) c.items-in-Some-frames_of.ensures
    ∙ ap (slice_get (flat_map (frame_slots at.major) (map frame_of_minor frames))) c.saturating_sub.ensures
    ∙ in_frames_there c.args.p.now c.args.cpu at c.args.tick c.in-Some.major.now frames
    (ap (λ ms. slice_get ms at.major) (sym c.items.ensures) ∙ sym c.major_at.ensures ∙ ap (option_map (λ m. m.now)) c.in-Some.is)
    (sym c.frames_of.ensures ∙ ap (option_map (λ f. f.now)) c.in-Some-frames_of.is)
