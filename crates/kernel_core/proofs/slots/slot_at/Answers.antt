use Rattle.std.proofs.Common.{◌∙◌, ap, subst, sym}
use Rattle.std.specs.Prelude.{option_map}
use Rattle.frame_clock.specs.FrameSlot.{slot_of}
use Rattle.frame_clock.specs.Plan.{frames_in}
use Rattle.kernel_core.specs.Slots.{AreSlotsKept, IsSlotKept}
use Rattle.kernel_core.specs.declared.slots.KeptSlot.{KeptSlot}
use Rattle.kernel_core.proofs.KeptSlots.{kept_too}
use Rattle.kernel_core.proofs.slots.slot_at.Goals as goal

pub returns-then-at-tick-clause-kept : goal.returns-then-at-tick-clause-kept
returns-then-at-tick-clause-kept c =
    let plan = c.args.plan.now in
    let kept : KeptSlot = record { at = c.args.at; tick = c.args.tick; slot = c.in_ok-slot.slot } in
    let found : IsSlotKept (frames_in plan c.args.cpu) kept = record {
      begun = c.if-at-tick.true;
      slot = sym c.slot.ensures ∙ ap (option_map slot_of) c.in_ok-slot.was;
    } in
    subst (AreSlotsKept plan) (sym c.keep.ensures) (kept_too plan c.args.cpu kept c.args.slots.now c.requires found)
