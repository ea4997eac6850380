use Rattle.std.proofs.Common.{arith, below_more, get_or, subst, sym}
use Rattle.image_checks.proofs.Places.{agrees_there, as_many, at_place, of_places}
use Rattle.image_checks.proofs.devices.are_windows.Goals as goal
use Rattle.image_checks.specs.Agreement.{IsWindowOf}
use Rattle.image_checks.specs.PlanFault.{AgreesAt}
use Rattle.image_pack.specs.declared.parts.WindowPart.{WindowPart}
use Rattle.policy_lawful.specs.source.DeviceMemory.{DeviceMemory}

pub returns-then-memories-windows : goal.returns-then-memories-windows
returns-then-memories-windows c =
    λ h. c.if-memories-windows.true (as_many (IsWindowOf c.args.image.now c.args.device) c.args.memories.now c.args.windows.now h)

pub returns-then-not-is_window : goal.returns-then-not-is_window
returns-then-not-is_window c =
    let i = c.loop-index.index in
    let d : WindowPart = record { span = 0 } in
    let many = c.if-memories-windows.false in
    let low = c.loop-index-test.true in
    let R : DeviceMemory → WindowPart → Type 0 = IsWindowOf c.args.image.now c.args.device in
    λ h. c.if-not-is_window.ensures
    (subst (λ m. R m (get_or c.args.windows.now i d)) (sym c.index-memories-index.is) (at_place R c.args.memories.now c.args.windows.now h i (omega (arith, low, many)) c.index-memories-index.result d))

pub loop-index-preserved : goal.loop-index-preserved
loop-index-preserved c =
    let i = c.loop-index.index in
    let d : WindowPart = record { span = 0 } in
    let many = c.if-memories-windows.false in
    let low = c.loop-index-test.true in
    let R : DeviceMemory → WindowPart → Type 0 = IsWindowOf c.args.image.now c.args.device in
    below_more (λ j. AgreesAt R c.args.memories.now c.args.windows.now j) i c.loop-index.invariant
    (agrees_there R c.args.memories.now c.args.windows.now i c.index-memories-index.result d (omega (arith, low, many)) low
    (subst (λ m. R m (get_or c.args.windows.now i d)) c.index-memories-index.is c.if-not-is_window.ensures))

pub returns : goal.returns
returns c =
    let many = c.if-memories-windows.false in
    let end = c.loop-index-test.false in
    of_places (IsWindowOf c.args.image.now c.args.device) c.args.memories.now c.args.windows.now many
    (λ k l. c.loop-index.invariant k (omega (arith, l, many, end)))
