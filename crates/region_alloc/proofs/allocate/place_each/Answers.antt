use Rattle.std.proofs.Common.{◌<◌, length, ℕ, inr, Some, None, ap, subst, arith}
use Rattle.expand_kernel.specs.thing.Region.{Region}
use Rattle.region_alloc.specs.Gaps.{IsLeast, has_room}
use Rattle.region_alloc.specs.Placement.{no_room_for}
use Rattle.region_alloc.proofs.Placing.{address_end, no_address, placed_all, placing_first, placing_next, sized_at}
use Rattle.region_alloc.proofs.allocate.place_each.Goals as goal

pub loop-number-init : goal.loop-number-init
loop-number-init c =
    rw (c.in_ok-gaps.ensures, c.new-spots.ensures.items) (placing_first c.args.blocks.now c.args.turns.now)

pub returns-in-None-clause-err : goal.returns-in-None-clause-err
returns-in-None-clause-err c =
    let x : ℕ × Region = c.loop-number-item.result in
    let l : c.loop-number.number-index < length c.args.turns.now = omega arith in
    let s = sized_at c.args.turns.now c.loop-number.number-index x c.requires.regions l c.loop-number-item.is in
    inr (ap no_room_for (no_address c.args.blocks.now c.args.turns.now c.loop-number.number-index c.loop-number.gaps.items c.loop-number.spots.items c.requires.blocks c.loop-number.invariant x l c.loop-number-item.is s.0
    (subst (λ gs. IsLeast (has_room gs x.1) None) c.deref.ensures.value c.in-None.ensures)))

pub remaining_of-requires : goal.remaining_of-requires
remaining_of-requires c =
    let x : ℕ × Region = c.loop-number-item.result in
    let l : c.loop-number.number-index < length c.args.turns.now = omega arith in
    let s = sized_at c.args.turns.now c.loop-number.number-index x c.requires.regions l c.loop-number-item.is in
    let e = address_end c.args.blocks.now c.args.turns.now c.loop-number.number-index c.loop-number.gaps.items c.loop-number.spots.items c.requires.blocks c.loop-number.invariant x l c.loop-number-item.is s.0 c.in-Some.address
    (subst (λ gs. IsLeast (has_room gs x.1) (Some c.in-Some.address)) c.deref.ensures.value c.in-Some.ensures) in
    omega (arith, e)

pub loop-number-preserved : goal.loop-number-preserved
loop-number-preserved c =
    let x : ℕ × Region = c.loop-number-item.result in
    let l : c.loop-number.number-index < length c.args.turns.now = omega arith in
    let s = sized_at c.args.turns.now c.loop-number.number-index x c.requires.regions l c.loop-number-item.is in
    rw (c.in_ok-gaps-in-Some.ensures, c.deref-in-Some.ensures.value, c.in_ok-push-in-Some.ensures.items)
    (placing_next c.args.blocks.now c.args.turns.now c.loop-number.number-index c.loop-number.gaps.items c.loop-number.spots.items c.requires.blocks c.loop-number.invariant x l c.loop-number-item.is s.0 c.in-Some.address
    (subst (λ gs. IsLeast (has_room gs x.1) (Some c.in-Some.address)) c.deref.ensures.value c.in-Some.ensures))

pub returns-clause-ok : goal.returns-clause-ok
returns-clause-ok c =
    placed_all c.args.blocks.now c.args.turns.now c.loop-number.number-index c.loop-number.gaps.items c.loop-number.spots.items (omega arith) c.loop-number.invariant
