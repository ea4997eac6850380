use Rattle.std.proofs.Common.{◌∙◌, length, refl}
use Rattle.msrbm_emit.specs.Area.{area_of, msr_count}
use Rattle.msrbm_emit.proofs.AreaLaws.{area_step, end_step, room_for}
use Rattle.msrbm_emit.proofs.area.emit_area.Goals as goal

pub loop-grant-init : goal.loop-grant-init
unfolding area_of msr_count
loop-grant-init c = record { end = refl; area = c.clear_all.ensures }

pub put_entries-end-requires : goal.put_entries-end-requires
put_entries-end-requires c =
    room_for c.args.msrs.now c.loop-grant.grant-index c.loop-grant.end _ _ c.loop-grant-test.true c.loop-grant.invariant.end c.requires.few (c.loop-grant.auto.area ∙ (c.clear_all.auto.page ∙ c.requires.page))

pub loop-grant-preserved : goal.loop-grant-preserved
loop-grant-preserved c = record {
  end = end_step c.args.msrs.now c.loop-grant.grant-index _ _ _ c.loop-grant-test.true c.loop-grant.invariant.end c.put_entries-end.ensures.end;
  area = area_step (length c.args.area.now) (length c.loop-grant.area) c.args.msrs.now c.loop-grant.grant-index c.loop-grant.end _ _ _ c.loop-grant-test.true (c.loop-grant.auto.area ∙ c.clear_all.auto.page) c.loop-grant.invariant.end c.loop-grant.invariant.area c.put_entries-end.ensures.area;
}
