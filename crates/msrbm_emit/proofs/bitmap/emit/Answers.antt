use Rattle.msrbm_emit.proofs.MsrLaws.{all_exit, granted_none, grant_more}
use Rattle.msrbm_emit.proofs.bitmap.emit.Goals as goal

pub loop-grant-init : goal.loop-grant-init
loop-grant-init c =
    λ index write. granted_none c.args.msrs.now index write _ (all_exit _ _ c.requires.page c.set_all.ensures index write)

pub loop-grant-preserved : goal.loop-grant-preserved
loop-grant-preserved c =
    grant_more c.args.msrs.now c.loop-grant.grant-index _ c.loop-grant.bitmap c.allow.new.bitmap c.allow-in-loop-grant.new.bitmap c.loop-grant-test.true c.loop-grant.invariant
    (record {
      reads = c.allow.ensures.same;
      writes_stay = c.allow.ensures.other;
      writes = c.allow-in-loop-grant.ensures.same;
      reads_stay = c.allow-in-loop-grant.ensures.other;
    })
