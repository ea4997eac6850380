use Rattle.std.proofs.Common.{◌+◌, ◌-◌, ◌/◌, arith}
use Rattle.ept_emit.proofs.Found.{past_low, past_high}
use Rattle.ept_emit.proofs.search.windows_before.Goals as goal

pub loop-low-preserved-then-window-address : goal.loop-low-preserved-then-window-address
loop-low-preserved-then-window-address c =
    record {
      order = omega arith;
      within = c.loop-low.invariant.within;
      before = past_low c.args.windows.now c.args.address (c.loop-low.low + (c.loop-low.high - c.loop-low.low) / 2) _ c.requires.apart (omega arith) c.if-window-address.true;
      after = c.loop-low.invariant.after;
    }

pub loop-low-preserved : goal.loop-low-preserved
loop-low-preserved c =
    record {
      order = omega arith;
      within = omega arith;
      before = c.loop-low.invariant.before;
      after = past_high c.args.windows.now c.args.address (c.loop-low.low + (c.loop-low.high - c.loop-low.low) / 2) _ c.requires.apart (omega arith) c.if-window-address.false;
    }
