use Rattle.iobm_emit.proofs.PortLaws.{exits_is}
use Rattle.iobm_emit.proofs.bitmaps.emit.Goals as goal

pub returns : goal.returns
returns c = λ port size. exits_is c.args.ports.now _ _ c.write_bitmap.ensures c.write_bitmap-2.ensures port size
