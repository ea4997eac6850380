use Rattle.std.proofs.Common.{refl}
use Rattle.machine_layout.proofs.BitmapLaws.{bit_cleared}
use Rattle.machine_layout.proofs.bitmaps.clear_bit.Goals as goal

pub returns : goal.returns
returns c = λ n. bit_cleared c.args.bitmap.now c.args.bit _ n c.requires refl
