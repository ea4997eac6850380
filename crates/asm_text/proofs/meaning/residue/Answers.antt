use Rattle.std.proofs.Common.{arith}
use Rattle.std.proofs.lemmas.Int.{ints, to_z-of_z}
use Rattle.asm_text.proofs.RangeLaws.{fits_high, fits_low, powers}
use Rattle.asm_text.proofs.meaning.residue.Goals as goal

pub overflow_cast-result : goal.overflow_cast-result
overflow_cast-result c =
    let low = fits_low c.args.bits c.args.n c.requires.fits in
    let high = fits_high c.args.bits c.args.n c.requires.fits in
    let p = powers c.args.bits c.requires.high in
    grind (arith, ints, to_z-of_z, low, high, p.0, p.1, p.2)
