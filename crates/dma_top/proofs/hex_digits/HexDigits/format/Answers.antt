use Rattle.std.proofs.Common.{◌*◌, ℕ, arith, length, length-take, replicate, subst, sym}
use Rattle.std.specs.Str.{IsUtf8}
use Rattle.image_verify.proofs.FaultText.{digits_are_text, is_ok}
use Rattle.dma_top.proofs.Digits.{on_ok}
use Rattle.dma_top.proofs.hex_digits.HexDigits.format.Goals as goal

pub unwrap-requires : goal.unwrap-requires
unwrap-requires c =
    let fits = c.encode_to_slice.ensures.fits.1 (omega (arith, length-take {A = ℕ} (2 * length c.args.bytes.now) (replicate 16 48), c.requires)) in
    let written = on_ok c.encode_to_slice.result fits c.encode_to_slice.ensures.written in
    is_ok c.from_utf8.result _ _ (subst IsUtf8 (sym written) (digits_are_text c.args.bytes.now)) c.from_utf8.ensures.cases
