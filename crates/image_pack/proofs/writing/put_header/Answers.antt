use Rattle.binary_form.specs.Form.{coded, only}
use Rattle.binary_form.proofs.Puts.{put_field, put_gap, put_done}
use Rattle.image_pack.specs.Image.{counts, header}
use Rattle.image_pack.proofs.writing.put_header.Goals as goal

pub returns : goal.returns
unfolding only coded counts header
returns c =
    put_field _ _ _ _ _ _ _ (rw (c.mark.ensures, c.is_some.ensures) at c.in_ok-put_tag.ensures) (
    put_field _ _ _ _ _ _ _ c.in_ok-put_u8.ensures (
    put_field _ _ _ _ _ _ _ c.in_ok-put_u8-2.ensures (
    put_field _ _ _ _ _ _ _ c.in_ok-put_u8-3.ensures (
    put_field _ _ _ _ _ _ _ c.in_ok-put_u8-4.ensures (
    put_field _ _ _ _ _ _ _ c.in_ok-put_u8-5.ensures (
    put_gap _ _ _ _ _ _ _ c.in_ok-put_zeros.ensures (
    put_field _ _ _ _ _ _ _ c.in_ok-put_u16.ensures (
    put_field _ _ _ _ _ _ _ (c.in_ok-put_tau0.ensures c.args.h.now.spans) (
    put_done _ _ _)))))))))
