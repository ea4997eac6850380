use Rattle.binary_form.specs.Form.{coded, only}
use Rattle.binary_form.proofs.Puts.{put_field, put_gap, put_done}
use Rattle.image_pack.specs.Image.{span}
use Rattle.image_pack.proofs.writing.put_span.Goals as goal

pub returns : goal.returns
unfolding only coded span
returns c = λ h b.
    put_field _ _ _ _ _ _ _ c.in_ok-put_u64.ensures (
    put_field _ _ _ _ _ _ _ c.in_ok-put_u32.ensures (
    put_field _ _ _ _ _ _ _ c.in_ok-put_u16.ensures (
    put_field _ _ _ _ _ _ _ (rw c.code.ensures at c.in_ok-put_tag.ensures) (
    put_field _ _ _ _ _ _ _ (rw c.part_code.ensures at c.in_ok-put_u8.ensures) (
    put_field _ _ _ _ _ _ _ c.in_ok-put_name.ensures (
    put_field _ _ _ _ _ _ _ c.in_ok-put_title.ensures (
    put_gap _ _ _ _ _ _ _ c.in_ok-put_zeros.ensures (
    put_done _ _ _))))))))
