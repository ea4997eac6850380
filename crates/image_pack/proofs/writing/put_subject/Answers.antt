use Rattle.binary_form.specs.Form.{only}
use Rattle.binary_form.proofs.Puts.{put_field, put_gap, put_done}
use Rattle.image_pack.specs.Image.{subject}
use Rattle.image_pack.proofs.writing.put_subject.Goals as goal

pub returns : goal.returns
unfolding only subject
returns c = λ o index.
    put_field _ _ _ _ _ _ _ c.in_ok-put_u8.ensures (
    put_field _ _ _ _ _ _ _ c.in_ok-put_u8-2.ensures (
    put_field _ _ _ _ _ _ _ c.in_ok-put_u8-3.ensures (
    put_gap _ _ _ _ _ _ _ c.in_ok-put_zeros.ensures (
    put_field _ _ _ _ _ _ _ c.in_ok-put_u16.ensures (
    put_field _ _ _ _ _ _ _ c.in_ok-put_u16-2.ensures (
    put_field _ _ _ _ _ _ _ c.in_ok-put_u16-3.ensures (
    put_field _ _ _ _ _ _ _ c.in_ok-put_u16-4.ensures (
    put_gap _ _ _ _ _ _ _ c.in_ok-put_zeros-2.ensures (
    put_field _ _ _ _ _ _ _ c.in_ok-put_u64.ensures (
    put_field _ _ _ _ _ _ _ c.in_ok-put_name.ensures (
    put_gap _ _ _ _ _ _ _ c.in_ok-put_zeros-3.ensures (
    put_field _ _ _ _ _ _ _ (rw c.items.ensures at (c.in_ok-put_events.ensures o.header)) (
    put_field _ _ _ _ _ _ _ (rw c.items-2.ensures at (c.in_ok-put_events-2.ensures o.header)) (
    put_done _ _ _))))))))))))))
