use Rattle.std.proofs.Common.{◌≡◌, ◌+◌, ◌-◌, length, sym, arith}
use Rattle.machine_layout.proofs.StoreLaws.{over_is}
use Rattle.machine_layout.proofs.page_fields.put_bytes.Goals as goal

pub returns : goal.returns
returns c =
    let size : c.args.at + length c.args.bytes.now - c.args.at ≡ length c.args.bytes.now = omega arith in
    rw (size, c.copy_from_slice.ensures.after) (sym (over_is _ _ _ c.requires))
