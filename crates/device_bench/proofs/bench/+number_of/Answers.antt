use Rattle.std.proofs.Common.{arith}
use Rattle.device_bench.proofs.Spelling.{four_bytes_fit, first_and_rest}
use Rattle.device_bench.proofs.bench.+number_of.Goals as goal

pub overflow_mul-result : goal.overflow_mul-result
overflow_mul-result t c =
    let bs = c.args.bytes.now in
    omega (arith, four_bytes_fit bs c.requires c.type_inv.bytes, first_and_rest bs c.in-len1-up.len_at_least, c.number_of.ensures)

pub overflow_add-result : goal.overflow_add-result
overflow_add-result t c =
    let bs = c.args.bytes.now in
    omega (arith, four_bytes_fit bs c.requires c.type_inv.bytes, first_and_rest bs c.in-len1-up.len_at_least, c.number_of.ensures)
