use Rattle.std.proofs.Common.{◌≡◌, ◌∙◌, ap, sym, take, drop, arith}
use Rattle.muen_num.specs.AccessSize.{bytes_of}
use Rattle.machine_layout.specs.Memory.{le_number}
use Rattle.phys_mem.proofs.Spelling.{one_byte_at}
use Rattle.phys_mem.proofs.little_endian.number_at.Goals as goal

pub returns-in-One : goal.returns-in-One
returns-in-One c =
    let page = c.args.page.now in
    let one : bytes_of c.args.size ≡ 1 = ap bytes_of c.in-One.is in
    c.from.ensures ∙ (one_byte_at page c.args.at (omega (arith, one, c.requires)) ∙ ap (λ n. le_number (take n (drop c.args.at page))) (sym one))
