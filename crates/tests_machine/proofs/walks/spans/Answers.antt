use Rattle.std.proofs.Common.{◌≡◌, length, ap, arith}
use Rattle.phys_mem.specs.declared.spans.MemorySpan.{MemorySpan}
use Rattle.phys_mem.proofs.Rising.{two_spans}
use Rattle.tests_machine.proofs.walks.spans.Goals as goal

pub returns : goal.returns
returns c =
    let low : MemorySpan = record { address = 0x100000; bytes = c.of.result } in
    let high : MemorySpan = record { address = 0x80000000; bytes = c.of-2.result } in
    let first : length c.of.result ≡ 28672 = omega (arith, ap length c.of.ensures, c.in_ok-vec.field-0.ok.0, c.in_ok-vec.ensures.len) in
    let second : length c.of-2.result ≡ 4096 = omega (arith, ap length c.of-2.ensures, c.in_ok-vec-2.field-0.ok.0, c.in_ok-vec-2.ensures.len) in
    two_spans _ low high c.in_ok-vec-3.ensures.items (record { aligned = omega arith; whole = omega (arith, first); low = omega (arith, first) }) (record { aligned = omega arith; whole = omega (arith, second); low = omega (arith, second) }) (omega (arith, first))
