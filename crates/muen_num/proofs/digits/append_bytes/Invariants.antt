use Rattle.std.proofs.Common.{◌≡◌, ◌+◌, ◌*◌, ◌++◌, take}
use Rattle.hex.specs.Hex.{encode_lower}
use Rattle.muen_num.proofs.digits.append_bytes.Given as goal

abbrev pub invariant-loop-byte : goal.invariant-loop-byte
invariant-loop-byte l =
    (l.end ≡ l.at + 2 * l.byte-index) × (take l.end l.out ≡ take l.at l.fn.out ++ encode_lower (take l.byte-index l.bytes))
