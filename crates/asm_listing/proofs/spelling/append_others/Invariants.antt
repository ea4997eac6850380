use Rattle.std.proofs.Common.{◌≡◌, ◌+◌, ◌*◌, ◌++◌, codes, take}
use Rattle.std.specs.List.{flat_map}
use Rattle.asm_listing.specs.Source.{byte_text}
use Rattle.asm_listing.proofs.spelling.append_others.Given as goal

abbrev pub invariant-loop-byte : goal.invariant-loop-byte
invariant-loop-byte l =
    (l.end ≡ l.at + 6 * l.byte-index)
    × (take l.end l.out ≡ take l.at l.fn.out ++ flat_map (λ b. codes ", " ++ byte_text b) (take l.byte-index l.bytes))
