-- Bits of a word as quotients and remainders.
use Rattle.std.proofs.Common.{◌≡◌, ℕ, ◌+◌, ◌-◌, ◌/◌, ◌^◌, ◌<◌, ◌≤◌, ap, ◌∙◌, arith, bit_and}
use Rattle.std.proofs.lemmas.Nat.{and_mask}
use Rattle.std.proofs.lemmas.Nat.Bits.{ones_shr}
use Rattle.machine_layout.specs.Walks.{bits_of}

pub masked : (word lo hi : ℕ) → lo ≤ hi → hi < 64 → bit_and (word / 2 ^ lo) ((2 ^ 64 - 1) / 2 ^ (63 - (hi - lo))) ≡ bits_of word lo hi
masked word lo hi order high =
    let ones = ones_shr 64 (63 - (hi - lo)) (omega arith) in
    let width : 64 - (63 - (hi - lo)) ≡ hi + 1 - lo = omega arith in
    ap (bit_and (word / 2 ^ lo)) (ones ∙ ap (λ k. 2 ^ k - 1) width) ∙ and_mask (word / 2 ^ lo) (hi + 1 - lo)
