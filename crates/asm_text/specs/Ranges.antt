-- Numbers of which sums stay within 128 bits.
use Rattle.std.specs.Prelude.{ℕ, ℤ, pos, neg_ℤ, ◌*◌, ◌-◌, ◌^◌, ◌≤ℤ◌}
use Rattle.asm_text.specs.declared.meaning.Sum.{Sum}

-- so many times a number below 2^64, at most, without its sign
abbrev pub IsMagnitudeWithin : ℕ → ℤ → Type 0
IsMagnitudeWithin count z = (neg_ℤ (pos (count * (2 ^ 64 - 1))) ≤ℤ z) × (z ≤ℤ pos (count * (2 ^ 64 - 1)))

abbrev pub IsMagnitude : ℤ → Type 0
IsMagnitude z = (neg_ℤ (pos (2 ^ 64 - 1)) ≤ℤ z) × (z ≤ℤ pos (2 ^ 64 - 1))

abbrev pub IsSmallSum : Sum → Type 0
IsSmallSum s = IsMagnitude s.number × IsMagnitude s.labels

-- from which an offset can be taken
abbrev pub IsSum : Sum → Type 0
IsSum s = IsMagnitudeWithin (2 ^ 63 - 1) s.number
