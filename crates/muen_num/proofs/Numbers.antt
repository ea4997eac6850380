-- Laws of numbers and their tests.
use Rattle.std.proofs.Common.{◌≡◌, ℕ, zero, suc, ◌+◌, ◌<◌, ◌≤◌, true, false, not, arith}
use Rattle.std.specs.Prelude.{◌==◌, ◌&&◌, nat_le, nat_lt}
use Rattle.std.specs.Int.{byte_at}
use Rattle.std.proofs.lemmas.Bool.{and_parts, leb-true, ltb-true}
use Rattle.std.proofs.lemmas.Bool.Decides.{nat_tests}

-- the same numbers compared the other way round
pub equal_turned : (a b : ℕ) → (a == b) ≡ (b == a)
equal_turned a b = grind (arith, nat_tests)

-- one is the least number that isn't 0
pub at_least_one : (n : ℕ) → nat_le 1 n ≡ not (n == 0)
at_least_one n = grind (arith, nat_tests)

-- of two numbers that differ the lower one
pub lower : (a b : ℕ) → a ≤ b → (a == b) ≡ false → (nat_le a b ≡ true) × (nat_le b a ≡ false)
lower a b l h = (grind (arith, nat_tests, l), grind (arith, nat_tests, l, h))

-- no number is in two ranges of which one ends where the other begins, or before
pub not_both : (addr a m b n : ℕ) → a + m ≤ b → (nat_le a addr && nat_lt addr (a + m)) ≡ true → (nat_le b addr && nat_lt addr (b + n)) ≡ true → ⊥
not_both addr a m b n apart p q =
    let high = ltb-true addr (a + m) (and_parts (nat_le a addr) (nat_lt addr (a + m)) p).1 in
    let low = leb-true b addr (and_parts (nat_le b addr) (nat_lt addr (b + n)) q).0 in
    omega (arith, apart, high, low)

-- a byte of a number is one
pub byte_low : (i n : ℕ) → byte_at i n < 256
byte_low zero n = omega arith
byte_low (suc i) n = omega arith
