-- The numbers that few bytes spell.
use Rattle.std.proofs.Common.{◌≡◌, ℕ, zero, suc, ◌+◌, ◌-◌, ◌*◌, ◌^◌, ◌<◌, ◌≤◌, List, [], ◌∷◌, length, get_or, take, drop, Fits, w8, arith}
use Rattle.std.proofs.lemmas.Grind.{common_steps}
use Rattle.machine_layout.specs.Memory.{le_number}

-- how many numbers n bytes spell
abbrev worth : ℕ → ℕ
worth zero = 1
worth (suc n) = 256 * worth n

worth_rises : (n m : ℕ) → n ≤ m → worth n ≤ worth m
worth_rises zero zero h = omega arith
worth_rises zero (suc m) h = let k = worth_rises zero m (omega arith) in omega (arith, k)
worth_rises (suc n) zero h = absurd (omega arith)
worth_rises (suc n) (suc m) h = let k = worth_rises n m (omega arith) in omega (arith, k)

below_worth : (bs : List ℕ) → ((k : ℕ) → Fits w8 (get_or bs k 0)) → le_number bs < worth (length bs)
below_worth [] h = omega arith
below_worth (b ∷ bs) h =
    let rest = below_worth bs (λ k. h (suc k)) in
    let head : Fits w8 b = h 0 in
    omega (arith, rest, head)

-- at most four bytes spell a number of 32 bits
pub four_bytes_fit : (bs : List ℕ) → length bs ≤ 4 → ((k : ℕ) → Fits w8 (get_or bs k 0)) → le_number bs < 2 ^ 32
four_bytes_fit bs n h = omega (arith, below_worth bs h, worth_rises (length bs) 4 n)

-- the first byte and the number of the others
pub first_and_rest : (bs : List ℕ) → 1 ≤ length bs → le_number bs ≡ get_or bs 0 0 + 256 * le_number (take (length bs - 1) (drop 1 bs))
first_and_rest [] h = absurd (omega arith)
first_and_rest (b ∷ bs) h = grind (arith, common_steps)
