-- Searches over numbers in order.
use Rattle.std.specs.Prelude.{ℕ, zero, suc, Bool, true, false, Option, Some, None}
use Rattle.std.specs.Option.{option_or}

-- a fault, where a test passes
abbrev pub when : {O : Type 0} → Bool → O → Option O
when true o = Some o
when false o = None

-- the first answer to one of the n numbers from lo on
unfoldable pub first_from : {O : Type 0} → (ℕ → Option O) → ℕ → ℕ → Option O
first_from at lo zero = None
first_from at lo (suc n) = option_or (at lo) (first_from at (suc lo) n)
