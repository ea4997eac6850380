-- What stands before a tick in a list, and what behind it.
use Rattle.std.specs.Prelude.{ℕ, ◌<◌, ◌≤◌, List, length}
use Rattle.std.specs.List.{AllWithin}

-- the first items, so many, are earlier than a tick
pub record StandBefore {X : Type 0} (n : X → ℕ) (tick : ℕ) (xs : List X) (count : ℕ) : Type 0 where
  pub within : count ≤ length xs
  pub earlier : AllWithin (λ x. n x < tick) xs 0 count

-- the items from an index on are not
abbrev pub StandBehind : {X : Type 0} → (X → ℕ) → ℕ → List X → ℕ → Type 0
StandBehind {X} n tick xs index = AllWithin (λ x. tick ≤ n x) xs index (length xs)

-- so many items stand before the tick, and the others behind them don't
pub record Splits {X : Type 0} (n : X → ℕ) (tick : ℕ) (xs : List X) (count : ℕ) : Type 0 where
  pub before : StandBefore n tick xs count
  pub behind : StandBehind n tick xs count
