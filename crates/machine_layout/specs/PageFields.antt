-- Fields of bytes, and zeros behind them.
use Rattle.std.specs.Prelude.{ℕ, ◌-◌, List, ◌++◌, length, take, drop, replicate}
use Rattle.machine_layout.specs.Memory.{le_number}

-- the number that the `size` bytes at an offset spell, the lowest first
unfoldable pub number_at : List ℕ → ℕ → ℕ → ℕ
number_at page at size = le_number (take size (drop at page))

-- these bytes, and zeros behind them up to so many bytes
unfoldable pub padded : ℕ → List ℕ → List ℕ
padded size bytes = bytes ++ replicate (size - length bytes) 0
