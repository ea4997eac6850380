-- The writes of a line, page by page and byte by byte.
use Rattle.std.specs.Prelude.{ℕ, ◌+◌, ◌-◌, ◌/◌, ◌%◌, ◌≤◌, List, [], ◌∷◌, length, Option, Some, None, unwrap_or, ◌≡◌, map}
use Rattle.std.specs.List.{All, enumerate_from, flat_map}
use Rattle.device_bench.specs.declared.effect.Effect.{Effect}
use Rattle.device_bench.specs.declared.effect.Effect.TheVariants.{Mem as ToMem}
use Rattle.muen_num.specs.declared.limits.TheConstants.{PAGE}
use Rattle.dma_tables.specs.Lowered.{line_writes}

-- the write of bytes in one page, if they go somewhere, and the writes in two, if both parts do
abbrev pub one_write : Option ℕ → List ℕ → List Effect
one_write None bytes = []
one_write (Some at) bytes = ToMem at bytes ∷ []

abbrev pub two_writes : Option ℕ → List ℕ → Option ℕ → List ℕ → List Effect
two_writes None front next back = []
two_writes (Some at) front None back = []
two_writes (Some at) front (Some next) back = ToMem at front ∷ ToMem next back ∷ []

-- each byte that an effect writes, with its place
abbrev pub bytes_written : Effect → List (ℕ × ℕ)
bytes_written (ToMem at bytes) = enumerate_from at bytes
bytes_written effect = []

-- a byte of a line, with where its address goes
abbrev pub byte_going : (ℕ → Option ℕ) → ℕ × ℕ → ℕ × ℕ
byte_going go e = (unwrap_or (go e.0) 0, e.1)

-- how many pages a line touches, and that what is written stays in one page
abbrev pub pages_touched : ℕ → List ℕ → ℕ
pages_touched addr bytes = (addr + length bytes - 1) / PAGE - addr / PAGE + 1

abbrev pub IsInPage : Effect → Type 0
IsInPage (ToMem at bytes) = at % PAGE + length bytes ≤ PAGE
IsInPage effect = Unit {0}

-- of a line that is written: each byte is written where it goes, and no other is
abbrev pub WritesBytes : (ℕ → Option ℕ) → ℕ → List ℕ → List Effect → Type 0
WritesBytes go addr bytes writes =
    line_writes go addr bytes ≡ Some writes → flat_map bytes_written writes ≡ map (byte_going go) (enumerate_from addr bytes)

-- .. there is a write for each page that is touched
abbrev pub AreByPages : (ℕ → Option ℕ) → ℕ → List ℕ → List Effect → Type 0
AreByPages go addr bytes writes =
    line_writes go addr bytes ≡ Some writes → (length writes ≡ pages_touched addr bytes) × All IsInPage writes
