-- Memories that differ in few bytes.
use Rattle.std.specs.Prelude.{◌≡◌, ◌⊎◌, ℕ, ◌+◌, ◌≤◌, List}
use Rattle.std.specs.List.{All}
use Rattle.machine_layout.specs.Memory.{Page, is_there, load_of}
use Rattle.machine_layout.specs.Walks.{addresses_read}

-- they differ at most in the n bytes from there on: each entry of eight bytes outside them is the same, and the same pages are
-- there
pub record SameOutside (at n : ℕ) (old new : List Page) : Type 0 where
  pub entries : (q : ℕ) → (q + 8 ≤ at) ⊎ (at + n ≤ q) → load_of new q 8 ≡ load_of old q 8
  pub there : (k : ℕ) → is_there new k ≡ is_there old k

-- the walks for a guest address have the same entries: each entry that the walk in the old memory reads is the same, and the
-- same pages are there
pub record SameEntries (eptp addr : ℕ) (old new : List Page) : Type 0 where
  pub entries : All (λ q. load_of new q 8 ≡ load_of old q 8) (addresses_read old eptp addr)
  pub there : (k : ℕ) → is_there new k ≡ is_there old k
