-- Indexes by numbers, through an upper and a lower table.
use Rattle.std.specs.Prelude.{◌≡◌, ℕ, ◌+◌, ◌/◌, ◌%◌, ◌<◌, ◌≤◌, List, length, slice_index_or, Option, Some, None, MatchOption}
use Rattle.phys_mem.specs.Frames.{NoneBelow, IsFirst}

-- where the lower table of an upper part begins, if it has one
abbrev pub lower_table_of : List (Option ℕ) → ℕ → Option ℕ
lower_table_of upper high = slice_index_or upper high None

abbrev pub in_table : List (Option ℕ) → ℕ → Option ℕ → Option ℕ
in_table lower low None = None
in_table lower low (Some base) = slice_index_or lower (base + low) None

-- the index that the tables tell of a number
abbrev pub index_told : List (Option ℕ) → List (Option ℕ) → ℕ → Option ℕ
index_told upper lower k = in_table lower (k % 16384) (lower_table_of upper (k / 16384))

-- each upper entry has a lower table of its own, which begins where the entry says
pub record AreTables (upper lower : List (Option ℕ)) : Type 0 where
  pub long : length upper ≡ 16384
  pub within : (a s : ℕ) → lower_table_of upper a ≡ Some s → s + 16384 ≤ length lower
  pub own : (a b s t x y : ℕ) → lower_table_of upper a ≡ Some s → lower_table_of upper b ≡ Some t → x < 16384 → y < 16384 → s + x ≡ t + y → a ≡ b

-- as before, and this upper entry has a table
pub record IsTableAdded (upper lower upper' lower' : List (Option ℕ)) (high base : ℕ) : Type 0 where
  pub table : lower_table_of upper' high ≡ Some base
  pub same : (k : ℕ) → index_told upper' lower' k ≡ index_told upper lower k

-- the tables tell the first index of each of the first n numbers
abbrev pub TellsTo : List (Option ℕ) → List (Option ℕ) → List ℕ → ℕ → Type 0
TellsTo upper lower ns n = (k : ℕ) → MatchOption (index_told upper lower k) (NoneBelow ns k n) (IsFirst ns k)

-- the same for all numbers
pub record Tells (upper lower : List (Option ℕ)) (ns : List ℕ) : Type 0 where
  pub none : (k : ℕ) → index_told upper lower k ≡ None → NoneBelow ns k (length ns)
  pub some : (k i : ℕ) → index_told upper lower k ≡ Some i → IsFirst ns k i
