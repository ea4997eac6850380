-- Entries of tables (Intel SDM volume 3, the extended page table mechanism): which reference a table, and where a walk ends
-- at one that doesn't.
use Rattle.std.specs.Prelude.{ℕ, zero, suc, ◌+◌, ◌*◌, ◌%◌, ◌&&◌, ◌||◌, not, bit_and, Bool, if◌then◌else◌}
use Rattle.machine_layout.specs.Walks.{bits_of, entry_size, is_leaf, is_misconfigured, is_present, leaf_end}
use Rattle.machine_layout.specs.declared.walk.Walk.{Walk}
use Rattle.machine_layout.specs.declared.walk.Walk.TheVariants.{Misconfigured, Violation}

-- it references a table of the level below
abbrev pub leads_on : ℕ → ℕ → Bool
leads_on level e = is_present e && not (is_misconfigured level e || is_leaf level e)

-- where a walk ends at an entry that references no table. Rights are those that the entries above have
abbrev pub ended : (ℕ → Bool) → ℕ → ℕ → ℕ → ℕ → ℕ → Walk
ended there level e addr want rights =
    if is_present e
    then (if is_misconfigured level e
    then Misconfigured
    else leaf_end there addr want (bit_and rights (bits_of e 0 2)) (4096 * bits_of e 12 51 + addr % entry_size level))
    else Violation 0

-- how many pages of guest addresses an entry of a table of this level stands for
abbrev pub pages : ℕ → ℕ
pages zero = 1
pages (suc level) = 512 * pages level
