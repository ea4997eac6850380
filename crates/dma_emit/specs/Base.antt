-- Where the tables lie: the lowest pages that are free.
use Rattle.std.specs.Prelude.{◌≡◌, ℕ, ◌+◌, ◌%◌, ◌<◌, ◌||◌, Bool, true, false, nat_le, List}
use Rattle.std.specs.List.{list_all}
use Rattle.muen_num.specs.declared.limits.TheConstants.{PAGE}
use Rattle.policy_lawful.specs.Rules.{extents_of}
use Rattle.policy_lawful.specs.declared.offence.Extent.{Extent}
use Rattle.policy_lawful.specs.source.Source.{Source}

-- so many bytes from an address on share none with any of these ranges
abbrev pub is_free : List Extent → ℕ → ℕ → Bool
is_free extents bytes address = list_all (λ e. nat_le (address + bytes) e.address || nat_le (e.address + e.size) address) extents

-- the lowest multiple of a page's size from which on so many bytes are free
pub record IsLowestFree (extents : List Extent) (bytes base : ℕ) : Type 0 where
  pub aligned : base % PAGE ≡ 0
  pub free : is_free extents bytes base ≡ true
  pub lowest : (address : ℕ) → address % PAGE ≡ 0 → address < base → is_free extents bytes address ≡ false

-- where so many bytes lie that share none with a block of memory and none with a device's memory
abbrev pub IsBase : Source → ℕ → ℕ → Type 0
IsBase p bytes base = IsLowestFree (extents_of p) bytes base
