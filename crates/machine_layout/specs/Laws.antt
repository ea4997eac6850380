-- Laws of memory and of the walk. None has a premise on how long pages are, on their order, or on which are there, but where it
-- says so.
use Rattle.std.specs.Prelude.{◌≡◌, ◌≢◌, ◌⊎◌, ℕ, ◌+◌, ◌*◌, ◌/◌, ◌%◌, ◌^◌, ◌≤◌, List, ◌++◌, length, Some, None, option_map}
use Rattle.std.specs.List.{All}
use Rattle.muen_num.specs.declared.access.AccessKind.{AccessKind}
use Rattle.machine_layout.specs.Exits.{AreaEntry, entry_bytes, area_bytes, area_index, area_value}
use Rattle.machine_layout.specs.Memory.{Page, page_of, is_there, change, load_of, store_of}
use Rattle.machine_layout.specs.Walks.{walk_of, addresses_read, leaf_size, leaf_type}
use Rattle.machine_layout.specs.Same.{SameOutside, SameEntries}

-- ---- a change of one page

-- any other page stays
abbrev pub OtherPagesStay : Type 0
OtherPagesStay =
    (m : List Page) (k : ℕ) (f : List ℕ → List ℕ) (q : ℕ) → q ≢ k → page_of (change m k f) q ≡ page_of m q

-- the page itself has what the change makes of it
abbrev pub ThePageChanges : Type 0
ThePageChanges =
    (m : List Page) (k : ℕ) (f : List ℕ → List ℕ) → page_of (change m k f) k ≡ option_map f (page_of m k)

-- the same pages are there
abbrev pub PagesStayThere : Type 0
PagesStayThere =
    (m : List Page) (k : ℕ) (f : List ℕ → List ℕ) (q : ℕ) → is_there (change m k f) q ≡ is_there m q

-- a page that isn't there isn't made
abbrev pub NoPageIsMade : Type 0
NoPageIsMade = (m : List Page) (k : ℕ) (f : List ℕ → List ℕ) → page_of m k ≡ None → change m k f ≡ m

-- a number in another page stays
abbrev pub OtherPagesLoadTheSame : Type 0
OtherPagesLoadTheSame =
    (m : List Page) (k : ℕ) (f : List ℕ → List ℕ) (q n : ℕ) → q / 4096 ≢ k → load_of (change m k f) q n ≡ load_of m q n

-- ---- a store

-- a number that no byte of the store is among stays
abbrev pub OtherBytesStay : Type 0
OtherBytesStay =
    (m : List Page) (at n v q size : ℕ) → (q + size ≤ at) ⊎ (at + n ≤ q) → load_of (store_of m at n v) q size ≡ load_of m q size

-- what was stored is loaded, where its page is there and long enough
abbrev pub TheStoredIsLoaded : Type 0
TheStoredIsLoaded =
    (m : List Page) (at n v : ℕ) (page : List ℕ) → page_of m (at / 4096) ≡ Some page → at % 4096 + n ≤ length page
    → load_of (store_of m at n v) at n ≡ Some (v % 256 ^ n)

-- each page is as long as it was
abbrev pub LengthsStay : Type 0
LengthsStay =
    (m : List Page) (at n v k : ℕ) → option_map length (page_of (store_of m at n v) k) ≡ option_map length (page_of m k)

-- ---- areas of MSRs

-- an entry among others, and whatever follows them: its index is read back modulo 2 ^ 32, and its value modulo 2 ^ 64
pub record ReadsBack (before : List AreaEntry) (e : AreaEntry) (after : List ℕ) : Type 0 where
  pub index : area_index (area_bytes before ++ (entry_bytes e ++ after)) (length before) ≡ e.index % 2 ^ 32
  pub value : area_value (area_bytes before ++ (entry_bytes e ++ after)) (length before) ≡ e.value % 2 ^ 64

abbrev pub AreasAreReadBack : Type 0
AreasAreReadBack = (before : List AreaEntry) (e : AreaEntry) (after : List ℕ) → ReadsBack before e after

-- ---- walks

-- with the same entries a walk ends at the same
abbrev pub SameWalks : Type 0
SameWalks =
    (old new : List Page) (eptp addr : ℕ) (kind : AccessKind) → SameEntries eptp addr old new → walk_of new eptp addr kind ≡ walk_of old eptp addr kind

-- it reads entries at the same addresses
abbrev pub SameAddresses : Type 0
SameAddresses =
    (old new : List Page) (eptp addr : ℕ) → SameEntries eptp addr old new
    → addresses_read new eptp addr ≡ addresses_read old eptp addr

-- the page that it ends at has the same size
abbrev pub SameSizes : Type 0
SameSizes =
    (old new : List Page) (eptp addr : ℕ) → SameEntries eptp addr old new → leaf_size new eptp addr ≡ leaf_size old eptp addr

-- and the same memory type
abbrev pub SameTypes : Type 0
SameTypes =
    (old new : List Page) (eptp addr : ℕ) → SameEntries eptp addr old new → leaf_type new eptp addr ≡ leaf_type old eptp addr

-- ---- changes elsewhere

-- a store changes its own bytes alone
abbrev pub StoresDifferInTheirBytes : Type 0
StoresDifferInTheirBytes = (m : List Page) (at n v : ℕ) → SameOutside at n m (store_of m at n v)

-- a change of a page changes that page alone
abbrev pub ChangesDifferInTheirPage : Type 0
ChangesDifferInTheirPage =
    (m : List Page) (k : ℕ) (f : List ℕ → List ℕ) → SameOutside (4096 * k) 4096 m (change m k f)

-- a walk that reads none of the bytes in which two memories differ has the same entries in both
abbrev pub WalksElsewhereStay : Type 0
WalksElsewhereStay =
    (at n : ℕ) (old new : List Page) (eptp addr : ℕ) → SameOutside at n old new
    → All (λ q. (q + 8 ≤ at) ⊎ (at + n ≤ q)) (addresses_read old eptp addr) → SameEntries eptp addr old new
