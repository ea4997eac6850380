-- What is kept of earlier walks, and in which memories it is right.
use Rattle.std.specs.Prelude.{◌≡◌, ◌⊎◌, ℕ, ◌+◌, ◌-◌, ◌*◌, ◌/◌, ◌%◌, ◌^◌, ◌<◌, ◌≤◌, ◌==◌, ◌&&◌, nat_le, bit_and, if◌then◌else◌, Bool, true, List, length, slice_index_or, Option, Some, None}
use Rattle.std.specs.List.{All}
use Rattle.muen_num.specs.Access.{kind_bit}
use Rattle.muen_num.specs.declared.access.AccessKind.{AccessKind}
use Rattle.machine_layout.specs.Memory.{Page, is_there}
use Rattle.machine_layout.specs.Walks.{leaf_end, walk_of, addresses_read}
use Rattle.ept_walk.specs.Ends.{IsEntryOf}
use Rattle.ept_walk.specs.declared.cached.Slot.{Slot}

-- ---- times: the clock counts changes, and a page's time is that of the last change of a page with the same remainder

abbrev pub time_of : List ℕ → ℕ → ℕ
time_of changed page = slice_index_or changed (page % 16384) 0

-- the page of the slot's table of this level hasn't changed since the slot was kept
abbrev pub is_unchanged : List ℕ → Slot → ℕ → Bool
is_unchanged changed s level = nat_le (time_of changed (slice_index_or s.tables level 0)) s.since

-- none of its tables has
abbrev pub is_fresh : List ℕ → Slot → Bool
is_fresh changed s =
    is_unchanged changed s 0 && (is_unchanged changed s 1 && (is_unchanged changed s 2 && is_unchanged changed s 3))

-- no slot, and no page, has a time after this one
abbrev pub KeptBy : ℕ → List (Option Slot) → Type 0
KeptBy clock slots = (i : ℕ) (s : Slot) → slice_index_or slots i None ≡ Some s → s.since ≤ clock

abbrev pub ChangedBy : ℕ → List ℕ → Type 0
ChangedBy clock changed = (i : ℕ) → slice_index_or changed i 0 ≤ clock

-- ---- what is right

-- for every kind of access the walk for the first address of the guest page, and where the entries are that it reads
pub record Stands (m : List Page) (s : Slot) : Type 0 where
  pub answer : (kind : AccessKind)
      → walk_of m s.eptp (4096 * s.page) kind ≡ leaf_end (is_there m) (4096 * s.page) (kind_bit kind) s.rights (4096 * s.frame)
  pub there : is_there m s.frame ≡ true
  pub small : s.frame < 2 ^ 52
  pub tables : All (IsEntryOf s.tables) (addresses_read m s.eptp (4096 * s.page))

-- each slot that is fresh is right
abbrev pub AllStand : List Page → List (Option Slot) → List ℕ → Type 0
AllStand m slots changed =
    (i : ℕ) (s : Slot) → slice_index_or slots i None ≡ Some s → is_fresh changed s ≡ true → Stands m s

-- ---- what is held

-- which of n slots, a power of two, a guest page of an EPTP has: bits of a product that depend on all bits of both numbers
abbrev pub slot_index : ℕ → ℕ → ℕ → ℕ
slot_index n eptp page = bit_and ((page + 2531 * (eptp / 4096)) * 11400714819323198485 % 2 ^ 64 / 2 ^ 40) (n - 1)

-- a slot, if it is fresh and of this EPTP and guest page
abbrev pub matching : List ℕ → ℕ → ℕ → Option Slot → Option Slot
matching changed eptp page None = None
matching changed eptp page (Some s) =
    if (s.eptp == eptp) && ((s.page == page) && is_fresh changed s) then Some s else None

abbrev pub looked_up : List (Option Slot) → List ℕ → ℕ → ℕ → Option Slot
looked_up slots changed eptp page =
    matching changed eptp page (slice_index_or slots (slot_index (length slots) eptp page) None)

-- ---- changes of n bytes from there on

-- no byte of the entry is among them
abbrev pub IsUntouched : ℕ → ℕ → ℕ → Type 0
IsUntouched at n q = (q + 8 ≤ at) ⊎ (at + n ≤ q)

-- a byte of the entry is among them
pub record IsTouched (at n q : ℕ) : Type 0 where
  pub byte : ℕ
  pub from : at ≤ byte
  pub to : byte < at + n
  pub first : q ≤ byte
  pub last : byte < q + 8

-- a slot that is fresh afterwards was fresh before, and no entry of its tables is touched
pub record WasUntouched (at n : ℕ) (slots : List (Option Slot)) (changed : List ℕ) (i : ℕ) (s : Slot) : Type 0 where
  pub kept : slice_index_or slots i None ≡ Some s
  pub fresh : is_fresh changed s ≡ true
  pub apart : (q : ℕ) → IsEntryOf s.tables q → IsUntouched at n q

abbrev pub KeepsUntouched : ℕ → ℕ → List (Option Slot) → List ℕ → List (Option Slot) → List ℕ → Type 0
KeepsUntouched at n slots changed slots' changed' =
    (i : ℕ) (s : Slot) → slice_index_or slots' i None ≡ Some s → is_fresh changed' s ≡ true
    → WasUntouched at n slots changed i s

-- how many slots there may be: a power of two up to 4,096
pub record IsPower (n : ℕ) : Type 0 where
  pub exponent : ℕ
  pub few : exponent ≤ 12
  pub is : n ≡ 2 ^ exponent
