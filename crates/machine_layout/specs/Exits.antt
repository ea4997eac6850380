-- Which accesses of ports and of MSRs leave a subject (Intel SDM volume 3, VM-execution control fields: "I/O-Bitmap
-- Addresses" and "MSR-Bitmap Address", both in use), and what the areas of MSRs mean that are loaded at VM entry and stored
-- at VM exit ("Format of an MSR Entry").
use Rattle.std.specs.Prelude.{ℕ, ◌+◌, ◌-◌, ◌*◌, ◌/◌, ◌%◌, ◌==◌, ◌&&◌, ◌||◌, Bool, true, nat_lt, nat_le, if◌then◌else◌, List, ◌++◌, take, drop, slice_index, Option, Some, None, flat_map}
use Rattle.std.specs.Int.{bit_at}
use Rattle.std.specs.List.{list_any}
use Rattle.muen_num.specs.Range.{numbers_below}
use Rattle.muen_num.specs.declared.limits.TheConstants.{LAST_PORT, LOW_MSR_LAST, HIGH_MSR_FIRST, HIGH_MSR_LAST}
use Rattle.machine_layout.specs.Memory.{le_number, le_bytes}

-- bit n of a bitmap: bit n mod 8 of byte n / 8. It isn't set where there is no such byte
unfoldable pub is_set : List ℕ → ℕ → Bool
is_set bitmap n = bit_at (slice_index bitmap (n / 8)) (n % 8) == 1

-- ---- ports

-- the first port of bitmap B
abbrev pub b_first : ℕ
b_first = 0x8000

-- the bit of a port: bitmap A has those of the ports 0 to 7FFFH, and B those of 8000H to FFFFH
abbrev pub port_is_set : List ℕ → List ℕ → ℕ → Bool
port_is_set a b port = if nat_lt port b_first then is_set a port else is_set b (port - b_first)

-- an access of so many bytes at a port exits: it wraps past the last port, or a port that it touches has its bit set
abbrev pub port_exits : List ℕ → List ℕ → ℕ → ℕ → Bool
port_exits a b port size =
    nat_lt (LAST_PORT + 1) (port + size) || list_any (λ k. port_is_set a b (port + k)) (numbers_below size)

-- ---- MSRs

-- the bytes of an MSR bitmap at which its parts begin, by whether they are for writes: for the low MSRs, and for the high ones
abbrev pub low_part : Bool → ℕ
low_part write = if write then 2048 else 0

abbrev pub high_part : Bool → ℕ
high_part write = if write then 3072 else 1024

-- the bit of an MSR for reads or for writes; an MSR outside both ranges has none
abbrev pub msr_bit : ℕ → Bool → Option ℕ
msr_bit index write =
    if nat_le index LOW_MSR_LAST
    then Some (8 * low_part write + index)
    else (if nat_le HIGH_MSR_FIRST index && nat_le index HIGH_MSR_LAST
    then Some (8 * high_part write + (index - HIGH_MSR_FIRST))
    else None)

-- by the bit, if there is one
abbrev pub exits_by : List ℕ → Option ℕ → Bool
exits_by bitmap None = true
exits_by bitmap (Some bit) = is_set bitmap bit

-- a read or a write of an MSR exits: its bit is set, or it is outside both ranges
unfoldable pub msr_exits : List ℕ → ℕ → Bool → Bool
msr_exits bitmap index write = exits_by bitmap (msr_bit index write)

-- ---- areas of MSRs

-- an entry: which MSR, and its value
pub record AreaEntry : Type 0 where
  pub index : ℕ
  pub value : ℕ

-- how many bytes an entry has
abbrev pub entry_size : ℕ
entry_size = 16

-- its bytes: the index in bits 31:0, zero in 63:32, the value in 127:64
unfoldable pub entry_bytes : AreaEntry → List ℕ
entry_bytes e = le_bytes 4 e.index ++ (le_bytes 4 0 ++ le_bytes 8 e.value)

-- the bytes of the entries, in order
abbrev pub area_bytes : List AreaEntry → List ℕ
area_bytes entries = flat_map entry_bytes entries

-- what an area says in entry i
unfoldable pub area_index : List ℕ → ℕ → ℕ
area_index area i = le_number (take 4 (drop (entry_size * i) area))

unfoldable pub area_value : List ℕ → ℕ → ℕ
area_value area i = le_number (take 8 (drop (entry_size * i + 8) area))
