-- The walk of tables for direct memory access in legacy mode (Intel VT-d specification: "Legacy Mode Address Translation", the
-- formats of the root entry, of the context entry, and of the second-level paging entries of four levels and pages of 4,096
-- bytes), as this project's tables have them: 40 bits of physical addresses, and each bit that the tables don't define is zero.
use Rattle.std.specs.Prelude.{ℕ, ◌+◌, ◌-◌, ◌*◌, ◌/◌, ◌%◌, ◌==◌, ◌&&◌, Bool, nat_le, nat_lt, if◌then◌else◌, List, Option, Some, None, option_map, option_and_then}
use Rattle.std.specs.List.{find}
use Rattle.std.specs.Str.{bytes_eq}
use Rattle.muen_num.specs.declared.limits.TheConstants.{GUEST_END, PAGE}
use Rattle.machine_layout.specs.PageFields.{number_at}
use Rattle.machine_layout.specs.Walks.{bits_of, index_at}
use Rattle.dma_tables.specs.DmaFile.{page_count_of}
use Rattle.dma_tables.specs.declared.file.DmaDevice.{DmaDevice}
use Rattle.dma_tables.specs.declared.file.DmaFile.{DmaFile}

-- ---- entries: 16 bytes, as a low and a high number, in root and context tables, and 8 bytes in the second level

-- bits lo to hi are zero
abbrev pub are_zero : ℕ → ℕ → ℕ → Bool
are_zero entry lo hi = bits_of entry lo hi == 0

-- a root entry that is present, by bit 0: bits 11:1 and all from 40 up are zero
abbrev pub is_root : ℕ → ℕ → Bool
is_root low high = (bits_of low 0 0 == 1) && (are_zero low 1 11 && (are_zero low 40 63 && (high == 0)))

-- a context entry that is present, by bit 0: the translation type, bits 3:2, and with it bits 11:1 are zero, and so are bits
-- 63:40; bits 66:64 are 2, four levels of tables; bits 87:72 are the domain's identifier; bits 71:67 and all from 88 up are zero
abbrev pub is_context : ℕ → ℕ → Bool
is_context low high =
    (bits_of low 0 0 == 1)
    && (are_zero low 1 11 && (are_zero low 40 63 && ((bits_of high 0 2 == 2) && (are_zero high 3 7 && are_zero high 24 63))))

-- bit 0 of a second-level entry is the right to read, bit 1 the right to write; with neither it isn't present
abbrev pub has_right : Bool → ℕ → Bool
has_right write entry = if write then bits_of entry 1 1 == 1 else bits_of entry 0 0 == 1

-- a second-level entry that is present and has this right: bits 11:2 and all from 40 up are zero
abbrev pub is_paging : Bool → ℕ → Bool
is_paging write entry = has_right write entry && (are_zero entry 2 11 && are_zero entry 40 63)

-- the page that an entry refers to, a table's or that of the memory: bits 39:12
abbrev pub page_in : ℕ → ℕ
page_in entry = bits_of entry 12 39

-- ---- the walk, over any way to read tables: `word page i` is word i, of 8 bytes, of the table in this page

-- the page that an entry of 16 bytes refers to, if both words are read and it is one
abbrev pub pair_page : (ℕ → ℕ → Bool) → Option ℕ → Option ℕ → Option ℕ
pair_page is low high = option_and_then (λ l. option_and_then (λ h. if is l h then Some (page_in l) else None) high) low

-- the context table of a bus: the root table has an entry for each
abbrev pub context_table : (ℕ → ℕ → Option ℕ) → ℕ → ℕ → Option ℕ
context_table word root bus = pair_page is_root (word root (2 * bus)) (word root (2 * bus + 1))

-- the highest table of a device: a context table has an entry for each device and function
abbrev pub highest_table : (ℕ → ℕ → Option ℕ) → ℕ → ℕ → Option ℕ
highest_table word table devfn = pair_page is_context (word table (2 * devfn)) (word table (2 * devfn + 1))

-- what the entry for an address refers to, in a second-level table of this level, 3 to 0
abbrev pub next_page : (ℕ → ℕ → Option ℕ) → ℕ → Bool → ℕ → ℕ → Option ℕ
next_page word addr write level table =
    option_and_then (λ entry. if is_paging write entry then Some (page_in entry) else None) (word table (index_at level addr))

-- the page of memory for an address, from the highest table on
abbrev pub paged : (ℕ → ℕ → Option ℕ) → ℕ → Bool → ℕ → Option ℕ
paged word addr write table =
    option_and_then (next_page word addr write 0)
    (option_and_then (next_page word addr write 1)
    (option_and_then (next_page word addr write 2)
    (next_page word addr write 3 table)))

-- the page of memory that a device reaches by an address
abbrev pub device_page : (ℕ → ℕ → Option ℕ) → ℕ → DmaDevice → ℕ → Bool → Option ℕ
device_page word root d addr write =
    option_and_then (paged word addr write)
    (option_and_then (λ table. highest_table word table d.devfn) (context_table word root d.bus))

-- ---- the walk over a file's pages

-- the page of the root table
abbrev pub root_page : DmaFile → ℕ
root_page t = t.base / PAGE

-- word i of the page with this number, where it is one of the file
abbrev pub word_of : DmaFile → ℕ → ℕ → Option ℕ
word_of t page i =
    if nat_le (root_page t) page && nat_lt (page - root_page t) (page_count_of t)
    then Some (number_at t.pages (PAGE * (page - root_page t) + 8 * i) 8)
    else None

-- where a device reads or writes by an address
unfoldable pub device_walk : DmaFile → DmaDevice → ℕ → Bool → Option ℕ
device_walk t d addr write =
    if nat_lt addr GUEST_END
    then option_map (λ page. PAGE * page + addr % PAGE) (device_page (word_of t) (root_page t) d addr write)
    else None

-- **the walk**: where the device of this name reads or writes by an address
unfoldable pub dma_walk : DmaFile → List ℕ → ℕ → Bool → Option ℕ
dma_walk t device addr write = option_and_then (λ d. device_walk t d addr write) (find (λ d. bytes_eq d.name device) t.devices)
