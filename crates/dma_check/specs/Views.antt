-- Tables for direct memory access, with what is declared (Intel VT-d specification, legacy mode): the tables that a walk comes
-- to, and where it ends. A position counts the addresses below 2^48 of all sources, source by source.
use Rattle.std.specs.Prelude.{ℕ, zero, suc, ◌+◌, ◌-◌, ◌*◌, ◌/◌, ◌%◌, ◌^◌, ◌||◌, ◌&&◌, Bool, true, false, nat_le, nat_lt, if◌then◌else◌, [], Option, Some, None, option_map, option_and_then}
use Rattle.dma_check.specs.Sources.{declared}
use Rattle.dma_tables.specs.DmaFile.{page_count_of}
use Rattle.dma_tables.specs.DmaWalk.{context_table, device_page, highest_table, is_paging, page_in, root_page, word_of}
use Rattle.dma_tables.specs.Lowered.{is_in_spans}
use Rattle.dma_tables.specs.declared.file.DmaDevice.{DmaDevice}
use Rattle.dma_tables.specs.declared.file.DmaFile.{DmaFile}
use Rattle.image_pack.specs.declared.parts.Image.{Image}
use Rattle.machine_layout.specs.Walks.{index_at}
use Rattle.muen_num.specs.declared.limits.TheConstants.{PAGE}
use Rattle.policy_lawful.specs.source.Source.{Source}

pub record View : Type 0 where
  -- word i, of 8 bytes, of the table in a page, where it is one of the file's
  pub word : ℕ → ℕ → Option ℕ
  -- the page of the root table
  pub root : ℕ
  -- the file has this page
  pub is_table : ℕ → Bool
  -- the image's memory has the byte of this address
  pub is_memory : ℕ → Bool
  -- where a source may read, or write, by an address
  pub declared : ℕ → ℕ → Bool → Option ℕ

-- a page of a file
abbrev pub has_page : DmaFile → ℕ → Bool
has_page t page = nat_le (root_page t) page && nat_lt (page - root_page t) (page_count_of t)

-- a file's tables, for a policy and an image
abbrev pub view_of : Source → Image → DmaFile → View
view_of p i t = record {
  word = word_of t;
  root = root_page t;
  is_table = has_page t;
  is_memory = is_in_spans i.spans;
  declared = declared p i;
}

-- ---- positions

abbrev pub source_of : ℕ → ℕ
source_of q = q / 2 ^ 48

abbrev pub addr_of : ℕ → ℕ
addr_of q = q % 2 ^ 48

abbrev pub bus_of : ℕ → ℕ
bus_of source = source / 256

abbrev pub devfn_of : ℕ → ℕ
devfn_of source = source % 256

-- ---- where a walk ends

-- a source as one to walk for, whatever it is called
abbrev pub place_of : ℕ → DmaDevice
place_of source = record { name = []; bus = bus_of source; devfn = devfn_of source }

-- the address that a source reads, or writes, by one of its own
abbrev pub walk_at : View → ℕ → ℕ → Bool → Option ℕ
walk_at v source addr write = option_map (λ page. PAGE * page + addr % PAGE) (device_page v.word v.root (place_of source) addr write)

-- ---- the tables that a walk comes to: the root table, the context table, and one of each second level from the highest on

-- a second-level entry that is present, with some right
abbrev pub is_present : ℕ → Bool
is_present entry = is_paging true entry || is_paging false entry

-- the table to which the entry for an address refers, in a table of this level, 3 to 1
abbrev pub table_below : (ℕ → ℕ → Option ℕ) → ℕ → ℕ → ℕ → Option ℕ
table_below word addr level table =
    option_and_then (λ entry. if is_present entry then Some (page_in entry) else None) (word table (index_at level addr))

-- that so many steps below the root table
unfoldable pub table_at : View → ℕ → ℕ → Option ℕ
table_at v q zero = Some v.root
table_at v q (suc zero) = context_table v.word v.root (bus_of (source_of q))
table_at v q (suc (suc zero)) =
    option_and_then (λ table. highest_table v.word table (devfn_of (source_of q))) (context_table v.word v.root (bus_of (source_of q)))
table_at v q (suc (suc (suc steps))) = option_and_then (table_below v.word (addr_of q) (3 - steps)) (table_at v q (suc (suc steps)))
