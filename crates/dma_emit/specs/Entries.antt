-- Root and context tables (Intel VT-d specification: the formats of the root entry and of the context entry, legacy mode), where
-- the root table lies in page `root` of physical memory.
use Rattle.std.specs.Prelude.{ℕ, ◌+◌, ◌*◌, ◌==◌, ◌&&◌, List, ◌++◌, Option, if◌then◌else◌}
use Rattle.std.specs.List.{find, flat_map}
use Rattle.std.specs.Option.{option_map_or}
use Rattle.dma_emit.specs.declared.devices.DomainDevice.{DomainDevice}
use Rattle.dma_emit.specs.declared.domains.Domains.{Domains}
use Rattle.dma_emit.specs.declared.entries.WideEntry.{WideEntry}
use Rattle.dma_emit.specs.declared.entries.TheConstants.{DOMAIN_UNIT, FOUR_LEVELS, PRESENT}
use Rattle.dma_emit.specs.declared.layout.TheConstants.{ENTRIES}
use Rattle.dma_emit.specs.Layout.{context_page, on_bus, tables_page}
use Rattle.machine_layout.specs.Memory.{le_bytes}
use Rattle.muen_num.specs.Range.{numbers_below}
use Rattle.muen_num.specs.declared.limits.TheConstants.{PAGE}

-- ---- the bytes of a table of entries of 16 bytes

abbrev pub wide_entry_bytes : WideEntry → List ℕ
wide_entry_bytes e = le_bytes 8 e.low ++ le_bytes 8 e.high

unfoldable pub table_bytes : (ℕ → WideEntry) → List ℕ
table_bytes entry = flat_map (λ i. wide_entry_bytes (entry i)) (numbers_below ENTRIES)

-- ---- entries

-- one that isn't present
abbrev pub absent_entry : WideEntry
absent_entry = record { low = 0; high = 0 }

-- it is present, by bit 0, and refers to the table in this page
abbrev pub refers_to : ℕ → ℕ
refers_to page = PAGE * page + PRESENT

-- the root entry of a bus refers to its context table
abbrev pub root_entry : Domains → ℕ → ℕ → WideEntry
root_entry d root bus =
    if on_bus d bus then record { low = refers_to (root + context_page d bus); high = 0 } else absent_entry

-- bits 66:64 are 2, four levels of tables, and bits 87:72 the identifier of the domain, which is its number plus 1
abbrev pub domain_word : ℕ → ℕ
domain_word number = DOMAIN_UNIT * (number + 1) + FOUR_LEVELS

-- the device of a bus and devfn
abbrev pub device_on : Domains → ℕ → ℕ → Option DomainDevice
device_on d bus devfn = find (λ v. (v.device.bus == bus) && (v.device.devfn == devfn)) d.devices

-- the context entry of a device refers to the highest table of its domain; the translation type, bits 3:2, is 0
abbrev pub context_of : Domains → ℕ → DomainDevice → WideEntry
context_of d root v = record { low = refers_to (root + tables_page d v.domain); high = domain_word v.domain }

abbrev pub context_entry : Domains → ℕ → ℕ → ℕ → WideEntry
context_entry d root bus devfn = option_map_or (context_of d root) (device_on d bus devfn) absent_entry
