-- The file of the tables of domains: the root table, the context tables, and the tables of each domain, which are those of
-- EPT in their form (Intel VT-d specification: second-level paging entries), with pages of 4 KiB alone.
use Rattle.std.specs.Prelude.{◌≡◌, ℕ, ◌+◌, ◌<◌, true, false, List, [], ◌++◌, length, map, slice_index_or}
use Rattle.std.specs.List.{concat, flat_map}
use Rattle.dma_emit.specs.declared.domains.Domains.{Domains}
use Rattle.dma_emit.specs.Entries.{context_entry, root_entry, table_bytes}
use Rattle.dma_emit.specs.Layout.{buses, has_device, tables_page, domain_windows_at}
use Rattle.dma_tables.specs.DmaWalk.{root_page}
use Rattle.dma_tables.specs.declared.file.DmaFile.{DmaFile}
use Rattle.ept_emit.specs.Tables.{AreWritten}
use Rattle.policy_lawful.specs.rights.Rights.TheVariants.{Rw}

-- the tables of the domain of a number, where the root table lies in page `root`, and entries that refer to a table have both
-- rights; none where no device stands in it
pub record IsDomainsTables (d : Domains) (root n : ℕ) (bytes : List ℕ) : Type 0 where
  pub some : has_device d n ≡ true → AreWritten Rw (domain_windows_at d n) (root + tables_page d n) bytes
  pub none : has_device d n ≡ false → bytes ≡ []

-- of each domain
pub record AreDomainTables (d : Domains) (root : ℕ) (tables : List (List ℕ)) : Type 0 where
  pub many : length tables ≡ length d.windows
  pub each : (n : ℕ) → n < length d.windows → IsDomainsTables d root n (slice_index_or tables n [])

-- all pages
pub record ArePages (d : Domains) (root : ℕ) (pages : List ℕ) : Type 0 where
  pub tables : List (List ℕ)
  pub are : AreDomainTables d root tables
  pub pages_are : pages ≡ table_bytes (root_entry d root) ++ flat_map (λ bus. table_bytes (context_entry d root bus)) (buses d) ++ concat tables

-- the file
pub record IsFileOf (d : Domains) (t : DmaFile) : Type 0 where
  pub pages : ArePages d (root_page t) t.pages
  pub devices : t.devices ≡ map (λ v. v.device) d.devices
