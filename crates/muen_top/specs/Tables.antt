-- Tables for direct memory access: what a store holds of them, and those of a policy's domains of devices.
use Rattle.std.specs.Prelude.{◌≡◌, ◌*◌, ◌<◌, ℕ, Bool, List, length}
use Rattle.std.specs.FinMap.{get}
use Rattle.dma_emit.specs.Base.{IsBase}
use Rattle.dma_emit.specs.Domains.{domains_of}
use Rattle.dma_emit.specs.Emitted.{IsFileOf}
use Rattle.dma_emit.specs.Reached.{device_access_kind, placed_at}
use Rattle.dma_tables.specs.DmaWalk.{dma_walk}
use Rattle.dma_tables.specs.Tables.{IsDmaFile}
use Rattle.dma_tables.specs.declared.file.TheConstants.{MOST_DMA_PAGES}
use Rattle.dma_tables.specs.declared.file.DmaFile.{DmaFile}
use Rattle.muen_num.specs.declared.limits.TheConstants.{PAGE}
use Rattle.muen_outside.specs.Store.{Store, reading_of, whole}
use Rattle.policy_lawful.specs.Dma.{dma_access}
use Rattle.policy_lawful.specs.Resolution.{source_of}
use Rattle.policy_lawful.specs.source.Source.{Source}
use Rattle.dma_emit.specs.Placed.{IsPlaced, Placement}
use Rattle.muen_top.specs.declared.limits.TheConstants.{DMA_MOST}

-- under this name the store holds a file of these tables
pub record HoldsTables (m : Store) (name : List ℕ) (t : DmaFile) : Type 0 where
  pub bytes : List ℕ
  pub read : reading_of (get m name) DMA_MOST ≡ whole bytes
  pub file : IsDmaFile bytes t

-- tables are those of the policy's domains, where the policy's regions lie as it is placed: root, context and second-level tables
-- of these domains, fewer pages than a file may have, the lowest that are free, and they lead each access of a device where the
-- policy declares it
pub record AreTablesFor (p : Source) (t : DmaFile) : Type 0 where
  pub placement : Placement
  pub of_policy : source_of placement.expanded.lawful ≡ p
  pub placed : IsPlaced placement
  pub file : IsFileOf (domains_of placement) t
  pub few : length t.pages < PAGE * MOST_DMA_PAGES
  pub base : IsBase p (length t.pages) t.base
  pub walk : (device : List ℕ) (addr : ℕ) (write : Bool) → dma_walk t device addr write ≡ placed_at placement (dma_access p device addr (device_access_kind write))

-- these bytes are a file of the tables of this policy's domains
pub record IsTablesFor (p : Source) (bytes : List ℕ) : Type 0 where
  pub tables : DmaFile
  pub file : IsDmaFile bytes tables
  pub are : AreTablesFor p tables

-- under this name the store holds such a file
pub record HoldsTablesFor (m : Store) (name : List ℕ) (p : Source) : Type 0 where
  pub bytes : List ℕ
  pub read : reading_of (get m name) DMA_MOST ≡ whole bytes
  pub built : IsTablesFor p bytes
