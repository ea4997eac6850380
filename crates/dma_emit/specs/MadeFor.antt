-- What the file of a placed policy's tables keeps.
use Rattle.std.specs.Prelude.{◌+◌, ◌*◌, ◌≤◌, length}
use Rattle.std.specs.List.{All}
use Rattle.dma_tables.specs.Form.{IsBytes}
use Rattle.dma_emit.specs.Base.{IsBase}
use Rattle.dma_emit.specs.Domains.{domains_of}
use Rattle.dma_emit.specs.Emitted.{IsFileOf}
use Rattle.dma_emit.specs.Layout.{page_count}
use Rattle.dma_tables.specs.DmaConditions.{IsDmaDevice}
use Rattle.dma_tables.specs.declared.file.DmaFile.{DmaFile}
use Rattle.muen_num.specs.declared.limits.TheConstants.{PAGE, PHYSICAL_END}
use Rattle.policy_lawful.specs.Resolution.{source_of}
use Rattle.region_alloc.specs.Placed.{IsPlaced, Placement}

pub record IsMadeFor (x : Placement) (t : DmaFile) : Type 0 where
  pub placed : IsPlaced x
  pub file : IsFileOf (domains_of x) t
  -- it lies in the lowest pages that are free, below the end of physical addresses
  pub base : IsBase (source_of x.expanded.lawful) (length t.pages) t.base
  pub low : t.base + PAGE * page_count (domains_of x) ≤ PHYSICAL_END
  -- it is made of bytes, and of devices with names
  pub bytes : IsBytes t.pages
  pub are : All IsDmaDevice t.devices
