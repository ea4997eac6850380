-- What tables are, and which bytes are their file.
use Rattle.std.specs.Prelude.{◌≡◌, ℕ, ◌+◌, ◌*◌, List}
use Rattle.muen_num.specs.declared.limits.TheConstants.{MOST_DEVICES, NAME_MOST, PAGE}
use Rattle.dma_tables.specs.DmaFile.{dma_file}
use Rattle.dma_tables.specs.declared.file.TheConstants.{MOST_DMA_PAGES}
use Rattle.dma_tables.specs.declared.file.DmaFile.{DmaFile}

-- they keep the conditions of a file
abbrev pub AreTables : DmaFile → Type 0
AreTables t = dma_file.fits t

-- these bytes are the file of these tables
pub record IsDmaFile (bytes : List ℕ) (t : DmaFile) : Type 0 where
  pub tables : AreTables t
  pub bytes_are : bytes ≡ dma_file.spell t

-- the counts at the front, and the bytes of a device
abbrev pub front_size : ℕ
front_size = 24

abbrev pub dma_device_size : ℕ
dma_device_size = 1 + NAME_MOST + 4

-- the longest file
abbrev pub most_dma_bytes : ℕ
most_dma_bytes = front_size + MOST_DEVICES * dma_device_size + PAGE * MOST_DMA_PAGES
