-- The conditions on tables in plain words.
use Rattle.std.specs.Prelude.{◌≡◌, ℕ, ◌+◌, ◌*◌, ◌%◌, ◌<◌, ◌≤◌, true, false, List, length, map}
use Rattle.std.specs.List.{All, AllPairs}
use Rattle.std.specs.Str.{bytes_eq}
use Rattle.muen_num.specs.Naming.{is_name}
use Rattle.muen_num.specs.declared.limits.TheConstants.{MOST_DEVICES, PAGE, PHYSICAL_END}
use Rattle.binary_form.specs.Form.{IsBytes}
use Rattle.dma_tables.specs.declared.file.TheConstants.{MOST_DMA_PAGES}
use Rattle.dma_tables.specs.declared.file.DmaDevice.{DmaDevice}
use Rattle.dma_tables.specs.declared.file.DmaFile.{DmaFile}
use Rattle.image_pack.specs.ImageConditions.{AreDistinct}

-- a device has a name, and the number of its bus and its devfn are bytes
pub record IsDmaDevice (d : DmaDevice) : Type 0 where
  pub called : is_name d.name ≡ true
  pub bus : d.bus < 256
  pub devfn : d.devfn < 256

pub record KeepsConditions (t : DmaFile) : Type 0 where
  pub aligned : t.base % PAGE ≡ 0
  -- whole pages, one at least
  pub pages : ℕ
  pub many : length t.pages ≡ PAGE * pages
  pub some : 1 ≤ pages
  pub few : pages ≤ MOST_DMA_PAGES
  -- they end where physical addresses do, or before it
  pub low : t.base + PAGE * pages ≤ PHYSICAL_END
  pub bytes : IsBytes t.pages
  pub few_devices : length t.devices ≤ MOST_DEVICES
  pub devices : All IsDmaDevice t.devices
  pub differ : AreDistinct (map (λ d. d.name) t.devices)
