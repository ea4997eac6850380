-- What domains must keep so that tables can be emitted for them.
use Rattle.std.specs.Prelude.{◌≡◌, ◌==◌, ◌&&◌, ◌<◌, ◌≤◌, Bool, false, List, length, map}
use Rattle.std.specs.List.{All, AllPairs}
use Rattle.dma_emit.specs.declared.devices.DomainDevice.{DomainDevice}
use Rattle.dma_emit.specs.declared.domains.Domains.{Domains}
use Rattle.dma_emit.specs.Layout.{page_count}
use Rattle.dma_tables.specs.ImageConditions.{AreDistinct}
use Rattle.dma_tables.specs.declared.file.TheConstants.{MOST_DMA_PAGES}
use Rattle.ept_emit.specs.Entries.{IsEmittable}
use Rattle.ept_emit.specs.Pages.{AreApart, ranges_of}
use Rattle.ept_emit.specs.declared.window.Leaf.TheVariants.{Small}
use Rattle.ept_emit.specs.declared.window.Window.{Window}
use Rattle.muen_num.specs.declared.limits.TheConstants.{MOST_DEVICES, MOST_DOMAINS}
use Rattle.policy_lawful.specs.Rights.{may_execute}
use Rattle.policy_lawful.specs.rights.Caching.TheVariants.{Uc}

abbrev pub same_device_address : Window → Window → Bool
same_device_address a b = a.guest == b.guest

-- no two windows are at the same address
abbrev pub HaveDifferentGuests : List Window → Type 0
HaveDifferentGuests ws = AllPairs (λ a b. same_device_address a b ≡ false) ws

-- it is mapped by pages of 4 KiB, with no memory type, to read or to read and write
pub record IsForDevices (w : Window) : Type 0 where
  pub leaf : w.leaf ≡ Small
  pub caching : w.caching ≡ Uc
  pub rights : may_execute w.rights ≡ false

-- the windows of a domain
pub record AreDomainWindows (ws : List Window) : Type 0 where
  pub emittable : All IsEmittable ws
  pub apart : AreApart (ranges_of ws)
  pub for_devices : All IsForDevices ws

-- two devices are on one bus with one devfn
abbrev pub same_place : DomainDevice → DomainDevice → Bool
same_place a b = (a.device.bus == b.device.bus) && (a.device.devfn == b.device.devfn)

pub record IsReady (d : Domains) : Type 0 where
  pub few_domains : length d.windows ≤ MOST_DOMAINS
  pub few_devices : length d.devices ≤ MOST_DEVICES
  pub domains : All (λ v. v.domain < length d.windows) d.devices
  pub names : AreDistinct (map (λ v. v.device.name) d.devices)
  pub places : AllPairs (λ a b. same_place a b ≡ false) d.devices
  pub windows : All AreDomainWindows d.windows
  pub pages : page_count d < MOST_DMA_PAGES
