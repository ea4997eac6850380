-- The file of a placed policy's tables: it keeps the conditions of a file, and devices walk it as the policy declares.
use Rattle.std.proofs.Common.{◌≡◌, ℕ, ◌+◌, ◌*◌, ◌/◌, ◌%◌, ◌<◌, ◌≤◌, All, Bool, List, length, map, sym, ap, ◌∙◌, subst, arith}
use Rattle.std.proofs.lemmas.List.{length-map}
use Rattle.std.proofs.lemmas.List.Elements.{All-weaker}
use Rattle.dma_tables.specs.Form.{IsBytes}
use Rattle.dma_emit.specs.declared.devices.DomainDevice.{DomainDevice}
use Rattle.dma_emit.specs.Base.{IsBase}
use Rattle.dma_emit.specs.Domains.{domains_of}
use Rattle.dma_emit.specs.Emitted.{ArePages, IsFileOf}
use Rattle.dma_emit.specs.Layout.{page_count}
use Rattle.dma_emit.specs.MadeFor.{IsMadeFor}
use Rattle.dma_emit.specs.Ready.{IsReady}
use Rattle.dma_emit.specs.declared.domains.Domains.{Domains}
use Rattle.dma_emit.specs.declared.layout.TheConstants.{BUSES, DEVFNS}
use Rattle.dma_emit.proofs.Declared.{declared_at, declares}
use Rattle.dma_emit.proofs.DomainsReady.{ready}
use Rattle.dma_emit.proofs.Layouts.{before_all}
use Rattle.dma_emit.proofs.Places.{pages_long}
use Rattle.dma_emit.proofs.Walk.{walks}
use Rattle.dma_tables.specs.DmaConditions.{IsDmaDevice, KeepsConditions}
use Rattle.dma_tables.specs.DmaWalk.{dma_walk, root_page}
use Rattle.dma_tables.specs.declared.file.DmaDevice.{DmaDevice}
use Rattle.dma_tables.specs.declared.file.DmaFile.{DmaFile}
use Rattle.muen_num.proofs.Lists.{map-map, all_unmapped}
use Rattle.muen_num.specs.declared.limits.TheConstants.{PAGE, PHYSICAL_END}
use Rattle.policy_lawful.specs.Resolution.{source_of}
use Rattle.region_alloc.specs.Placed.{IsPlaced, Placement}

module _ (d : Domains) (is_ready : IsReady d) (t : DmaFile) (file : IsFileOf d t) (aligned : t.base % PAGE ≡ 0) (low : t.base + PAGE * page_count d ≤ PHYSICAL_END) (are : All IsDmaDevice t.devices) where
  pub many : length t.pages ≡ PAGE * page_count d
  many = pages_long d (root_page t) t.pages file.pages

  pub conditions : IsBytes t.pages → KeepsConditions t
  conditions bytes =
      let devices = ap length file.devices ∙ length-map d.devices (λ (v : DomainDevice). v.device) in
      let some = before_all d 0 (omega arith) in
      record {
        aligned = aligned;
        pages = page_count d;
        many = many;
        some = omega arith;
        few = omega (arith, is_ready.pages);
        low = low;
        bytes = bytes;
        few_devices = omega (arith, is_ready.few_devices);
        devices = are;
        differ = rw (file.devices, map-map (λ (e : DmaDevice). e.name) (λ (v : DomainDevice). v.device) d.devices) is_ready.names;
      }

  small : All (λ v. (v.device.bus < BUSES) × (v.device.devfn < DEVFNS)) d.devices
  small =
      All-weaker (λ (v : DomainDevice). IsDmaDevice v.device) (λ v. (v.device.bus < BUSES) × (v.device.devfn < DEVFNS)) (λ v h. (h.bus, h.devfn)) d.devices
      (all_unmapped (λ (v : DomainDevice). v.device) IsDmaDevice d.devices (subst (All IsDmaDevice) file.devices are))

-- of a placed policy
pub walks_as_declared : (x : Placement) → IsPlaced x → (t : DmaFile) → IsFileOf (domains_of x) t → t.base % PAGE ≡ 0 → t.base + PAGE * page_count (domains_of x) ≤ PHYSICAL_END → All IsDmaDevice t.devices
    → (device : List ℕ) (addr : ℕ) (write : Bool) → dma_walk t device addr write ≡ declared_at x device addr write
walks_as_declared x placed t file aligned low are device addr write =
    let fine = ready x placed in
    walks (domains_of x) fine t file aligned (omega arith) (small (domains_of x) fine t file aligned low are) device addr write
    ∙ declares x placed device addr write

-- ---- from what the calls tell that make its parts

pub made_for : (x : Placement) (d : Domains) (count base : ℕ) (pages : List ℕ) (devices : List DmaDevice) (t : DmaFile) → IsPlaced x → d ≡ domains_of x → count ≡ page_count d → IsBase (source_of x.expanded.lawful) (PAGE * count) base → base + PAGE * count ≤ PHYSICAL_END
    → ArePages d (base / PAGE) pages → devices ≡ map (λ v. v.device) d.devices → All IsDmaDevice devices → t ≡ record { base = base; pages = pages; devices = devices } → IsBytes t.pages → IsMadeFor x t
made_for x d count base pages devices t placed is many lies low parts listed are same bytes =
    let long : PAGE * count ≡ length pages = ap (λ n. PAGE * n) many ∙ sym (pages_long d (base / PAGE) pages parts) in
    subst (IsMadeFor x) (sym same) (record {
      placed = placed;
      file = record {
        pages = subst (λ (e : Domains). ArePages e (base / PAGE) pages) is parts;
        devices = listed ∙ ap (λ (e : Domains). map (λ v. v.device) e.devices) is;
      };
      base = subst (λ n. IsBase (source_of x.expanded.lawful) n base) long lies;
      low = subst (λ n. base + PAGE * n ≤ PHYSICAL_END) (many ∙ ap page_count is) low;
      bytes = subst (λ (u : DmaFile). IsBytes u.pages) same bytes;
      are = are;
    })

pub conditions_of : (x : Placement) (t : DmaFile) → IsMadeFor x t → KeepsConditions t
conditions_of x t m = conditions (domains_of x) (ready x m.placed) t m.file m.base.aligned m.low m.are m.bytes

pub walk_of : (x : Placement) (t : DmaFile) → IsMadeFor x t → (device : List ℕ) (addr : ℕ) (write : Bool) → dma_walk t device addr write ≡ declared_at x device addr write
walk_of x t m device addr write = walks_as_declared x m.placed t m.file m.base.aligned m.low m.are device addr write

pub many_of : (x : Placement) (t : DmaFile) → IsMadeFor x t → length t.pages ≡ PAGE * page_count (domains_of x)
many_of x t m = many (domains_of x) (ready x m.placed) t m.file m.base.aligned m.low m.are
