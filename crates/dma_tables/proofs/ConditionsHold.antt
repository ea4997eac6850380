-- The conditions on tables in plain words are those of the form.
use Rattle.std.proofs.Common.{◌≡◌, ◌∙◌, refl, sym, subst, ap, arith, ℕ, ◌+◌, ◌*◌, ◌/◌, ◌%◌, ◌≤◌, ◌&&◌, not, true, false, List, [], ◌∷◌, ◌++◌, length, map, nat_le, le-leb, eq-eqb}
use Rattle.std.specs.List.{All}
use Rattle.std.proofs.lemmas.Bool.{and_from, and_parts, eqb-true, leb-true, not-true}
use Rattle.std.proofs.lemmas.List.Elements.{All-cons, All-head, All-nil, All-tail}
use Rattle.muen_num.specs.declared.limits.TheConstants.{MOST_DEVICES, PAGE, PHYSICAL_END}
use Rattle.binary_form.specs.Form.{all_fit, byte, fixed_bytes, done, field, gap, items, number, only, tag}
use Rattle.binary_form.proofs.NameLaws.{name_fits, name_kept}
use Rattle.image_pack.proofs.DevicesFit.{still_new, distinct_behind}
use Rattle.image_pack.proofs.DevicesKeep.{Differ, name_before}
use Rattle.dma_tables.specs.DmaConditions.{IsDmaDevice, KeepsConditions}
use Rattle.image_pack.specs.ImageConditions.{AreDistinct}
use Rattle.dma_tables.specs.DmaFile.{after_dma_device, device, dma_file, page_count_of}
use Rattle.image_pack.specs.Image.{is_listed_name}
use Rattle.dma_tables.specs.Tables.{AreTables}
use Rattle.dma_tables.specs.declared.file.TheConstants.{MOST_DMA_PAGES}
use Rattle.dma_tables.specs.declared.file.DmaDevice.{DmaDevice}
use Rattle.dma_tables.specs.declared.file.DmaFile.{DmaFile}

-- ---- names that differ

-- none of these names is listed
abbrev AreNew : List (List ℕ) → List (List ℕ) → Type 0
AreNew names texts = All (λ t. is_listed_name names t ≡ false) texts

-- ---- devices

-- a device that fits is one, and its name isn't listed
record One (names : List (List ℕ)) (d : DmaDevice) : Type 0 where
  is : IsDmaDevice d
  new : is_listed_name names d.name ≡ false

one_kept : (names : List (List ℕ)) (d : DmaDevice) → (device tt names).fits d → One names d
unfolding device field only gap done byte
one_kept names d f = record {
  is = record { called = name_kept d.name f.0.0; bus = f.1.0; devfn = f.1.1.0 };
  new = not-true (is_listed_name names d.name) f.0.1;
}

one_fits : (names : List (List ℕ)) (d : DmaDevice) → IsDmaDevice d → is_listed_name names d.name ≡ false → (device tt names).fits d
unfolding device field only gap done byte
one_fits names d is new = ((name_fits d.name is.called, ap not new), (is.bus, (is.devfn, refl)))

record Devices (names : List (List ℕ)) (ds : List DmaDevice) : Type 0 where
  each : All IsDmaDevice ds
  differ : Differ names (map (λ d. d.name) ds)

devices_kept : (names : List (List ℕ)) (ds : List DmaDevice) → all_fit (after_dma_device tt) (λ n. (device tt n).fits) names ds → Devices names ds
unfolding all_fit
devices_kept names [] f = record { each = All-nil IsDmaDevice; differ = record { new = λ k d l. absurd (omega (arith, l)); distinct = λ i j d lt l. absurd (omega (arith, l)) } }
devices_kept names (d ∷ ds) f =
    let one = one_kept names d f.0 in
    let rest = devices_kept (names ++ d.name ∷ []) ds f.1 in
    record { each = All-cons IsDmaDevice d ds one.is rest.each; differ = name_before names d.name (map (λ x. x.name) ds) one.new rest.differ }

devices_fit : (names : List (List ℕ)) (ds : List DmaDevice) → All IsDmaDevice ds → AreDistinct (map (λ d. d.name) ds) → AreNew names (map (λ d. d.name) ds) → all_fit (after_dma_device tt) (λ n. (device tt n).fits) names ds
unfolding all_fit
devices_fit names [] all differ new = tt
devices_fit names (d ∷ ds) all differ new = (
  one_fits names d (All-head IsDmaDevice d ds all) (All-head (λ n. is_listed_name names n ≡ false) d.name (map (λ x. x.name) ds) new),
  devices_fit (names ++ d.name ∷ []) ds (All-tail IsDmaDevice d ds all) (distinct_behind d.name (map (λ x. x.name) ds) differ) (still_new names d.name (map (λ x. x.name) ds) new differ),
)

-- ---- the whole

pub conditions_kept : (t : DmaFile) → AreTables t → KeepsConditions t
unfolding dma_file tag field only gap done number byte fixed_bytes items
conditions_kept t f =
    let k : ℕ = page_count_of t in
    let size = and_parts (nat_le 1 k) (nat_le k MOST_DMA_PAGES && nat_le (t.base + PAGE * k) PHYSICAL_END) f.1.0.1 in
    let most = and_parts (nat_le k MOST_DMA_PAGES) (nat_le (t.base + PAGE * k) PHYSICAL_END) size.1 in
    let devices = devices_kept [] t.devices f.1.1.1.0.1 in
    record {
      aligned = eqb-true (t.base % PAGE) 0 f.0.1;
      pages = k;
      many = f.1.1.1.1.0.0;
      some = leb-true 1 k size.0;
      few = leb-true k MOST_DMA_PAGES most.0;
      low = leb-true (t.base + PAGE * k) PHYSICAL_END most.1;
      bytes = f.1.1.1.1.0.1;
      few_devices = leb-true (length t.devices) MOST_DEVICES f.1.1.0.1;
      devices = devices.each;
      differ = devices.differ.distinct;
    }

size_passes : (base k : ℕ) → 1 ≤ k → k ≤ MOST_DMA_PAGES → base + PAGE * k ≤ PHYSICAL_END → (nat_le 1 k && (nat_le k MOST_DMA_PAGES && nat_le (base + PAGE * k) PHYSICAL_END)) ≡ true
size_passes base k some few low = and_from _ _ (le-leb 1 k some) (and_from _ _ (le-leb k MOST_DMA_PAGES few) (le-leb (base + PAGE * k) PHYSICAL_END low))

pub conditions_fit : (t : DmaFile) → KeepsConditions t → AreTables t
unfolding dma_file tag field only gap done number byte fixed_bytes items
conditions_fit t k =
    let n : ℕ = k.pages in
    let many : length t.pages ≡ 4096 * n = k.many in
    let is : length t.pages / PAGE ≡ n = omega (arith, many) in
    let few : n ≤ 16384 = k.few in
    let low : t.base + 4096 * n ≤ 1099511627776 = k.low in
    let devices : length t.devices ≤ 32 = k.few_devices in (
      (omega (arith, low), eq-eqb (t.base % PAGE) 0 k.aligned),
      (
        (omega (arith, is, few), subst (λ m. (nat_le 1 m && (nat_le m MOST_DMA_PAGES && nat_le (t.base + PAGE * m) PHYSICAL_END)) ≡ true) (sym is) (size_passes t.base n k.some k.few k.low)),
        (
          (omega (arith, devices), le-leb (length t.devices) MOST_DEVICES k.few_devices),
          (
            (refl, devices_fit [] t.devices k.devices k.differ (λ m e l. refl)),
            ((many ∙ ap (λ m. PAGE * m) (sym is), k.bytes), refl),
          ),
        ),
      ),
    )
