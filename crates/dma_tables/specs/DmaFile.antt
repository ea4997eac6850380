-- The form of a file of tables for direct memory access (this project's own format): which bytes spell which tables, and the
-- conditions on them. A field's conditions speak of it and of what stands before it.
use Rattle.std.specs.Prelude.{ℕ, ◌+◌, ◌*◌, ◌/◌, ◌%◌, ◌==◌, ◌&&◌, not, Bool, nat_le, List, [], ◌∷◌, ◌++◌, codes, length}
use Rattle.std.specs.Int.{w32, w64}
use Rattle.std.specs.List.{list_any}
use Rattle.std.specs.Str.{bytes_eq}
use Rattle.muen_num.specs.declared.limits.TheConstants.{PAGE, PHYSICAL_END, MOST_DEVICES}
use Rattle.binary_form.specs.Form.{Form, number, byte, fixed_bytes, only, field, tag, gap, done, items}
use Rattle.binary_form.specs.Name.{name}
use Rattle.binary_form.specs.declared.fault.Field.TheVariants as at
use Rattle.dma_tables.specs.declared.file.TheConstants.{MOST_DMA_PAGES}
use Rattle.dma_tables.specs.declared.file.DmaDevice.{DmaDevice}
use Rattle.dma_tables.specs.declared.file.DmaFile.{DmaFile}
use Rattle.image_pack.specs.Image.{is_listed_name}
use Rattle.muen_num.specs.Numbers.{is_page_aligned}

-- the bytes that a file begins with
unfoldable pub dma_mark_bytes : List ℕ
dma_mark_bytes = codes "MUENDMA1"

-- ---- the pages: where they begin, and how many they are

-- so many pages from there on, that end where physical addresses do, or before it
abbrev pub is_dma_size : ℕ → ℕ → Bool
is_dma_size base pages = nat_le 1 pages && (nat_le pages MOST_DMA_PAGES && nat_le (base + PAGE * pages) PHYSICAL_END)

abbrev pub page_count_of : DmaFile → ℕ
page_count_of t = length t.pages / PAGE

-- ---- devices: their names differ

abbrev pub after_dma_device : Unit {0} → List (List ℕ) → DmaDevice → List (List ℕ)
after_dma_device among names d = names ++ d.name ∷ []

unfoldable pub device : Unit {0} → List (List ℕ) → Form DmaDevice
device among names =
    field (λ d. d.name) (only (λ n. not (is_listed_name names n)) at.Name name) (λ called.
    field (λ d. d.bus) byte (λ bus.
    field (λ d. d.devfn) byte (λ devfn.
    gap 2 at.Zero (
    done (record { name = called; bus = bus; devfn = devfn })))))

-- ---- the whole

unfoldable pub dma_file : Form DmaFile
dma_file =
    tag dma_mark_bytes at.Magic (
    field (λ t. t.base) (only is_page_aligned at.Place (number w64)) (λ base.
    field page_count_of (only (is_dma_size base) at.Pages (number w32)) (λ pages.
    field (λ t. length t.devices) (only (λ n. nat_le n MOST_DEVICES) at.Count byte) (λ count.
    gap 3 at.Zero (
    field (λ t. t.devices) (items (after_dma_device tt) (device tt) [] count) (λ devices.
    field (λ t. t.pages) (fixed_bytes (PAGE * pages)) (λ bytes.
    done (record { base = base; pages = bytes; devices = devices }))))))))
