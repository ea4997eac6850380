-- Where a byte comes that a device writes, or why it comes nowhere: the first step on its way that fails (Intel VT-d
-- specification: "Legacy Mode Address Translation"). What a step comes to is what the walk of tables says.
use Rattle.std.specs.Prelude.{ℕ, ◌+◌, ◌*◌, ◌%◌, ◌==◌, true, false, nat_lt, if◌then◌else◌, List, ok_or, Option, Some, None, Result, Ok, Err}
use Rattle.std.specs.List.{find, slice_get}
use Rattle.std.specs.Str.{bytes_eq}
use Rattle.muen_num.specs.declared.limits.TheConstants.{GUEST_END, PAGE}
use Rattle.machine_layout.specs.Walks.{bits_of, index_at}
use Rattle.image_pack.specs.declared.parts.Image.{Image}
use Rattle.image_pack.specs.declared.parts.SpanPart.{SpanPart}
use Rattle.text_words.specs.Steps.{◌>>=◌}
use Rattle.dma_tables.specs.DmaWalk.{context_table, has_right, highest_table, next_page, root_page, word_of}
use Rattle.dma_tables.specs.Lowered.{in_spans}
use Rattle.dma_tables.specs.declared.file.DmaDevice.{DmaDevice}
use Rattle.dma_tables.specs.declared.file.DmaFile.{DmaFile}
use Rattle.dma_lines.specs.declared.loss.Loss.{Loss}
use Rattle.dma_lines.specs.declared.loss.Loss.TheVariants.{NoTables, NoDevice, TooHigh, NoTable, BadEntry, NotPresent, NoRight, Outside}

-- ---- why an entry leads nowhere that is read, or isn't one of the file

-- a root or context entry, by its low number: bit 0 says that it is present
abbrev pub entry_loss : ℕ → Loss
entry_loss low = if bits_of low 0 0 == 1 then BadEntry else NoTable

abbrev pub pair_loss : Option ℕ → Option ℕ → Loss
pair_loss (Some low) (Some high) = entry_loss low
pair_loss (Some low) None = NoTable
pair_loss None high = NoTable

-- a second-level entry, of which a write was asked
abbrev pub paging_loss : ℕ → Loss
paging_loss entry = if has_right true entry then BadEntry else if has_right false entry then NoRight else NotPresent

abbrev pub word_loss : Option ℕ → Loss
word_loss None = NoTable
word_loss (Some entry) = paging_loss entry

-- ---- the steps of the walk, over any way to read tables: what it comes to, or why to nothing

abbrev pub context_step : (ℕ → ℕ → Option ℕ) → ℕ → ℕ → Result ℕ Loss
context_step word root bus = ok_or (context_table word root bus) (pair_loss (word root (2 * bus)) (word root (2 * bus + 1)))

abbrev pub highest_step : (ℕ → ℕ → Option ℕ) → ℕ → ℕ → Result ℕ Loss
highest_step word devfn table = ok_or (highest_table word table devfn) (pair_loss (word table (2 * devfn)) (word table (2 * devfn + 1)))

abbrev pub paging_step : (ℕ → ℕ → Option ℕ) → ℕ → ℕ → ℕ → Result ℕ Loss
paging_step word addr level table = ok_or (next_page word addr true level table) (word_loss (word table (index_at level addr)))

-- the page of memory that a device writes by an address
unfoldable pub page_steps : (ℕ → ℕ → Option ℕ) → ℕ → DmaDevice → ℕ → Result ℕ Loss
page_steps word root d addr = do
  context ← context_step word root d.bus
  highest ← highest_step word d.devfn context
  third ← paging_step word addr 3 highest
  second ← paging_step word addr 2 third
  first ← paging_step word addr 1 second
  paging_step word addr 0 first

-- ---- the whole way

abbrev pub low_address : ℕ → Result ℕ Loss
low_address addr = if nat_lt addr GUEST_END then Ok addr else Err TooHigh

unfoldable pub device_steps : DmaFile → DmaDevice → ℕ → Result ℕ Loss
device_steps t d addr = do
  low ← low_address addr
  page ← page_steps (word_of t) (root_page t) d low
  Ok (PAGE * page + addr % PAGE)

-- where the device of this name writes by an address, to a byte of the spans
unfoldable pub name_steps : DmaFile → List SpanPart → List ℕ → ℕ → Result ℕ Loss
name_steps t spans name addr = do
  d ← ok_or (find (λ d. bytes_eq d.name name) t.devices) NoDevice
  place ← device_steps t d addr
  ok_or (in_spans spans place) Outside

-- where a byte comes that the device of this number among those of an image writes by an address, or why it comes nowhere
unfoldable pub comes : Option DmaFile → Image → ℕ → ℕ → Result ℕ Loss
comes tables i device addr = do
  t ← ok_or tables NoTables
  part ← ok_or (slice_get i.devices device) NoDevice
  name_steps t i.spans part.name addr
