-- What the lines of direct memory access of a record write, by tables and by the spans of an image (this project's own).
use Rattle.std.specs.Prelude.{ℕ, ◌+◌, ◌-◌, ◌*◌, ◌%◌, ◌&&◌, Bool, true, nat_le, nat_lt, if◌then◌else◌, List, [], ◌∷◌, drop, length, map, take, Option, Some, None, is_some, option_and_then, unwrap_or}
use Rattle.std.specs.List.{enumerate_from, flat_map, list_all, list_any, slice_get}
use Rattle.muen_num.specs.declared.limits.TheConstants.{PAGE}
use Rattle.image_pack.specs.declared.parts.DevicePart.{DevicePart}
use Rattle.image_pack.specs.declared.parts.Image.{Image}
use Rattle.image_pack.specs.declared.parts.SpanPart.{SpanPart}
use Rattle.device_bench.specs.declared.effect.Effect.{Effect}
use Rattle.device_bench.specs.declared.effect.Effect.TheVariants.{Port as ToPort, Mem as ToMem, Irq as ToIrq}
use Rattle.record_text.specs.declared.record.Input.{Input}
use Rattle.record_text.specs.declared.record.Input.TheVariants.{Port, Mem, Irq, Idle, Dma}
use Rattle.record_text.specs.declared.record.Record.{Record}
use Rattle.record_text.specs.declared.record.TheConstants.{INPUT_MOST}
use Rattle.record_text.specs.declared.record.TickInput.{TickInput}
use Rattle.dma_tables.specs.DmaWalk.{dma_walk}
use Rattle.dma_tables.specs.declared.file.DmaFile.{DmaFile}

-- ---- where a device's writes go

-- one of the spans has the byte of this address
abbrev pub is_in_spans : List SpanPart → ℕ → Bool
is_in_spans spans place = list_any (λ s. nat_le s.address place && nat_lt place (s.address + PAGE * s.pages)) spans

-- only to a byte of the spans
abbrev pub in_spans : List SpanPart → ℕ → Option ℕ
in_spans spans place = if is_in_spans spans place then Some place else None

-- where a write of the device of this name goes by an address, if to a byte of the spans
abbrev pub landing : DmaFile → List SpanPart → List ℕ → ℕ → Option ℕ
landing t spans device addr = option_and_then (in_spans spans) (dma_walk t device addr true)

-- the same of the device of this number among those of an image; without tables nowhere
unfoldable pub goes : Option DmaFile → Image → ℕ → ℕ → Option ℕ
goes tables i device addr =
    option_and_then (λ (t : DmaFile). option_and_then (λ (d : DevicePart). landing t i.spans d.name addr) (slice_get i.devices device)) tables

-- ---- a line, of at most 64 bytes, by where the write of each address goes

-- each byte of the line goes somewhere
abbrev pub all_go : (ℕ → Option ℕ) → ℕ → List ℕ → Bool
all_go go addr bytes = list_all (λ e. is_some (go e.0)) (enumerate_from addr bytes)

-- how many bytes there are from an address on in its page
abbrev pub left_in_page : ℕ → ℕ
left_in_page addr = PAGE - addr % PAGE

-- its bytes by the pages that it touches, one or two, each with their first address
abbrev pub by_pages : ℕ → List ℕ → List (ℕ × List ℕ)
by_pages addr bytes =
    if nat_le (length bytes) (left_in_page addr) then (addr, bytes) ∷ []
    else (addr, take (left_in_page addr) bytes) ∷ (addr + left_in_page addr, drop (left_in_page addr) bytes) ∷ []

-- bytes are written from where their first address goes on
abbrev pub write_of : (ℕ → Option ℕ) → ℕ × List ℕ → Effect
write_of go part = ToMem (unwrap_or (go part.0) 0) part.1

-- a line of a record has 1 to 64 bytes
abbrev pub is_line : List ℕ → Bool
is_line bytes = nat_le 1 (length bytes) && nat_le (length bytes) INPUT_MOST

-- none, or the writes of a line, one for each page
unfoldable pub line_writes : (ℕ → Option ℕ) → ℕ → List ℕ → Option (List Effect)
line_writes go addr bytes = if is_line bytes && all_go go addr bytes then Some (map (write_of go) (by_pages addr bytes)) else None

-- ---- a record

-- what of an input reaches the machine: of a line its writes, none where it is dropped; of an interrupt that nobody has nothing
abbrev pub lowered_input : Option DmaFile → Image → Input → List Effect
lowered_input tables i (Port port value) = ToPort port value ∷ []
lowered_input tables i (Mem at bytes) = ToMem at bytes ∷ []
lowered_input tables i (Irq subject vector) = ToIrq subject vector ∷ []
lowered_input tables i Idle = []
lowered_input tables i (Dma device addr bytes) = unwrap_or (line_writes (goes tables i device) addr bytes) []

-- all in the tick of the input
abbrev pub in_tick : ℕ → Effect → TickInput Effect
in_tick tick effect = record { tick = tick; input = effect }

abbrev pub lowered_at : Option DmaFile → Image → TickInput Input → List (TickInput Effect)
lowered_at tables i e = map (in_tick e.tick) (lowered_input tables i e.input)

-- **the record as it reaches the machine**
unfoldable pub lowered : Option DmaFile → Image → Record Input → Record Effect
lowered tables i r = record { end = r.end; inputs = flat_map (lowered_at tables i) r.inputs; orders = r.orders }
