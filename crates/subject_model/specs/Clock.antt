-- The abstract system on the clock: how a tick begins, and what inputs do (this project's own, after Muen's scheduling plans).
use Rattle.std.specs.Prelude.{ℕ, ◌==◌, if◌then◌else◌, List, [], ◌∷◌, map, filter, slice_get, slice_set, Option, Some, None, is_some, option_and_then}
use Rattle.std.specs.List.{enumerate_from, find, list_all, sum_by}
use Rattle.std.specs.Option.{option_map_or}
use Rattle.frame_clock.specs.Frames.{frame_at_tick}
use Rattle.muen_num.specs.Range.{numbers_below}
use Rattle.muen_num.specs.declared.access.AccessKind.TheVariants.{Write}
use Rattle.policy_lawful.specs.Contents.{Held}
use Rattle.policy_lawful.specs.Dma.{dma_access}
use Rattle.policy_lawful.specs.Events.{Target, irq_of}
use Rattle.policy_lawful.specs.Frames.{frames_of}
use Rattle.policy_lawful.specs.Thing.{Thing, region, device_memory}
use Rattle.policy_lawful.specs.Windows.{Access, byte, violation}
use Rattle.policy_lawful.specs.source.Source.{Source}
use Rattle.policy_lawful.specs.source.Tau0.{Tau0}
use Rattle.record_text.specs.DeviceRecord.{DeviceRecord, NamedInput, port_input, memory_input, irq_input, dma_input}
use Rattle.frame_clock.specs.Run.{Clocked, Ran, run_to}
use Rattle.view_text.specs.declared.TurnLine.{TurnLine}
use Rattle.subject_model.specs.Alone.{thing_in}
use Rattle.subject_model.specs.System.{System, pends_now, start_of, system_turn, with_bytes}

-- ---- a tick begins

-- how many ticks each major frame has: as many as the minor frames of a CPU have in it
abbrev pub ticks_of_majors : Source → List ℕ
ticks_of_majors p = map (sum_by (λ f. f.ticks)) (frames_of p 0)

-- the byte that chooses the next major frame: the first of this region
abbrev pub pick_in : System → Option Tau0 → Option ℕ
pick_in y None = None
pick_in y (Some t) = option_and_then (λ bytes. slice_get bytes 0) (thing_in y.things (region t.region))

abbrev pub begins : Source → ℕ → System → System
begins p tick y = record y { frame = frame_at_tick (ticks_of_majors p) y.frame (pick_in y p.scheduling.tau0) tick }

-- ---- what a device writes by itself

-- a byte that is written into a thing
pub record ByteWrite : Type 0 where
  pub thing : Thing
  pub offset : ℕ
  pub value : ℕ

-- where a value goes, if the access is one to a byte
abbrev pub write_to : Access Thing → ℕ → Option ByteWrite
write_to (byte x offset) value = Some (record { thing = x; offset = offset; value = value })
write_to (violation found) value = None

-- of each byte of a line, where the device's domain lets it go, if anywhere; the line's first byte has this address
abbrev pub line_writes : Source → List ℕ → ℕ → List ℕ → List (Option ByteWrite)
line_writes p device address bytes = map (λ e. write_to (dma_access p device e.0 Write) e.1) (enumerate_from address bytes)

abbrev pub with_byte : Option ByteWrite → System → System
with_byte None y = y
with_byte (Some w) y = with_bytes w.thing w.offset (w.value ∷ []) y

-- these are written, one after another
abbrev pub with_each : List (Option ByteWrite) → System → System
with_each [] y = y
with_each (w ∷ ws) y = with_each ws (with_byte w y)

-- a line is written where each of its bytes goes somewhere, and dropped else
abbrev pub with_line : List (Option ByteWrite) → System → System
with_line ws y = if list_all is_some ws then with_each ws y else y

-- ---- inputs

abbrev pub irq_reaches : Option Target → System → System
irq_reaches None y = y
irq_reaches (Some t) y = pends_now t y

abbrev pub takes : Source → NamedInput → System → System
takes p (port_input device port value) y = record y { ports = slice_set y.ports port value }
takes p (memory_input device memory offset bytes) y = with_bytes (device_memory device memory) offset bytes y
takes p (irq_input device irq) y = irq_reaches (irq_of p device irq) y
takes p (dma_input device address bytes) y = with_line (line_writes p device address bytes) y

-- **the system on the clock**
abbrev pub system : Source → Clocked System NamedInput TurnLine
system p = record { begins = begins p; takes = takes p; turn = system_turn p }

-- ---- by a record

abbrev pub inputs_at : DeviceRecord → ℕ → List NamedInput
inputs_at r tick = map (λ e. e.1) (filter (λ e. e.0 == tick) r.inputs)

-- the order of the CPUs in a tick: as the record gives it, by number where it gives none
abbrev pub order_at : Source → DeviceRecord → ℕ → List ℕ
order_at p r tick = option_map_or (λ e. e.1) (find (λ e. e.0 == tick) r.orders) (numbers_below p.processor.logical_cpus)

-- **the run** on a record, from the start
unfoldable pub run_of : Source → Held → DeviceRecord → Ran System TurnLine
run_of p files r = run_to (system p) (inputs_at r) (order_at p r) r.end (start_of p files)
