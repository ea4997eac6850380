-- The text of an image's run: the lines of all turns, each subject's state at the end, and a digest of each region and of each
-- device's memory (this project's own).
use Rattle.std.specs.Prelude.{ℕ, ◌+◌, ◌/◌, ◌==◌, Bool, not, true, false, if◌then◌else◌, List, [], ◌++◌, length, slice_get, Option, Some, None}
use Rattle.std.specs.List.{find, flat_map}
use Rattle.sha2.specs.Sha256.{sha256}
use Rattle.muen_num.specs.Range.{numbers_below}
use Rattle.muen_num.specs.declared.limits.TheConstants.{PAGE}
use Rattle.ept_walk.specs.Memory.{Page}
use Rattle.view_text.specs.StatePage.{state_in}
use Rattle.image_pack.specs.declared.parts.Image.{Image}
use Rattle.image_pack.specs.declared.parts.SpanKind.{SpanKind}
use Rattle.image_pack.specs.declared.parts.SpanKind.TheVariants.{Own, Channel, Provided, Kernel as OfKernel, Device}
use Rattle.image_pack.specs.declared.parts.SpanPart.{SpanPart}
use Rattle.image_pack.specs.declared.parts.SubjectPart.{SubjectPart}
use Rattle.device_bench.specs.declared.effect.Effect.{Effect}
use Rattle.dma_tables.specs.Lowered.{lowered}
use Rattle.dma_tables.specs.declared.file.DmaFile.{DmaFile}
use Rattle.device_bench.specs.record.Input.{Input}
use Rattle.device_bench.specs.record.Record.{Record}
use Rattle.view_text.specs.ViewText.{rows_text, turn_text, region_text}
use Rattle.view_text.specs.declared.TurnLine.{TurnLine}
use Rattle.kernel_core.specs.Machine.{page_bytes_at}
use Rattle.kernel_core.specs.Control.{Control}
use Rattle.kernel_core.specs.Run.{Ran}
use Rattle.kernel_core.specs.Kernel.{Live}
use Rattle.kernel_core.specs.Ticks.{kernel_run_to, ended}
use Rattle.kernel_core.specs.declared.setup.Setup.{Setup}
use Rattle.image_load.specs.Loaded.{setup_of}
use Rattle.image_load.specs.Memory.{memory_of}

-- ---- the final states: what each subject's state page has

abbrev pub machine_subject_text : List Page → Option SubjectPart → Option Control → List ℕ
machine_subject_text pages (Some s) (Some c) = rows_text s.name (state_in (page_bytes_at pages c.state))
machine_subject_text pages (Some s) None = []
machine_subject_text pages None c = []

-- of the subject with this number
abbrev pub numbered_subject_text : Setup → List Page → ℕ → List ℕ
numbered_subject_text setup pages n = machine_subject_text pages (slice_get setup.subjects n) (slice_get setup.controls n)

abbrev pub states_text : Setup → List Page → List ℕ
states_text setup pages = flat_map (numbered_subject_text setup pages) (numbers_below (length setup.subjects))

-- ---- the digests: of each region, and of each device's memory

-- the bytes of so many pages from this one on
abbrev pub bytes_from : List Page → ℕ → ℕ → List ℕ
bytes_from pages first n = flat_map (λ j. page_bytes_at pages (first + j)) (numbers_below n)

abbrev pub digest_in : List Page → SpanPart → List ℕ
digest_in pages s = sha256 (bytes_from pages (s.address / PAGE) s.pages)

-- what is printed as a region, and what as a device's memory; what the kernel has for a subject isn't printed
abbrev pub prints_as : Bool → SpanKind → Bool
prints_as device Own = not device
prints_as device Channel = not device
prints_as device Provided = not device
prints_as device OfKernel = false
prints_as device Device = device

abbrev pub span_text : Bool → List Page → Option SpanPart → List ℕ
span_text device pages None = []
span_text device pages (Some s) = if prints_as device s.kind then region_text s.tag device (digest_in pages s) else []

-- of the span with this number
abbrev pub numbered_span_text : Bool → List SpanPart → List Page → ℕ → List ℕ
numbered_span_text device spans pages n = span_text device pages (find (λ s. s.number == n) spans)

abbrev pub spans_text : Bool → List SpanPart → List Page → List ℕ
spans_text device spans pages = flat_map (numbered_span_text device spans pages) (numbers_below (length spans))

-- ---- the whole

-- the final lines
abbrev pub final_text : Setup → List SpanPart → List Page → List ℕ
final_text setup spans pages = states_text setup pages ++ (spans_text false spans pages ++ spans_text true spans pages)

-- the lines of these turns, and then the final lines
abbrev pub ran_text : Setup → List SpanPart → ℕ → Ran Live TurnLine → List ℕ
ran_text setup spans cpus ran = flat_map turn_text ran.lines ++ final_text setup spans (ended cpus ran.state).machine.pages

-- **the text** of an image's run on what reaches its machine: all ticks, and then the final lines
unfoldable pub image_text : Image → Record Effect → List ℕ
image_text i run =
    ran_text (setup_of i) i.spans i.header.cpus (kernel_run_to (setup_of i) run i.header.cpus (memory_of i) run.end)

-- .. and on a record, with these tables for direct memory access, or none
abbrev pub run_text : Option DmaFile → Image → Record Input → List ℕ
run_text tables i r = image_text i (lowered tables i r)
