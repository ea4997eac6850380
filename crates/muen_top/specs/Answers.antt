-- What a command answers over files that hold this, where no call on files or on a sink fails and memory suffices.
use Rattle.std.specs.Prelude.{ℕ, List, Option, Some, None, Result, Ok, Err}
use Rattle.std.specs.FinMap.{get}
use Rattle.flow_report.specs.FlowText.{flow_text_of}
use Rattle.image_pack.specs.Faults.{unpacked}
use Rattle.dma_tables.specs.DmaFile.{dma_file}
use Rattle.dma_tables.specs.declared.file.DmaFile.{DmaFile}
use Rattle.image_load.specs.Resolving.{image_bench, image_record}
use Rattle.image_pack.specs.Image.{image as image_form}
use Rattle.image_pack.specs.declared.parts.Image.{Image}
use Rattle.expand_kernel.specs.thing.Region.{Region}
use Rattle.map_report.specs.MapText.{map_text_of}
use Rattle.map_report.specs.Placement.{placement_of}
use Rattle.muen_num.specs.declared.limits.TheConstants.{IMAGE_MOST, POLICY_MOST, RECORD_MOST}
use Rattle.muen_outside.specs.Store.{Reading, whole, absent, long, reading_of}
use Rattle.policy_lawful.specs.Contents.{Held}
use Rattle.policy_lawful.specs.refusal.Refusal.{Refusal}
use Rattle.policy_lawful.specs.refusal.Refusal.TheVariants.{NoRoom}
use Rattle.policy_lawful.specs.source.Source.{Source}
use Rattle.record_text.specs.DeviceRecord.{DeviceRecord}
use Rattle.subject_model.specs.Trace.{trace_of}
use Rattle.muen_run.specs.RunText.{run_text}
use Rattle.muen_top.specs.Commands.{Command, build, boot, run, map, flows, verify, load}
use Rattle.muen_top.specs.LoadText.{load_text}
use Rattle.record_text.specs.Reading.{record_of}
use Rattle.image_soundness.specs.Bench.{devices_of}
use Rattle.muen_build.specs.Refusals.{accepted_policy_of, fitting_policy_of, lawful_policy_of}
use Rattle.image_pack.specs.fault.ImageFault.{ImageFault}
use Rattle.record_text.specs.declared.fault.RecordFault.{RecordFault}
use Rattle.muen_top.specs.declared.limits.TheConstants.{DMA_MOST}

-- why a command prints and writes nothing
pub data Reason : Type 0 where
  -- the words have no command's form
  usage : Reason
  -- there is no file of this name
  missing : List ℕ → Reason
  -- the file of this name has so many bytes, more than its limit
  too_long : List ℕ → ℕ → Reason
  -- the policy is refused
  refused : Refusal → Reason
  -- the image is refused
  image_refused : ImageFault → Reason
  -- the tables for direct memory access are refused
  dma_refused : ImageFault → Reason
  -- the device record is refused
  record_refused : RecordFault → Reason

pub data Answer : Type 0 where
  -- this text is printed
  prints : List ℕ → Answer
  -- an image that is sound for this policy over these files is written under this name and, where there is another, the tables of
  -- the policy's domains of devices under that one; nothing is printed
  writes : List ℕ → Option (List ℕ) → Source → Held → Answer
  -- the verdict on the image of these bytes, for this policy over these files: where it has no fault, that it is sound is printed
  judges : Source → Held → List ℕ → Image → Answer
  -- nothing is printed, for this reason
  stops : Reason → Answer

-- what follows where a file is read, and why nothing does where it isn't
abbrev pub of_file : List ℕ → (List ℕ → Answer) → Reading → Answer
of_file name next (whole bytes) = next bytes
of_file name next absent = stops (missing name)
of_file name next (long n) = stops (too_long name n)

-- ---- `build`: the policy's file, the policy with its contents and its room, the image, the tables

abbrev pub image_answer : Held → List ℕ → Option (List ℕ) → Result Source Refusal → Answer
image_answer files image tables (Ok p) = writes image tables p files
image_answer files image tables (Err refusal) = stops (refused refusal)

unfoldable pub build_answer : Held → List ℕ → List ℕ → Option (List ℕ) → Answer
build_answer files policy image tables =
    of_file policy (λ bytes. image_answer files image tables (accepted_policy_of files bytes)) (reading_of (get files policy) POLICY_MOST)

-- ---- `boot`: the policy's file, the policy with its contents and its room, the record's file, the record, the run of the policy's system

abbrev pub trace_answer : Held → Source → Result DeviceRecord RecordFault → Answer
trace_answer files p (Ok input) = prints (trace_of p files input)
trace_answer files p (Err fault) = stops (record_refused fault)

abbrev pub record_answer : Held → Source → List ℕ → Answer
record_answer files p name =
    of_file name (λ bytes. trace_answer files p (record_of bytes (devices_of p))) (reading_of (get files name) RECORD_MOST)

abbrev pub policy_answer : Held → List ℕ → Result Source Refusal → Answer
policy_answer files name (Ok p) = record_answer files p name
policy_answer files name (Err refusal) = stops (refused refusal)

unfoldable pub boot_answer : Held → List ℕ → List ℕ → Answer
boot_answer files policy name =
    of_file policy (λ bytes. policy_answer files name (accepted_policy_of files bytes)) (reading_of (get files policy) POLICY_MOST)

-- ---- `run`: the image's file, the image, the file of tables and the tables, where the words name one, the record's file, the
-- ---- record for this image, the run

-- with these tables for direct memory access, or none
abbrev pub named_answer : Option DmaFile → Image → Result DeviceRecord RecordFault → Answer
named_answer tables i (Ok named) = prints (run_text tables i (image_record i named))
named_answer tables i (Err fault) = stops (record_refused fault)

abbrev pub input_answer : Held → List ℕ → Image → Option DmaFile → Answer
input_answer files name i tables =
    of_file name (λ bytes. named_answer tables i (record_of bytes (image_bench i))) (reading_of (get files name) RECORD_MOST)

abbrev pub dma_answer : Held → List ℕ → Image → Result DmaFile ImageFault → Answer
dma_answer files name i (Ok tables) = input_answer files name i (Some tables)
dma_answer files name i (Err fault) = stops (dma_refused fault)

abbrev pub tables_answer : Held → List ℕ → Option (List ℕ) → Image → Answer
tables_answer files name None i = input_answer files name i None
tables_answer files name (Some dma) i = of_file dma (λ bytes. dma_answer files name i (unpacked dma_file bytes)) (reading_of (get files dma) DMA_MOST)

abbrev pub unpacked_answer : Held → List ℕ → Option (List ℕ) → Result Image ImageFault → Answer
unpacked_answer files name dma (Ok i) = tables_answer files name dma i
unpacked_answer files name dma (Err fault) = stops (image_refused fault)

unfoldable pub run_answer : Held → List ℕ → List ℕ → Option (List ℕ) → Answer
run_answer files image name dma =
    of_file image (λ bytes. unpacked_answer files name dma (unpacked image_form bytes)) (reading_of (get files image) IMAGE_MOST)

-- ---- `map`: the policy's file, the policy, the places of its regions, the text

-- with the addresses of its regions, or the first region that has none
abbrev pub placed_answer : Source → Result (List ℕ) Region → Answer
placed_answer p (Ok addresses) = prints (map_text_of p addresses)
placed_answer p (Err r) = stops (refused (NoRoom r.tag r.size))

abbrev pub map_policy_answer : Result Source Refusal → Answer
map_policy_answer (Ok p) = placed_answer p (placement_of p)
map_policy_answer (Err refusal) = stops (refused refusal)

unfoldable pub map_answer : Held → List ℕ → Answer
map_answer files policy = of_file policy (λ bytes. map_policy_answer (lawful_policy_of bytes)) (reading_of (get files policy) POLICY_MOST)

-- ---- `flows`: the policy's file, the policy, the text

abbrev pub flows_policy_answer : Result Source Refusal → Answer
flows_policy_answer (Ok p) = prints (flow_text_of p)
flows_policy_answer (Err refusal) = stops (refused refusal)

unfoldable pub flows_answer : Held → List ℕ → Answer
flows_answer files policy = of_file policy (λ bytes. flows_policy_answer (lawful_policy_of bytes)) (reading_of (get files policy) POLICY_MOST)

-- ---- `verify`: the image's file, the image, the policy's file, the policy with its contents, the verdict

abbrev pub judged_answer : Held → List ℕ → Image → Result Source Refusal → Answer
judged_answer files bytes i (Ok p) = judges p files bytes i
judged_answer files bytes i (Err refusal) = stops (refused refusal)

abbrev pub document_answer : Held → List ℕ → List ℕ → Image → Answer
document_answer files policy bytes i =
    of_file policy (λ document. judged_answer files bytes i (fitting_policy_of files document)) (reading_of (get files policy) POLICY_MOST)

abbrev pub verified_answer : Held → List ℕ → List ℕ → Result Image ImageFault → Answer
verified_answer files policy bytes (Ok i) = document_answer files policy bytes i
verified_answer files policy bytes (Err fault) = stops (image_refused fault)

unfoldable pub verify_answer : Held → List ℕ → List ℕ → Answer
verify_answer files image policy =
    of_file image (λ bytes. verified_answer files policy bytes (unpacked image_form bytes)) (reading_of (get files image) IMAGE_MOST)

-- ---- every command

-- the answer to these words' command
abbrev pub answer_of : Held → Option Command → Answer
answer_of files None = stops usage
answer_of files (Some (build policy image tables)) = build_answer files policy image tables
answer_of files (Some (boot policy name)) = boot_answer files policy name
answer_of files (Some (run image name dma)) = run_answer files image name dma
answer_of files (Some (map policy)) = map_answer files policy
answer_of files (Some (flows policy)) = flows_answer files policy
answer_of files (Some (verify image policy)) = verify_answer files image policy
answer_of files (Some (load number)) = prints (load_text number)
