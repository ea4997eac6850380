-- What a command answers to the bytes of its files.
use Rattle.std.specs.Prelude.{ℕ, List, Option, Result, Ok, Err, Some, None}
use Rattle.command_shell.specs.Answers.{Answer, Plan, prints, refuses, answers, looks_at, takes_memory}
use Rattle.device_flows.specs.DeviceFlows.{device_flow_text_of}
use Rattle.dma_check.specs.Verdict.{verdict}
use Rattle.dma_check.specs.declared.fault.DmaFault.{DmaFault}
use Rattle.dma_lines.specs.LinesText.{lines_text}
use Rattle.dma_map.specs.DmaMapText.{dma_map_text_of}
use Rattle.dma_tables.specs.DmaFile.{dma_file}
use Rattle.dma_tables.specs.declared.file.DmaFile.{DmaFile}
use Rattle.expand_kernel.specs.thing.Region.{Region}
use Rattle.image_load.specs.Resolving.{image_bench, image_record}
use Rattle.image_pack.specs.Faults.{unpacked}
use Rattle.image_pack.specs.Image.{image as image_form}
use Rattle.image_pack.specs.declared.parts.Image.{Image}
use Rattle.muen_build.specs.Refusals.{lawful_policy_of}
use Rattle.muen_num.specs.declared.limits.TheConstants.{IMAGE_MOST, POLICY_MOST, RECORD_MOST}
use Rattle.muen_top.specs.declared.limits.TheConstants.{DMA_MOST}
use Rattle.muen_top.specs.Reports.{sound_text}
use Rattle.policy_lawful.specs.refusal.Refusal.TheVariants.{NoRoom}
use Rattle.policy_lawful.specs.source.Source.{Source}
use Rattle.record_text.specs.Reading.{record_of}
use Rattle.record_text.specs.Steps.{mapped}
use Rattle.record_text.specs.declared.record.Input.{Input}
use Rattle.record_text.specs.declared.record.Record.{Record}
use Rattle.region_alloc.specs.Placement.{placement_of}
use Rattle.dma_top.specs.Refusals.{refusal_status, refusal_text}
use Rattle.dma_top.specs.declared.refusal.Refusal.{Refusal}
use Rattle.dma_top.specs.declared.refusal.Refusal.TheVariants.{Policy, Image as ImageOf, Record as RecordOf, Tables as TablesOf, Unfit}
use Rattle.dma_top.specs.declared.status.DmaStatus.{DmaStatus}

-- what was asked for is refused, for this reason
abbrev pub refused : Refusal → Plan DmaStatus
refused reason = answers (refuses (refusal_status reason) (refusal_text reason))

-- what follows from what bytes mean; or they are refused
abbrev pub of_meaning : {A F : Type 0} → (F → Refusal) → (A → Plan DmaStatus) → Result A F → Plan DmaStatus
of_meaning reason next (Ok a) = next a
of_meaning reason next (Err f) = refused (reason f)

-- a file is looked at, what its bytes mean is found, and this follows from that
abbrev pub file_plan : {A F : Type 0} → List ℕ → ℕ → (List ℕ → Result A F) → (F → Refusal) → (A → Plan DmaStatus) → Plan DmaStatus
file_plan name most meaning reason next = looks_at name most (λ bytes. takes_memory (of_meaning reason next (meaning bytes)))

abbrev pub image_plan : List ℕ → (Image → Plan DmaStatus) → Plan DmaStatus
image_plan name next = file_plan name IMAGE_MOST (unpacked image_form) ImageOf next

abbrev pub tables_plan : List ℕ → (DmaFile → Plan DmaStatus) → Plan DmaStatus
tables_plan name next = file_plan name DMA_MOST (unpacked dma_file) TablesOf next

-- a record for this image, by its addresses and numbers
abbrev pub record_plan : Image → List ℕ → (Record Input → Plan DmaStatus) → Plan DmaStatus
record_plan i name next = file_plan name RECORD_MOST (λ bytes. mapped (image_record i) (record_of bytes (image_bench i))) RecordOf next

abbrev pub policy_plan : List ℕ → (Source → Plan DmaStatus) → Plan DmaStatus
policy_plan name next = file_plan name POLICY_MOST lawful_policy_of Policy next

-- the windows of the devices of a policy, where its regions are placed; or the first region that has no room
abbrev pub placed_plan : Source → Plan DmaStatus
placed_plan p = takes_memory (of_meaning (λ (r : Region). Policy (NoRoom r.tag r.size)) (λ addresses. answers (prints (dma_map_text_of p addresses))) (placement_of p))

-- the files that `lines` looks at, and its answer to what they have
abbrev pub lines_plan : List ℕ → List ℕ → List ℕ → Plan DmaStatus
lines_plan image inputs tables =
    image_plan image (λ i. tables_plan tables (λ t. record_plan i inputs (λ r. answers (prints (lines_text (Some t) i r)))))

-- .. `map`
abbrev pub windows_plan : List ℕ → Plan DmaStatus
windows_plan policy = policy_plan policy placed_plan

-- .. `flows`
abbrev pub flows_plan : List ℕ → Plan DmaStatus
flows_plan policy = policy_plan policy (λ p. answers (prints (device_flow_text_of p)))

-- ---- the verdict on tables, where the image is sound for the policy

abbrev pub verdict_answer : Option DmaFault → Answer DmaStatus
verdict_answer None = prints sound_text
verdict_answer (Some fault) = refuses (refusal_status (Unfit fault)) (refusal_text (Unfit fault))

abbrev pub verdict_plan : Source → Image → List ℕ → Plan DmaStatus
verdict_plan p i tables = tables_plan tables (λ t. answers (verdict_answer (verdict p i t)))
