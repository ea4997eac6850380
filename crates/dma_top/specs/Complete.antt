-- What a call does in which no call on files or on a sink fails.
use Rattle.std.specs.Prelude.{◌≡◌, ◌⊎◌, ℕ, List, Option, Some, None}
use Rattle.command_shell.specs.Calls.{Ends}
use Rattle.command_shell.specs.Complete.{Answered, AnsweredBy, IsRefused, NothingFails}
use Rattle.command_shell.specs.Texts.{missing_text, too_long_text}
use Rattle.command_shell.specs.declared.status.Status.TheVariants as statuses
use Rattle.image_verify.specs.declared.fault.Fault.{Fault}
use Rattle.muen_outside.specs.Looks.{ShowAll, looks_since}
use Rattle.muen_outside.specs.Store.{Store}
use Rattle.muen_top.specs.Answers.{Answer, Reason, usage, missing, too_long, refused, image_refused, dma_refused, record_refused, prints, writes, judges, stops, verify_answer}
use Rattle.muen_top.specs.Verdicts.{HasVerdict}
use Rattle.dma_top.specs.Answers.{flows_plan, lines_plan, verdict_plan, windows_plan}
use Rattle.dma_top.specs.Commands.{Command, command_of, flows, lines, verify, windows}
use Rattle.dma_top.specs.Refusals.{devices, refusal_status, refusal_text}
use Rattle.dma_top.specs.declared.refusal.Refusal.{Refusal}
use Rattle.dma_top.specs.declared.refusal.Refusal.TheVariants.{Policy, Image as ImageOf, Record as RecordOf, Tables as TablesOf, Unsound}
use Rattle.dma_top.specs.declared.status.DmaStatus.{DmaStatus}

-- the whole line of this reason is put, and nothing else
abbrev pub IsRefusedFor : Ends DmaStatus → Refusal → Type 0
IsRefusedFor e reason = IsRefused devices.name e (refusal_status reason) (refusal_text reason)

abbrev pub IsStopped : Ends DmaStatus → Reason → Type 0
IsStopped e usage = IsRefused devices.name e statuses.Usage devices.usage
IsStopped e (missing name) = IsRefused devices.name e statuses.FileMissing (missing_text name)
IsStopped e (too_long name n) = IsRefused devices.name e statuses.FileMissing (too_long_text name n)
IsStopped e (refused refusal) = IsRefusedFor e (Policy refusal)
IsStopped e (image_refused fault) = IsRefusedFor e (ImageOf fault)
IsStopped e (dma_refused fault) = IsRefusedFor e (TablesOf fault)
IsStopped e (record_refused fault) = IsRefusedFor e (RecordOf fault)

-- where `muen verify` is answered so over this store: the image's fault is told, or the verdict on the tables; or why nothing is judged
abbrev pub IsVerdictTold : Store → List ℕ → Ends DmaStatus → Answer → Type 0
IsVerdictTold m tables e (judges p files bytes i) =
    ((fault : Fault) × HasVerdict p files bytes i (Some fault) × IsRefusedFor e (Unsound fault))
    ⊎ (HasVerdict p files bytes i None × AnsweredBy m devices.name e (verdict_plan p i tables))
IsVerdictTold m tables e (stops reason) = IsStopped e reason
IsVerdictTold m tables e (prints text) = ⊥
IsVerdictTold m tables e (writes image name p files) = ⊥

-- the call does the whole of what its command is answered over this store
abbrev pub IsWhole : Store → Option Command → Ends DmaStatus → Type 0
IsWhole m None e = Answered m devices.name devices.usage e None
IsWhole m (Some (verify image policy tables)) e = IsVerdictTold m tables e (verify_answer m image policy)
IsWhole m (Some (lines image inputs tables)) e = Answered m devices.name devices.usage e (Some (lines_plan image inputs tables))
IsWhole m (Some (windows policy)) e = Answered m devices.name devices.usage e (Some (windows_plan policy))
IsWhole m (Some (flows policy)) e = Answered m devices.name devices.usage e (Some (flows_plan policy))

-- where nothing fails, and memory suffices, that is so over every store that agrees with the looks
abbrev pub IsComplete : List (List ℕ) → Ends DmaStatus → Type 0
IsComplete words e =
    NothingFails e → (e.status ≡ statuses.NoMemory) ⊎ ((m : Store) → ShowAll m (looks_since e.before e.after) → IsWhole m (command_of words) e)
