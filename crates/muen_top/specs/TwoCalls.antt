-- What two calls promise together, of which the second runs the image that the first has written, or has found sound.
use Rattle.std.specs.Prelude.{◌≡◌, ◌≢◌, ℕ, List, Option, Some, None, IfSome}
use Rattle.std.specs.FinMap.{get}
use Rattle.dma_tables.specs.declared.file.DmaFile.{DmaFile}
use Rattle.image_pack.specs.Parts.{IsImage}
use Rattle.image_pack.specs.declared.parts.Image.{Image}
use Rattle.muen_num.specs.declared.limits.TheConstants.{IMAGE_MOST}
use Rattle.muen_outside.specs.States.{SinkState}
use Rattle.muen_outside.specs.Store.{Store, reading_of, whole}
use Rattle.policy_lawful.specs.source.Source.{Source}
use Rattle.proof_runs.specs.Fit.{Fit}
use Rattle.policy_lawful.specs.Contents.{Held}
use Rattle.record_text.specs.DeviceRecord.{DeviceRecord}
use Rattle.subject_model.specs.Trace.{trace_of}
use Rattle.muen_top.specs.Commands.{build, run, verify, command_of}
use Rattle.muen_top.specs.Headline.{HandsIn, HoldsFitting, HoldsPolicy, HoldsRecord, PrintsText}
use Rattle.muen_top.specs.Systems.{IsOfSubjectsAlone}
use Rattle.muen_top.specs.declared.status.Status.{Status}
use Rattle.muen_top.specs.declared.status.Status.TheVariants as statuses

-- the text of the policy's system is put, and that is the text of its subjects alone, each by what the policy lets reach it
abbrev pub PrintsSubjectsAlone : Source → Held → DeviceRecord → SinkState → SinkState → Status → Type 0
PrintsSubjectsAlone p files r out out' status = PrintsText (trace_of p files r) out out' status × IsOfSubjectsAlone p files r

-- `build` with status 0, and then `run` of the image that it has written, with the tables, or without them where no domain of
-- devices lets one write: the text of the policy's system is put
abbrev pub BuiltRunPrints : List (List ℕ) → List (List ℕ) → Option Store → SinkState → SinkState → Status → Status → Type 0
BuiltRunPrints first second held out out' built ran =
    (m : Store) (policy image inputs : List ℕ) (dma : Option (List ℕ)) (p : Source) (r : DeviceRecord) → held ≡ Some m
    → command_of first ≡ Some (build policy image dma) → command_of second ≡ Some (run image inputs dma) → built ≡ statuses.Done
    → HoldsPolicy m policy p → HoldsRecord m inputs p r → inputs ≢ image → IfSome dma (λ name. inputs ≢ name)
    → (dma ≡ None → (i : Image) → Fit p i None) → PrintsSubjectsAlone p m r out out' ran

-- whatever image the store holds under this name, these tables fit the policy and it
abbrev pub FitHeld : Store → List ℕ → Source → Option DmaFile → Type 0
FitHeld m image p tables = (bytes : List ℕ) (i : Image) → reading_of (get m image) IMAGE_MOST ≡ whole bytes → IsImage bytes i → Fit p i tables

-- `verify` with status 0, and then `run` of the image that it has found sound, with tables that fit: the same
abbrev pub VerifiedRunPrints : List (List ℕ) → List (List ℕ) → Option Store → SinkState → SinkState → Status → Status → Type 0
VerifiedRunPrints first second held out out' verified ran =
    (m : Store) (policy image inputs : List ℕ) (dma : Option (List ℕ)) (tables : Option DmaFile) (p : Source) (r : DeviceRecord) → held ≡ Some m
    → command_of first ≡ Some (verify image policy) → command_of second ≡ Some (run image inputs dma) → verified ≡ statuses.Done
    → HoldsFitting m policy p → HoldsRecord m inputs p r → HandsIn m dma tables → FitHeld m image p tables → PrintsSubjectsAlone p m r out out' ran
