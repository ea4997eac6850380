-- What two calls promise together, of which the second runs the image and the tables that the first has verified.
use Rattle.std.specs.Prelude.{◌≡◌, ℕ, List, Option, Some}
use Rattle.command_shell.specs.declared.status.Status.{Status}
use Rattle.command_shell.specs.declared.status.Status.TheVariants as statuses
use Rattle.dma_tables.specs.declared.file.DmaFile.{DmaFile}
use Rattle.muen_outside.specs.States.{SinkState}
use Rattle.muen_outside.specs.Store.{Store}
use Rattle.muen_top.specs.Commands.{command_of as muen_command_of, run}
use Rattle.muen_top.specs.Headline.{HoldsFitting, HoldsRecord}
use Rattle.muen_top.specs.Tables.{HoldsTables}
use Rattle.muen_top.specs.TwoCalls.{PrintsSubjectsAlone}
use Rattle.muen_top.specs.declared.status.Status.{Status as MuenStatus}
use Rattle.policy_lawful.specs.source.Source.{Source}
use Rattle.record_text.specs.DeviceRecord.{DeviceRecord}
use Rattle.dma_top.specs.Commands.{command_of, verify}
use Rattle.dma_top.specs.declared.status.DmaStatus.{DmaStatus}

-- `muen_dma verify` with status 0, and then `muen run` of the image, whoever made it, with the tables, whoever made them: the text of
-- the policy's system is put
abbrev pub FitRunPrints : List (List ℕ) → List (List ℕ) → Option Store → SinkState → SinkState → Status DmaStatus → MuenStatus → Type 0
FitRunPrints first second held out out' verified ran =
    (m : Store) (image policy tables inputs : List ℕ) (t : DmaFile) (p : Source) (r : DeviceRecord) → held ≡ Some m
    → command_of first ≡ Some (verify image policy tables) → muen_command_of second ≡ Some (run image inputs (Some tables)) → verified ≡ statuses.Done
    → HoldsFitting m policy p → HoldsRecord m inputs p r → HoldsTables m tables t → PrintsSubjectsAlone p m r out out' ran
