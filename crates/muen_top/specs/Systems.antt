-- Which system a call runs, and what is so of it: it is its subjects alone, and members of a closed set are printed alike.
use Rattle.std.specs.Prelude.{◌≡◌, ℕ, List, Option, Some, map}
use Rattle.flow_report.specs.TwoTexts.{PrintsMembersAlike}
use Rattle.muen_outside.specs.Looks.{ShowAll}
use Rattle.muen_outside.specs.States.{Look}
use Rattle.muen_outside.specs.Store.{Store}
use Rattle.policy_lawful.specs.Contents.{Held}
use Rattle.policy_lawful.specs.source.Source.{Source}
use Rattle.policy_lawful.specs.source.Subject.{Subject}
use Rattle.proof_views.specs.AloneRun.{alone_view, own_part, reaching_at, started_alone}
use Rattle.proof_views.specs.Composed.{AreFed, alone_in_run, composed}
use Rattle.record_text.specs.DeviceRecord.{DeviceRecord}
use Rattle.subject_model.specs.Alone.{OwnState, own_of}
use Rattle.subject_model.specs.Clock.{inputs_at, order_at, run_of}
use Rattle.subject_model.specs.Run.{run_to}
use Rattle.subject_model.specs.System.{start_of, subject_named}
use Rattle.subject_model.specs.View.{view_of}
use Rattle.muen_top.specs.Commands.{boot, run, command_of}
use Rattle.muen_top.specs.Headline.{HoldsPolicy, HoldsRecord, HoldsSound}

-- these words have the system of this policy, over files that hold this, run on this record: `boot` of the policy, or `run` of an
-- image that is sound for it
pub data RunsSystem (words : List (List ℕ)) (m : Store) (p : Source) (files : Held) (r : DeviceRecord) : Type 0 where
  by_boot : (policy inputs : List ℕ) → command_of words ≡ Some (boot policy inputs) → HoldsPolicy m policy p → HoldsRecord m inputs p r → files ≡ m → RunsSystem words m p files r
  by_run : (image inputs : List ℕ) (dma : Option (List ℕ)) → command_of words ≡ Some (run image inputs dma) → HoldsSound m image p files → HoldsRecord m inputs p r → RunsSystem words m p files r

-- **each subject acts alone, and the run is its subjects alone**
pub record IsOfSubjectsAlone (p : Source) (files : Held) (r : DeviceRecord) : Type 0 where
  -- a subject's view is, tick by tick, that of the subject by itself, by what reaches it there
  pub views : (s : Subject) → subject_named p s.name ≡ Some s
      → map own_part (view_of p files r s) ≡ alone_view (own_of p s) (reaching_at p files r s) (started_alone s) r.end
  -- the runs of the subjects alone, put together, are the run of which the text is printed
  pub whole : run_to (composed (alone_in_run p files r) p) (inputs_at r) (order_at p r) r.end (start_of p files) ≡ run_of p files r
  -- what reaches them there comes of the composition itself
  pub fed : AreFed (alone_in_run p files r) p files r
  -- and no other runs alone are fed so
  pub only : (alone : Subject → ℕ → OwnState) → AreFed alone p files r
      → (s : Subject) → subject_named p s.name ≡ Some s → (n : ℕ) → alone s n ≡ alone_in_run p files r s n

-- ---- over stores of which something is so

abbrev pub RunsSubjectsAloneOver : List (List ℕ) → (Store → Type 0) → Type 0
RunsSubjectsAloneOver words Is = (m : Store) (p : Source) (files : Held) (r : DeviceRecord) → Is m → RunsSystem words m p files r → IsOfSubjectsAlone p files r

-- of each member of a set of subjects that is closed in it, the same is printed in every other system that agrees on the set
abbrev pub PrintsAlikeOver : List (List ℕ) → (Store → Type 0) → Type 0
PrintsAlikeOver words Is = (m : Store) (p : Source) (files : Held) (r : DeviceRecord) → Is m → RunsSystem words m p files r → PrintsMembersAlike p files r

-- over every store that agrees with the call's looks
abbrev pub RunsSubjectsAlone : List (List ℕ) → List Look → Type 0
RunsSubjectsAlone words looks = RunsSubjectsAloneOver words (λ m. ShowAll m looks)

abbrev pub PrintsAlike : List (List ℕ) → List Look → Type 0
PrintsAlike words looks = PrintsAlikeOver words (λ m. ShowAll m looks)

-- over what files tell that they hold
abbrev pub RunsSubjectsAloneHeld : List (List ℕ) → Option Store → Type 0
RunsSubjectsAloneHeld words held = RunsSubjectsAloneOver words (λ m. held ≡ Some m)

abbrev pub PrintsAlikeHeld : List (List ℕ) → Option Store → Type 0
PrintsAlikeHeld words held = PrintsAlikeOver words (λ m. held ≡ Some m)
