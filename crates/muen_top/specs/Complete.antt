-- What a call does in which no call on files or on a sink fails.
use Rattle.std.specs.Prelude.{◌≡◌, ◌≢◌, ◌⊎◌, ℕ, List, [], Some, None, Ok, Err}
use Rattle.std.specs.List.{All}
use Rattle.image_verify.specs.FaultText.{fault_text}
use Rattle.image_verify.specs.declared.fault.Fault.{Fault}
use Rattle.muen_outside.specs.Looks.{looks_since, writes_since}
use Rattle.muen_outside.specs.Puts.{Appended}
use Rattle.muen_outside.specs.States.{History, SinkState, Write}
use Rattle.muen_outside.specs.declared.files.FileError.TheVariants.{Failed}
use Rattle.muen_top.specs.Answers.{Answer, prints, writes, judges, stops}
use Rattle.muen_top.specs.Calls.{Answered}
use Rattle.muen_top.specs.Images.{Wrote}
use Rattle.muen_top.specs.Reports.{error_line, reason_status, reason_text, sound_text}
use Rattle.muen_top.specs.Verdicts.{HasVerdict}
use Rattle.muen_top.specs.declared.status.Status.{Status}
use Rattle.muen_top.specs.declared.status.Status.TheVariants as statuses

-- none has failed: no look, no write, no put
pub record NothingFails (old new : History) (out out' err err' : SinkState) : Type 0 where
  pub looks : All (λ l. l.got ≢ Err Failed) (looks_since old new)
  pub writes : All (λ w. w.end ≢ Err Failed) (writes_since old new)
  pub puts : out'.faults ≡ out.faults
  pub lines : err'.faults ≡ err.faults

-- the whole of an answer: the status; what is written; what is put; the line
abbrev pub IsWhole : Answer → List Write → SinkState → SinkState → SinkState → SinkState → Status → Type 0
IsWhole (prints text) ws out out' err err' status = (status ≡ statuses.Done) × (ws ≡ []) × Appended text out out' × (err' ≡ err)
IsWhole (writes image tables p files) ws out out' err err' status =
    (status ≡ statuses.Done) × Wrote image tables p files (Ok tt) ws × (out' ≡ out) × (err' ≡ err)
IsWhole (judges p files bytes i) ws out out' err err' status =
    (HasVerdict p files bytes i None × (status ≡ statuses.Done) × (ws ≡ []) × Appended sound_text out out' × (err' ≡ err))
    ⊎ ((fault : Fault) × HasVerdict p files bytes i (Some fault) × (status ≡ statuses.NotSound) × (ws ≡ []) × (out' ≡ out) × Appended (error_line (fault_text fault)) err err')
IsWhole (stops reason) ws out out' err err' status =
    (status ≡ reason_status reason) × (ws ≡ []) × (out' ≡ out) × Appended (error_line (reason_text reason)) err err'

-- where nothing fails, and memory suffices, the call does the whole of what the words are answered
abbrev pub IsComplete : List (List ℕ) → History → History → SinkState → SinkState → SinkState → SinkState → Status → Type 0
IsComplete words old new out out' err err' status =
    NothingFails old new out out' err err'
    → (status ≡ statuses.NoMemory) ⊎ Answered words (looks_since old new) (λ answer. IsWhole answer (writes_since old new) out out' err err' status)
