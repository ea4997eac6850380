-- What has come of a command, from its outcome; and what the status tells of it.
use Rattle.std.proofs.Common.{◌≡◌, inl, inr, ◌⊎◌, List, [], Some, refl, sym, subst}
use Rattle.image_verify.specs.FaultText.{fault_text}
use Rattle.image_verify.specs.declared.fault.Fault.{Fault}
use Rattle.muen_outside.specs.Puts.{Failed}
use Rattle.muen_outside.specs.States.{Look, SinkState, Write}
use Rattle.muen_outside.specs.Store.{Store}
use Rattle.policy_lawful.specs.refusal.Refusal.{Refusal}
use Rattle.muen_top.specs.Answers.{Reason, usage, missing, too_long, refused, image_refused, dma_refused, record_refused, Answer, judges, prints, stops, writes}
use Rattle.muen_top.specs.Calls.{IsDone, IsFault, IsStopped, Prints, StopsFor, OutcomeSays, FaultOfFiles, WantOfMemory}
use Rattle.muen_top.specs.FilesSeen.{OverLooks}
use Rattle.muen_top.specs.Refusals.{FindsFault, LacksFile, RefusesDma, RefusesImage, RefusesPolicy, RefusesRecord}
use Rattle.muen_top.specs.Reports.{Ends, reason_status, reason_text, refusal_status, status_of, error_status, error_text, Told, Reported}
use Rattle.muen_top.specs.Verdicts.{Finds}
use Rattle.muen_top.specs.declared.outcome.CommandError.{CommandError}
use Rattle.muen_top.specs.declared.outcome.CommandError.TheVariants.{Usage, Missing, TooLong, Refused, ImageRefused, DmaRefused, RecordRefused, NotSound, FileFault, NoMemory}
use Rattle.muen_top.specs.declared.outcome.Outcome.{Outcome}
use Rattle.muen_top.specs.declared.outcome.Outcome.TheVariants.{Done, Stopped, OutputFault}
use Rattle.muen_top.specs.declared.status.Status.{Status}
use Rattle.muen_top.specs.declared.status.Status.TheVariants as statuses
use Rattle.muen_top.proofs.Statuses.{OfReason, is_of_reason, is_of_refusal}

-- ---- of the statuses, those of refusals

module _ (err err' : SinkState) where
  -- what the status of a refusal tells of the answer
  abbrev pub Refuses : Status → Answer → Type 0
  Refuses statuses.Usage answer = answer ≡ stops usage
  Refuses statuses.PolicyRefused answer = RefusesPolicy err err' answer
  Refuses statuses.FileMissing answer = LacksFile err err' answer
  Refuses statuses.ImageRefused answer = RefusesImage err err' answer
  Refuses statuses.DmaRefused answer = RefusesDma err err' answer
  Refuses statuses.RecordRefused answer = RefusesRecord err err' answer
  Refuses statuses.NotSound answer = FindsFault err err' answer
  Refuses _ answer = Unit {0}

  -- that of a refused policy is its refusal's
  by_refusal : (refusal : Refusal) (status : Status) → refusal_status refusal ≡ status → Told (reason_text (refused refusal)) err err' → Refuses status (stops (refused refusal))
  by_refusal refusal statuses.PolicyRefused is told = (is, told)
  by_refusal refusal statuses.FileMissing is told = (is, told)
  by_refusal refusal statuses.NoMemory is told = tt
  by_refusal refusal status is told = absurd (is_of_refusal refusal status is)

  -- the status of a reason tells of the answer that it is this reason
  by_reason : (reason : Reason) → Told (reason_text reason) err err' → Refuses (reason_status reason) (stops reason)
  by_reason usage told = refl
  by_reason (missing name) told = told
  by_reason (too_long name n) told = told
  by_reason (refused refusal) told = by_refusal refusal (refusal_status refusal) refl told
  by_reason (image_refused fault) told = told
  by_reason (dma_refused fault) told = told
  by_reason (record_refused fault) told = told

  -- so does the status with which a call ends that is answered so
  pub ends_tell : (answer : Answer) (status : Status) → Ends answer err err' status → Refuses status answer
  ends_tell (prints text) status ends = subst (λ s. Refuses s (prints text)) (sym ends.0) tt
  ends_tell (writes image tables p files) status ends = subst (λ s. Refuses s (writes image tables p files)) (sym ends.0) tt
  ends_tell (judges p files bytes i) status (inl ends) = subst (λ s. Refuses s (judges p files bytes i)) (sym ends.1) tt
  ends_tell (judges p files bytes i) status (inr ends) = subst (λ s. Refuses s (judges p files bytes i)) (sym ends.2) (ends.0, ends.1, ends.3)
  ends_tell (stops reason) status ends = subst (λ s. Refuses s (stops reason)) (sym ends.0) (by_reason reason ends.1)

-- ---- what came of a command whose answer over a store is this

module _ (answer : Store → Answer) (looks : List Look) (ws : List Write) (out out' err err' : SinkState) where
  -- it was stopped for a reason, which was told
  pub record HasStopped (status : Status) : Type 0 where
    pub reason : Reason
    pub status_is : status ≡ reason_status reason
    pub answers : OverLooks looks (λ m. answer m ≡ stops reason)
    pub unwritten : ws ≡ []
    pub quiet : out' ≡ out
    pub told : Told (reason_text reason) err err'

  -- the verdict has a fault, which was told
  pub record HasCondemned : Type 0 where
    pub fault : Fault
    pub finds : OverLooks looks (λ m. Finds (answer m) (Some fault))
    pub unwritten : ws ≡ []
    pub quiet : out' ≡ out
    pub told : Told (fault_text fault) err err'

  -- its answer was given, or a call failed, or memory was refused
  pub data Comes (status : Status) : Type 0 where
    done : status ≡ statuses.Done → OverLooks looks (λ m. IsDone (answer m) ws out out') → err' ≡ err → Comes status
    cut_off : status ≡ statuses.OutputFault → OverLooks looks (λ m. Prints (answer m) (λ text. Failed text out out')) → ws ≡ [] → Comes status
    stopped : HasStopped status → Comes status
    condemned : status ≡ statuses.NotSound → HasCondemned → Comes status
    failed : status ≡ statuses.FileFault → FaultOfFiles answer looks ws → out' ≡ out → Comes status
    no_memory : status ≡ statuses.NoMemory → WantOfMemory answer looks ws → out' ≡ out → Comes status

  -- ---- from the outcome

  -- a command that is stopped for a reason
  for_reason : (status : Status) (reason : Reason) → status ≡ reason_status reason → IsStopped answer looks ws reason → out' ≡ out → Told (reason_text reason) err err' → Comes status
  for_reason status reason is says quiet told =
      stopped (record { reason = reason; status_is = is; answers = says.0; unwritten = says.1; quiet = quiet; told = told })

  -- .. by an error
  of_error : (status : Status) (error : CommandError) → status ≡ error_status error → StopsFor answer looks ws error → out' ≡ out → Told (error_text error) err err' → Comes status
  of_error status Usage is says quiet told = for_reason status usage is says quiet told
  of_error status (Missing name) is says quiet told = for_reason status (missing name.now) is says quiet told
  of_error status (TooLong name n) is says quiet told = for_reason status (too_long name.now n) is says quiet told
  of_error status (Refused refusal) is says quiet told = for_reason status (refused refusal) is says quiet told
  of_error status (ImageRefused fault) is says quiet told = for_reason status (image_refused fault) is says quiet told
  of_error status (DmaRefused fault) is says quiet told = for_reason status (dma_refused fault) is says quiet told
  of_error status (RecordRefused fault) is says quiet told = for_reason status (record_refused fault) is says quiet told
  of_error status (NotSound fault) is says quiet told =
      condemned is (record { fault = fault; finds = says.0; unwritten = says.1; quiet = quiet; told = told })
  of_error status FileFault is says quiet told = failed is says quiet
  of_error status NoMemory is says quiet told = no_memory is says quiet

  -- what an outcome says is what came
  pub of_outcome : (status : Status) (outcome : Outcome) → status ≡ status_of outcome → OutcomeSays answer looks ws out out' outcome → Reported err err' outcome → Comes status
  of_outcome status Done is says told = done is says told
  of_outcome status OutputFault is says told = cut_off is says.0 says.1
  of_outcome status (Stopped error) is says told = of_error status error is says.0 says.1 told

  -- ---- by the status

  -- what a status tells of what came
  abbrev pub Tells : Status → Type 0
  Tells statuses.Done = OverLooks looks (λ m. IsDone (answer m) ws out out') × (err' ≡ err)
  Tells statuses.OutputFault = OverLooks looks (λ m. Prints (answer m) (λ text. Failed text out out'))
  Tells statuses.NotSound = HasCondemned
  Tells statuses.FileFault = FaultOfFiles answer looks ws
  Tells statuses.NoMemory = WantOfMemory answer looks ws
  Tells status = HasStopped status

  -- a command that is stopped has the status of a reason: where that is want of memory, nothing was written
  stop_tells : (status : Status) → OfReason status → HasStopped status → Tells status
  stop_tells statuses.Done of_reason stop = absurd of_reason
  stop_tells statuses.OutputFault of_reason stop = absurd of_reason
  stop_tells statuses.NotSound of_reason stop = absurd of_reason
  stop_tells statuses.FileFault of_reason stop = absurd of_reason
  stop_tells statuses.NoMemory of_reason stop = inl stop.unwritten
  stop_tells status of_reason stop = stop

  -- the status tells what came
  pub tells : (status : Status) → Comes status → Tells status
  tells status (done is did quiet) = subst Tells (sym is) (did, quiet)
  tells status (cut_off is put none) = subst Tells (sym is) put
  tells status (stopped stop) = stop_tells status (is_of_reason stop.reason status stop.status_is) stop
  tells status (condemned is found) = subst Tells (sym is) found
  tells status (failed is fault quiet) = subst Tells (sym is) fault
  tells status (no_memory is want quiet) = subst Tells (sym is) want

  -- that of a refusal tells it of the answer over every store that agrees with the looks
  pub refuses : (status : Status) → HasStopped status → OverLooks looks (λ m. Refuses err err' status (answer m))
  refuses status stop m shows =
      subst (Refuses err err' status) (sym (stop.answers m shows))
      (subst (λ s. Refuses err err' s (stops stop.reason)) (sym stop.status_is) (by_reason err err' stop.reason stop.told))

  -- but for a fault it was done, or stopped for a reason, or has condemned an image
  pub unless_fault : (Such : Type 0) (status : Status) → Comes status
      → (status ≡ statuses.Done → OverLooks looks (λ m. IsDone (answer m) ws out out') → err' ≡ err → Such)
      → (HasStopped status → Such) → (status ≡ statuses.NotSound → HasCondemned → Such) → IsFault status ⊎ Such
  unless_fault Such status (done is did quiet) if_done if_stopped if_condemned = inr (if_done is did quiet)
  unless_fault Such status (cut_off is put none) if_done if_stopped if_condemned = inl (inr (inl is))
  unless_fault Such status (stopped stop) if_done if_stopped if_condemned = inr (if_stopped stop)
  unless_fault Such status (condemned is found) if_done if_stopped if_condemned = inr (if_condemned is found)
  unless_fault Such status (failed is fault quiet) if_done if_stopped if_condemned = inl (inl is)
  unless_fault Such status (no_memory is want quiet) if_done if_stopped if_condemned = inl (inr (inr is))
