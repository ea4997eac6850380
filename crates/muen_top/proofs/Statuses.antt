-- Which statuses refusals and reasons have.
use Rattle.std.proofs.Common.{◌≡◌, sym, subst}
use Rattle.policy_lawful.specs.refusal.Refusal.{Refusal}
use Rattle.policy_lawful.specs.refusal.Refusal.TheVariants.{NotJson, Shape, Rule, Missing as MissingFile, TooLong as TooLongFile, FileFit, NoRoom, NoMemory as NoMemoryFor}
use Rattle.muen_top.specs.Answers.{Reason, usage, missing, too_long, refused, image_refused, dma_refused, record_refused}
use Rattle.muen_top.specs.Reports.{refusal_status, reason_status}
use Rattle.muen_top.specs.declared.status.Status.{Status}
use Rattle.muen_top.specs.declared.status.Status.TheVariants.{Done, Usage, PolicyRefused, FileMissing, FileFault, ImageRefused, RecordRefused, OutputFault, NoMemory, NotSound, DmaRefused}

-- those of a refusal
abbrev pub OfRefusal : Status → Type 0
OfRefusal PolicyRefused = Unit {0}
OfRefusal FileMissing = Unit {0}
OfRefusal NoMemory = Unit {0}
OfRefusal _ = ⊥

refusal_statuses : (r : Refusal) → OfRefusal (refusal_status r)
refusal_statuses NotJson = tt
refusal_statuses (Shape place want) = tt
refusal_statuses (Rule number first second) = tt
refusal_statuses (MissingFile file) = tt
refusal_statuses (TooLongFile file n) = tt
refusal_statuses (FileFit region room n) = tt
refusal_statuses (NoRoom region size) = tt
refusal_statuses NoMemoryFor = tt

pub is_of_refusal : (r : Refusal) (status : Status) → refusal_status r ≡ status → OfRefusal status
is_of_refusal r status is = subst OfRefusal is (refusal_statuses r)

-- those of a reason: none that tells what is done, of a fault, or of a verdict
abbrev pub OfReason : Status → Type 0
OfReason Done = ⊥
OfReason FileFault = ⊥
OfReason OutputFault = ⊥
OfReason NotSound = ⊥
OfReason _ = Unit {0}

of_refusal : (status : Status) → OfRefusal status → OfReason status
of_refusal PolicyRefused h = tt
of_refusal FileMissing h = tt
of_refusal NoMemory h = tt
of_refusal Done h = h
of_refusal Usage h = tt
of_refusal FileFault h = h
of_refusal ImageRefused h = tt
of_refusal RecordRefused h = tt
of_refusal OutputFault h = h
of_refusal NotSound h = h
of_refusal DmaRefused h = tt

reason_statuses : (reason : Reason) → OfReason (reason_status reason)
reason_statuses usage = tt
reason_statuses (missing name) = tt
reason_statuses (too_long name n) = tt
reason_statuses (refused refusal) = of_refusal (refusal_status refusal) (refusal_statuses refusal)
reason_statuses (image_refused fault) = tt
reason_statuses (dma_refused fault) = tt
reason_statuses (record_refused fault) = tt

pub is_of_reason : (reason : Reason) (status : Status) → status ≡ reason_status reason → OfReason status
is_of_reason reason status is = subst OfReason (sym is) (reason_statuses reason)
