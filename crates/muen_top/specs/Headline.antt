-- The headline, and what it speaks of: what a store holds, and how a call ends that prints a text.
use Rattle.std.specs.Prelude.{◌≡◌, ◌⊎◌, ℕ, List, [], ◌∷◌, Option, Some, None, Ok}
use Rattle.std.specs.FinMap.{get, insert}
use Rattle.dma_tables.specs.declared.file.DmaFile.{DmaFile}
use Rattle.image_soundness.specs.Bench.{devices_of}
use Rattle.image_soundness.specs.Sound.{IsSound}
use Rattle.image_pack.specs.Parts.{IsImage}
use Rattle.image_pack.specs.declared.parts.Image.{Image}
use Rattle.muen_build.specs.ImageFor.{IsImageFor}
use Rattle.image_verify.specs.FaultText.{fault_text}
use Rattle.image_verify.specs.Verdict.{IsTwice}
use Rattle.image_verify.specs.declared.fault.Fault.{Fault}
use Rattle.muen_build.specs.Refusals.{accepted_policy_of, fitting_policy_of}
use Rattle.muen_num.specs.declared.limits.TheConstants.{IMAGE_MOST, POLICY_MOST, RECORD_MOST}
use Rattle.muen_outside.specs.Looks.{ShowAll}
use Rattle.muen_outside.specs.Puts.{Appended}
use Rattle.muen_outside.specs.States.{Look, SinkState, Write}
use Rattle.muen_outside.specs.Store.{Store, reading_of, whole}
use Rattle.policy_lawful.specs.Contents.{Held}
use Rattle.policy_lawful.specs.source.Source.{Source}
use Rattle.proof_runs.specs.Fit.{Fit}
use Rattle.record_text.specs.DeviceRecord.{DeviceRecord}
use Rattle.record_text.specs.Reading.{record_of}
use Rattle.subject_model.specs.Trace.{trace_of}
use Rattle.muen_top.specs.Calls.{IsFault}
use Rattle.muen_top.specs.Commands.{boot, build, run, verify, command_of}
use Rattle.muen_top.specs.Reports.{Told, sound_text}
use Rattle.muen_top.specs.Verdicts.{HasVerdict}
use Rattle.muen_top.specs.Images.{Wrote}
use Rattle.muen_top.specs.Tables.{HoldsTables, HoldsTablesFor}
use Rattle.muen_top.specs.declared.status.Status.{Status}
use Rattle.muen_top.specs.declared.status.Status.TheVariants as statuses

-- under this name the store holds a policy's document, which is accepted over it as this policy
pub record HoldsPolicy (m : Store) (name : List ℕ) (p : Source) : Type 0 where
  pub document : List ℕ
  pub read : reading_of (get m name) POLICY_MOST ≡ whole document
  pub accepted : accepted_policy_of m document ≡ Ok p

-- .. a policy's document, which keeps every rule and whose contents fit over it, whether there is room for its regions or not
pub record HoldsFitting (m : Store) (name : List ℕ) (p : Source) : Type 0 where
  pub document : List ℕ
  pub read : reading_of (get m name) POLICY_MOST ≡ whole document
  pub fits : fitting_policy_of m document ≡ Ok p

-- .. an image that is sound for this policy over files that hold this
pub record HoldsSound (m : Store) (name : List ℕ) (p : Source) (files : Held) : Type 0 where
  pub bytes : List ℕ
  pub parts : Image
  pub read : reading_of (get m name) IMAGE_MOST ≡ whole bytes
  pub image : IsImage bytes parts
  pub sound : IsSound p files parts

-- .. an image that `build` has written for this policy over files that hold this
pub record HoldsBuilt (m : Store) (name : List ℕ) (p : Source) (files : Held) : Type 0 where
  pub bytes : List ℕ
  pub read : reading_of (get m name) IMAGE_MOST ≡ whole bytes
  pub built : IsImageFor p files bytes

-- .. a record of the devices of this policy, which says this
pub record HoldsRecord (m : Store) (name : List ℕ) (p : Source) (r : DeviceRecord) : Type 0 where
  pub text : List ℕ
  pub read : reading_of (get m name) RECORD_MOST ≡ whole text
  pub says : record_of text (devices_of p) ≡ Ok r

-- what a `run` is handed in: no tables, or those that the store holds under this name
abbrev pub HandsIn : Store → Option (List ℕ) → Option DmaFile → Type 0
HandsIn m None tables = tables ≡ None
HandsIn m (Some name) tables = (t : DmaFile) × HoldsTables m name t × (tables ≡ Some t)

-- .. what `build` has written for this policy: tables of its domains under this name; or none are handed in, and none of its
-- domains lets a device write
abbrev pub HandsInBuilt : Store → Source → Image → Option (List ℕ) → Type 0
HandsInBuilt m p i None = Fit p i None
HandsInBuilt m p i (Some name) = HoldsTablesFor m name p

-- .. if tables are wanted
abbrev pub HoldsWanted : Store → Source → Option (List ℕ) → Type 0
HoldsWanted m p None = Unit {0}
HoldsWanted m p (Some name) = HoldsTablesFor m name p

-- a store after these writes, which have ended well
abbrev pub after_writes : Store → List Write → Store
after_writes m [] = m
after_writes m (w ∷ ws) = after_writes (insert m w.name w.bytes) ws

-- the store holds a policy under the one name, and with the bytes of these writes it holds, under the other name, an image that
-- `build` has written for the policy and, where tables are wanted, those of the policy's domains under the third
pub record WritesBuilt (m : Store) (policy image : List ℕ) (dma : Option (List ℕ)) (ws : List Write) : Type 0 where
  pub p : Source
  pub accepted : HoldsPolicy m policy p
  pub written : Wrote image dma p m (Ok tt) ws
  pub built : HoldsBuilt (after_writes m ws) image p m
  pub tables : HoldsWanted (after_writes m ws) p dma

-- now a store holds what `build` has written for the policy that stood under the first name
pub record HoldsWritten (m : Store) (policy image : List ℕ) (dma : Option (List ℕ)) (now : Option Store) : Type 0 where
  pub p : Source
  pub new : Store
  pub is : now ≡ Some new
  pub accepted : HoldsPolicy m policy p
  pub written : HoldsBuilt new image p m
  pub tables : HoldsWanted new p dma

-- the store holds a policy under the one name, and an image that is sound for it and the store's files under the other: so a `run`
-- of the image prints the text of the policy's system
pub record TellsSound (m : Store) (image policy : List ℕ) : Type 0 where
  pub p : Source
  pub fits : HoldsFitting m policy p
  pub sound : HoldsSound m image p m

-- .. and an image that has this fault: so it isn't sound, unless a table is read on two paths
pub record TellsFault (m : Store) (image policy : List ℕ) (fault : Fault) : Type 0 where
  pub p : Source
  pub bytes : List ℕ
  pub parts : Image
  pub fits : HoldsFitting m policy p
  pub read : reading_of (get m image) IMAGE_MOST ≡ whole bytes
  pub verdict : HasVerdict p m bytes parts (Some fault)
  pub unsound : IsSound p m parts → IsTwice fault

-- a text is put, and the status is 0, but for a fault of files or of the output, or want of memory
abbrev pub PrintsText : List ℕ → SinkState → SinkState → Status → Type 0
PrintsText text out out' status = IsFault status ⊎ ((status ≡ statuses.Done) × Appended text out out')

-- ---- the headline, over stores of which something is so

-- `boot`, where the store holds a policy that is accepted and a record of its devices: the text of the policy's system is put
abbrev pub BootPrintsOver : List (List ℕ) → (Store → Type 0) → SinkState → SinkState → Status → Type 0
BootPrintsOver words Is out out' status =
    (m : Store) (policy inputs : List ℕ) (p : Source) (r : DeviceRecord) → Is m → command_of words ≡ Some (boot policy inputs)
    → HoldsPolicy m policy p → HoldsRecord m inputs p r → PrintsText (trace_of p m r) out out' status

-- `run`, where it holds an image that is sound for a policy over these or other files, and the tables that are handed in fit it;
-- or none are, and no domain of devices lets one write
abbrev pub RunOfSoundPrintsOver : List (List ℕ) → (Store → Type 0) → SinkState → SinkState → Status → Type 0
RunOfSoundPrintsOver words Is out out' status =
    (m : Store) (image inputs : List ℕ) (dma : Option (List ℕ)) (tables : Option DmaFile) (p : Source) (built_of : Held) (r : DeviceRecord) → Is m
    → command_of words ≡ Some (run image inputs dma) → (held : HoldsSound m image p built_of) → HandsIn m dma tables → Fit p held.parts tables
    → HoldsRecord m inputs p r → PrintsText (trace_of p built_of r) out out' status

-- .. and where it holds the image that `build` has written for it, and the tables, if any are handed in
abbrev pub RunOfBuiltPrintsOver : List (List ℕ) → (Store → Type 0) → SinkState → SinkState → Status → Type 0
RunOfBuiltPrintsOver words Is out out' status =
    (m : Store) (image inputs : List ℕ) (dma : Option (List ℕ)) (p : Source) (built_of : Held) (r : DeviceRecord) → Is m
    → command_of words ≡ Some (run image inputs dma) → (held : HoldsBuilt m image p built_of) → HandsInBuilt m p held.built.parts dma
    → HoldsRecord m inputs p r → PrintsText (trace_of p built_of r) out out' status

-- ---- over every store that agrees with the call's looks

abbrev pub BootPrintsSystem : List (List ℕ) → List Look → SinkState → SinkState → Status → Type 0
BootPrintsSystem words looks out out' status = BootPrintsOver words (λ m. ShowAll m looks) out out' status

abbrev pub RunOfSoundPrintsSystem : List (List ℕ) → List Look → SinkState → SinkState → Status → Type 0
RunOfSoundPrintsSystem words looks out out' status = RunOfSoundPrintsOver words (λ m. ShowAll m looks) out out' status

abbrev pub RunOfBuiltPrintsSystem : List (List ℕ) → List Look → SinkState → SinkState → Status → Type 0
RunOfBuiltPrintsSystem words looks out out' status = RunOfBuiltPrintsOver words (λ m. ShowAll m looks) out out' status

-- such an image `build` writes, and such tables where they are wanted, where the status is 0
abbrev pub BuildWritesImage : List (List ℕ) → List Look → List Write → Status → Type 0
BuildWritesImage words looks ws status =
    (m : Store) (policy image : List ℕ) (dma : Option (List ℕ)) → ShowAll m looks → command_of words ≡ Some (build policy image dma) → status ≡ statuses.Done
    → WritesBuilt m policy image dma ws

-- `verify`, where the status is 0
abbrev pub VerifyTellsSound : List (List ℕ) → List Look → Status → Type 0
VerifyTellsSound words looks status =
    (m : Store) (image policy : List ℕ) → ShowAll m looks → command_of words ≡ Some (verify image policy) → status ≡ statuses.Done → TellsSound m image policy

-- .. where it is 9, with the line of the fault
abbrev pub VerifyTellsFault : List (List ℕ) → List Look → SinkState → SinkState → Status → Type 0
VerifyTellsFault words looks err err' status =
    (m : Store) (image policy : List ℕ) → ShowAll m looks → command_of words ≡ Some (verify image policy) → status ≡ statuses.NotSound
    → (fault : Fault) × TellsFault m image policy fault × Told (fault_text fault) err err'

-- .. where the store holds the image that `build` has written for the policy, and files that hold the same
abbrev pub VerifyAcceptsBuilt : List (List ℕ) → List Look → SinkState → SinkState → Status → Type 0
VerifyAcceptsBuilt words looks out out' status =
    (m : Store) (image policy : List ℕ) (p : Source) → ShowAll m looks → command_of words ≡ Some (verify image policy) → HoldsPolicy m policy p → HoldsBuilt m image p m
    → PrintsText sound_text out out' status

-- ---- over what files tell that they hold

abbrev pub BootPrintsHeld : List (List ℕ) → Option Store → SinkState → SinkState → Status → Type 0
BootPrintsHeld words held out out' status = BootPrintsOver words (λ m. held ≡ Some m) out out' status

abbrev pub RunOfSoundPrintsHeld : List (List ℕ) → Option Store → SinkState → SinkState → Status → Type 0
RunOfSoundPrintsHeld words held out out' status = RunOfSoundPrintsOver words (λ m. held ≡ Some m) out out' status

abbrev pub RunOfBuiltPrintsHeld : List (List ℕ) → Option Store → SinkState → SinkState → Status → Type 0
RunOfBuiltPrintsHeld words held out out' status = RunOfBuiltPrintsOver words (λ m. held ≡ Some m) out out' status

-- such an image `build` leaves, and such tables where they are wanted, where the status is 0: `run` of it, with the tables, in
-- files that hold this, prints the text of the policy's system
abbrev pub BuildLeavesImage : List (List ℕ) → Option Store → Option Store → Status → Type 0
BuildLeavesImage words held now status =
    (m : Store) (policy image : List ℕ) (dma : Option (List ℕ)) → held ≡ Some m → command_of words ≡ Some (build policy image dma) → status ≡ statuses.Done
    → HoldsWritten m policy image dma now
