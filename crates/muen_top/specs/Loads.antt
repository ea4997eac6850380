-- What reading a command's files comes to.
use Rattle.std.specs.Prelude.{◌≡◌, ℕ, List, [], ◌∷◌, ◌++◌, Option, Some, None, Result, Ok, Err, option_map}
use Rattle.std.specs.FinMap.{get}
use Rattle.image_pack.specs.Faults.{Tells, unpacked}
use Rattle.image_pack.specs.fault.ImageFault.{ImageFault}
use Rattle.dma_tables.specs.DmaFile.{dma_file}
use Rattle.dma_tables.specs.Tables.{IsDmaFile}
use Rattle.image_soundness.specs.Sound.{IsSound}
use Rattle.proof_domains.specs.Built.{HasSpans}
use Rattle.image_pack.specs.declared.parts.Image.{Image}
use Rattle.dma_tables.specs.declared.file.DmaFile.{DmaFile}
use Rattle.muen_build.specs.Accepting.{Accepts, AreAskedFor, FailsWith, Files, WithDocument, looks_of}
use Rattle.muen_build.specs.Looks.{Looked, document_look}
use Rattle.muen_build.specs.declared.accepted.BuildError.{BuildError}
use Rattle.muen_num.specs.declared.limits.TheConstants.{RECORD_MOST}
use Rattle.muen_outside.specs.Looks.{HaveNoLookAt}
use Rattle.muen_outside.specs.States.{History, Look, look}
use Rattle.muen_outside.specs.Store.{Store, Reading, whole, absent, long, find_bytes, reading_of}
use Rattle.muen_outside.specs.declared.files.FileError.{FileError}
use Rattle.muen_outside.specs.declared.files.FileError.TheVariants.{Failed as FileFailed, NoMemory as FileMemory}
use Rattle.policy_lawful.specs.source.Source.{Source}
use Rattle.proof_runs.specs.Fit.{Fit}
use Rattle.muen_top.specs.Answers.{answer_of, input_answer}
use Rattle.muen_top.specs.Asked.{Asks, IsAtMost}
use Rattle.muen_top.specs.Commands.{Command, boot, run}
use Rattle.muen_top.specs.FilesSeen.{OverLooks, Saw, SawAfter}
use Rattle.muen_top.specs.Runs.{OnlyMemory}
use Rattle.muen_top.specs.CommandErrors.{error_of_build, error_of_dma_fault}
use Rattle.muen_top.specs.declared.limits.TheConstants.{DMA_MOST}
use Rattle.muen_top.specs.declared.boot.BeforeRecord.{BeforeRecord as BeforeBoot}
use Rattle.muen_top.specs.declared.boot.Made.{Made}
use Rattle.muen_top.specs.declared.run.TablesRead.{TablesRead}
use Rattle.muen_top.specs.declared.outcome.CommandError.{CommandError}
use Rattle.muen_top.specs.declared.outcome.CommandError.TheVariants.{Missing, TooLong, FileFault, NoMemory}
use Rattle.muen_top.specs.declared.run.BeforeRecord.{BeforeRecord}

-- ---- one file

-- the error of a read of this name that gives no bytes, by what it has come to
abbrev pub GivesNone : List ℕ → (Result Reading FileError → Type 0) → CommandError → Type 0
GivesNone name CameTo (Missing n) = (n.now ≡ name) × CameTo (Ok absent)
GivesNone name CameTo (TooLong n k) = (n.now ≡ name) × CameTo (Ok (long k))
GivesNone name CameTo FileFault = CameTo (Err FileFailed)
GivesNone name CameTo NoMemory = CameTo (Err FileMemory)
GivesNone name CameTo _ = ⊥

-- why one read of this name with this limit gives no bytes
abbrev pub NotRead : List ℕ → ℕ → Option Store → History → History → CommandError → Type 0
NotRead name most held old new error = GivesNone name (λ got. Saw held old new (look name most got ∷ [])) error

-- .. one after these looks
abbrev pub NotReadAfter : List Look → List ℕ → ℕ → Option Store → History → History → CommandError → Type 0
NotReadAfter looks name most held old new error = GivesNone name (λ got. SawAfter looks name most got held old new) error

-- why bytes that were read are none for another limit: they are too many
abbrev pub NotWithin : List ℕ → List ℕ → ℕ → CommandError → Type 0
NotWithin name bytes most (TooLong n k) = (n.now ≡ name) × (long k ≡ reading_of (Some bytes) most)
NotWithin name bytes most _ = ⊥

-- ---- what was read under a name before

-- the looks show that these bytes stand under it; or none of them is at it
abbrev pub IsKnown : List Look → List ℕ → Option (List ℕ) → Type 0
IsKnown looks name (Some bytes) = OverLooks looks (λ m. get m name ≡ Some bytes)
IsKnown looks name None = HaveNoLookAt looks name

-- the looks show what these files hold, and none is at another
abbrev pub AreKnown : List Look → Files → Type 0
AreKnown looks found = (name : List ℕ) → IsKnown looks name (find_bytes name found)

-- .. of one file
abbrev pub KnowsAlone : List Look → List ℕ → List ℕ → Type 0
KnowsAlone looks name bytes = AreKnown looks ((name, bytes) ∷ [])

-- so it is after whatever looks have read these bytes alone
abbrev pub IsAfterBytes : List ℕ → List ℕ → (List Look → Type 0) → Type 0
IsAfterBytes name bytes Such = (looks : List Look) → KnowsAlone looks name bytes → Such looks

-- these bytes were read under it, after the looks
abbrev pub ReadAfter : List Look → List ℕ → ℕ → Option Store → History → History → List ℕ → Type 0
ReadAfter looks name most held old new bytes = SawAfter looks name most (Ok (whole bytes)) held old new

-- ---- tables, after these looks

-- the error that bytes give which are of no tables
abbrev pub TellsDmaFault : List ℕ → CommandError → Type 0
TellsDmaFault bytes error = (fault : ImageFault) × Tells (unpacked dma_file bytes) (Err fault) × (error ≡ error_of_dma_fault fault)

-- the bytes of the file of this name were read, and they are of these tables
abbrev pub HasOptionalDmaTables : List Look → Option (List ℕ) → Option Store → History → History → Option TablesRead → Type 0
HasOptionalDmaTables looks None held old new None = new ≡ old
HasOptionalDmaTables looks (Some dma) held old new (Some t) = SawAfter looks dma DMA_MOST (Ok (whole t.bytes)) held old new × IsDmaFile t.bytes t.tables
HasOptionalDmaTables looks _ held old new _ = ⊥

-- .. those of a name that there is
abbrev pub AreTables : List Look → List ℕ → Option Store → History → History → TablesRead → Type 0
AreTables looks dma held old new t = HasOptionalDmaTables looks (Some dma) held old new (Some t)

-- why there are none: the file isn't read, or it is none of tables
pub data NotTables (looks : List Look) (dma : List ℕ) (held : Option Store) (old new : History) (error : CommandError) : Type 0 where
  unread : NotReadAfter looks dma DMA_MOST held old new error → NotTables looks dma held old new error
  faulty : (bytes : List ℕ) (fault : ImageFault) → SawAfter looks dma DMA_MOST (Ok (whole bytes)) held old new → Tells (unpacked dma_file bytes) (Err fault)
      → error ≡ error_of_dma_fault fault → NotTables looks dma held old new error

-- .. of a name, if there is one
abbrev pub LacksTables : List Look → Option (List ℕ) → Option Store → History → History → CommandError → Type 0
LacksTables looks None held old new error = ⊥
LacksTables looks (Some dma) held old new error = NotTables looks dma held old new error

-- what was read for a `run` before the record: the image, and a file of tables, if there is one
abbrev pub read_before : List ℕ → List ℕ → Option (List ℕ) → Option TablesRead → Files
read_before image bytes (Some dma) (Some t) = (dma, t.bytes) ∷ (image, bytes) ∷ []
read_before image bytes _ _ = (image, bytes) ∷ []

-- ---- all but the record

-- a command with a record has looked at all other files, and found these: over every store that agrees with the looks it answers
-- what comes of this image, with these tables or none, on the record of whatever name it is given
pub record IsReady (command : List ℕ → Command) (held : Option Store) (old new : History) (found : Files) (i : Image) (tables : Option DmaFile) : Type 0 where
  pub looks : List Look
  pub saw : Saw held old new looks
  pub known : AreKnown looks found
  pub asked : (name : List ℕ) (more : List Look) → IsAtMost name RECORD_MOST more → Asks (Some (command name)) (looks ++ more)
  pub answers : (name : List ℕ) → OverLooks looks (λ m. answer_of m (Some (command name)) ≡ input_answer m name i tables)

-- .. `run` has, of this image and of these tables or none
abbrev pub IsReadyToRun : List ℕ → Option (List ℕ) → Option Store → History → History → BeforeRecord → Type 0
IsReadyToRun image dma held old new x =
    IsReady (λ inputs. run image inputs dma) held old new (read_before image x.bytes dma x.tables) x.parts (option_map (λ t. t.tables) x.tables)

-- .. `boot` has, of the image of a policy and of its tables
abbrev pub IsReadyToBoot : List ℕ → Option Store → History → History → BeforeBoot → Type 0
IsReadyToBoot policy held old new x = IsReady (boot policy) held old new ((policy, x.document) ∷ x.made.files) x.made.parts (Some x.made.tables)

-- ---- the image of an accepted policy, read again

-- what reading the bytes of an image of these parts comes to
abbrev pub IsImageReadBack : Image → Result Image CommandError → Type 0
IsImageReadBack i (Ok j) = i ≡ j
IsImageReadBack i (Err error) = OnlyMemory error

-- these are the parts of an image that is sound for this policy, whose spans it has, over whatever files agree with the looks at the
-- document of this name and at these component files
abbrev pub ArePartsFor : List ℕ → List ℕ → Files → Source → Image → Type 0
ArePartsFor name document found p i = WithDocument name document (looks_of found) (λ files. IsSound p files i × HasSpans p i)

-- where there are such files, only memory was wanting
abbrev pub OnlyMemoryWith : List ℕ → List ℕ → Files → CommandError → Type 0
OnlyMemoryWith name document found error = WithDocument name document (looks_of found) (λ files. OnlyMemory error)

-- ---- what a policy's document gives, after the look at it

-- the looks that read a document and these component files
abbrev pub policy_looks : List ℕ → List ℕ → Files → List Look
policy_looks policy document found = document_look policy document ∷ looks_of found

-- the files that its contents name, the parts of its image, which are sound over whatever files agree with the looks, and tables
-- that fit it
pub record IsMadeFromLooks (policy document : List ℕ) (held : Option Store) (old new : History) (found : Files) (i : Image) (tables : DmaFile) : Type 0 where
  pub source : Source
  pub looked : Looked policy held old new (looks_of found)
  pub asked : AreAskedFor policy document (looks_of found)
  pub accepts : Accepts policy (looks_of found) document source
  pub back : WithDocument policy document (looks_of found) (λ files. IsSound source files i × Fit source i (Some tables))

-- .. that was made
abbrev pub HasMade : List ℕ → List ℕ → Option Store → History → History → Made → Type 0
HasMade policy document held old new m = IsMadeFromLooks policy document held old new m.files m.parts m.tables

-- why it gives none: the policy isn't accepted, or memory was refused for the image or the tables
pub data NotMade (policy document : List ℕ) (held : Option Store) (old new : History) (error : CommandError) : Type 0 where
  refused : (build_error : BuildError) → FailsWith policy document held old new build_error → error ≡ error_of_build build_error → NotMade policy document held old new error
  unmade : (found : Files) → Looked policy held old new (looks_of found) → AreAskedFor policy document (looks_of found) → OnlyMemoryWith policy document found error → NotMade policy document held old new error

-- an image that is sound for this policy over some files, with tables that fit it
pub record IsMadeOf (p : Source) (m : Made) : Type 0 where
  pub files : Store
  pub sound : IsSound p files m.parts
  pub fit : Fit p m.parts (Some m.tables)
