-- Which files each command looks at, in which order and with which limits.
use Rattle.std.specs.Prelude.{◌≡◌, ◌⊎◌, ℕ, List, [], ◌∷◌, ◌++◌, Option, Some, None, Result, Ok, Err}
use Rattle.std.specs.FinMap.{get}
use Rattle.image_pack.specs.Faults.{unpacked}
use Rattle.dma_tables.specs.declared.file.DmaFile.{DmaFile}
use Rattle.image_pack.specs.Image.{image as image_form}
use Rattle.image_pack.specs.declared.parts.Image.{Image}
use Rattle.muen_build.specs.Accepting.{AreAsked, AreAskedFor}
use Rattle.muen_build.specs.Looks.{document_look}
use Rattle.muen_build.specs.Refusals.{accepted_policy_of}
use Rattle.muen_num.specs.declared.limits.TheConstants.{IMAGE_MOST, POLICY_MOST, RECORD_MOST}
use Rattle.muen_outside.specs.States.{Look, look}
use Rattle.muen_outside.specs.Store.{Reading, whole, absent, long}
use Rattle.muen_outside.specs.declared.files.FileError.{FileError}
use Rattle.policy_lawful.specs.source.Source.{Source}
use Rattle.muen_top.specs.Commands.{Command, build, boot, run, map, flows, verify, load}
use Rattle.muen_top.specs.FilesSeen.{OverLooks}
use Rattle.muen_top.specs.Tables.{HoldsTables}
use Rattle.muen_top.specs.declared.limits.TheConstants.{DMA_MOST}

-- at most one look, at this name with this limit
abbrev pub IsAtMost : List ℕ → ℕ → List Look → Type 0
IsAtMost name most looks = (looks ≡ []) ⊎ ((got : Result Reading FileError) × (looks ≡ look name most got ∷ []))

-- after a look that gave bytes come such looks, after another none
abbrev pub GoesOn : (List ℕ → List Look → Type 0) → Result Reading FileError → List Look → Type 0
GoesOn After (Ok (whole bytes)) more = After bytes more
GoesOn After (Ok absent) more = more ≡ []
GoesOn After (Ok (long n)) more = more ≡ []
GoesOn After (Err end) more = more ≡ []

-- first a look at this name with this limit, and such looks after its bytes
pub record AsksFirst (name : List ℕ) (most : ℕ) (After : List ℕ → List Look → Type 0) (looks : List Look) : Type 0 where
  pub got : Result Reading FileError
  pub more : List Look
  pub is : looks ≡ look name most got ∷ more
  pub goes_on : GoesOn After got more

-- for tables: at most one look, at the file of this name, if the words name one
abbrev pub AsksTables : Option (List ℕ) → List Look → Type 0
AsksTables None looks = looks ≡ []
AsksTables (Some dma) looks = IsAtMost dma DMA_MOST looks

-- every store that agrees with these looks holds some tables under this name, if the words name one
abbrev pub TellTables : Option (List ℕ) → List Look → Type 0
TellTables None looks = Unit {0}
TellTables (Some dma) looks = (tables : DmaFile) × OverLooks looks (λ m. HoldsTables m dma tables)

-- after the look at an image: for tables, and then the record, where the tables' file is one
pub record AsksRest (inputs : List ℕ) (dma : Option (List ℕ)) (first : Look) (more : List Look) : Type 0 where
  pub middle : List Look
  pub last : List Look
  pub is : more ≡ middle ++ last
  pub tables : AsksTables dma middle
  pub inputs_last : (last ≡ []) ⊎ (TellTables dma (first ∷ middle) × IsAtMost inputs RECORD_MOST last)

-- after the bytes of an image: the rest, where they are an image
abbrev pub AsksRecord : List ℕ → List ℕ → Option (List ℕ) → List ℕ → List Look → Type 0
AsksRecord image inputs dma bytes more =
    (more ≡ []) ⊎ ((i : Image) × (unpacked image_form bytes ≡ Ok i) × AsksRest inputs dma (look image IMAGE_MOST (Ok (whole bytes))) more)

-- after the document of a policy that stands under this name: component files that its contents name, each the next one
abbrev pub AsksContents : List ℕ → List ℕ → List Look → Type 0
AsksContents policy document more = AreAskedFor policy document more

-- .. and then the record, where the policy is accepted
abbrev pub AsksInputs : List ℕ → List ℕ → List ℕ → List Look → List Look → Type 0
AsksInputs policy inputs document components last =
    (last ≡ []) ⊎ ((p : Source) × OverLooks (document_look policy document ∷ components) (λ m. accepted_policy_of m document ≡ Ok p) × IsAtMost inputs RECORD_MOST last)

pub record AsksBoth (policy inputs document : List ℕ) (more : List Look) : Type 0 where
  pub components : List Look
  pub last : List Look
  pub is : more ≡ components ++ last
  pub contents : AsksContents policy document components
  pub inputs_last : AsksInputs policy inputs document components last

-- after both, over which the document stands under its name: component files
abbrev pub AsksAfterBoth : List ℕ → List ℕ → List ℕ → List Look → List Look → Type 0
AsksAfterBoth image policy bytes middle last =
    (document : List ℕ) × OverLooks (look image IMAGE_MOST (Ok (whole bytes)) ∷ middle) (λ m. get m policy ≡ Some document)
    × AreAsked ((policy, document) ∷ (image, bytes) ∷ []) document last

-- after the look that gave an image's bytes: for a policy's document, and then component files that its contents name, each the next
-- one, where these looks give it
pub record AsksVerified (image policy bytes : List ℕ) (more : List Look) : Type 0 where
  pub middle : List Look
  pub last : List Look
  pub is : more ≡ middle ++ last
  pub document_first : IsAtMost policy POLICY_MOST middle
  pub contents_last : (last ≡ []) ⊎ AsksAfterBoth image policy bytes middle last

-- after the bytes of an image: those, where they are an image
abbrev pub AsksPolicy : List ℕ → List ℕ → List ℕ → List Look → Type 0
AsksPolicy image policy bytes more =
    (more ≡ []) ⊎ ((i : Image) × (unpacked image_form bytes ≡ Ok i) × AsksVerified image policy bytes more)

-- the looks of a command; those of words with no command's form are none
abbrev pub Asks : Option Command → List Look → Type 0
Asks None looks = looks ≡ []
Asks (Some (build policy image tables)) looks = AsksFirst policy POLICY_MOST (AsksContents policy) looks
Asks (Some (boot policy inputs)) looks = AsksFirst policy POLICY_MOST (AsksBoth policy inputs) looks
Asks (Some (run image inputs dma)) looks = AsksFirst image IMAGE_MOST (AsksRecord image inputs dma) looks
Asks (Some (map policy)) looks = AsksFirst policy POLICY_MOST (λ document more. more ≡ []) looks
Asks (Some (flows policy)) looks = AsksFirst policy POLICY_MOST (λ document more. more ≡ []) looks
Asks (Some (verify image policy)) looks = AsksFirst image IMAGE_MOST (AsksPolicy image policy) looks
Asks (Some (load number)) looks = looks ≡ []
