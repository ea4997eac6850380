-- What reading the files of a command has come to.
use Rattle.std.specs.Prelude.{◌≡◌, ◌≢◌, ℕ, List, Option, Ok}
use Rattle.command_shell.specs.Answers.{Plan, answers, prints}
use Rattle.command_shell.specs.Outcomes.{Reaches, StopsAt}
use Rattle.command_shell.specs.declared.error.CommandError.{CommandError}
use Rattle.command_shell.specs.declared.error.CommandError.TheVariants.{NoMemory, Own}
use Rattle.dma_map.specs.DmaMapText.{dma_map_text_of}
use Rattle.muen_outside.specs.States.{History}
use Rattle.muen_outside.specs.Store.{Store}
use Rattle.policy_lawful.specs.source.Source.{Source}
use Rattle.region_alloc.specs.Placement.{placement_of}
use Rattle.dma_top.specs.Answers.{windows_plan}
use Rattle.dma_top.specs.Refusals.{devices}
use Rattle.dma_top.specs.declared.refusal.Refusal.{Refusal}
use Rattle.dma_top.specs.declared.status.DmaStatus.{DmaStatus}

-- ---- a file

-- a file was read, and what it means was found: whatever follows from that comes next
abbrev pub Finds : {A : Type 0} → ((A → Plan DmaStatus) → Plan DmaStatus) → Option Store → History → History → A → Type 0
Finds {A} plan held old new a = (next : A → Plan DmaStatus) → Reaches devices.name (plan next) (next a) held old new

-- .. or that ends for this error: the file isn't read, it is refused, or memory is
abbrev pub FindsNone : {A : Type 0} → ((A → Plan DmaStatus) → Plan DmaStatus) → Option Store → History → History → CommandError Refusal → Type 0
FindsNone {A} plan held old new error = (next : A → Plan DmaStatus) → StopsAt devices (plan next) held old new error

-- the error that tells why bytes are refused, for this reason; or that memory was, which `memory` tells
abbrev pub IsErrorOf : {F : Type 0} → F → (F → Refusal) → F → CommandError Refusal → Type 0
IsErrorOf memory reason fault NoMemory = Unit {0}
IsErrorOf memory reason fault (Own refusal) = (fault ≢ memory) × (refusal ≡ reason fault)
IsErrorOf memory reason fault _ = ⊥

-- ---- the files of a command

-- those of a plan were read, and this text is printed
abbrev pub IsToPrint : Plan DmaStatus → List ℕ → Option Store → History → History → Type 0
IsToPrint plan text held old new = Reaches devices.name plan (answers (prints text)) held old new

-- .. or that ends for this error
abbrev pub EndsFor : Plan DmaStatus → Option Store → History → History → CommandError Refusal → Type 0
EndsFor plan held old new error = StopsAt devices plan held old new error

-- a policy was read, and its regions are placed, so that its devices' windows are printed
pub record IsToMap (policy : List ℕ) (held : Option Store) (old new : History) (p : Source) : Type 0 where
  pub addresses : List ℕ
  pub placement : placement_of p ≡ Ok addresses
  pub printed : IsToPrint (windows_plan policy) (dma_map_text_of p addresses) held old new
