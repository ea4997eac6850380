-- What reading a source, and assembling it, has come to.
use Rattle.std.specs.Prelude.{◌≡◌, ℕ, List, ◌++◌, Option, Ok, Err}
use Rattle.asm_text.specs.Meaning.{assembled}
use Rattle.asm_text.specs.declared.fault.SourceFault.{SourceFault}
use Rattle.command_shell.specs.Answers.{Answer, answers}
use Rattle.command_shell.specs.Outcomes.{Reaches, StopsAt}
use Rattle.command_shell.specs.declared.error.CommandError.{CommandError}
use Rattle.command_shell.specs.declared.error.CommandError.TheVariants.{NoMemory, Own}
use Rattle.muen_outside.specs.States.{History}
use Rattle.muen_outside.specs.Store.{Store}
use Rattle.asm_top.specs.Answers.{line_feeds, source_plan}
use Rattle.asm_top.specs.Refusals.{assembler, fault_text, refusal_text}
use Rattle.asm_top.specs.declared.refusal.Refusal.{Refusal}
use Rattle.asm_top.specs.declared.status.AssemblerStatus.{AssemblerStatus}

-- a text says these bytes
abbrev pub Said : List ℕ → List ℕ → Type 0
Said items bytes = assembled items ≡ Ok bytes

-- a text behind this front is refused, which this text tells
pub record IsRefusedSo (names : Option (List ℕ)) (source front items told : List ℕ) : Type 0 where
  pub fault : SourceFault
  pub is : assembled (front ++ items) ≡ Err fault
  pub tells : told ≡ fault_text names source (line_feeds front) fault

-- why a text behind this front gives no bytes: it is refused, or memory is
abbrev pub NotSaid : Option (List ℕ) → List ℕ → List ℕ → List ℕ → CommandError Refusal → Type 0
NotSaid names source front items (Own refusal) = IsRefusedSo names source front items (refusal_text refusal)
NotSaid names source front items NoMemory = Unit {0}
NotSaid names source front items _ = ⊥

-- the files of a source were read, and it says these bytes: whatever follows from them comes next
abbrev pub Assembles : Option (List ℕ) → List ℕ → Option Store → History → History → List ℕ → Type 0
Assembles names source held old new bytes =
    (next : List ℕ → Answer AssemblerStatus) → Reaches assembler.name (source_plan names source next) (answers (next bytes)) held old new

-- .. or that ends for this error: a file isn't read, the source is refused, or memory is
abbrev pub NotAssembled : Option (List ℕ) → List ℕ → Option Store → History → History → CommandError Refusal → Type 0
NotAssembled names source held old new error =
    (next : List ℕ → Answer AssemblerStatus) → StopsAt assembler (source_plan names source next) held old new error
