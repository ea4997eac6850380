-- What a call does: it looks at the files of its plan, and does what is answered to what they have.
use Rattle.std.specs.Prelude.{◌≡◌, ◌⊎◌, ℕ, List, [], ◌∷◌, Option, Some, None, Result, Ok, Err}
use Rattle.muen_outside.specs.ErrorTexts.{file_error_text, sink_fault_text}
use Rattle.muen_outside.specs.Looks.{IsPossibleEnd}
use Rattle.muen_outside.specs.Puts.{Appended, Failed}
use Rattle.muen_outside.specs.States.{History, SinkState, look, looked, write, written}
use Rattle.muen_outside.specs.Store.{Reading, whole, absent, long}
use Rattle.muen_outside.specs.declared.files.FileError.{FileError}
use Rattle.muen_outside.specs.declared.files.FileError.TheVariants.{Failed as FilesFailed, NoMemory as FilesMemory}
use Rattle.command_shell.specs.Answers.{Answer, Plan, prints, writes, refuses, answers, looks_at, takes_memory}
use Rattle.command_shell.specs.Texts.{Told, missing_text, too_long_text}
use Rattle.command_shell.specs.declared.status.Status.{Status}
use Rattle.command_shell.specs.declared.status.Status.TheVariants as statuses

-- ---- ends

-- what a call finds and leaves: its files' history, the output, the errors; and its status
pub record Ends (O : Type 0) : Type 0 where
  pub before : History
  pub after : History
  pub out : SinkState
  pub out' : SinkState
  pub err : SinkState
  pub err' : SinkState
  pub status : Status O

abbrev pub ends : {O : Type 0} → History → History → SinkState → SinkState → SinkState → SinkState → Status O → Ends O
ends before after out out' err err' status =
    record { before = before; after = after; out = out; out' = out'; err = err; err' = err'; status = status }

-- nothing is put on the output, and there is one line of the program of this name that tells why
pub record Stops {O : Type 0} (program : List ℕ) (e : Ends O) (status : Status O) (text : List ℕ) : Type 0 where
  pub ended : e.status ≡ status
  pub quiet : e.out' ≡ e.out
  pub told : Told program text e.err e.err'

-- the text is put, and no line
pub record PutsAll {O : Type 0} (e : Ends O) (text : List ℕ) : Type 0 where
  pub ended : e.status ≡ statuses.Done
  pub put : Appended text e.out e.out'
  pub quiet : e.err' ≡ e.err

-- a front of the text is put, and the sink has failed
pub record PutsFront {O : Type 0} (program : List ℕ) (e : Ends O) (text : List ℕ) : Type 0 where
  pub ended : e.status ≡ statuses.OutputFault
  pub put : Failed text e.out e.out'
  pub told : Told program sink_fault_text e.err e.err'

-- a write that ended so
abbrev pub WriteEnds : {O : Type 0} → List ℕ → Ends O → Result (Unit {0}) FileError → Type 0
WriteEnds program e (Ok u) = (e.status ≡ statuses.Done) × (e.out' ≡ e.out) × (e.err' ≡ e.err)
WriteEnds program e (Err FilesFailed) = Stops program e statuses.FileFault (file_error_text FilesFailed)
WriteEnds program e (Err FilesMemory) = Stops program e statuses.NoMemory (file_error_text FilesMemory)

-- ---- answers

-- what is answered is done, after these calls on files
abbrev pub Does : {O : Type 0} → List ℕ → Ends O → History → Answer O → Type 0
Does program e seen (prints text) = (e.after ≡ seen) × (PutsAll e text ⊎ PutsFront program e text)
Does program e seen (writes name bytes) =
    (end : Result (Unit {0}) FileError) × (e.after ≡ written seen (write name bytes end ∷ [])) × WriteEnds program e end
Does program e seen (refuses status text) = (e.after ≡ seen) × Stops program e status text

-- memory was refused, and nothing is done after these calls on files
abbrev pub LacksMemory : {O : Type 0} → List ℕ → Ends O → History → Type 0
LacksMemory program e seen = (e.after ≡ seen) × Stops program e statuses.NoMemory (file_error_text FilesMemory)

-- what is answered is done, or memory was refused
abbrev pub DoesOrNot : {O : Type 0} → List ℕ → Ends O → History → Answer O → Type 0
DoesOrNot program e seen answer = Does program e seen answer ⊎ LacksMemory program e seen

-- what comes of what a look at the file of this name gave: what follows from its bytes, or a line that says why there are none
abbrev pub Comes : {O : Type 0} → List ℕ → Ends O → List ℕ → (List ℕ → Type 0) → History → Result Reading FileError → Type 0
Comes program e name next seen (Ok (whole bytes)) = next bytes
Comes program e name next seen (Ok absent) = (e.after ≡ seen) × Stops program e statuses.FileMissing (missing_text name)
Comes program e name next seen (Ok (long n)) = (e.after ≡ seen) × Stops program e statuses.FileMissing (too_long_text name n)
Comes program e name next seen (Err FilesFailed) = (e.after ≡ seen) × Stops program e statuses.FileFault (file_error_text FilesFailed)
Comes program e name next seen (Err FilesMemory) = (e.after ≡ seen) × Stops program e statuses.NoMemory (file_error_text FilesMemory)

-- a file is looked at, with an answer that the limit allows, and this comes of it
abbrev pub LooksAt : {O : Type 0} → List ℕ → Ends O → List ℕ → ℕ → (History → List ℕ → Type 0) → History → Type 0
LooksAt program e name most next before =
    (got : Result Reading FileError) × IsPossibleEnd most got
    × Comes program e name (next (looked before (look name most got ∷ []))) (looked before (look name most got ∷ [])) got

-- the files of a plan are looked at, in turn, and what they answer is done
abbrev pub Runs : {O : Type 0} → List ℕ → Ends O → Plan O → History → Type 0
Runs program e (answers answer) before = DoesOrNot program e before answer
Runs program e (looks_at name most next) before = LooksAt program e name most (λ seen bytes. Runs program e (next bytes) seen) before
Runs program e (takes_memory plan) before = Runs program e plan before ⊎ LacksMemory program e before

-- ---- calls

-- the call of a program of this name, whose forms are told so, where its words ask for a command of this plan, or have no command's form
abbrev pub IsCallOf : {O : Type 0} → List ℕ → List ℕ → Option (Plan O) → Ends O → Type 0
IsCallOf program usage None e = (e.after ≡ e.before) × Stops program e statuses.Usage usage
IsCallOf program usage (Some plan) e = Runs program e plan e.before
