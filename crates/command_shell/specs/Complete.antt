-- What a call does in which no call on files or on a sink fails.
use Rattle.std.specs.Prelude.{◌≡◌, ◌≢◌, ◌⊎◌, ℕ, List, [], ◌∷◌, Option, Some, None, Ok, Err}
use Rattle.std.specs.FinMap.{get}
use Rattle.std.specs.List.{All}
use Rattle.muen_outside.specs.Looks.{ShowAll, looks_since, writes_since}
use Rattle.muen_outside.specs.Puts.{Appended}
use Rattle.muen_outside.specs.States.{write}
use Rattle.muen_outside.specs.Store.{Reading, Store, absent, long, reading_of, whole}
use Rattle.muen_outside.specs.declared.files.FileError.TheVariants.{Failed}
use Rattle.command_shell.specs.Answers.{Answer, Plan, prints, writes, refuses, answers, looks_at, takes_memory}
use Rattle.command_shell.specs.Calls.{Ends}
use Rattle.command_shell.specs.Texts.{error_line, missing_text, too_long_text}
use Rattle.command_shell.specs.declared.status.Status.{Status}
use Rattle.command_shell.specs.declared.status.Status.TheVariants as statuses

-- none has failed: no look, no write, no put
pub record NothingFails {O : Type 0} (e : Ends O) : Type 0 where
  pub looks : All (λ l. l.got ≢ Err Failed) (looks_since e.before e.after)
  pub writes : All (λ w. w.end ≢ Err Failed) (writes_since e.before e.after)
  pub puts : e.out'.faults ≡ e.out.faults
  pub lines : e.err'.faults ≡ e.err.faults

-- nothing is written, and nothing put but the whole of one line that tells why
pub record IsRefused {O : Type 0} (program : List ℕ) (e : Ends O) (status : Status O) (text : List ℕ) : Type 0 where
  pub ended : e.status ≡ status
  pub unwritten : writes_since e.before e.after ≡ []
  pub quiet : e.out' ≡ e.out
  pub told : Appended (error_line program text) e.err e.err'

-- nothing is written, and nothing put but the whole of the text
pub record IsPrinted {O : Type 0} (e : Ends O) (text : List ℕ) : Type 0 where
  pub ended : e.status ≡ statuses.Done
  pub unwritten : writes_since e.before e.after ≡ []
  pub put : Appended text e.out e.out'
  pub quiet : e.err' ≡ e.err

-- these bytes are written under this name, and nothing else, and nothing is put
pub record IsWritten {O : Type 0} (e : Ends O) (name bytes : List ℕ) : Type 0 where
  pub ended : e.status ≡ statuses.Done
  pub wrote : writes_since e.before e.after ≡ write name bytes (Ok tt) ∷ []
  pub quiet : e.out' ≡ e.out
  pub silent : e.err' ≡ e.err

-- the whole of an answer is done
abbrev pub IsWhole : {O : Type 0} → List ℕ → Ends O → Answer O → Type 0
IsWhole program e (prints text) = IsPrinted e text
IsWhole program e (writes name bytes) = IsWritten e name bytes
IsWhole program e (refuses status text) = IsRefused program e status text

-- what comes of what a file of this name is seen to have: what follows from its bytes, or the line that says why there are none
abbrev pub Follows : {O : Type 0} → List ℕ → Ends O → List ℕ → (List ℕ → Type 0) → Reading → Type 0
Follows program e name next (whole bytes) = next bytes
Follows program e name next absent = IsRefused program e statuses.FileMissing (missing_text name)
Follows program e name next (long n) = IsRefused program e statuses.FileMissing (too_long_text name n)

-- the call does the whole of what its plan answers over this store
abbrev pub AnsweredBy : {O : Type 0} → Store → List ℕ → Ends O → Plan O → Type 0
AnsweredBy m program e (answers answer) = IsWhole program e answer
AnsweredBy m program e (looks_at name most next) = Follows program e name (λ bytes. AnsweredBy m program e (next bytes)) (reading_of (get m name) most)
AnsweredBy m program e (takes_memory plan) = AnsweredBy m program e plan

-- .. or tells the forms, where the words have none
abbrev pub Answered : {O : Type 0} → Store → List ℕ → List ℕ → Ends O → Option (Plan O) → Type 0
Answered m program usage e None = IsRefused program e statuses.Usage usage
Answered m program usage e (Some plan) = AnsweredBy m program e plan

-- where nothing fails, and memory suffices, that is so over every store that agrees with the looks
abbrev pub IsComplete : {O : Type 0} → List ℕ → List ℕ → Option (Plan O) → Ends O → Type 0
IsComplete program usage plan e =
    NothingFails e → (e.status ≡ statuses.NoMemory) ⊎ ((m : Store) → ShowAll m (looks_since e.before e.after) → Answered m program usage e plan)
