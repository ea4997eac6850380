-- What a command comes to, before it is told.
use Rattle.std.specs.Prelude.{◌≡◌, ℕ, List, Option, Some, None, IfSome, Result, Ok, Err}
use Rattle.muen_outside.specs.Looks.{HeldAfter, ShowAll}
use Rattle.muen_outside.specs.Puts.{Appended, Failed}
use Rattle.muen_outside.specs.States.{History, Look, SinkState, Write, looked, went}
use Rattle.muen_outside.specs.Store.{Store}
use Rattle.command_shell.specs.Answers.{Plan}
use Rattle.command_shell.specs.Calls.{Ends, Runs, Stops}
use Rattle.command_shell.specs.Errors.{Reported, Telling, error_status, error_text, status_of}
use Rattle.command_shell.specs.declared.error.CommandError.{CommandError}
use Rattle.command_shell.specs.declared.error.CommandError.TheVariants.{Usage, OutputFault, NoMemory}

-- these looks were made, and behind them the plan goes on as the second one
pub record Reaches {O : Type 0} (program : List ℕ) (plan rest : Plan O) (held : Option Store) (old new : History) : Type 0 where
  pub looks : List Look
  pub history : new ≡ looked old looks
  pub told : IfSome held (λ m. ShowAll m looks)
  pub goes : (e : Ends O) → Runs program e rest new → Runs program e plan old

-- these looks were made, and the plan ends with them, for this error
pub record StopsAt {R O : Type 0} (t : Telling R O) (plan : Plan O) (held : Option Store) (old new : History) (error : CommandError R) : Type 0 where
  pub looks : List Look
  pub history : new ≡ looked old looks
  pub told : IfSome held (λ m. ShowAll m looks)
  pub comes : (e : Ends O) → e.after ≡ new → Stops t.name e (error_status t.status error) (error_text t error) → Runs t.name e plan old

-- a text is put, or a front of it where the sink has failed; memory may be refused before
abbrev pub PutsTo : {R : Type 0} → List ℕ → SinkState → SinkState → Result (Unit {0}) (CommandError R) → Type 0
PutsTo text old new (Ok u) = Appended text old new
PutsTo text old new (Err OutputFault) = Failed text old new
PutsTo text old new (Err NoMemory) = new ≡ old
PutsTo text old new (Err _) = ⊥

-- what a call finds and leaves whose command ends so
abbrev pub ends_with : {R O : Type 0} → Telling R O → History → History → SinkState → SinkState → Result (Unit {0}) (CommandError R) → SinkState → SinkState → Ends O
ends_with t old new out out' outcome err err' =
    record { before = old; after = new; out = out; out' = out'; err = err; err' = err'; status = status_of t.status outcome }

-- what a command has done with files and with the output, that it ends so: however the end is reported, it is a call of this plan
pub record ComesTo {R O : Type 0} (t : Telling R O) (plan : Plan O) (held held' : Option Store) (old new : History) (out out' : SinkState) (outcome : Result (Unit {0}) (CommandError R)) : Type 0 where
  pub looks : List Look
  pub writes : List Write
  pub history : new ≡ went old looks writes
  pub told : IfSome held (λ m. ShowAll m looks)
  pub left : HeldAfter writes held held'
  pub comes : (err err' : SinkState) → Reported t err err' outcome → Runs t.name (ends_with t old new out out' outcome err err') plan old

-- .. and of words that ask for no command
pub record IsUsage {R : Type 0} (held held' : Option Store) (old new : History) (out out' : SinkState) (outcome : Result (Unit {0}) (CommandError R)) : Type 0 where
  pub left : held' ≡ held
  pub history : new ≡ old
  pub quiet : out' ≡ out
  pub is : outcome ≡ Err Usage

abbrev pub ComesOf : {R O : Type 0} → Telling R O → Option (Plan O) → Option Store → Option Store → History → History → SinkState → SinkState → Result (Unit {0}) (CommandError R) → Type 0
ComesOf t None held held' old new out out' outcome = IsUsage held held' old new out out' outcome
ComesOf t (Some plan) held held' old new out out' outcome = ComesTo t plan held held' old new out out' outcome
