-- How a run that prints this text ends.
use Rattle.std.specs.Prelude.{◌≡◌, ℕ, List, Result, Ok, Err}
use Rattle.muen_outside.specs.Puts.{Appended, Failed}
use Rattle.muen_outside.specs.States.{SinkState}
use Rattle.muen_run.specs.declared.RunError.{RunError}
use Rattle.muen_run.specs.declared.RunError.TheVariants.{OutFault, NoMemory}

-- all the text was put; or the sink has failed and took a front of it; or memory was refused, and nothing was put
abbrev pub Runs : List ℕ → SinkState → SinkState → Result (Unit {0}) RunError → Type 0
Runs text old new (Ok u) = Appended text old new
Runs text old new (Err OutFault) = Failed text old new
Runs text old new (Err NoMemory) = new ≡ old
