-- What is told of an error, and the status of the call.
use Rattle.std.specs.Prelude.{◌≡◌, ℕ, List, map, Result, Ok, Err}
use Rattle.muen_outside.specs.ErrorTexts.{file_error_text, sink_fault_text}
use Rattle.muen_outside.specs.States.{SinkState}
use Rattle.muen_outside.specs.declared.files.FileError.{FileError}
use Rattle.muen_outside.specs.declared.files.FileError.TheVariants.{Failed as FilesFailed, NoMemory as FilesMemory}
use Rattle.command_shell.specs.Forms.{form_shown, usage_text}
use Rattle.command_shell.specs.Texts.{Told, missing_text, too_long_text}
use Rattle.command_shell.specs.declared.error.CommandError.{CommandError}
use Rattle.command_shell.specs.declared.error.CommandError.TheVariants.{Usage, Missing, TooLong, FileFault, OutputFault, NoMemory, Own}
use Rattle.command_shell.specs.declared.form.Program.{Program}
use Rattle.command_shell.specs.declared.status.Status.{Status}
use Rattle.command_shell.specs.declared.status.Status.TheVariants as statuses

-- how a program tells why a command isn't done: its name, the text of its forms, and of each reason of its own the text and the status
pub record Telling (R O : Type 0) : Type 0 where
  pub name : List ℕ
  pub usage : List ℕ
  pub text : R → List ℕ
  pub status : R → Status O

abbrev pub telling : {C R O : Type 0} → Program C → (R → List ℕ) → (R → Status O) → Telling R O
telling program text status = record { name = program.name.now; usage = usage_text (map form_shown program.forms.now); text = text; status = status }

abbrev pub error_of_files : {R : Type 0} → FileError → CommandError R
error_of_files FilesFailed = FileFault
error_of_files FilesMemory = NoMemory

abbrev pub error_text : {R O : Type 0} → Telling R O → CommandError R → List ℕ
error_text t Usage = t.usage
error_text t (Missing name) = missing_text name.now
error_text t (TooLong name n) = too_long_text name.now n
error_text t FileFault = file_error_text FilesFailed
error_text t OutputFault = sink_fault_text
error_text t NoMemory = file_error_text FilesMemory
error_text t (Own reason) = t.text reason

abbrev pub error_status : {R O : Type 0} → (R → Status O) → CommandError R → Status O
error_status own Usage = statuses.Usage
error_status own (Missing name) = statuses.FileMissing
error_status own (TooLong name n) = statuses.FileMissing
error_status own FileFault = statuses.FileFault
error_status own OutputFault = statuses.OutputFault
error_status own NoMemory = statuses.NoMemory
error_status own (Own reason) = own reason

abbrev pub status_of : {R O : Type 0} → (R → Status O) → Result (Unit {0}) (CommandError R) → Status O
status_of own (Ok u) = statuses.Done
status_of own (Err error) = error_status own error

-- nothing was told where the command is done; else the line of its error, or a front of it where the sink has failed
abbrev pub Reported : {R O : Type 0} → Telling R O → SinkState → SinkState → Result (Unit {0}) (CommandError R) → Type 0
Reported t old new (Ok u) = new ≡ old
Reported t old new (Err error) = Told t.name (error_text t error) old new
