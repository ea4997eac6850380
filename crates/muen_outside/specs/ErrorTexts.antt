-- The texts of the errors.
use Rattle.std.specs.Prelude.{ℕ, List, codes}
use Rattle.muen_outside.specs.declared.files.FileError.{FileError}
use Rattle.muen_outside.specs.declared.files.FileError.TheVariants.{Failed, NoMemory}

abbrev pub file_error_text : FileError → List ℕ
file_error_text Failed = codes "file fault"
file_error_text NoMemory = codes "out of memory"

abbrev pub sink_fault_text : List ℕ
sink_fault_text = codes "output fault"
