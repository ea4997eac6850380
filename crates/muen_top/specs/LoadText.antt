-- What `load` prints of a number (this project's own).
use Rattle.std.specs.Prelude.{ℕ, List, ◌++◌, length, codes, decimal}
use Rattle.hex.specs.Hex.{encode_lower}
use Rattle.sha2.specs.Sha256.{sha256}
use Rattle.generated_system.specs.Record.{generated_record}
use Rattle.generated_system.specs.System.{generated_system}
use Rattle.policy_lawful.specs.Contents.{no_files}
use Rattle.subject_model.specs.Trace.{trace_of}

-- four lines: how many subjects and ticks a run has, and the length and the digest of its text
abbrev pub summary : ℕ → ℕ → List ℕ → List ℕ
summary subjects ticks text =
    codes "subjects " ++ (decimal subjects
    ++ (codes "\nticks " ++ (decimal ticks
    ++ (codes "\ntrace " ++ (decimal (length text)
    ++ (codes "\nsha256 " ++ (encode_lower (sha256 text) ++ codes "\n")))))))

-- .. of the system that is generated of the number, on the record that is; no file is read for it
unfoldable pub load_text : ℕ → List ℕ
load_text n =
    summary (length (generated_system n).subjects) (generated_record n).end (trace_of (generated_system n) no_files (generated_record n))
