-- The commands of the program (this project's own).
use Rattle.std.specs.Prelude.{ℕ, List, [], ◌∷◌, Option, Some, None, option_and_then, codes}
use Rattle.command_shell.specs.Forms.{Row, command_in, row}
use Rattle.dma_top.specs.declared.command.Kind.{Kind}
use Rattle.dma_top.specs.declared.command.Kind.TheVariants.{Verify, Lines, Map, Flows}

pub data Command : Type 0 where
  -- an image, a policy and a file of tables, by their names: whether the image is sound for the policy, and the tables fit both
  verify : List ℕ → List ℕ → List ℕ → Command
  -- an image, a device record and a file of tables, by their names: what each line of direct memory access of the record did
  lines : List ℕ → List ℕ → List ℕ → Command
  -- a policy, by its file's name: where its devices reach memory by themselves
  windows : List ℕ → Command
  -- .. on whom each subject can depend, through devices too
  flows : List ℕ → Command

-- ---- the forms

abbrev pub forms : List (Row Kind)
forms =
    row (codes "verify") (codes "IMAGE" ∷ codes "POLICY" ∷ codes "DMA" ∷ []) Verify
    ∷ row (codes "lines") (codes "IMAGE" ∷ codes "RECORD" ∷ codes "DMA" ∷ []) Lines
    ∷ row (codes "map") (codes "POLICY" ∷ []) Map
    ∷ row (codes "flows") (codes "POLICY" ∷ []) Flows
    ∷ []

-- ---- the command of each form

abbrev pub verify_of : List (List ℕ) → Option Command
verify_of (image ∷ policy ∷ tables ∷ []) = Some (verify image policy tables)
verify_of _ = None

abbrev pub lines_of : List (List ℕ) → Option Command
lines_of (image ∷ inputs ∷ tables ∷ []) = Some (lines image inputs tables)
lines_of _ = None

abbrev pub windows_of : List (List ℕ) → Option Command
windows_of (policy ∷ []) = Some (windows policy)
windows_of _ = None

abbrev pub flows_of : List (List ℕ) → Option Command
flows_of (policy ∷ []) = Some (flows policy)
flows_of _ = None

abbrev pub command_at : Kind → List (List ℕ) → Option Command
command_at Verify arguments = verify_of arguments
command_at Lines arguments = lines_of arguments
command_at Map arguments = windows_of arguments
command_at Flows arguments = flows_of arguments

-- the command that the words after the program's name ask for; none where they have no command's form
abbrev pub command_of : List (List ℕ) → Option Command
command_of words = option_and_then (λ found. command_at found.0 found.1) (command_in forms words)
