-- What a command answers, and by which files.
use Rattle.std.specs.Prelude.{ℕ, List}
use Rattle.command_shell.specs.declared.status.Status.{Status}

-- an answer, where a program has these statuses of its own
pub data Answer (O : Type 0) : Type 0 where
  -- this text is printed
  prints : List ℕ → Answer O
  -- these bytes are written under this name
  writes : List ℕ → List ℕ → Answer O
  -- what was asked for is refused: with this status and this text
  refuses : Status O → List ℕ → Answer O

-- an answer that comes of files, looked at one after another: by the name of each, its limit, and what follows from its bytes
pub data Plan (O : Type 0) : Type 0 where
  answers : Answer O → Plan O
  looks_at : List ℕ → ℕ → (List ℕ → Plan O) → Plan O
  -- memory is asked for, and then this follows
  takes_memory : Plan O → Plan O
