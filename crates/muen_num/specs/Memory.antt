-- Want of memory.
use Rattle.std.specs.Prelude.{ℕ, List, codes}

-- the words for it
abbrev pub no_memory_text : List ℕ
no_memory_text = codes "out of memory"
