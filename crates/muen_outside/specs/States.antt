-- What was done with files and with a sink, call by call.
use Rattle.std.specs.Prelude.{ℕ, List, [], ◌++◌, Result}
use Rattle.muen_outside.specs.declared.files.FileError.{FileError}
use Rattle.muen_outside.specs.Store.{Reading}

-- a look at a file: its name, the limit, what the call answered
pub record Look : Type 0 where
  pub name : List ℕ
  pub most : ℕ
  pub got : Result Reading FileError

-- a write: the name, the bytes, how the call ended
pub record Write : Type 0 where
  pub name : List ℕ
  pub bytes : List ℕ
  pub end : Result (Unit {0}) FileError

-- all looks and all writes, each in their order
pub record History : Type 0 where
  pub looks : List Look
  pub writes : List Write

abbrev pub no_history : History
no_history = record { looks = []; writes = [] }

abbrev pub look : List ℕ → ℕ → Result Reading FileError → Look
look name most got = record { name = name; most = most; got = got }

abbrev pub write : List ℕ → List ℕ → Result (Unit {0}) FileError → Write
write name bytes end = record { name = name; bytes = bytes; end = end }

-- after these looks
abbrev pub looked : History → List Look → History
looked h looks = record { looks = h.looks ++ looks; writes = h.writes }

-- after these writes
abbrev pub written : History → List Write → History
written h writes = record { looks = h.looks; writes = h.writes ++ writes }

-- after these looks and these writes
abbrev pub went : History → List Look → List Write → History
went h looks writes = record { looks = h.looks ++ looks; writes = h.writes ++ writes }

pub record SinkState : Type 0 where
  -- the bytes that it has handed on
  pub given : List ℕ
  -- how many calls have failed
  pub faults : ℕ

abbrev pub nothing_given : SinkState
nothing_given = record { given = []; faults = 0 }
