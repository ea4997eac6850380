-- What a look at a file, and a write, have come to.
use Rattle.std.specs.Prelude.{◌≡◌, ℕ, List, [], ◌∷◌, Option, IfSome, Result, Ok, Err}
use Rattle.muen_outside.specs.Looks.{IsPossibleEnd, ShowAll, WriteLeaves}
use Rattle.muen_outside.specs.States.{History, look, looked, write, written}
use Rattle.muen_outside.specs.Store.{Reading, Store, absent, long}
use Rattle.muen_outside.specs.declared.files.FileError.{FileError}
use Rattle.muen_outside.specs.declared.files.FileError.TheVariants.{Failed as FilesFailed, NoMemory as FilesMemory}
use Rattle.command_shell.specs.declared.error.CommandError.{CommandError}
use Rattle.command_shell.specs.declared.error.CommandError.TheVariants.{Missing, TooLong, FileFault, NoMemory}

-- one look was made, at this name with this limit, and gave this, which the limit allows; files that tell what they hold show it
pub record Saw (name : List ℕ) (most : ℕ) (got : Result Reading FileError) (held : Option Store) (old new : History) : Type 0 where
  pub history : new ≡ looked old (look name most got ∷ [])
  pub possible : IsPossibleEnd most got
  pub told : IfSome held (λ m. ShowAll m (look name most got ∷ []))

-- why a look gives no bytes
abbrev pub NotRead : {R : Type 0} → List ℕ → ℕ → Option Store → History → History → CommandError R → Type 0
NotRead name most held old new (Missing n) = (n.now ≡ name) × Saw name most (Ok absent) held old new
NotRead name most held old new (TooLong n k) = (n.now ≡ name) × Saw name most (Ok (long k)) held old new
NotRead name most held old new FileFault = Saw name most (Err FilesFailed) held old new
NotRead name most held old new NoMemory = Saw name most (Err FilesMemory) held old new
NotRead name most held old new _ = ⊥

-- these bytes are written under this name, and it has ended so
pub record Wrote (name bytes : List ℕ) (end : Result (Unit {0}) FileError) (held held' : Option Store) (old new : History) : Type 0 where
  pub history : new ≡ written old (write name bytes end ∷ [])
  pub left : WriteLeaves name bytes end held held'

abbrev pub WritesTo : {R : Type 0} → List ℕ → List ℕ → Option Store → Option Store → History → History → Result (Unit {0}) (CommandError R) → Type 0
WritesTo name bytes held held' old new (Ok u) = Wrote name bytes (Ok tt) held held' old new
WritesTo name bytes held held' old new (Err FileFault) = Wrote name bytes (Err FilesFailed) held held' old new
WritesTo name bytes held held' old new (Err NoMemory) = Wrote name bytes (Err FilesMemory) held held' old new
WritesTo name bytes held held' old new (Err _) = ⊥
