-- How the writes of `build` end.
use Rattle.std.specs.Prelude.{◌≡◌, ℕ, List, [], ◌∷◌, Option, Some, Result, Ok, Err, option_map}
use Rattle.muen_outside.specs.Looks.{WriteLeaves}
use Rattle.muen_outside.specs.States.{History, write, written}
use Rattle.muen_outside.specs.Store.{Store}
use Rattle.muen_outside.specs.declared.files.FileError.{FileError}
use Rattle.muen_outside.specs.declared.files.FileError.TheVariants.{Failed as FileFailed, NoMemory as FileMemory}
use Rattle.muen_top.specs.declared.outcome.Outcome.{Outcome}
use Rattle.muen_top.specs.declared.outcome.Outcome.TheVariants.{Done, Stopped}
use Rattle.muen_top.specs.declared.outcome.CommandError.TheVariants.{FileFault, NoMemory}
use Rattle.muen_top.specs.declared.build.Built.{Built}

-- these bytes were written under this name, and it has ended so
pub record IsWriteOf (name bytes : List ℕ) (end : Result (Unit {0}) FileError) (held held' : Option Store) (old new : History) : Type 0 where
  pub history : new ≡ written old (write name bytes end ∷ [])
  pub left : WriteLeaves name bytes end held held'

-- they were written well, or the write failed, or memory was refused
abbrev pub EndsWrite : List ℕ → List ℕ → Option Store → Option Store → History → History → Outcome → Type 0
EndsWrite name bytes held held' old new Done = IsWriteOf name bytes (Ok tt) held held' old new
EndsWrite name bytes held held' old new (Stopped FileFault) = IsWriteOf name bytes (Err FileFailed) held held' old new
EndsWrite name bytes held held' old new (Stopped NoMemory) = IsWriteOf name bytes (Err FileMemory) held held' old new
EndsWrite name bytes held held' old new _ = ⊥

abbrev pub IsFailed : Outcome → Type 0
IsFailed Done = ⊥
IsFailed _ = Unit {0}

-- these tables were written so under this name; without tables nothing was written, and all is well
abbrev pub EndsTables : Option (List ℕ) → Option (List ℕ) → Option Store → Option Store → History → History → Outcome → Type 0
EndsTables (Some name) (Some bytes) held held' old new outcome = EndsWrite name bytes held held' old new outcome
EndsTables _ _ held held' old new outcome = (outcome ≡ Done) × (new ≡ old) × (held' ≡ held)

-- the image was written, and then the tables; or its write has not ended well, and was the last
pub data EndsWrites (image bytes : List ℕ) (dma tables : Option (List ℕ)) (held held' : Option Store) (old new : History) (outcome : Outcome) : Type 0 where
  image_well : (held'' : Option Store) (mid : History) → IsWriteOf image bytes (Ok tt) held held'' old mid → EndsTables dma tables held'' held' mid new outcome → EndsWrites image bytes dma tables held held' old new outcome
  image_not_well : IsFailed outcome → EndsWrite image bytes held held' old new outcome → EndsWrites image bytes dma tables held held' old new outcome

-- .. of what was built
abbrev pub EndsBuilt : List ℕ → Option (List ℕ) → Built → Option Store → Option Store → History → History → Outcome → Type 0
EndsBuilt image dma built held held' old new outcome =
    EndsWrites image built.image.items dma (option_map (λ v. v.items) built.tables) held held' old new outcome
