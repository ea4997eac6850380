-- What a command has seen of files that it looks at one after another.
use Rattle.std.specs.Prelude.{◌≡◌, ℕ, List, [], ◌∷◌, Option, Some, IfSome, Result, Ok, Err}
use Rattle.std.specs.FinMap.{get}
use Rattle.muen_outside.specs.Looks.{HaveNoLookAt, AreSingle, ShowAll}
use Rattle.muen_outside.specs.States.{History, Look, look, looked}
use Rattle.muen_outside.specs.Store.{Store, Reading, reading_of}
use Rattle.muen_outside.specs.declared.files.FileError.{FileError}
use Rattle.muen_outside.specs.declared.files.FileError.TheVariants.{NoMemory as FileMemory}

-- so it is over every store that agrees with these looks
abbrev pub OverLooks : List Look → (Store → Type 0) → Type 0
OverLooks looks P = (m : Store) → ShowAll m looks → P m

-- these looks were made, each at a name of its own, and nothing was written; files that tell show them
pub record Saw (held : Option Store) (old new : History) (looks : List Look) : Type 0 where
  pub history : new ≡ looked old looks
  pub single : AreSingle looks
  pub told : IfSome held (λ m. ShowAll m looks)

-- what a read after these looks has come to: they show what stands under its name, and that stands for it, with the limit of
-- this read, or memory was refused for a copy; or it was looked at
pub data SawAfter (looks : List Look) (name : List ℕ) (most : ℕ) (got : Result Reading FileError) (held : Option Store) (old new : History) : Type 0 where
  known : (content : List ℕ) → OverLooks looks (λ m. get m name ≡ Some content) → got ≡ Ok (reading_of (Some content) most) → new ≡ old → SawAfter looks name most got held old new
  not_copied : got ≡ Err FileMemory → new ≡ old → SawAfter looks name most got held old new
  unknown : HaveNoLookAt looks name → Saw held old new (look name most got ∷ []) → SawAfter looks name most got held old new
