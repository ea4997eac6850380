-- What a read with a limit takes of a file, and what a write leaves in one.
use Rattle.std.specs.Prelude.{◌≡◌, ◌≢◌, ℕ, ◌+◌, ◌≤◌, List, length, take, Option, Some, None, IfSome, Result, Ok, Err, IfOk, ⊤, if◌then◌else◌, nat_lt}
use Rattle.std.specs.Io.KnownBytes.{Appends}
use Rattle.std.specs.FinMap.{get}
use Rattle.std.specs.IoError.{error_kind}
use Rattle.std.specs.declared.io.Error.{Error}
use Rattle.std.specs.declared.io.ErrorKind.TheVariants.{NotFound}
use Rattle.muen_outside.specs.declared.files.Found.{Found}
use Rattle.muen_outside.specs.declared.files.Found.TheVariants.{Missing}
use Rattle.muen_outside.specs.declared.files.FileError.{FileError}
use Rattle.muen_outside.specs.declared.files.FileError.TheVariants.{Failed}
use Rattle.muen_outside.specs.Devices.{NoneFailed}
use Rattle.muen_outside.specs.Found.{seen}
use Rattle.muen_outside.specs.Store.{Store, Reading, whole, absent, long}

-- the number that is told of a file that is longer than the limit: its size, where one is known and above the limit; else the limit and one
abbrev pub told_length : Option ℕ → ℕ → ℕ
told_length None most = most + 1
told_length (Some size) most = if nat_lt most size then size else most + 1

-- a file that is too long is told with this number
abbrev pub IsLengthTold : Option ℕ → ℕ → Reading → Type 0
IsLengthTold size most (whole bytes) = ⊤
IsLengthTold size most absent = ⊤
IsLengthTold size most (long n) = n ≡ told_length size most

-- what is seen of the bytes where no more than one above the limit is taken
abbrev pub capped : List ℕ → Option ℕ → ℕ → Reading
capped bytes size most = if nat_lt most (length bytes) then long (told_length size most) else whole bytes

-- no more than n of the known bytes were taken
abbrev pub TakesAtMost : ℕ → Option (List ℕ) → Option (List ℕ) → Type 0
TakesAtMost n None new = ⊤
TakesAtMost n (Some xs) None = ⊥
TakesAtMost n (Some xs) (Some ys) = length xs ≤ length ys + n

-- no file was found, or the system failed
abbrev pub IsUnopened : Error → Result Found FileError → Type 0
IsUnopened e result = (error_kind e ≡ NotFound → result ≡ Ok Missing) × (error_kind e ≢ NotFound → result ≡ Err Failed)

-- the file was asked for its size, and all that it gives was read, or more than the limit of it
pub record ReadsFile {X : Type 0} (sizes : X → Option ℕ → Type 0) (remaining : X → Option (List ℕ)) (file : X) (most : ℕ) (result : Result Found FileError) : Type 0 where
  pub size : Option ℕ
  pub sizes_it : sizes file size
  pub opened : result ≢ Ok Missing
  pub number : IfOk result (λ found. IsLengthTold size most (seen found))
  pub told : IfOk result (λ found. IfSome (remaining file) (λ all. seen found ≡ capped all size most))

-- the file was read so, if it was opened
abbrev pub IsReadOf : {X : Type 0} → (X → Option ℕ → Type 0) → (X → Option (List ℕ)) → Result X Error → ℕ → Result Found FileError → Type 0
IsReadOf sizes remaining (Ok file) most result = ReadsFile sizes remaining file most result
IsReadOf sizes remaining (Err e) most result = IsUnopened e result

-- what a write leaves in a file: all the bytes were appended, handed on, and no call has failed; or a front of them was appended
abbrev pub Fills : {X : Type 0} → (X → Option (List ℕ)) → (X → Option ℕ) → (X → Type 0) → X → X → List ℕ → Result (Unit {0}) FileError → Type 0
Fills contents failed IsFlushed old new bytes (Ok u) =
    Appends (contents old) (contents new) bytes × NoneFailed (failed old) (failed new) × IsFlushed new
Fills contents failed IsFlushed old new bytes (Err e) =
    (e ≡ Failed) × ((n : ℕ) × (n ≤ length bytes) × Appends (contents old) (contents new) (take n bytes))

-- the file was written so, if it was made
abbrev pub IsWriteTo : {X : Type 0} → (X → Option (List ℕ)) → (X → Option ℕ) → (X → Type 0) → Result X Error → Result X Error → List ℕ → Result (Unit {0}) FileError → Type 0
IsWriteTo contents failed IsFlushed (Ok old) (Ok new) bytes result = Fills contents failed IsFlushed old new bytes result
IsWriteTo contents failed IsFlushed (Ok old) (Err e) bytes result = ⊥
IsWriteTo contents failed IsFlushed (Err e) new bytes result = result ≡ Err Failed

-- this file was opened, and read so
pub record Reads {D X : Type 0} (opens : D → List ℕ → Result X Error → Type 0) (sizes : X → Option ℕ → Type 0) (remaining : X → Option (List ℕ)) (disk : D) (name : List ℕ) (most : ℕ) (result : Result Found FileError) : Type 0 where
  pub opened : Result X Error
  pub opens_it : opens disk name opened
  pub read : IsReadOf sizes remaining opened most result

-- the file gives these bytes, and its size is their number
pub record GivesWhole {X : Type 0} (sizes : X → Option ℕ → Type 0) (remaining : X → Option (List ℕ)) (file : X) (bytes : List ℕ) : Type 0 where
  pub bytes_are : remaining file ≡ Some bytes
  pub size_is : (size : Option ℕ) → sizes file size → size ≡ Some (length bytes)

-- the disk has these files: what it opens gives the bytes that stand under the name, and where it finds nothing none stand
pub record Holds {D X : Type 0} (opens : D → List ℕ → Result X Error → Type 0) (sizes : X → Option ℕ → Type 0) (remaining : X → Option (List ℕ)) (disk : D) (m : Store) : Type 0 where
  pub found : (name : List ℕ) (file : X) → opens disk name (Ok file) → (bytes : List ℕ) × (get m name ≡ Some bytes) × GivesWhole sizes remaining file bytes
  pub missing : (name : List ℕ) (e : Error) → opens disk name (Err e) → error_kind e ≡ NotFound → get m name ≡ None

-- this file was made, and written so
pub record Writes {D X : Type 0} (makes : D → List ℕ → Result X Error → Type 0) (contents : X → Option (List ℕ)) (failed : X → Option ℕ) (IsFlushed : X → Type 0) (disk : D) (name bytes : List ℕ) (result : Result (Unit {0}) FileError) : Type 0 where
  pub made : Result X Error
  pub left : Result X Error
  pub makes_it : makes disk name made
  pub wrote : IsWriteTo contents failed IsFlushed made left bytes result
