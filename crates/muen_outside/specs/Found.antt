-- What a read has found.
use Rattle.std.specs.Prelude.{ℕ, ◌<◌, ◌≤◌, length, Result, Ok, Err}
use Rattle.muen_outside.specs.declared.files.Found.{Found}
use Rattle.muen_outside.specs.declared.files.Found.TheVariants.{Bytes, Missing, TooLong}
use Rattle.muen_outside.specs.declared.files.FileError.{FileError}
use Rattle.muen_outside.specs.Store.{Reading, whole, absent, long}

abbrev pub seen : Found → Reading
seen (Bytes bytes) = whole bytes
seen Missing = absent
seen (TooLong n) = long n

-- what a read has answered
abbrev pub answered : Result Found FileError → Result Reading FileError
answered (Ok found) = Ok (seen found)
answered (Err e) = Err e

-- no more bytes than these, and too long only where there are more
abbrev pub IsPossible : ℕ → Reading → Type 0
IsPossible most (whole bytes) = length bytes ≤ most
IsPossible most absent = Unit {0}
IsPossible most (long n) = most < n
