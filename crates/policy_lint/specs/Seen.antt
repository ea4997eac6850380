-- Component files that were looked at, each once.
use Rattle.std.specs.Prelude.{◌≡◌, ℕ, List, [], ◌∷◌, ◌++◌, length, map, Option, Some, None, Result, Ok, Err, if◌then◌else◌}
use Rattle.std.specs.FinMap.{get}
use Rattle.std.specs.Str.{bytes_eq}
use Rattle.muen_build.specs.Accepting.{Files, Grows, GrowsByThing, IsAskedBy, LooksAt, WithGiven, part_length, thing_names}
use Rattle.muen_build.specs.Refusals.{too_long_for}
use Rattle.muen_num.specs.declared.limits.TheConstants.{COMPONENT_FILE_MOST}
use Rattle.muen_num.specs.declared.tag.Tag.{Tag}
use Rattle.muen_outside.specs.Found.{seen}
use Rattle.muen_outside.specs.Looks.{EndsInFault}
use Rattle.muen_outside.specs.States.{History, Look, look}
use Rattle.muen_outside.specs.Store.{Reading, Store, absent, long, reading_of, whole}
use Rattle.muen_outside.specs.declared.files.FileError.{FileError}
use Rattle.muen_outside.specs.declared.files.FileError.TheVariants.{Failed, NoMemory as NoMemoryForFile}
use Rattle.muen_outside.specs.declared.files.Found.{Found}
use Rattle.policy_lawful.specs.Resolution.{Resolution}
use Rattle.policy_lawful.specs.declared.thing.Thing.{Thing}
use Rattle.policy_lawful.specs.refusal.Refusal.{Refusal}
use Rattle.policy_lawful.specs.refusal.Refusal.TheVariants.{Missing as MissingFile, TooLong as FileTooLong}
use Rattle.policy_lint.specs.declared.error.LintError.{LintError}
use Rattle.policy_lint.specs.declared.error.LintError.TheVariants.{FileFault, NoMemory}
use Rattle.policy_lint.specs.declared.seen.FileLength.{FileLength}
use Rattle.policy_lint.specs.declared.seen.FileLength.TheVariants.{Bytes, Missing, TooLong}
use Rattle.policy_lint.specs.declared.seen.SeenFile.{SeenFile}

-- ---- lengths

-- how many bytes a reading has
abbrev pub length_read : Reading → FileLength
length_read (whole bytes) = Bytes (length bytes)
length_read absent = Missing
length_read (long n) = TooLong n

-- a file has this length over all files that agree with these looks
abbrev pub HasLength : Files → List Look → List ℕ → FileLength → Type 0
HasLength given looks file n = WithGiven given looks (λ files. length_read (reading_of (get files file) COMPONENT_FILE_MOST) ≡ n)

-- why what a content takes of a file of this length is refused
abbrev pub length_refused : Tag → ℕ → List ℕ → ℕ → Option ℕ → FileLength → Option Refusal
length_refused tag size file offset most (Bytes n) = too_long_for tag size (part_length n offset most)
length_refused tag size file offset most Missing = Some (MissingFile file)
length_refused tag size file offset most (TooLong n) = Some (FileTooLong file n)

-- ---- what was seen

-- what was found under a name
abbrev pub found_among : List ℕ → List SeenFile → Option Found
found_among file [] = None
found_among file (s ∷ ss) = if bytes_eq file s.name then Some s.found else found_among file ss

abbrev pub seen_look : SeenFile → Look
seen_look s = look s.name COMPONENT_FILE_MOST (Ok (seen s.found))

-- the looks that have seen these
abbrev pub seen_looks : List SeenFile → List Look
seen_looks ss = map seen_look ss

-- one more was looked at, which has this length
pub record IsSeen (file : List ℕ) (n : FileLength) (before after : List SeenFile) (held : Option Store) (old new : History) : Type 0 where
  pub found : Found
  pub added : after ≡ before ++ record { name = file; found = found } ∷ []
  pub looks : LooksAt file (Ok (seen found)) held old new
  pub many : n ≡ length_read (seen found)

-- ---- no answer

-- of a look that came to none
abbrev pub error_of_look : FileError → LintError
error_of_look Failed = FileFault
error_of_look NoMemoryForFile = NoMemory

-- the last of these looks has failed; or memory was refused
abbrev pub LookingSays : List Look → LintError → Type 0
LookingSays looks FileFault = EndsInFault looks
LookingSays looks NoMemory = Unit {0}

abbrev pub LookSays : Result Reading FileError → LintError → Type 0
LookSays got FileFault = got ≡ Err Failed
LookSays got NoMemory = Unit {0}

-- one look was made, which failed, or after which memory was refused
pub record LookFails (file : List ℕ) (held : Option Store) (old new : History) (error : LintError) : Type 0 where
  pub got : Result Reading FileError
  pub looks : LooksAt file got held old new
  pub says : LookSays got error

-- looks were made after these, and no answer came of them
pub record StopsLooking (given : Files) (Asked : List Look → Look → Type 0) (held : Option Store) (old new : History) (before : List Look) (error : LintError) : Type 0 where
  pub after : List Look
  pub grows : Grows given Asked held old new before after
  pub says : LookingSays after error

-- ---- of one content

-- looks were made at the file of this name alone, and these are seen now
abbrev pub SeesFile : Files → List ℕ → Option Store → History → History → List SeenFile → List SeenFile → Type 0
SeesFile given file held old new before after = Grows given (IsAskedBy (bytes_eq file)) held old new (seen_looks before) (seen_looks after)

-- .. and no answer came of them
abbrev pub StopsAtFile : Files → List ℕ → Option Store → History → History → List SeenFile → LintError → Type 0
StopsAtFile given file held old new before error = StopsLooking given (IsAskedBy (bytes_eq file)) held old new (seen_looks before) error

-- looks were made at the file of a thing's content alone, and these are seen now
abbrev pub SeesContent : Files → Resolution → Thing → Option Store → History → History → List SeenFile → List SeenFile → Type 0
SeesContent given r t held old new before after = GrowsByThing given r t held old new (seen_looks before) (seen_looks after)

-- .. and no answer came of them
abbrev pub StopsAtContent : Files → Resolution → Thing → Option Store → History → History → List SeenFile → LintError → Type 0
StopsAtContent given r t held old new before error = StopsLooking given (IsAskedBy (thing_names r t)) held old new (seen_looks before) error
