-- What accepting a policy has seen of files, and what it comes to.
use Rattle.std.specs.Prelude.{◌≡◌, ◌⊎◌, ℕ, ◌<◌, Bool, true, List, ◌∷◌, [], ◌++◌, ◌-◌, min, length, map, slice_get, Option, Some, None, IfSome, Result, Ok, Err}
use Rattle.std.specs.FinMap.{get, insert}
use Rattle.proof_build.specs.ThingBytes.{thing_bytes}
use Rattle.muen_num.specs.declared.limits.TheConstants.{COMPONENT_FILE_MOST}
use Rattle.muen_outside.specs.Looks.{HaveNoLookAt, AreSingle, EndsInFault, IsPossibleEnd, ShowAll, Shows}
use Rattle.muen_outside.specs.States.{History, Look, look, looked}
use Rattle.muen_outside.specs.Store.{Store, Reading, whole, absent, long, find_bytes, reading_of}
use Rattle.muen_outside.specs.declared.files.FileError.{FileError}
use Rattle.muen_outside.specs.declared.files.FileError.TheVariants.{Failed}
use Rattle.policy_lawful.specs.refusal.Refusal.{Refusal}
use Rattle.policy_lawful.specs.refusal.Refusal.TheVariants.{Missing, TooLong, NoMemory}
use Rattle.policy_lawful.specs.Resolution.{Resolution, source_of}
use Rattle.policy_lawful.specs.Thing.{Item, items_of}
use Rattle.policy_lawful.specs.Things.{content_found, content_told}
use Rattle.policy_lawful.specs.declared.thing.Thing.{Thing}
use Rattle.policy_lawful.specs.source.Content.{Content}
use Rattle.policy_lawful.specs.source.Source.{Source}
use Rattle.region_alloc.specs.Placed.{Placement}
use Rattle.muen_build.specs.Looks.{Looked, file_look, is_of_file}
use Rattle.muen_build.specs.Refusals.{accepted_policy_of, content_refused, contents_refused, item_refused, lawful_policy_of}
use Rattle.muen_build.specs.declared.accepted.BuildError.{BuildError}
use Rattle.muen_build.specs.declared.given.Given.{Given}
use Rattle.muen_build.specs.declared.accepted.BuildError.TheVariants.{FileFault, Refused}

-- what a call that places has kept, as a source policy
abbrev pub placed_source : Result Placement Refusal → Result Source Refusal
placed_source (Ok x) = Ok (source_of x.expanded.lawful)
placed_source (Err refusal) = Err refusal

-- ---- what was read

-- files by their names, with what they hold
abbrev pub Files : Type 0
Files = List (List ℕ × List ℕ)

-- the files that are given
abbrev pub given_files : List Given → Files
given_files given = map (λ g. (g.name.now, g.bytes.now)) given

-- the looks that read these
abbrev pub looks_of : Files → List Look
looks_of found = map file_look found

-- ---- what is given stands for its names

-- files with the bytes that are given put under their names, the first given last
abbrev pub insert_all : Store → Files → Store
insert_all files [] = files
insert_all files (e ∷ es) = insert (insert_all files es) e.0 e.1

-- so it is of all files that agree with these looks, with what is given in them
abbrev pub WithGiven : Files → List Look → (Store → Type 0) → Type 0
WithGiven given looks Such = (files : Store) → ShowAll files looks → Such (insert_all files given)

-- .. with the document under this name
abbrev pub WithDocument : List ℕ → List ℕ → List Look → (Store → Type 0) → Type 0
WithDocument name document looks Such = WithGiven ((name, document) ∷ []) looks Such

-- ---- which looks are made

-- looks after others, each of which is asked for after all that come before it
abbrev pub AreAskedInTurn : (List Look → Look → Type 0) → List Look → List Look → Type 0
AreAskedInTurn Asked before [] = Unit {0}
AreAskedInTurn Asked before (l ∷ more) = Asked before l × AreAskedInTurn Asked (before ++ l ∷ []) more

-- **the next look** after others: at the file of a content of the policy, where the contents of all regions of lower numbers fit over
-- every store that agrees with those looks. So none is made once it is certain why contents are refused
pub record IsNext (given : Files) (p : Source) (before : List Look) (l : Look) : Type 0 where
  pub number : ℕ
  pub item : Item
  pub there : slice_get (items_of p) number ≡ Some item
  pub file : is_of_file l.name item.content ≡ true
  pub most : l.most ≡ COMPONENT_FILE_MOST
  pub fit : (k : ℕ) (i : Item) → k < number → slice_get (items_of p) k ≡ Some i → WithGiven given before (λ files. item_refused files i ≡ None)

-- it is that by the policy of the document
pub record IsAsked (given : Files) (document : List ℕ) (before : List Look) (l : Look) : Type 0 where
  pub policy : Source
  pub lawful : lawful_policy_of document ≡ Ok policy
  pub next : IsNext given policy before l

-- looks at component files, each the next one
abbrev pub AreAsked : Files → List ℕ → List Look → Type 0
AreAsked given document looks = AreAskedInTurn (IsAsked given document) [] looks

-- .. where the document stands under this name
abbrev pub AreAskedFor : List ℕ → List ℕ → List Look → Type 0
AreAskedFor name document looks = AreAsked ((name, document) ∷ []) document looks

-- ---- how a document is accepted

-- the document is accepted as this policy
abbrev pub Accepts : List ℕ → List Look → List ℕ → Source → Type 0
Accepts name looks document p = WithDocument name document looks (λ files. accepted_policy_of files document ≡ Ok p)

abbrev pub RefusesDocument : List ℕ → Store → Refusal → Type 0
RefusesDocument document files r = accepted_policy_of files document ≡ Err r

-- what an error says of these looks: in files that agree with them there is this refusal, or memory was refused; or the last of
-- them failed
abbrev pub ErrorSays : Files → (Store → Refusal → Type 0) → List Look → BuildError → Type 0
ErrorSays given Refuses looks (Refused r) = (r ≡ NoMemory) ⊎ WithGiven given looks (λ files. Refuses files r)
ErrorSays given Refuses looks FileFault = EndsInFault looks

-- looks were made, and this is why the document isn't accepted
pub record FailsWith (name document : List ℕ) (held : Option Store) (old new : History) (error : BuildError) : Type 0 where
  pub looks : List Look
  pub looked : Looked name held old new looks
  pub asked : AreAskedFor name document looks
  pub says : ErrorSays ((name, document) ∷ []) (RefusesDocument document) looks error

-- ---- looks that grow

-- which names are asked for
abbrev pub AskedNames : Type 0
AskedNames = List ℕ → Bool

-- whatever looks come before
abbrev pub IsAskedBy : AskedNames → List Look → Look → Type 0
IsAskedBy names before l = (names l.name ≡ true) × (l.most ≡ COMPONENT_FILE_MOST)

-- looks were made after these, which are asked for; all are each at another name and none at one that is given, where these are so
pub record Grows (given : Files) (Asked : List Look → Look → Type 0) (held : Option Store) (old new : History) (before after : List Look) : Type 0 where
  pub more : List Look
  pub grown : after ≡ before ++ more
  pub history : new ≡ looked old more
  pub told : IfSome held (λ m. ShowAll m more)
  pub asked : AreAskedInTurn Asked before more
  pub single : AreSingle before → AreSingle after
  pub others : (name bytes : List ℕ) → find_bytes name given ≡ Some bytes → HaveNoLookAt before name → HaveNoLookAt after name

-- looks were made after these, and this is what comes of them all
pub record StopsAfterLooks (given : Files) (Asked : List Look → Look → Type 0) (held : Option Store) (old new : History) (before : List Look) (Refuses : Store → Refusal → Type 0) (error : BuildError) : Type 0 where
  pub after : List Look
  pub grows : Grows given Asked held old new before after
  pub says : ErrorSays given Refuses after error

-- ---- contents alone

-- looks were made, each at another name and none at one that is given, and nothing was written; files that tell show them
pub record LookedBeside (given : Files) (held : Option Store) (old new : History) (looks : List Look) : Type 0 where
  pub history : new ≡ looked old looks
  pub single : AreSingle looks
  pub others : (name bytes : List ℕ) → find_bytes name given ≡ Some bytes → HaveNoLookAt looks name
  pub told : IfSome held (λ m. ShowAll m looks)

-- looks were made at component files that the policy names; over all files that agree with them its contents aren't refused, and
-- these are the bytes of its regions
pub record HasContents (given : Files) (r : Resolution) (held : Option Store) (old new : History) (things : List (List ℕ)) : Type 0 where
  pub looks : List Look
  pub looked : LookedBeside given held old new looks
  pub asked : AreAskedInTurn (IsNext given (source_of r)) [] looks
  pub fit : WithGiven given looks (λ files. contents_refused files (source_of r) ≡ None)
  pub are : WithGiven given looks (λ files. things ≡ thing_bytes files r)

-- .. they are refused
abbrev pub RefusesContents : Source → Store → Refusal → Type 0
RefusesContents p files r = contents_refused files p ≡ Some r

pub record LacksContents (given : Files) (p : Source) (held : Option Store) (old new : History) (error : BuildError) : Type 0 where
  pub looks : List Look
  pub looked : LookedBeside given held old new looks
  pub asked : AreAskedInTurn (IsNext given p) [] looks
  pub says : ErrorSays given (RefusesContents p) looks error

-- ---- one file

-- there is a file of this name with so many bytes, no more than a component file may have
pub record Has (files : Store) (name : List ℕ) (count : ℕ) : Type 0 where
  pub bytes : List ℕ
  pub reads : reading_of (get files name) COMPONENT_FILE_MOST ≡ whole bytes
  pub many : count ≡ length bytes

-- the file is known to have so many bytes
abbrev pub IsLengthKnown : Files → List Look → List ℕ → ℕ → Type 0
IsLengthKnown given looks file count = WithGiven given looks (λ files. Has files file count)

-- one look at this component file, with what it came to
pub record LooksAt (file : List ℕ) (got : Result Reading FileError) (held : Option Store) (old new : History) : Type 0 where
  pub history : new ≡ looked old (look file COMPONENT_FILE_MOST got ∷ [])
  pub possible : IsPossibleEnd COMPONENT_FILE_MOST got
  pub told : IfSome held (λ m. Shows m (look file COMPONENT_FILE_MOST got))

-- what an error says of what the look came to
abbrev pub GotSays : List ℕ → Result Reading FileError → BuildError → Type 0
GotSays file got (Refused (Missing n)) = (n ≡ file) × (got ≡ Ok absent)
GotSays file got (Refused (TooLong n k)) = (n ≡ file) × (got ≡ Ok (long k))
GotSays file got (Refused NoMemory) = Unit {0}
GotSays file got FileFault = got ≡ Err Failed
GotSays file got _ = ⊥

-- a look at this component file gives no bytes, or memory for them was refused
pub record ComponentFileNotRead (file : List ℕ) (held : Option Store) (old new : History) (error : BuildError) : Type 0 where
  pub got : Result Reading FileError
  pub looks : LooksAt file got held old new
  pub says : GotSays file got error

-- the file is added behind those that were read, and has so many bytes
pub record IsAdded (file : List ℕ) (before after : Files) (count : ℕ) (held : Option Store) (old new : History) : Type 0 where
  pub bytes : List ℕ
  pub added : after ≡ before ++ (file, bytes) ∷ []
  pub many : count ≡ length bytes
  pub looks : LooksAt file (Ok (whole bytes)) held old new

-- so many of so many bytes: those from an offset on, at most so many
abbrev pub part_length : ℕ → ℕ → Option ℕ → ℕ
part_length count offset None = count - offset
part_length count offset (Some most) = min (count - offset) most

-- why a file isn't found
abbrev pub NotFound : List ℕ → Store → Refusal → Type 0
NotFound name files (Missing n) = (n ≡ name) × (reading_of (get files name) COMPONENT_FILE_MOST ≡ absent)
NotFound name files (TooLong n k) = (n ≡ name) × (reading_of (get files name) COMPONENT_FILE_MOST ≡ long k)
NotFound name files _ = ⊥

-- ---- contents

-- why something is refused, over files
abbrev pub Why : Type 0
Why = Store → Option Refusal

abbrev pub Refuses : Why → Store → Refusal → Type 0
Refuses why files r = why files ≡ Some r

-- nothing is
abbrev pub Passes : Files → List Look → Why → Type 0
Passes given looks why = WithGiven given looks (λ files. why files ≡ None)

-- the content of a thing
abbrev pub thing_content : Resolution → Thing → Content
thing_content r t = content_told (content_found r t.content)

-- it is refused
abbrev pub thing_refused : Resolution → Thing → Why
thing_refused r t files = content_refused files t.tag t.size (thing_content r t)

-- which file it is of
abbrev pub thing_names : Resolution → Thing → AskedNames
thing_names r t name = is_of_file name (thing_content r t)

-- looks were made after these, at the file of a thing's content
abbrev pub GrowsByThing : Files → Resolution → Thing → Option Store → History → History → List Look → List Look → Type 0
GrowsByThing given r t held old new before after = Grows given (IsAskedBy (thing_names r t)) held old new before after

-- .. and its content isn't known to fit
abbrev pub StopsAtThing : Files → Resolution → Thing → Option Store → History → History → List Look → BuildError → Type 0
StopsAtThing given r t held old new before error = StopsAfterLooks given (IsAskedBy (thing_names r t)) held old new before (Refuses (thing_refused r t)) error

-- .. nor all contents of a policy, of which looks were made at the files, each the next one
abbrev pub StopsAtContents : Files → Source → Option Store → History → History → BuildError → Type 0
StopsAtContents given p held old new error = StopsAfterLooks given (IsNext given p) held old new [] (RefusesContents p) error
