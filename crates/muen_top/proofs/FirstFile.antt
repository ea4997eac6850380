-- How a command begins: with a look at one file.
use Rattle.std.proofs.Common.{◌≡◌, ◌⊎◌, inl, inr, ℕ, List, [], ◌∷◌, Option, Some, Result, Ok, Err, refl, sym, ap, subst, ◌∙◌}
use Rattle.std.specs.FinMap.{get}
use Rattle.muen_num.specs.Answers.{Answers}
use Rattle.muen_outside.specs.declared.files.FileError.{FileError}
use Rattle.muen_outside.specs.declared.files.FileError.TheVariants.{Failed as FileFailed, NoMemory as FileMemory}
use Rattle.muen_outside.specs.Looks.{EndsInFault, ShowAll, ShowsAnswer}
use Rattle.muen_outside.specs.States.{History, Look, look}
use Rattle.muen_outside.specs.Store.{Store, Reading, whole, absent, long, reading_of}
use Rattle.policy_lawful.specs.refusal.Refusal.{Refusal}
use Rattle.policy_lawful.specs.refusal.Refusal.TheVariants.{NotJson, Shape, Rule, Missing as MissingFile, TooLong as TooLongFile, FileFit, NoRoom, NoMemory as NoMemoryFor}
use Rattle.policy_lawful.specs.source.Source.{Source}
use Rattle.record_text.specs.declared.fault.RecordFault.{RecordFault}
use Rattle.record_text.specs.declared.fault.RecordFault.TheVariants.{NoMemory as NoMemoryForRecord}
use Rattle.muen_top.specs.Answers.{Answer, stops, missing, too_long, refused, image_refused, record_refused, of_file, answer_of}
use Rattle.muen_top.specs.Asked.{Asks, AsksFirst, GoesOn}
use Rattle.muen_top.specs.Calls.{StopsFor}
use Rattle.muen_top.specs.Commands.{Command}
use Rattle.muen_top.specs.FilesSeen.{OverLooks, Saw}
use Rattle.muen_top.specs.Loads.{GivesNone, NotRead}
use Rattle.muen_top.specs.PolicyCommands.{HasRead, IsAnswered, StopsCommand}
use Rattle.image_pack.specs.Faults.{Tells, unpacked}
use Rattle.image_pack.specs.fault.ImageFault.{ImageFault}
use Rattle.image_pack.specs.fault.ImageFault.TheVariants.{Short, Bad, Trailing, NoMemory as NoMemoryForImage}
use Rattle.image_pack.specs.Image.{image as image_form}
use Rattle.muen_top.specs.CommandErrors.{error_of_image_fault, error_of_record_fault, error_of_refusal}
use Rattle.muen_top.specs.declared.outcome.CommandError.{CommandError}
use Rattle.muen_top.specs.declared.outcome.CommandError.TheVariants.{Usage, Missing, TooLong, Refused, ImageRefused, DmaRefused, RecordRefused, NotSound, FileFault, NoMemory}
use Rattle.muen_top.proofs.FilesSeen.{gives_none}

-- ---- a read that gives no bytes stops a command

-- what the answer is by what the last read has come to
abbrev pub SaysOf : (Store → Answer) → List ℕ → Result Reading FileError → List Look → Type 0
SaysOf answer name (Ok (whole bytes)) looks = Unit {0}
SaysOf answer name (Ok absent) looks = OverLooks looks (λ m. answer m ≡ stops (missing name))
SaysOf answer name (Ok (long n)) looks = OverLooks looks (λ m. answer m ≡ stops (too_long name n))
SaysOf answer name (Err FileFailed) looks = EndsInFault looks
SaysOf answer name (Err FileMemory) looks = Unit {0}

-- the last look failed, after another too
pub fault_after : (l : Look) (ls : List Look) → EndsInFault ls → EndsInFault (l ∷ ls)
fault_after l ls e = record { front = l ∷ e.front; name = e.name; most = e.most; is = ap (λ xs. l ∷ xs) e.is }

-- where the answer goes on with what is read of the file
pub says_of : (answer : Store → Answer) (name : List ℕ) (most : ℕ) (next : Store → List ℕ → Answer) (looks : List Look)
    → ((m : Store) (reading : Reading) → ShowAll m looks → reading_of (get m name) most ≡ reading → answer m ≡ of_file name (next m) reading)
    → (got : Result Reading FileError) → OverLooks looks (λ m. ShowsAnswer (get m name) most got) → (got ≡ Err FileFailed → EndsInFault looks) → SaysOf answer name got looks
says_of answer name most next looks goes (Ok (whole bytes)) shows fault = tt
says_of answer name most next looks goes (Ok absent) shows fault = λ m s. goes m absent s (shows m s)
says_of answer name most next looks goes (Ok (long n)) shows fault = λ m s. goes m (long n) s (shows m s)
says_of answer name most next looks goes (Err FileFailed) shows fault = fault refl
says_of answer name most next looks goes (Err FileMemory) shows fault = tt

pub says_then : (command : Command) (held : Option Store) (old new : History) (P Q : List Look → Type 0) → ((looks : List Look) → P looks → Q looks) → HasRead command held old new P → HasRead command held old new Q
says_then command held old new P Q f h = record { looks = h.looks; saw = h.saw; asked = h.asked; says = f h.looks h.says }

module _ (command : Command) (held : Option Store) (old new : History) (name : List ℕ) where
  abbrev OfGot : Result Reading FileError → Type 0
  OfGot got = HasRead command held old new (SaysOf (λ m. answer_of m (Some command)) name got)

  abbrev Stops : CommandError → List Look → Type 0
  Stops error looks = StopsFor (λ m. answer_of m (Some command)) looks [] error

  pub stopped_by : (error : CommandError) → GivesNone name OfGot error → StopsCommand command held old new error
  stopped_by (Missing n) h =
      says_then command held old new (SaysOf (λ m. answer_of m (Some command)) name (Ok absent)) (Stops (Missing n)) (λ looks says. (λ m s. says m s ∙ ap (λ x. stops (missing x)) (sym h.0), refl)) h.1
  stopped_by (TooLong n k) h =
      says_then command held old new (SaysOf (λ m. answer_of m (Some command)) name (Ok (long k))) (Stops (TooLong n k)) (λ looks says. (λ m s. says m s ∙ ap (λ x. stops (too_long x k)) (sym h.0), refl)) h.1
  stopped_by FileFault h =
      says_then command held old new (SaysOf (λ m. answer_of m (Some command)) name (Err FileFailed)) (Stops FileFault) (λ looks says. inl (says, refl)) h
  stopped_by NoMemory h =
      says_then command held old new (SaysOf (λ m. answer_of m (Some command)) name (Err FileMemory)) (Stops NoMemory) (λ looks says. inl refl) h
  stopped_by Usage h = absurd h
  stopped_by (Refused r) h = absurd h
  stopped_by (ImageRefused f) h = absurd h
  stopped_by (DmaRefused f) h = absurd h
  stopped_by (RecordRefused r) h = absurd h
  stopped_by (NotSound f) h = absurd h

-- ---- a policy that is refused stops it

of_refusal : (answer : Store → Answer) (looks : List Look) (r : Refusal) → OverLooks looks (λ m. answer m ≡ stops (refused r)) → StopsFor answer looks [] (error_of_refusal r)
of_refusal answer looks NoMemoryFor h = inl refl
of_refusal answer looks NotJson h = (h, refl)
of_refusal answer looks (Shape place want) h = (h, refl)
of_refusal answer looks (Rule number first second) h = (h, refl)
of_refusal answer looks (MissingFile file) h = (h, refl)
of_refusal answer looks (TooLongFile file length) h = (h, refl)
of_refusal answer looks (FileFit region room length) h = (h, refl)
of_refusal answer looks (NoRoom region size) h = (h, refl)

pub stops_refused : (answer : Store → Answer) (looks : List Look) (r : Refusal) (error : CommandError) → (r ≡ NoMemoryFor) ⊎ OverLooks looks (λ m. answer m ≡ stops (refused r)) → error ≡ error_of_refusal r → StopsFor answer looks [] error
stops_refused answer looks r error (inl is) made =
    let out : error ≡ NoMemory = made ∙ ap error_of_refusal is in
    subst (StopsFor answer looks []) (sym out) (inl refl)
stops_refused answer looks r error (inr h) made = subst (StopsFor answer looks []) (sym made) (of_refusal answer looks r h)

-- ---- a record that is refused stops it

of_record_fault : (answer : Store → Answer) (looks : List Look) (fault : RecordFault) → OverLooks looks (λ m. answer m ≡ stops (record_refused fault)) → StopsFor answer looks [] (error_of_record_fault fault)
of_record_fault answer looks NoMemoryForRecord h = inl refl
of_record_fault answer looks fault h = (h, refl)

pub stops_record : (answer : Store → Answer) (looks : List Look) (fault : RecordFault) (error : CommandError) → (fault ≡ NoMemoryForRecord) ⊎ OverLooks looks (λ m. answer m ≡ stops (record_refused fault)) → error ≡ error_of_record_fault fault → StopsFor answer looks [] error
stops_record answer looks fault error (inl is) made =
    let out : error ≡ NoMemory = made ∙ ap error_of_record_fault is in
    subst (StopsFor answer looks []) (sym out) (inl refl)
stops_record answer looks fault error (inr h) made = subst (StopsFor answer looks []) (sym made) (of_record_fault answer looks fault h)

-- ---- a command that begins with a file

-- its answer goes on with what is read of the file
abbrev pub RestsOn : ℕ → List ℕ → (Store → List ℕ → Answer) → Command → Type 0
RestsOn most name next command = (m : Store) → answer_of m (Some command) ≡ of_file name (next m) (reading_of (get m name) most)

-- it looks at the file first; and it may look at no other
pub record AsksOn (most : ℕ) (name : List ℕ) (After : List ℕ → List Look → Type 0) (command : Command) : Type 0 where
  pub asks : (looks : List Look) → AsksFirst name most After looks → Asks (Some command) looks
  pub none : (bytes : List ℕ) → After bytes []

module _ (most : ℕ) (name : List ℕ) (next : Store → List ℕ → Answer) (After : List ℕ → List Look → Type 0) (command : Command) (rests : RestsOn most name next command) (on : AsksOn most name After command) where
  by_reading : (m : Store) (reading : Reading) → reading_of (get m name) most ≡ reading → answer_of m (Some command) ≡ of_file name (next m) reading
  by_reading m reading is = rests m ∙ ap (of_file name (next m)) is

  goes_none : (got : Result Reading FileError) → GoesOn After got []
  goes_none (Ok (whole bytes)) = on.none bytes
  goes_none (Ok absent) = refl
  goes_none (Ok (long n)) = refl
  goes_none (Err end) = refl

  asks_one : (got : Result Reading FileError) → Asks (Some command) (look name most got ∷ [])
  asks_one got = on.asks (look name most got ∷ []) (record { got = got; more = []; is = refl; goes_on = goes_none got })

  fault_here : (got : Result Reading FileError) → got ≡ Err FileFailed → EndsInFault (look name most got ∷ [])
  fault_here got is = record { front = []; name = name; most = most; is = ap (λ g. look name most g ∷ []) is }

  module _ (held : Option Store) (old new : History) where
    one_read : (got : Result Reading FileError) → Saw held old new (look name most got ∷ []) → HasRead command held old new (SaysOf (λ m. answer_of m (Some command)) name got)
    one_read got saw = record {
      looks = look name most got ∷ [];
      saw = saw;
      asked = asks_one got;
      says = says_of (λ m. answer_of m (Some command)) name most next (look name most got ∷ []) (λ m reading s is. by_reading m reading is) got (λ m s. s.0) (fault_here got);
    }

    -- the file isn't read
    pub not_read : (error : CommandError) → NotRead name most held old new error → StopsCommand command held old new error
    not_read error h =
        stopped_by command held old new name error
        (gives_none name (λ got. Saw held old new (look name most got ∷ [])) (λ got. HasRead command held old new (SaysOf (λ m. answer_of m (Some command)) name got)) one_read error h)

    -- it is read, and no other
    module _ (bytes : List ℕ) (saw : Saw held old new (look name most (Ok (whole bytes)) ∷ [])) where
      pub stops_alone : (error : CommandError) → StopsFor (λ m. answer_of m (Some command)) (look name most (Ok (whole bytes)) ∷ []) [] error → StopsCommand command held old new error
      stops_alone error says = record { looks = look name most (Ok (whole bytes)) ∷ []; saw = saw; asked = asks_one (Ok (whole bytes)); says = says }

      -- and so is what it holds
      pub gives : (answer : Answer) → ((m : Store) → next m bytes ≡ answer) → IsAnswered command held old new answer
      gives answer is = record {
        looks = look name most (Ok (whole bytes)) ∷ [];
        saw = saw;
        asked = asks_one (Ok (whole bytes));
        says = λ m s. by_reading m (whole bytes) s.0 ∙ is m;
      }

      either : (wanted : Result Source Refusal) (r : Refusal) → Answers NoMemoryFor wanted (Err r) → (wanted ≡ Err r → (m : Store) → next m bytes ≡ stops (refused r))
          → (r ≡ NoMemoryFor) ⊎ OverLooks (look name most (Ok (whole bytes)) ∷ []) (λ m. answer_of m (Some command) ≡ stops (refused r))
      either wanted r (inl is) so = inl is
      either wanted r (inr e) so = inr (λ m s. by_reading m (whole bytes) s.0 ∙ so e m)

      -- the policy in it is refused
      pub policy_refused : (wanted : Result Source Refusal) (r : Refusal) (error : CommandError) → Answers NoMemoryFor wanted (Err r) → (wanted ≡ Err r → (m : Store) → next m bytes ≡ stops (refused r)) → error ≡ error_of_refusal r → StopsCommand command held old new error
      policy_refused wanted r error h so made =
          stops_alone error (stops_refused (λ m. answer_of m (Some command)) (look name most (Ok (whole bytes)) ∷ []) r error (either wanted r h so) made)

      -- the image in it is refused
      module _ (so : (fault : ImageFault) → unpacked image_form bytes ≡ Err fault → (m : Store) → next m bytes ≡ stops (image_refused fault)) where
        fault_says : (fault : ImageFault) → unpacked image_form bytes ≡ Err fault → OverLooks (look name most (Ok (whole bytes)) ∷ []) (λ m. answer_of m (Some command) ≡ stops (image_refused fault))
        fault_says fault e m s = by_reading m (whole bytes) s.0 ∙ so fault e m

        of_image_fault : (fault : ImageFault) → Tells (unpacked image_form bytes) (Err fault) → StopsFor (λ m. answer_of m (Some command)) (look name most (Ok (whole bytes)) ∷ []) [] (error_of_image_fault fault)
        of_image_fault NoMemoryForImage h = inl refl
        of_image_fault (Short at) h = (fault_says (Short at) h, refl)
        of_image_fault (Bad at field) h = (fault_says (Bad at field) h, refl)
        of_image_fault (Trailing at) h = (fault_says (Trailing at) h, refl)

        pub image_refused_by : (fault : ImageFault) (error : CommandError) → Tells (unpacked image_form bytes) (Err fault) → error ≡ error_of_image_fault fault → StopsCommand command held old new error
        image_refused_by fault error h made =
            stops_alone error (subst (StopsFor (λ m. answer_of m (Some command)) (look name most (Ok (whole bytes)) ∷ []) []) (sym made) (of_image_fault fault h))
