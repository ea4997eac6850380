-- What looks tell of what files hold.
use Rattle.std.specs.Prelude.{◌≡◌, ℕ, false, List, [], ◌∷◌, length, drop, ◌++◌, Option, Result, Ok, Err}
use Rattle.std.specs.Str.{bytes_eq}
use Rattle.std.specs.FinMap.{get}
use Rattle.muen_outside.specs.declared.files.FileError.{FileError}
use Rattle.muen_outside.specs.declared.files.FileError.TheVariants.{Failed}
use Rattle.muen_outside.specs.Found.{IsPossible}
use Rattle.muen_outside.specs.States.{History, Look, Write, look}
use Rattle.muen_outside.specs.Store.{Store, Reading, reading_of, KeepsOtherNames, insert_known}

-- the looks of the calls since
abbrev pub looks_since : History → History → List Look
looks_since old new = drop (length old.looks) new.looks

abbrev pub writes_since : History → History → List Write
writes_since old new = drop (length old.writes) new.writes

-- the store shows what the call has answered; a call that came to no answer tells nothing
abbrev pub ShowsAnswer : Option (List ℕ) → ℕ → Result Reading FileError → Type 0
ShowsAnswer bytes most (Ok reading) = reading_of bytes most ≡ reading
ShowsAnswer bytes most (Err end) = Unit {0}

abbrev pub Shows : Store → Look → Type 0
Shows m l = ShowsAnswer (get m l.name) l.most l.got

-- the store agrees with all these looks
abbrev pub ShowAll : Store → List Look → Type 0
ShowAll m [] = Unit {0}
ShowAll m (l ∷ ls) = Shows m l × ShowAll m ls

abbrev pub IsPossibleEnd : ℕ → Result Reading FileError → Type 0
IsPossibleEnd most (Ok reading) = IsPossible most reading
IsPossibleEnd most (Err end) = Unit {0}

-- no look is at a file of this name
abbrev pub HaveNoLookAt : List Look → List ℕ → Type 0
HaveNoLookAt [] name = Unit {0}
HaveNoLookAt (l ∷ ls) name = (bytes_eq name l.name ≡ false) × HaveNoLookAt ls name

-- each name is looked at once at most, and each answer is one that its limit allows
abbrev pub AreSingle : List Look → Type 0
AreSingle [] = Unit {0}
AreSingle (l ∷ ls) = IsPossibleEnd l.most l.got × HaveNoLookAt ls l.name × AreSingle ls

-- what a write leaves of what is held, where it is told
abbrev pub WriteLeaves : List ℕ → List ℕ → Result (Unit {0}) FileError → Option Store → Option Store → Type 0
WriteLeaves name bytes (Ok u) held held' = held' ≡ insert_known held name bytes
WriteLeaves name bytes (Err end) held held' = KeepsOtherNames name held held'

-- what writes leave, one after another
abbrev pub HeldAfter : List Write → Option Store → Option Store → Type 0
HeldAfter [] held held' = held' ≡ held
HeldAfter (w ∷ ws) held held' = (mid : Option Store) × WriteLeaves w.name w.bytes w.end held mid × HeldAfter ws mid held'

-- the last of these looks has failed
pub record EndsInFault (looks : List Look) : Type 0 where
  pub front : List Look
  pub name : List ℕ
  pub most : ℕ
  pub is : looks ≡ front ++ look name most (Err Failed) ∷ []
