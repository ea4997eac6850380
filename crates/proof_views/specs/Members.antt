-- The members of scheduling groups, and which of them has the turn.
use Rattle.std.specs.Prelude.{◌≡◌, ℕ, Bool, true, List, Some, slice_get}
use Rattle.std.specs.List.{list_any}
use Rattle.std.specs.Str.{bytes_eq}
use Rattle.subject_model.specs.Frames.{slot_in}
use Rattle.subject_model.specs.Slot.{Slot}
use Rattle.policy_lawful.specs.Frames.{frames_of}
use Rattle.policy_lawful.specs.source.Group.{Group}
use Rattle.policy_lawful.specs.source.Source.{Source}
use Rattle.policy_lawful.specs.source.Subject.{Subject}
use Rattle.subject_model.specs.System.{System, subject_named}

-- whether a group lists a name
abbrev pub lists : List ℕ → Group → Bool
lists name g = list_any (λ n. bytes_eq n name) g.subjects

-- each of these active members is listed by its group
abbrev pub AreListed : Source → List (List ℕ) → Type 0
AreListed p active = (k : ℕ) (name : List ℕ) (g : Group) → slice_get active k ≡ Some name → slice_get p.scheduling.groups k ≡ Some g → lists name g ≡ true

-- whose turn it is: this subject's, which is the active member of the slot's group
pub record HasTurn (p : Source) (cpu tick : ℕ) (y : System) (slot : Slot) (member : List ℕ) (q : Subject) : Type 0 where
  pub in_slot : slot_in (frames_of p cpu) y.frame tick ≡ Some slot
  pub active : slice_get y.active slot.group ≡ Some member
  pub is : subject_named p member ≡ Some q
