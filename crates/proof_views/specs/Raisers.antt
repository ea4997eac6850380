-- From where pending vectors come (this project's own).
use Rattle.std.specs.Prelude.{◌≡◌, ◌⊎◌, ℕ, Bool, true, false, List, Some}
use Rattle.muen_num.specs.declared.mode.EventMode.{EventMode}
use Rattle.muen_num.specs.declared.mode.EventMode.TheVariants.{Async}
use Rattle.policy_lawful.specs.Events.{Raised, Target, event_of, irq_of}
use Rattle.policy_lawful.specs.source.Source.{Source}
use Rattle.policy_lawful.specs.source.SourceWay.{SourceWay}
use Rattle.policy_lawful.specs.source.Subject.{Subject}
use Rattle.subject_model.specs.System.{subject_named}

-- an event of this mode waits for a minor frame or an exit
abbrev pub waits_for_entry : EventMode → Bool
waits_for_entry Async = true
waits_for_entry _ = false

-- a subject of the policy declares an event that raises this vector at the subject with this name; it waits, or not
pub record IsEventTo (p : Source) (waits : Bool) (name : List ℕ) (vector : ℕ) : Type 0 where
  pub by : Subject
  pub way : SourceWay
  pub raised : Raised
  pub declared : subject_named p by.name ≡ Some by
  pub is : event_of p by way ≡ Some raised
  pub mode : waits_for_entry raised.mode ≡ waits
  pub subject : raised.target.subject ≡ name
  pub with : raised.target.vector ≡ Some vector

-- the policy grants it a device's interrupt under this vector
pub record IsIrqTo (p : Source) (name : List ℕ) (vector : ℕ) : Type 0 where
  pub device : List ℕ
  pub irq : List ℕ
  pub target : Target
  pub is : irq_of p device irq ≡ Some target
  pub subject : target.subject ≡ name
  pub with : target.vector ≡ Some vector

-- what may be deliverable at any turn: such an event that doesn't wait, or such an interrupt
abbrev pub IsRaisedNow : Source → List ℕ → ℕ → Type 0
IsRaisedNow p name vector = IsEventTo p false name vector ⊎ IsIrqTo p name vector

-- what may wait: such an event that does
abbrev pub IsRaisedLater : Source → List ℕ → ℕ → Type 0
IsRaisedLater p name vector = IsEventTo p true name vector
