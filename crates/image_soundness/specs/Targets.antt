-- Whom events and interrupts reach, by the index of the subject (this project's own format; Muen system policy: events).
use Rattle.std.specs.Prelude.{ℕ, List, Option, Some, position}
use Rattle.std.specs.Str.{bytes_eq}
use Rattle.image_pack.specs.declared.parts.EventPart.{EventPart}
use Rattle.muen_num.specs.declared.devices.IrqTarget.{IrqTarget}
use Rattle.muen_num.specs.declared.mode.EventMode.{EventMode}
use Rattle.policy_lawful.specs.Events.{Raised, Target}
use Rattle.policy_lawful.specs.source.Source.{Source}

-- the index of the subject that is reached, none where there is no such subject, and the vector
pub record IndexedTarget : Type 0 where
  pub subject : Option ℕ
  pub vector : Option ℕ

-- an event that is raised
pub record IndexedEvent : Type 0 where
  pub mode : EventMode
  pub target : IndexedTarget

-- ---- in a policy

-- the index of the subject of this name
abbrev pub subject_index : Source → List ℕ → Option ℕ
subject_index p name = position (λ s. bytes_eq s.name name) p.subjects

abbrev pub target_index : Source → Target → IndexedTarget
target_index p t = record { subject = subject_index p t.subject; vector = t.vector }

-- what an event raises, with its target's index
abbrev pub event_index : Source → Raised → IndexedEvent
event_index p r = record { mode = r.mode; target = target_index p r.target }

-- ---- in an image

-- the subject at an index
abbrev pub at_index : ℕ → Option ℕ → IndexedTarget
at_index subject vector = record { subject = Some subject; vector = vector }

-- what an entry of a table of events raises
abbrev pub entry_event : EventPart → IndexedEvent
entry_event e = record { mode = e.mode; target = at_index e.target e.vector }

-- whom an interrupt reaches
abbrev pub irq_target : IrqTarget → IndexedTarget
irq_target t = at_index t.subject (Some t.vector)
