-- The tables of events of a subject, and the devices of an image, that a policy asks for (this project's own format).
use Rattle.std.specs.Prelude.{◌≡◌, ℕ, ◌+◌, ◌<◌, true, List, [], ◌∷◌, length, map, slice_index_or, Option, Some, None, option_map}
use Rattle.std.specs.List.{All, AllZip}
use Rattle.expand_grants.specs.Grants.{target_named}
use Rattle.image_pack.specs.Codes.{is_vector, vector_code}
use Rattle.image_pack.specs.declared.parts.DevicePart.{DevicePart}
use Rattle.image_pack.specs.declared.parts.EventPart.{EventPart}
use Rattle.image_pack.specs.declared.parts.IrqPart.{IrqPart}
use Rattle.muen_num.specs.declared.devices.IrqTarget.{IrqTarget}
use Rattle.muen_num.specs.declared.devices.PortSpan.{PortSpan}
use Rattle.muen_num.specs.Range.{numbers_below}
use Rattle.muen_num.specs.declared.limits.TheConstants.{MOST_CALLS}
use Rattle.policy_lawful.specs.Resolution.{Resolution, source_of, subject_named}
use Rattle.policy_lawful.specs.declared.resolved.Subject.{Subject}
use Rattle.policy_lawful.specs.Events.{Raised, Target, event_of, irq_of}
use Rattle.policy_lawful.specs.source.Device.{Device}
use Rattle.policy_lawful.specs.source.Irq.{Irq}
use Rattle.policy_lawful.specs.source.Ports.{Ports}
use Rattle.policy_lawful.specs.source.SourceWay.{SourceWay}
use Rattle.image_pack.specs.ImageConditions.{IsReached}

-- ---- events

-- what an entry of a table raises, by the name of the subject that it reaches
abbrev pub part_raised : Resolution → EventPart → Raised
part_raised r e = record { mode = e.mode; target = target_named r e.target e.vector }

-- what an image asks of an entry, where there are so many subjects
abbrev pub IsEntry : ℕ → Option EventPart → Type 0
IsEntry subjects None = Unit {0}
IsEntry subjects (Some e) = (e.target < subjects) × (is_vector e.mode (vector_code e.vector) ≡ true)

-- a table has for each number the event that the policy has for this way
pub record IsTable (r : Resolution) (s : Subject) (way : ℕ → SourceWay) (table : List (Option EventPart)) : Type 0 where
  pub many : length table ≡ MOST_CALLS
  pub entries : All (IsEntry (length r.subjects)) table
  pub raises : (n : ℕ) → n < MOST_CALLS → option_map (part_raised r) (slice_index_or table n None) ≡ event_of (source_of r) (subject_named r s) (way n)

-- ---- devices

-- whom an interrupt reaches, by the name of the subject
abbrev pub irq_named : Resolution → IrqTarget → Target
irq_named r t = target_named r t.subject (Some t.vector)

-- an interrupt of a device goes where the policy grants it, or nowhere
pub record IsIrq (r : Resolution) (d : Device) (i : Irq) (q : IrqPart) : Type 0 where
  pub name : q.name ≡ i.name
  pub granted : IsReached (length r.subjects) q.target
  pub target : option_map (irq_named r) q.target ≡ irq_of (source_of r) d.name i.name

-- the ends of a range of ports, in the policy and in the image
abbrev pub ports_ends : Ports → ℕ × ℕ
ports_ends x = (x.start, x.end)

abbrev pub span_ends : PortSpan → ℕ × ℕ
span_ends x = (x.start, x.end)

-- a device, whose memory has the numbers of spans from this one on
pub record IsDevice (r : Resolution) (first : ℕ) (d : Device) (q : DevicePart) : Type 0 where
  pub name : q.name ≡ d.name
  pub ports : map span_ends q.ports ≡ map ports_ends d.io_ports
  pub windows : map (λ w. w.span) q.windows ≡ map (λ k. first + k) (numbers_below (length d.memory))
  pub irqs : AllZip (IsIrq r d) d.irqs q.irqs

-- devices, whose memory is numbered on from one to the next
unfoldable pub AreDevices : Resolution → ℕ → List Device → List DevicePart → Type 0
AreDevices r first [] [] = Unit {0}
AreDevices r first (d ∷ ds) (q ∷ qs) = IsDevice r first d q × AreDevices r (first + length d.memory) ds qs
AreDevices r first _ _ = ⊥
