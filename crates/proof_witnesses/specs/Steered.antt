-- Two systems in which a subject chooses the major frames, by memory that a device writes too, and two records whose inputs reach it
-- (this project's own): `talker` and `noise`, where `talker` chooses by the first byte of its ring.
use Rattle.std.specs.Prelude.{ℕ, List, [], ◌∷◌, ◌++◌, Some, codes}
use Rattle.policy_lawful.specs.source.MajorFrame.{MajorFrame}
use Rattle.policy_lawful.specs.source.Scheduling.{Scheduling}
use Rattle.policy_lawful.specs.source.Source.{Source}
use Rattle.policy_lawful.specs.source.Tau0.{Tau0}
use Rattle.proof_reactive.specs.Echo.{echo, plan}
use Rattle.subject_model.specs.DeviceRecord.{DeviceRecord, NamedInput, port_input, irq_input, dma_input}

-- ---- the two systems

-- `talker` has so many ticks, and then `noise`
abbrev pub in_turn : ℕ → ℕ → MajorFrame
in_turn own others =
    record { cpus = record { cpu = 0; minor_frames = record { group = codes "gtalker"; ticks = own } ∷ record { group = codes "gnoise"; ticks = others } ∷ [] } ∷ [] }

abbrev pub choice : Tau0
choice = record { subject = codes "talker"; region = codes "ring" }

-- two major frames, of which `talker` chooses
abbrev pub chosen_plan : Scheduling
chosen_plan = record { groups = plan.groups; major_frames = in_turn 1 2 ∷ in_turn 4 1 ∷ []; tau0 = Some choice }

-- where `talker` runs the first program and `noise` the second one
abbrev pub steered : List ℕ → List ℕ → Source
steered own code = record (echo own code) { scheduling = chosen_plan }

-- ---- the two records

-- by direct memory access the ring is given back with 1 in its first byte, which chooses the second major frame
abbrev pub choosing : NamedInput
choosing = dma_input (codes "line") 4096 (1 ∷ 7 ∷ [])

-- a byte, an interrupt and direct memory access, each of the device that `talker` has
abbrev pub to_talker : List (ℕ × NamedInput)
to_talker = (1, port_input (codes "line") 768 5) ∷ (1, irq_input (codes "line") (codes "rx")) ∷ (2, choosing) ∷ []

abbrev pub alone : DeviceRecord
alone = record { end = 40; inputs = to_talker; orders = [] }

-- .. and an interrupt of the one that `noise` has
abbrev pub with_others : DeviceRecord
with_others = record { end = 40; inputs = to_talker ++ (3, irq_input (codes "net") (codes "rx")) ∷ []; orders = [] }
