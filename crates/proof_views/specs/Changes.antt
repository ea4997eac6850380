-- Who changes what a thing holds: whose turn it is, where a turn may store, and what an input may write (this project's own).
use Rattle.std.specs.Prelude.{◌≡◌, ℕ, ◌==◌, ◌&&◌, ◌||◌, Bool, false, List, [], ◌∷◌, Option, Some, None, slice_get, option_and_then, if◌then◌else◌}
use Rattle.std.specs.List.{cons_option, list_any}
use Rattle.subject_model.specs.Frames.{slot_in}
use Rattle.subject_model.specs.Run.{begun, run_to}
use Rattle.subject_model.specs.Step.{Stored}
use Rattle.machine_layout.specs.Memory.{over}
use Rattle.muen_num.specs.declared.access.AccessKind.TheVariants.{Write}
use Rattle.policy_lawful.specs.Contents.{Held}
use Rattle.policy_lawful.specs.Dma.{dma_windows}
use Rattle.policy_lawful.specs.Frames.{frames_of}
use Rattle.policy_lawful.specs.Rights.{allows}
use Rattle.policy_lawful.specs.Thing.{Thing, device_memory, same_thing, state}
use Rattle.policy_lawful.specs.Windows.{Window, windows_of}
use Rattle.policy_lawful.specs.source.Source.{Source}
use Rattle.policy_lawful.specs.source.Subject.{Subject}
use Rattle.subject_model.specs.DeviceRecord.{DeviceRecord, NamedInput, port_input, memory_input, irq_input, dma_input}
use Rattle.subject_model.specs.Clock.{inputs_at, order_at, system}
use Rattle.subject_model.specs.System.{System, start_of, subject_named, system_turn}

-- ---- who may

-- one of the windows shows it with the right to write
abbrev pub are_writable : List (Window Thing) → Thing → Bool
are_writable windows x = list_any (λ w. allows w.rights Write && same_thing w.thing x) windows

-- a turn of this subject may change it: the subject has a window with write on it, or it is the subject's own state page
abbrev pub may_change : Source → Subject → Thing → Bool
may_change p q x = are_writable (windows_of p q) x || same_thing (state q.name) x

-- a turn of some subject of these CPUs may change it
abbrev pub may_change_on : Source → List ℕ → Thing → Bool
may_change_on p cpus x = list_any (λ q. list_any (λ c. c == q.cpu) cpus && may_change p q x) p.subjects

-- this input may change it: it is the device's memory that the input names, or the device's domain has a window with write on it
abbrev pub input_changes : Source → NamedInput → Thing → Bool
input_changes p (port_input device port value) x = false
input_changes p (memory_input device memory offset bytes) x = same_thing (device_memory device memory) x
input_changes p (irq_input device irq) x = false
input_changes p (dma_input device address bytes) x = are_writable (dma_windows p device) x

-- what a thing holds after a store, which may go elsewhere
abbrev pub after_store : Option (Stored Thing) → Thing → List ℕ → List ℕ
after_store None x bytes = bytes
after_store (Some w) x bytes = if same_thing w.target x then over bytes w.offset w.bytes else bytes

-- ---- who has the turns

-- the subject whose turn it is on a CPU in a tick: the active member of the slot's group
abbrev pub whose_turn : Source → ℕ → ℕ → System → Option Subject
whose_turn p cpu tick y =
    option_and_then (λ slot. option_and_then (subject_named p) (slice_get y.active slot.group)) (slot_in (frames_of p cpu) y.frame tick)

-- those that have the turns of these CPUs, in this order
abbrev pub acting : Source → ℕ → List ℕ → System → List Subject
acting p tick [] y = []
acting p tick (cpu ∷ cpus) y = cons_option (whose_turn p cpu tick y) (acting p tick cpus (system_turn p cpu tick y).state)

-- those that have the turns of a tick of the run on a record
abbrev pub acting_at : Source → Held → DeviceRecord → ℕ → List Subject
acting_at p files r tick =
    acting p tick (order_at p r tick)
    (begun (system p) tick (inputs_at r tick) (run_to (system p) (inputs_at r) (order_at p r) tick (start_of p files)).state)

-- nothing of a tick may change this thing
pub record IsSpared (p : Source) (files : Held) (r : DeviceRecord) (x : Thing) (tick : ℕ) : Type 0 where
  pub inputs : list_any (λ i. input_changes p i x) (inputs_at r tick) ≡ false
  pub turns : list_any (λ q. may_change p q x) (acting_at p files r tick) ≡ false
