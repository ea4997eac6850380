-- The kernel over a run: how a tick begins, what inputs do, and how all ends (this project's own).
use Rattle.std.specs.Prelude.{◌≡◌, ℕ, List, [], ◌∷◌, map, replicate, slice_get, slice_set, Option, Some, None, option_and_then, unwrap_or, Bool}
use Rattle.muen_num.specs.Range.{numbers_below}
use Rattle.vmx_machine.specs.Memory.{Page}
use Rattle.device_bench.specs.record.Record.{Record}
use Rattle.device_bench.specs.Devices.{inputs_at, order_at, no_inputs}
use Rattle.device_bench.specs.declared.effect.Effect.{Effect}
use Rattle.device_bench.specs.declared.effect.Effect.TheVariants.{Port, Mem, Irq}
use Rattle.frame_clock.specs.Frames.{frame_at_tick, ticks_of_plan_majors, first_frame}
use Rattle.event_router.specs.Router.{started as router_started, router_pends_now}
use Rattle.frame_clock.specs.Run.{Clocked, Ran, run_to}
use Rattle.view_text.specs.declared.TurnLine.{TurnLine}
use Rattle.vmx_machine.specs.Machine.{MachineState, page_bytes_at, started as machine_started, left, device_wrote}
use Rattle.kernel_core.specs.declared.turn.Standing.{Standing}
use Rattle.kernel_core.specs.declared.turn.Turn.{Turn}
use Rattle.image_pack.specs.declared.parts.SubjectPart.{SubjectPart}
use Rattle.guest_isa.specs.state.SubjectState.{SubjectState}
use Rattle.kernel_core.specs.Kernel.{Live, acts, turn_of, turn_standing_of}
use Rattle.kernel_core.specs.declared.setup.Setup.{Setup}

-- ---- the start: nobody is on a CPU, nothing is pending, and no port has had an input

abbrev pub live_started : Setup → ℕ → List Page → Live
live_started setup cpus pages = record {
  machine = machine_started pages cpus;
  router = router_started setup.subjects setup.plan.groups;
  on = replicate cpus None;
  ports = no_inputs;
  frame = first_frame;
}

-- ---- a tick begins

-- the byte that chooses the next major frame: the first of this page
abbrev pub pick_of : Option ℕ → List Page → Option ℕ
pick_of tau0 pages = option_and_then (λ page. slice_get (page_bytes_at pages page) 0) tau0

abbrev pub begins : Setup → ℕ → Live → Live
begins setup tick k =
    record k { frame = frame_at_tick (ticks_of_plan_majors setup.plan) k.frame (pick_of setup.tau0 k.machine.pages) tick }

-- ---- inputs: what devices do

abbrev pub takes : Effect → Live → Live
takes (Port port value) k = record k { ports = slice_set k.ports port value }
takes (Mem at bytes) k = record k { machine = device_wrote at bytes k.machine }
takes (Irq subject vector) k = record k { router = router_pends_now subject (Some vector) k.router }

-- an input, if there is one
abbrev pub takes_any : Option Effect → Live → Live
takes_any None k = k
takes_any (Some i) k = takes i k

-- **the kernel on the clock**
abbrev pub kernel : Setup → Clocked Live Effect TurnLine
kernel setup = record { begins = begins setup; takes = takes; turn = turn_of setup }

-- ---- by a record

abbrev pub tick_inputs : Record Effect → ℕ → List Effect
tick_inputs run tick = map (λ i. i.input) (inputs_at run tick)

-- the CPUs as the record orders them, by number where it doesn't
abbrev pub tick_order : Record Effect → ℕ → ℕ → List ℕ
tick_order run cpus tick = unwrap_or (order_at run tick) (numbers_below cpus)

-- the run of a record's first n ticks
abbrev pub kernel_run_to : Setup → Record Effect → ℕ → List Page → ℕ → Ran Live TurnLine
kernel_run_to setup run cpus pages n =
    run_to (kernel setup) (tick_inputs run) (tick_order run cpus) n (live_started setup cpus pages)

-- ---- the end: all CPUs are left, by number

abbrev pub all_left : List ℕ → MachineState → MachineState
all_left [] m = m
all_left (cpu ∷ cpus) m = all_left cpus (left cpu m)

abbrev pub ended : ℕ → Live → Live
ended cpus k = record k { machine = all_left (numbers_below cpus) k.machine; on = replicate cpus None }

-- ---- the kernel's value

pub record KernelState : Type 0 where
  pub setup : Setup
  -- how many CPUs there are
  pub cpus : ℕ
  pub run : Record Effect
  pub live : Live
  -- the tick that comes or is open
  pub tick : ℕ

-- the kernel where its system has come to this
abbrev pub with_live : KernelState → Live → KernelState
with_live k live = record k { live = live }

-- the kernel behind what the subject of this number does in a turn, and its line
abbrev pub acted : KernelState → Turn → ℕ → SubjectPart → Bool → SubjectState → KernelState
acted k t s part first st = with_live k (acts t s part first st k.live).state

abbrev pub acted_line : KernelState → Turn → ℕ → SubjectPart → Bool → SubjectState → Option TurnLine
acted_line k t s part first st = (acts t s part first st k.live).line

-- so it is of the parts and the state of the subject of this number, which stands so
abbrev pub IsOfSubject : KernelState → ℕ → Standing → (SubjectPart → SubjectState → Type 0) → Type 0
IsOfSubject k subject standing Such = (part : SubjectPart) (st : SubjectState) → slice_get k.setup.subjects subject ≡ Some part → standing ≡ turn_standing_of st → Such part st

abbrev pub kernel_started : Setup → Record Effect → ℕ → List Page → KernelState
kernel_started setup run cpus pages = record { setup = setup; cpus = cpus; run = run; live = live_started setup cpus pages; tick = 0 }
