-- The machine: memory, and CPUs on which subjects run (Intel SDM volume 3, as this project profiles it). Tables, bitmaps, areas
-- and state pages are bytes of memory, as they stand there at that moment.
use Rattle.std.specs.Prelude.{ℕ, ◌+◌, ◌*◌, ◌/◌, ◌%◌, Bool, not, true, false, if◌then◌else◌, List, [], ◌∷◌, map, replicate, slice_get, Option, Some, None, option_map, option_and_then, unwrap_or}
use Rattle.muen_num.specs.Access.{kind_bit}
use Rattle.muen_num.specs.Range.{numbers_below}
use Rattle.muen_num.specs.AccessSize.{bytes_of}
use Rattle.muen_num.specs.declared.access.AccessKind.{AccessKind}
use Rattle.muen_num.specs.declared.access.AccessKind.TheVariants.{Read, Write}
use Rattle.muen_num.specs.declared.access.AccessSize.{AccessSize}
use Rattle.muen_num.specs.declared.limits.TheConstants.{EXIT_EPT_VIOLATION, EXIT_EPT_MISCONFIGURATION}
use Rattle.machine_layout.specs.Exits.{port_exits, msr_exits, AreaEntry, area_index, area_value}
use Rattle.machine_layout.specs.Memory.{Page, page_of, change, over, store_of}
use Rattle.machine_layout.specs.Walks.{walk_of}
use Rattle.machine_layout.specs.declared.walk.Walk.{Walk}
use Rattle.machine_layout.specs.declared.walk.Walk.TheVariants.{At, Violation, Misconfigured}
use Rattle.state_page.specs.StatePage.{state_in, page_bytes}
use Rattle.state_page.specs.declared.state.SubjectState.{SubjectState}
use Rattle.device_bench.specs.Devices.{value_of_ports}
use Rattle.guest_isa.specs.Finish.{injected, finished}
use Rattle.guest_isa.specs.GuestIsa.{effect_of}
use Rattle.guest_isa.specs.Step.{World, Stored, MsrWrite, Answer, reach_of, loaded, stored_to, performed, step}
use Rattle.guest_isa.specs.declared.instr.Asked.{Asked}
use Rattle.guest_isa.specs.declared.instr.Instr.{Instr}
use Rattle.guest_isa.specs.declared.instr.Wish.{Wish}
use Rattle.guest_isa.specs.declared.end.Change.TheVariants.{Plain}
use Rattle.guest_isa.specs.declared.end.StepEnd.{StepEnd}
use Rattle.guest_isa.specs.declared.end.StepEnd.TheVariants.{Ran}
use Rattle.guest_isa.specs.declared.finish.Finish.{Finish}
use Rattle.guest_isa.specs.declared.reach.Reach.{Reach}
use Rattle.guest_isa.specs.declared.reach.Reach.TheVariants.{Reached, Refused}
use Rattle.muen_num.specs.ListChange.{change_at}
use Rattle.vmx_machine.specs.MsrFile.{value_in, with_msr, most}
use Rattle.muen_num.specs.Numbers.{zeros}
use Rattle.vmx_machine.specs.declared.control.Control.{Control}
use Rattle.vmx_machine.specs.declared.cpu.Cpu.{Cpu}
use Rattle.vmx_machine.specs.declared.cpu.Entered.{Entered}

-- the pages of memory, and the CPUs by number
pub record MachineState : Type 0 where
  pub pages : List Page
  pub cpus : List Cpu

-- the bytes of a page; none where it isn't there
abbrev pub page_bytes_at : List Page → ℕ → List ℕ
page_bytes_at pages k = unwrap_or (page_of pages k) []

-- ---- what a step asks of the machine: targets are pages

-- by where a walk ends: a violation has the bit of the access and, in bits 5:3, the rights found; a misconfiguration has 0
abbrev pub reach_by : AccessKind → ℕ → Walk → Reach ℕ
reach_by kind addr (At address) = Reached (address / 4096) (address % 4096)
reach_by kind addr (Violation rights) = Refused EXIT_EPT_VIOLATION (kind_bit kind + 8 * rights) addr
reach_by kind addr Misconfigured = Refused EXIT_EPT_MISCONFIGURATION 0 addr

abbrev pub look_in : List Page → ℕ → AccessKind → ℕ → Reach ℕ
look_in pages eptp kind addr = reach_by kind addr (walk_of pages eptp addr kind)

abbrev pub ports_exit : List Page → Control → ℕ → ℕ → Bool
ports_exit pages c port size = port_exits (page_bytes_at pages c.io_bitmaps) (page_bytes_at pages (c.io_bitmaps + 1)) port size

abbrev pub ports_input : List Page → Control → List ℕ → ℕ → ℕ → Option ℕ
ports_input pages c ports port size =
    if ports_exit pages c port size then None else Some (value_of_ports ports port size)

abbrev pub msr_exits_in : List Page → Control → ℕ → Bool → Bool
msr_exits_in pages c index write = msr_exits (page_bytes_at pages c.msr_bitmap) index write

abbrev pub machine_msr_input : List Page → Control → List ℕ → ℕ → Option ℕ
machine_msr_input pages c file index = if msr_exits_in pages c index false then None else value_in file index

-- by the tables, bitmaps and MSRs of who is entered, the input bytes of the ports, and the tick
abbrev pub machine_world : List Page → Control → List ℕ → List ℕ → ℕ → World ℕ
machine_world pages c file ports tick = record {
  look = look_in pages c.eptp;
  bytes = page_bytes_at pages;
  input = ports_input pages c ports;
  output = λ port size. not (ports_exit pages c port size);
  msr = machine_msr_input pages c file;
  sets_msr = λ index. not (msr_exits_in pages c index true);
  tick = tick;
}

-- ---- what a step answers, for who is on a CPU

abbrev pub load_answer : List Page → Entered → SubjectState → ℕ → ℕ → AccessSize → Answer ℕ
load_answer pages e after reg addr size =
    loaded (page_bytes_at pages) e.state after reg (bytes_of size) (reach_of (look_in pages e.control.eptp) Read (bytes_of size) addr)

abbrev pub store_answer : List Page → Entered → SubjectState → ℕ → AccessSize → ℕ → Answer ℕ
store_answer pages e after addr size value =
    stored_to e.state after addr size value (reach_of (look_in pages e.control.eptp) Write (bytes_of size) addr)

-- by what an instruction asks for
abbrev pub performed_on : List Page → List ℕ → List ℕ → ℕ → Entered → Asked → Answer ℕ
performed_on pages file ports tick e asked =
    performed (machine_world pages e.control file ports tick) e.state asked.after asked.wish

-- who is entered, with `pc` as it was before the instruction
abbrev pub back_at : ℕ → Entered → Entered
back_at pc e = record { control = e.control; state = record e.state { pc = pc } }

-- by what the instruction at `pc` asks for, of the state after it
abbrev pub performed_at : List Page → List ℕ → List ℕ → ℕ → ℕ → Entered → Wish → Answer ℕ
performed_at pages file ports tick pc e wish =
    performed_on pages file ports tick (back_at pc e) (record { after = e.state; wish = wish })

abbrev pub executed_on : List Page → List ℕ → List ℕ → ℕ → Entered → Instr → Answer ℕ
executed_on pages file ports tick e i = performed_on pages file ports tick e (effect_of e.state i)

abbrev pub step_answer : List Page → List ℕ → List ℕ → ℕ → Entered → Answer ℕ
step_answer pages file ports tick e = step (machine_world pages e.control file ports tick) e.state

-- ---- what a step leaves

abbrev pub with_store : Option (Stored ℕ) → List Page → List Page
with_store None pages = pages
with_store (Some w) pages = change pages w.target (λ old. over old w.offset w.bytes)

abbrev pub msr_file_with_write : Option MsrWrite → List ℕ → List ℕ
msr_file_with_write None file = file
msr_file_with_write (Some w) file = with_msr w.index w.value file

-- ---- who is on a CPU

abbrev pub entered_on : MachineState → ℕ → Option Entered
entered_on m cpu = option_and_then (λ c. c.entered) (slice_get m.cpus cpu)

-- the state of who is on a CPU
abbrev pub state_on : MachineState → ℕ → Option SubjectState
state_on m cpu = option_map (λ e. e.state) (entered_on m cpu)

-- ---- entering: the state of the state page, and the area's entries, in order, into the MSR file

abbrev pub entries_in : ℕ → List ℕ → List AreaEntry
entries_in n area = map (λ i. record { index = area_index area i; value = area_value area i }) (numbers_below n)

abbrev pub msrs_loaded : List AreaEntry → List ℕ → List ℕ
msrs_loaded [] file = file
msrs_loaded (e ∷ es) file = msrs_loaded es (with_msr e.index e.value file)

abbrev pub put_on : List Page → Control → Cpu → Cpu
put_on pages c u = record {
  entered = Some (record { control = c; state = state_in (page_bytes_at pages c.state) });
  file = msrs_loaded (entries_in c.msrs (page_bytes_at pages c.msr_area)) u.file;
}

abbrev pub entered : ℕ → Control → MachineState → MachineState
entered cpu c m = record m { cpus = change_at cpu (put_on m.pages c) m.cpus }

-- ---- leaving: the state page, zeros where no state is; and then the values of the area's entries, in order, by the index
-- that each has at that moment

abbrev pub save_value : Option ℕ → ℕ → List Page → List Page
save_value None at pages = pages
save_value (Some value) at pages = store_of pages at 8 value

-- entry i of the area in this page
abbrev pub entry_saved : List ℕ → ℕ → ℕ → List Page → List Page
entry_saved file area i pages =
    save_value (value_in file (area_index (page_bytes_at pages area) i)) (4096 * area + (16 * i + 8)) pages

abbrev pub saved : List ℕ → ℕ → List ℕ → List Page → List Page
saved file area [] pages = pages
saved file area (i ∷ is) pages = saved file area is (entry_saved file area i pages)

abbrev pub put_off : Entered → List ℕ → List Page → List Page
put_off e file pages =
    saved file e.control.msr_area (numbers_below e.control.msrs) (change pages e.control.state (λ _. page_bytes e.state))

-- a CPU with the memory
pub record OnMemory : Type 0 where
  pub pages : List Page
  pub cpu : Cpu

abbrev pub put_off_by : List Page → Cpu → Option Entered → OnMemory
put_off_by pages u None = record { pages = pages; cpu = u }
put_off_by pages u (Some e) = record { pages = put_off e u.file pages; cpu = record { entered = None; file = u.file } }

abbrev pub left_by : ℕ → List Page → List Cpu → Option Cpu → MachineState
left_by cpu pages cpus None = record { pages = pages; cpus = cpus }
left_by cpu pages cpus (Some u) = record {
  pages = (put_off_by pages u u.entered).pages;
  cpus = change_at cpu (λ u. (put_off_by pages u u.entered).cpu) cpus;
}

abbrev pub left : ℕ → MachineState → MachineState
left cpu m = left_by cpu m.pages m.cpus (slice_get m.cpus cpu)

-- ---- the state of who is entered is changed

abbrev pub with_state : (SubjectState → SubjectState) → Cpu → Cpu
with_state f u = record { entered = option_map (λ e. record { control = e.control; state = f e.state }) u.entered; file = u.file }

abbrev pub vector_injected : ℕ → ℕ → MachineState → MachineState
vector_injected cpu vector m = record m { cpus = change_at cpu (with_state (injected vector)) m.cpus }

abbrev pub exit_finished : ℕ → Finish → MachineState → MachineState
exit_finished cpu how m = record m { cpus = change_at cpu (with_state (finished how)) m.cpus }

-- ---- one step of who is entered

-- memory and the CPU, and how the step ended
pub record CpuStepped : Type 0 where
  pub pages : List Page
  pub cpu : Cpu
  pub end : StepEnd

abbrev pub answered : Control → List ℕ → List Page → Answer ℕ → CpuStepped
answered c file pages a = record {
  pages = with_store a.stored pages;
  cpu = record { entered = Some (record { control = c; state = a.state }); file = msr_file_with_write a.msr file };
  end = a.end;
}

abbrev pub step_by : List ℕ → ℕ → List Page → Cpu → Option Entered → CpuStepped
step_by ports tick pages u None = record { pages = pages; cpu = u; end = Ran Plain }
step_by ports tick pages u (Some e) =
    answered e.control u.file pages (step (machine_world pages e.control u.file ports tick) e.state)

abbrev pub cpu_step : List ℕ → ℕ → List Page → Cpu → CpuStepped
cpu_step ports tick pages u = step_by ports tick pages u u.entered

-- the machine, and how the step ended
pub record Stepped : Type 0 where
  pub machine : MachineState
  pub end : StepEnd

abbrev pub step_on : ℕ → List ℕ → ℕ → List Page → List Cpu → Option Cpu → Stepped
step_on cpu ports tick pages cpus None = record { machine = record { pages = pages; cpus = cpus }; end = Ran Plain }
step_on cpu ports tick pages cpus (Some u) = record {
  machine = record {
    pages = (cpu_step ports tick pages u).pages;
    cpus = change_at cpu (λ u. (cpu_step ports tick pages u).cpu) cpus;
  };
  end = (cpu_step ports tick pages u).end;
}

-- where nobody is entered, nothing happens
abbrev pub machine_step : ℕ → List ℕ → ℕ → MachineState → Stepped
machine_step cpu ports tick m = step_on cpu ports tick m.pages m.cpus (slice_get m.cpus cpu)

-- ---- a device writes bytes from an address on, one by one; a page that isn't there stays so

abbrev pub written : List Page → ℕ → List ℕ → List Page
written pages at [] = pages
written pages at (b ∷ bs) = written (store_of pages at 1 b) (at + 1) bs

abbrev pub device_wrote : ℕ → List ℕ → MachineState → MachineState
device_wrote at bytes m = record m { pages = written m.pages at bytes }

-- ---- the start: nobody is on any CPU, and each MSR is 0

abbrev pub fresh : Cpu
fresh = record { entered = None; file = zeros most }

abbrev pub started : List Page → ℕ → MachineState
started pages cpus = record { pages = pages; cpus = replicate cpus fresh }
