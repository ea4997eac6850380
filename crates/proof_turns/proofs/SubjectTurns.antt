-- The turn of the subject that is on the CPU keeps what the machine stands for, and gives the same line.
use Rattle.std.proofs.Common.{◌≡◌, ℕ, ◌||◌, Bool, true, false, Option, Some, None, refl, sym, ap, ◌∙◌, subst}
use Rattle.std.specs.Prelude.{if◌then◌else◌, option_map, option_and_then, slice_get, is_some}
use Rattle.muen_num.specs.AccessSize.{bytes_of as count}
use Rattle.policy_lawful.specs.Events.{traps_of}
use Rattle.policy_lawful.specs.Thing.{Thing}
use Rattle.policy_lawful.specs.source.Subject.{Subject}
use Rattle.image_pack.specs.declared.parts.SubjectPart.{SubjectPart}
use Rattle.muen_num.specs.ListChange.{change_at}
use Rattle.muen_num.proofs.ChangeLaws.{changes_join}
use Rattle.kernel_core.specs.Router.{taken}
use Rattle.guest_isa.specs.Finish.{finished, finish_of, injected}
use Rattle.guest_isa.specs.declared.finish.Finish.{Finish}
use Rattle.guest_isa.specs.Named.{renamed, renamed_store}
use Rattle.guest_isa.specs.Step.{Answer, MsrWrite, Stored, World, step}
use Rattle.guest_isa.proofs.Alike.{step_alike}
use Rattle.guest_isa.specs.declared.end.StepEnd.{StepEnd}
use Rattle.guest_isa.specs.declared.end.StepEnd.TheVariants as ends
use Rattle.subject_model.specs.SubjectState.{SubjectState}
use Rattle.frame_clock.specs.Run.{Turned}
use Rattle.frame_clock.specs.Alike.{AreAlikeTurns}
use Rattle.subject_model.specs.TurnLine.{TurnLine}
use Rattle.subject_model.specs.TurnAction.{TurnAction}
use Rattle.subject_model.specs.TurnAction.TheVariants.{Ran, Inject, Exit}
use Rattle.vmx_machine.specs.Machine.{CpuStepped, MachineState, Stepped, answered as cpu_answered, cpu_step, machine_step, machine_world, ports_exit, state_on, step_by, step_on, with_state, with_store as with_page, msr_file_with_write as with_file}
use Rattle.vmx_machine.specs.declared.control.Control.{Control}
use Rattle.vmx_machine.specs.declared.cpu.Cpu.{Cpu}
use Rattle.vmx_machine.specs.declared.cpu.Entered.{Entered}
use Rattle.kernel_core.specs.Kernel.{Live, acts_on, delivers, turn_line_of, event_of, handled, kernel_idles as kernel_idle, raised_by as kernel_raised_by, vector_for as kernel_vector_for}
use Rattle.subject_model.specs.Alone.{Inbox, TurnAnswer, msr_value, alone, exit_end_of, injects, own_of, solo_turn, stepped, unless_delivered, vector_for, waits, way_of}
use Rattle.muen_num.specs.Numbers.{is_among}
use Rattle.subject_model.specs.System.{System, inbox_of, line_at, named, raised_by, state_of, took, turn_answered, turn_from, with_own, with_store}
use Rattle.proof_turns.specs.Ground.{Ground, Joined, page_and_offset}
use Rattle.proof_turns.specs.Fixed.{IsFixed}
use Rattle.guest_isa.specs.Words.{FitsState, IsWord}
use Rattle.proof_turns.specs.Stands.{FitsEntered, Running, StandsFor}
use Rattle.proof_turns.proofs.SetLaws.{same_delivered}
use Rattle.guest_isa.proofs.StateLaws.{finished_fits, injected_fits}
use Rattle.subject_model.specs.Resources.{is_granted, msrs_of}
use Rattle.proof_turns.proofs.AreaLaws.{value_fits}
use Rattle.guest_isa.proofs.StepLaws.{FitsWorld, step_fits, step_stored}
use Rattle.proof_turns.proofs.WorldLaws.{worlds_alike}
use Rattle.proof_turns.proofs.Changes.{WritesWord, own_stands, with_cpu, with_entered, with_pages}
use Rattle.proof_turns.proofs.Stores.{IsStoreOf, store_stands}
use Rattle.proof_turns.proofs.Events.{took_stands, with_router}
use Rattle.proof_turns.proofs.CpuStates.{change_agrees, change_stays, entered_made, entered_same, made, made_of_given, same_entry, same_step, with_cpus}
use Rattle.proof_turns.proofs.ExitEvents.{exit_end_same, finish_same, raise_stands}
use Rattle.proof_turns.proofs.Residents.{Resident}
use Rattle.proof_turns.proofs.StepWords.{if_lets, input_word, stored_is, writes_word}

-- the subject whose turn it is on a CPU, in a tick, is on that CPU
pub record Acting (g : Ground) (k : Live) (y : System) (cpu tick : ℕ) : Type 0 where
  pub who : Resident g cpu
  pub running : Running g k y cpu who.number who.is.subject who.is.control
  pub tick_word : IsWord tick

module _ (g : Ground) (fixed : IsFixed g) (k : Live) (y : System) (cpu tick : ℕ) (first : Bool) (turn : Acting g k y cpu tick) where
  -- its number, what it is in the policy, and its part and its control in the machine
  abbrev s : ℕ
  s = turn.who.number

  abbrev n : Subject
  n = turn.who.is.subject

  abbrev q : SubjectPart
  q = turn.who.is.part

  abbrev c : Control
  c = turn.who.is.control

  abbrev joined : Joined g s n q c
  joined = turn.who.is.joined

  abbrev run : Running g k y cpu s n c
  run = turn.running

  -- its state, and what reaches it
  abbrev st : SubjectState
  st = run.entry.state

  abbrev inbox : Inbox
  inbox = inbox_of g.policy y n first tick

  -- the kernel's line, and what it does after a step, and with a vector that is delivered or none
  abbrev kernel_line : TurnAction → TurnLine
  kernel_line what = turn_line_of (record { tick = tick; cpu = cpu; subject = q.name; pc = st.pc }) what

  abbrev kernel_handles : StepEnd → Live → Turned Live TurnLine
  kernel_handles e now = handled (record { tick = tick; cpu = cpu; subject = q.name; pc = st.pc }) q e now

  abbrev kernel_delivers : Option ℕ → Turned Live TurnLine
  kernel_delivers v = delivers (record { tick = tick; cpu = cpu; subject = q.name; pc = st.pc }) s q st v k

  -- .. after a step of the machine
  abbrev kernel_stepped : Stepped → Turned Live TurnLine
  kernel_stepped x = kernel_handles x.end (record k { machine = x.machine })

  -- what the system makes of an answer
  abbrev answers : TurnAnswer → Turned System TurnLine
  answers a = turn_answered g.policy cpu tick n st.pc a y

  abbrev Alike : Turned Live TurnLine → Turned System TurnLine → Type 0
  Alike a b = AreAlikeTurns (StandsFor g) a b

  -- its state fits
  fits : FitsState st
  fits = subst FitsEntered run.entered (run.stands.cpus.fits cpu run.unit run.at).entered

  -- the machine has it on the CPU
  there : state_on k.machine cpu ≡ Some st
  there =
      ap (λ o. option_map (λ (e : Entered). e.state) (option_and_then (λ (u : Cpu). u.entered) o)) run.at
      ∙ ap (option_map (λ (e : Entered). e.state)) run.entered

  -- the lines of both are the same
  line_same : (what : TurnAction) → ◌≡◌ {A = Option TurnLine} (Some (line_at tick cpu n.name st.pc what)) (Some (kernel_line what))
  line_same what = ap (λ name. Some (line_at tick cpu name st.pc what)) (sym joined.name)

  -- both have another state of it, and what it wrote into an MSR
  own_then : (z : SubjectState) (m : Option MsrWrite) → FitsState z → WritesWord m → StandsFor g (with_cpu cpu z m k) (with_own n.name z m y)
  own_then z m fit word = own_stands g fixed k y cpu s n q c run joined turn.who.its z m fit word

  -- both have taken a vector, or none
  took_then : (v : Option ℕ) (k' : Live) (y' : System) → StandsFor g k' y' → StandsFor g (with_router g fixed (taken s v k'.router) k') (took n.name v y')
  took_then v k' y' stands = took_stands g fixed k' y' s n q c v joined stands

  -- ---- no instruction

  -- nothing happens
  waits_alike : Alike (kernel_idle k) (answers (waits st))
  waits_alike = record {
    state = subst (λ x. StandsFor g x (took n.name None (with_own n.name st None y)))
        (ap (λ cpus. with_cpus cpus k) (change_stays cpu (with_entered st None) k.machine.cpus run.unit run.at (entered_same run.unit run.entry run.entered)))
        (took_then None (with_cpu cpu st None k) (with_own n.name st None y) (own_then st None fits tt));
    line = refl;
  }

  -- a vector changes the CPU as it changes the state
  cpus_injected : (v : ℕ) → change_at cpu (with_state (injected v)) k.machine.cpus ≡ change_at cpu (with_entered (injected v st) None) k.machine.cpus
  cpus_injected v =
      change_agrees cpu (with_state (injected v)) (with_entered (injected v st) None) k.machine.cpus run.unit run.at (entered_made (injected v) run.unit run.entry run.entered)

  -- a vector is delivered
  injects_alike : (v : ℕ) → Alike (kernel_delivers (Some v)) (answers (injects st v))
  injects_alike v = record {
    state = subst (λ x. StandsFor g x (took n.name (Some v) (with_own n.name (injected v st) None y)))
        (ap (λ cpus. with_router g fixed (taken s (Some v) k.router) (with_cpus cpus k)) (sym (cpus_injected v)))
        (took_then (Some v) (with_cpu cpu (injected v st) None k) (with_own n.name (injected v st) None y) (own_then (injected v st) None (injected_fits v st fits) tt));
    line = line_same (Inject v);
  }

  -- both deliver the same vector
  vector_same : kernel_vector_for s first st k.router ≡ vector_for st inbox
  unfolding inbox_of
  vector_same =
      ap (λ v. if_lets st.interrupts v)
      (same_delivered (slice_get k.router.pending_now s) (slice_get k.router.pending_later s) (named y.now n.name) (named y.later n.name) (first || st.exited)
      (run.stands.router.now s n q c joined) (run.stands.router.later s n q c joined))

  -- ---- one instruction

  -- what it sees in the system, and on the machine
  abbrev world : World Thing
  world = alone (own_of g.policy n) run.msrs.values inbox

  abbrev machine : World ℕ
  machine = machine_world k.machine.pages c run.unit.file k.ports tick

  -- its step is the same in both, but for the names of what is stored
  alike : step machine st ≡ renamed (page_and_offset g.first) (step world st)
  alike = step_alike (page_and_offset g.first) world machine (worlds_alike g fixed k y cpu s n q c first tick run joined turn.who.its) st

  -- what the CPU has after its step
  cpu_is : cpu_step k.ports tick k.machine.pages run.unit ≡ cpu_answered c run.unit.file k.machine.pages (step machine st)
  cpu_is =
      ap (step_by k.ports tick k.machine.pages run.unit) run.entered
      ∙ ap (λ (d : Control). cpu_answered d run.unit.file k.machine.pages (step (machine_world k.machine.pages d run.unit.file k.ports tick) st)) run.control

  -- .. is what the answer says
  cpu_made : (a : Answer ℕ) → (cpu_answered c run.unit.file k.machine.pages a).cpu ≡ with_entered a.state a.msr run.unit
  cpu_made a =
      same_entry (Some (record { control = c; state = a.state })) (option_map (made (λ _. a.state)) run.unit.entered) (with_file a.msr run.unit.file)
      (ap (λ (d : Control). Some (record { control = d; state = a.state })) (sym run.control) ∙ sym (ap (option_map (made (λ _. a.state))) run.entered))

  -- the machine with what an answer says
  abbrev with_answer : Answer ℕ → MachineState
  with_answer a = record { pages = with_page a.stored k.machine.pages; cpus = change_at cpu (with_entered a.state a.msr) k.machine.cpus }

  -- is the machine after the step
  stepped_is : (a : Answer ℕ) → step machine st ≡ a → machine_step cpu k.ports tick k.machine ≡ record { machine = with_answer a; end = a.end }
  stepped_is a is =
      let now : cpu_step k.ports tick k.machine.pages run.unit ≡ cpu_answered c run.unit.file k.machine.pages a =
      cpu_is ∙ ap (cpu_answered c run.unit.file k.machine.pages) is in
      ap (step_on cpu k.ports tick k.machine.pages k.machine.cpus) run.at
      ∙ same_step (cpu_step k.ports tick k.machine.pages run.unit).pages (with_answer a).pages
      (change_at cpu (λ u. (cpu_step k.ports tick k.machine.pages u).cpu) k.machine.cpus) (with_answer a).cpus
      (cpu_step k.ports tick k.machine.pages run.unit).end a.end
      (ap (λ (x : CpuStepped). x.pages) now)
      (change_agrees cpu (λ u. (cpu_step k.ports tick k.machine.pages u).cpu) (with_entered a.state a.msr) k.machine.cpus run.unit run.at
      (ap (λ (x : CpuStepped). x.cpu) now ∙ cpu_made a))
      (ap (λ (x : CpuStepped). x.end) now)

  -- what it reads of an MSR is a word
  msr_word : (index v : ℕ) (b : Bool) → is_granted (msrs_of n) index false ≡ b → if_lets b (msr_value run.msrs.values index) ≡ Some v → IsWord v
  msr_word index v true h e =
      value_fits run.unit.file index v (run.stands.cpus.fits cpu run.unit run.at).file (run.msrs.same index (false, h) ∙ e)
  msr_word index v false h e = absurd (cc (e))

  -- all that it reads of its world is a word
  world_fits : FitsWorld world
  unfolding own_of inbox_of
  world_fits = record {
    tick = turn.tick_word;
    msr = λ index v e. msr_word index v (is_granted (msrs_of n) index false) refl e;
    input = λ port size v e. input_word k.ports run.stands.small_ports size port v (ports_exit k.machine.pages c port (count size))
        ((worlds_alike g fixed k y cpu s n q c first tick run joined turn.who.its).input port (count size) ∙ e);
  }

  -- ---- what an instruction leaves, by its answer

  module _ (a : Answer Thing) (is : step world st ≡ a) where
    -- the machine and its kernel with what was stored, and with this state
    abbrev then_live : SubjectState → Live
    then_live z = with_pages (option_map (renamed_store (page_and_offset g.first)) a.stored) (with_cpu cpu z a.msr k)

    -- the system likewise
    abbrev then_system : SubjectState → System
    then_system z = took n.name None (with_store a.stored (with_own n.name z a.msr y))

    -- what the turn answers where the step ends so
    abbrev ended : StepEnd → TurnAnswer
    ended e = stepped (traps_of n) (record a { end = e })

    -- what is stored can be stored
    stores : (w : Stored Thing) → a.stored ≡ Some w → IsStoreOf g fixed s n w
    stores w e = stored_is g fixed s n run.msrs.values inbox w joined.subject (step_stored world st w (ap (λ (x : Answer Thing). x.stored) is ∙ e))

    -- what is written into an MSR is a word
    word : WritesWord a.msr
    word = writes_word world st fits a.msr (ap (λ (x : Answer Thing). x.msr) is)

    -- the one stands for the other
    left_stands : (z : SubjectState) → FitsState z → StandsFor g (then_live z) (then_system z)
    left_stands z fit =
        took_then None (then_live z) (with_store a.stored (with_own n.name z a.msr y))
        (store_stands g fixed (with_cpu cpu z a.msr k) (with_own n.name z a.msr y) cpu s n q c joined turn.who.its run.on a.stored stores (own_then z a.msr fit word))

    -- the state after an exit, as the policy says
    abbrev state_then : ℕ → SubjectState
    state_then reason = finished (finish_of reason (is_among (traps_of n) reason)) a.state

    -- how the kernel finishes it
    abbrev kernel_finish : ℕ → ℕ → Finish
    kernel_finish reason call = finish_of reason (is_some (event_of q reason call))

    -- with the event that an exit raises, the one stands for the other
    exit_state : (reason call : ℕ) → FitsState a.state
        → StandsFor g (with_router g fixed (kernel_raised_by (event_of q reason call) k.router) (then_live (state_then reason)))
        (raised_by g.policy n (way_of (traps_of n) reason call) (then_system (state_then reason)))
    exit_state reason call fit =
        raise_stands g fixed s n q c joined reason call (then_live (state_then reason)) (then_system (state_then reason))
        (left_stands (state_then reason) (finished_fits (finish_of reason (is_among (traps_of n) reason)) a.state fit))

    -- the kernel's CPUs have that state
    cpus_same : (reason call : ℕ) → change_at cpu (with_state (finished (kernel_finish reason call))) (change_at cpu (with_entered a.state a.msr) k.machine.cpus)
        ≡ change_at cpu (with_entered (state_then reason) a.msr) k.machine.cpus
    cpus_same reason call =
        let how : Finish = kernel_finish reason call in
        changes_join cpu (with_entered a.state a.msr) (with_state (finished how)) k.machine.cpus
        ∙ change_agrees cpu (λ u. with_state (finished how) (with_entered a.state a.msr u)) (with_entered (state_then reason) a.msr) k.machine.cpus run.unit run.at
        (made_of_given (finished how) a.state a.msr run.unit ∙ ap (λ h. with_entered (finished h a.state) a.msr run.unit) (finish_same g fixed s n q c joined reason call))

    -- an exit: the kernel acts
    exit_alike : (reason qualification addr call : ℕ) → FitsState a.state
        → Alike (kernel_handles (ends.Exit reason qualification addr call) (then_live a.state)) (answers (ended (ends.Exit reason qualification addr call)))
    exit_alike reason qualification addr call fit = record {
      state = subst (λ cpus. StandsFor g (with_router g fixed (kernel_raised_by (event_of q reason call) k.router) (with_cpus cpus (then_live a.state)))
          (raised_by g.policy n (way_of (traps_of n) reason call) (then_system (state_then reason))))
          (sym (cpus_same reason call)) (exit_state reason call fit);
      line = line_same (Exit reason qualification addr (exit_end_of reason (is_among (traps_of n) reason)))
          ∙ ap (λ e. Some (kernel_line (Exit reason qualification addr e))) (sym (exit_end_same g fixed s n q c joined reason call));
    }

    -- either end
    ended_alike : FitsState a.state → (e : StepEnd) → Alike (kernel_handles e (then_live a.state)) (answers (ended e))
    ended_alike fit (ends.Ran change) = record { state = left_stands a.state fit; line = line_same (Ran change) }
    ended_alike fit (ends.Exit reason qualification addr call) = exit_alike reason qualification addr call fit

  -- an instruction runs
  instruction_alike : Alike (kernel_stepped (machine_step cpu k.ports tick k.machine)) (answers (stepped (own_of g.policy n).traps (step world st)))
  unfolding own_of
  instruction_alike =
      subst (λ (x : Stepped). Alike (kernel_stepped x) (answers (stepped (traps_of n) (step world st))))
      (sym (stepped_is (renamed (page_and_offset g.first) (step world st)) alike))
      (ended_alike (step world st) refl (step_fits world st world_fits fits) (step world st).end)

  -- ---- the cases of a turn

  -- a subject that is halted waits, and any other runs an instruction
  abbrev kernel_further : Bool → Turned Live TurnLine
  kernel_further halted = if halted then kernel_idle k else kernel_stepped (machine_step cpu k.ports tick k.machine)

  abbrev further : Bool → TurnAnswer
  further halted = if halted then waits st else stepped (own_of g.policy n).traps (step world st)

  further_alike : (b : Bool) → Alike (kernel_further b) (answers (further b))
  further_alike true = waits_alike
  further_alike false = instruction_alike

  -- but a vector is delivered first
  delivers_alike : (v : Option ℕ) → Alike (kernel_delivers v) (answers (unless_delivered st v (further st.halted)))
  delivers_alike (Some v) = injects_alike v
  delivers_alike None = further_alike st.halted

  -- and a subject that is stopped waits in any case
  acts_alike : (b : Bool) → Alike (if b then kernel_idle k else kernel_delivers (kernel_vector_for s first st k.router))
      (answers (if b then waits st else unless_delivered st (vector_for st inbox) (further st.halted)))
  acts_alike true = waits_alike
  acts_alike false = rw vector_same (delivers_alike (vector_for st inbox))

  -- **its turn**
  pub acts_stand : Alike (acts_on cpu tick s q first k) (turn_from g.policy cpu tick first n (state_of y n.name) (named y.msrs n.name) y)
  unfolding solo_turn
  acts_stand = rw (there, run.state, run.msrs.at) (acts_alike st.stopped)
