-- The subject whose turn it is goes onto its CPU: leaving and entering keep what the machine stands for.
use Rattle.std.proofs.Common.{◌≡◌, ℕ, true, Option, Some, None, List, refl, sym, ap, ◌∙◌, subst, inl, inr}
use Rattle.std.specs.Prelude.{option_map, slice_get, is_some}
use Rattle.std.proofs.lemmas.Bool.{cases_eq, eq-eqb, ne_eqb, false≢true}
use Rattle.machine_layout.specs.Memory.{Page}
use Rattle.muen_num.specs.ListChange.{change_at}
use Rattle.muen_num.proofs.ChangeLaws.{element_changes, changes_join}
use Rattle.muen_num.proofs.Options.{one_value}
use Rattle.vmx_machine.specs.Machine.{left, entered}
use Rattle.vmx_machine.specs.declared.control.Control.{Control}
use Rattle.vmx_machine.specs.declared.cpu.Cpu.{Cpu}
use Rattle.vmx_machine.specs.declared.cpu.Entered.{Entered}
use Rattle.kernel_core.specs.Kernel.{Live, enters_cpu, switched}
use Rattle.subject_model.specs.System.{System}
use Rattle.proof_turns.specs.Ground.{Ground}
use Rattle.proof_turns.specs.Fixed.{IsFixed}
use Rattle.proof_turns.specs.Stands.{SameEntered, StandsFor, Running}
use Rattle.proof_turns.proofs.Entering.{entered_live, entered_runs, stays_runs}
use Rattle.proof_turns.proofs.LeftPages.{left_pages}
use Rattle.proof_turns.proofs.Leaving.{left_by_nobody, left_by_subject, left_with, machine_left, machine_left_by, machine_off, off, same_live}
use Rattle.proof_turns.proofs.Residents.{Present, Resident}

-- leaving, and then entering, is what the kernel does
goes_on_is : (cpu s : ℕ) (c : Control) (k : Live) (later : List Page) → left cpu k.machine ≡ machine_off cpu later k.machine
    → entered_live cpu s c (left_with cpu later k) ≡ enters_cpu cpu s c k
goes_on_is cpu s c k later e =
    same_live k (entered cpu c (machine_off cpu later k.machine)) (entered cpu c (left cpu k.machine))
    (change_at cpu (λ _. Some s) (change_at cpu (λ _. None) k.on)) (change_at cpu (λ _. Some s) k.on)
    (ap (entered cpu c) (sym e)) (changes_join cpu (λ _. None) (λ _. Some s) k.on)

module _ (g : Ground) (fixed : IsFixed g) (k : Live) (y : System) (stands : StandsFor g k y) (cpu : ℕ) (enters : Resident g cpu) where
  -- it runs in this state of the machine and its kernel
  abbrev RunsIn : Live → Type 0
  RunsIn x = Running g x y cpu enters.number enters.is.subject enters.is.control

  -- it enters a CPU that was left
  goes_on_runs : (later : List Page) (u : Cpu) → slice_get k.machine.cpus cpu ≡ Some u → (who : Option ℕ) → slice_get k.on cpu ≡ Some who
      → left cpu k.machine ≡ machine_off cpu later k.machine → StandsFor g (left_with cpu later k) y → RunsIn (enters_cpu cpu enters.number enters.is.control k)
  goes_on_runs later u at who on e after =
      subst (λ x. RunsIn x) (goes_on_is cpu enters.number enters.is.control k later e)
      (entered_runs g fixed (left_with cpu later k) y after cpu enters
      (element_changes cpu (λ _. None) k.on ∙ ap (option_map (λ _. None)) on)
      (off k.machine.pages u)
      (element_changes cpu (off k.machine.pages) k.machine.cpus ∙ ap (option_map (off k.machine.pages)) at))

  -- by who is on the CPU, as the machine has it
  switches_by : (u : Cpu) → slice_get k.machine.cpus cpu ≡ Some u → (who : Option ℕ) (o : Option Entered) → slice_get k.on cpu ≡ Some who → u.entered ≡ o
      → SameEntered g cpu who o → RunsIn (switched cpu enters.number enters.is.control who k)
  switches_by u at None None on is same =
      goes_on_runs k.machine.pages u at None on (machine_left cpu k.machine u at None is) (left_by_nobody g fixed k y stands cpu on)
  switches_by u at None (Some e) on is same = absurd same
  switches_by u at (Some t) None on is same = absurd same
  switches_by u at (Some t) (Some e) on is same =
      let d : Control = same.is.control in
      elim (cases_eq t enters.number) [
        | inl h ↦
            let mine : d ≡ enters.is.control =
            one_value (slice_get g.setup.controls t) d enters.is.control same.is.joined.control (ap (slice_get g.setup.controls) h ∙ enters.is.joined.control) in
            let here : Present g k cpu = record { who = enters; on = on ∙ ap (λ x. Some (Some x)) h; unit = u; at = at; entry = e; entered = is } in
            rw (eq-eqb t enters.number h) (stays_runs g fixed k y stands cpu here (same.control ∙ mine))
        | inr ne ↦
            let here : Present g k cpu =
            record { who = record { number = t; is = same.is; its = same.there }; on = on; unit = u; at = at; entry = e; entered = is } in
            rw (ne_eqb t enters.number ne)
            (goes_on_runs (left_pages d e.state u.file k.machine.pages) u at (Some t) on
            (machine_left_by cpu k.machine u e d at is same.control) (left_by_subject g fixed k y stands cpu here))
      ]

  -- by the CPU, if it is there
  pub switches : (who : Option ℕ) → slice_get k.on cpu ≡ Some who → (o : Option Cpu) → slice_get k.machine.cpus cpu ≡ o → is_some o ≡ true
      → RunsIn (switched cpu enters.number enters.is.control who k)
  switches who on None at h = absurd (false≢true h)
  switches who on (Some u) at h = switches_by u at who u.entered on refl (stands.cpus.entered cpu who u on at)
