-- Changes of a CPU's state that come to the same.
use Rattle.std.proofs.Common.{◌≡◌, ℕ, zero, suc, Option, Some, None, List, [], ◌∷◌, refl, sym, ap, ◌∙◌}
use Rattle.std.specs.Prelude.{option_map, slice_get}
use Rattle.machine_layout.specs.Memory.{Page}
use Rattle.muen_num.specs.ListChange.{change_at}
use Rattle.guest_isa.specs.Step.{MsrWrite}
use Rattle.guest_isa.specs.declared.end.StepEnd.{StepEnd}
use Rattle.subject_model.specs.SubjectState.{SubjectState}
use Rattle.vmx_machine.specs.Machine.{Stepped, with_state, msr_file_with_write as with_file}
use Rattle.vmx_machine.specs.declared.cpu.Cpu.{Cpu}
use Rattle.vmx_machine.specs.declared.cpu.Entered.{Entered}
use Rattle.kernel_core.specs.Kernel.{Live}
use Rattle.proof_turns.proofs.Changes.{with_entered}

-- ---- changes of one element

-- two changes that agree on the element
pub change_agrees : {X : Type 0} (i : ℕ) (f h : X → X) (xs : List X) (x : X) → slice_get xs i ≡ Some x → f x ≡ h x → change_at i f xs ≡ change_at i h xs
change_agrees i f h [] x at e = refl
change_agrees zero f h (z ∷ zs) x at e = let same : z ≡ x = cc (at) in ap (λ w. w ∷ zs) (ap f same ∙ (e ∙ ap h (sym same)))
change_agrees (suc i) f h (z ∷ zs) x at e = ap (λ ws. z ∷ ws) (change_agrees i f h zs x at e)

-- a change that keeps the element
pub change_stays : {X : Type 0} (i : ℕ) (f : X → X) (xs : List X) (x : X) → slice_get xs i ≡ Some x → f x ≡ x → change_at i f xs ≡ xs
change_stays i f [] x at e = refl
change_stays zero f (z ∷ zs) x at e = let same : z ≡ x = cc (at) in ap (λ w. w ∷ zs) (ap f same ∙ (e ∙ sym same))
change_stays (suc i) f (z ∷ zs) x at e = ap (λ ws. z ∷ ws) (change_stays i f zs x at e)

-- ---- who is on a CPU

-- its state is what a function makes of it
abbrev pub made : (SubjectState → SubjectState) → Entered → Entered
made f e = record { control = e.control; state = f e.state }

-- CPUs on which the same one is, with the same MSRs
pub same_entry : (o p : Option Entered) (file : List ℕ) → o ≡ p → ◌≡◌ {A = Cpu} (record { entered = o; file = file }) (record { entered = p; file = file })
same_entry o p file h = rw h refl

-- it keeps its state
pub entered_same : (u : Cpu) (e : Entered) → u.entered ≡ Some e → with_entered e.state None u ≡ u
entered_same u e is = same_cpu u (option_map (made (λ _. e.state)) u.entered) (ap (option_map (made (λ _. e.state))) is ∙ sym is)
  where
    same_cpu : (v : Cpu) (o : Option Entered) → o ≡ v.entered → ◌≡◌ {A = Cpu} (record { entered = o; file = v.file }) v
    same_cpu v o h = rw h refl

-- .. or has what a function makes of it
pub entered_made : (f : SubjectState → SubjectState) (u : Cpu) (e : Entered) → u.entered ≡ Some e → with_state f u ≡ with_entered (f e.state) None u
entered_made f u e is =
    same_entry (option_map (made f) u.entered) (option_map (made (λ _. f e.state)) u.entered) u.file
    (ap (option_map (made f)) is ∙ sym (ap (option_map (made (λ _. f e.state))) is))

-- .. or of the state that it was just given
pub made_of_given : (f : SubjectState → SubjectState) (st : SubjectState) (m : Option MsrWrite) (u : Cpu) → with_state f (with_entered st m u) ≡ with_entered (f st) m u
made_of_given f st m u =
    same_entry (option_map (made f) (option_map (made (λ _. st)) u.entered)) (option_map (made (λ _. f st)) u.entered) (with_file m u.file) (by_entry u.entered)
  where
    by_entry : (o : Option Entered) → option_map (made f) (option_map (made (λ _. st)) o) ≡ option_map (made (λ _. f st)) o
    by_entry None = refl
    by_entry (Some e) = refl

-- ---- machines

-- the kernel's state with other CPUs
abbrev pub with_cpus : List Cpu → Live → Live
with_cpus cpus k = record k { machine = record { pages = k.machine.pages; cpus = cpus } }

-- steps that leave the same memory and the same CPUs, and end alike
pub same_step : (p p' : List Page) (cs cs' : List Cpu) (e e' : StepEnd) → p ≡ p' → cs ≡ cs' → e ≡ e'
    → ◌≡◌ {A = Stepped} (record { machine = record { pages = p; cpus = cs }; end = e }) (record { machine = record { pages = p'; cpus = cs' }; end = e' })
same_step p p' cs cs' e e' a b c = rw (a, b, c) refl
