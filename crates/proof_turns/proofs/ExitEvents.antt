-- What an exit raises, and how it ends: the kernel goes by its tables of events as the policy says.
use Rattle.std.proofs.Common.{◌≡◌, ℕ, ◌==◌, false, Option, Some, None, refl, ◌∙◌, inl, inr}
use Rattle.std.specs.Prelude.{is_some}
use Rattle.std.proofs.lemmas.Bool.{cases_Bool}
use Rattle.muen_num.specs.declared.limits.TheConstants.{EXIT_HLT, EXIT_VMCALL}
use Rattle.policy_lawful.specs.Events.{traps_of}
use Rattle.policy_lawful.specs.source.Subject.{Subject}
use Rattle.image_pack.specs.declared.parts.SubjectPart.{SubjectPart}
use Rattle.guest_isa.specs.Finish.{finish_of}
use Rattle.vmx_machine.specs.declared.control.Control.{Control}
use Rattle.kernel_core.specs.Kernel.{Live, exit_end_of as kernel_exit_end_of, entry, event_of, raised_by as kernel_raised_by}
use Rattle.subject_model.specs.Alone.{exit_end_of, way_of}
use Rattle.muen_num.specs.Numbers.{is_among}
use Rattle.subject_model.specs.System.{System, raised_by}
use Rattle.proof_turns.specs.Ground.{Ground, Joined}
use Rattle.proof_turns.specs.Fixed.{IsFixed}
use Rattle.proof_turns.specs.Stands.{StandsFor}
use Rattle.proof_turns.proofs.Events.{called_stands, trapped_stands, with_router}

-- what isn't there is none
none_of : {A : Type 0} (o : Option A) → is_some o ≡ false → o ≡ None
none_of None h = refl
none_of (Some a) h = absurd (cc (h))

module _ (g : Ground) (fixed : IsFixed g) (s : ℕ) (n : Subject) (q : SubjectPart) (c : Control) (j : Joined g s n q c) where
  -- the kernel finishes an exit as the policy does
  pub finish_same : (reason call : ℕ) → finish_of reason (is_some (event_of q reason call)) ≡ finish_of reason (is_among (traps_of n) reason)
  finish_same reason call =
      elim (cases_Bool (reason == EXIT_HLT)) [
        | inl h ↦ rw h refl
        | inr h ↦ elim (cases_Bool (reason == EXIT_VMCALL)) [ inl v ↦ rw (h, v) refl | inr v ↦ rw (h, v, j.trapped reason) refl ]
      ]

  -- it ends in the same way
  pub exit_end_same : (reason call : ℕ) → kernel_exit_end_of reason (is_some (event_of q reason call)) ≡ exit_end_of reason (is_among (traps_of n) reason)
  exit_end_same reason call =
      elim (cases_Bool (reason == EXIT_HLT)) [
        | inl h ↦ rw h refl
        | inr h ↦ elim (cases_Bool (reason == EXIT_VMCALL)) [ inl v ↦ rw (h, v) refl | inr v ↦ rw (h, v, j.trapped reason) refl ]
      ]

  -- and it raises the same event
  pub raise_stands : (reason call : ℕ) (k : Live) (y : System) → StandsFor g k y
      → StandsFor g (with_router g fixed (kernel_raised_by (event_of q reason call) k.router) k) (raised_by g.policy n (way_of (traps_of n) reason call) y)
  raise_stands reason call k y stands =
      elim (cases_Bool (reason == EXIT_HLT)) [
        | inl h ↦ rw h stands
        | inr h ↦ elim (cases_Bool (reason == EXIT_VMCALL)) [
          | inl v ↦ rw (h, v) (called_stands g fixed k y s n q c call j stands)
          | inr v ↦ rw (h, v) (elim (cases_Bool (is_among (traps_of n) reason)) [
            | inl t ↦ rw t (trapped_stands g fixed k y s n q c reason j stands)
            | inr t ↦ rw (t, none_of (entry q.traps reason) (j.trapped reason ∙ t)) stands
          ])
        ]
      ]
