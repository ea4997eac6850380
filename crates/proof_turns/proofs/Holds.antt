-- What a subject has for itself, where it is kept: what keeps it.
use Rattle.std.proofs.Common.{◌≡◌, ℕ, false, Option, Some, None, List, refl, sym, ap, ◌∙◌, subst, inl, inr}
use Rattle.std.specs.Prelude.{option_map, slice_get, is_some}
use Rattle.std.proofs.lemmas.Bool.{cases_eq, ne_eqb}
use Rattle.subject_model.specs.Alone.{MsrValues, Things, thing_in}
use Rattle.subject_model.specs.System.{Named, named}
use Rattle.image_pack.specs.declared.parts.SubjectPart.{SubjectPart}
use Rattle.muen_num.specs.ListChange.{change_at}
use Rattle.muen_num.proofs.ChangeLaws.{element_changes, others_stay}
use Rattle.muen_num.proofs.Options.{is_some-option_map, one_value}
use Rattle.policy_lawful.specs.Thing.{state}
use Rattle.policy_lawful.specs.source.Subject.{Subject}
use Rattle.vmx_machine.specs.declared.control.Control.{Control}
use Rattle.vmx_machine.specs.declared.cpu.Cpu.{Cpu}
use Rattle.proof_turns.specs.Ground.{Ground, Joined}
use Rattle.proof_turns.specs.Held.{Held, IsOwn, held_by, is_subject_entered, on_pages}

pub not_some : {A : Type 0} (a : A) → None ≡ Some a → ⊥
not_some a e = cc (e)

-- an element that is found after a change was there before, changed or as it is
pub found_before : {X P : Type 0} (i : ℕ) (f : X → X) (xs : List X) (j : ℕ) (x : X) → slice_get (change_at i f xs) j ≡ Some x
    → ((w : X) → j ≡ i → slice_get xs j ≡ Some w → f w ≡ x → P) → ((j ≡ i → ⊥) → slice_get xs j ≡ Some x → P) → P
found_before i f xs j x e same other =
    elim (cases_eq j i) [
      | inl h ↦
          mapped (slice_get xs j) (sym (ap (λ k. slice_get (change_at i f xs) k) h ∙ (element_changes i f xs ∙ ap (λ k. option_map f (slice_get xs k)) (sym h))) ∙ e)
          (λ w at is. same w h at is)
      | inr ne ↦ other ne (sym (others_stay i j f xs ne) ∙ e)
    ]
  where
    mapped : {Q : Type 0} (o : Option _) → option_map f o ≡ Some x → ((w : _) → o ≡ Some w → f w ≡ x → Q) → Q
    mapped None h k = absurd (cc (h))
    mapped (Some w) h k = k w refl (cc (h))

pub some_changed : {X : Type 0} (i : ℕ) (f : X → X) (xs : List X) (j : ℕ) → is_some (slice_get (change_at i f xs) j) ≡ is_some (slice_get xs j)
some_changed i f xs j =
    elim (cases_eq j i) [
      | inl e ↦ rw e (ap is_some (element_changes i f xs) ∙ is_some-option_map f (slice_get xs i))
      | inr ne ↦ ap is_some (others_stay i j f xs ne)
    ]

-- ---- by who is on the CPU

pub not_on : (s t : ℕ) (who : Option ℕ) → who ≡ Some t → (s ≡ t → ⊥) → is_subject_entered s who ≡ false
not_on s t who e ne = rw (e, ne_eqb t s (λ i. ne (sym i))) refl

pub held_off : (s msrs : ℕ) (page area : Option (List ℕ)) (on : Option (Option ℕ)) (u : Option Cpu) → ((who : Option ℕ) → on ≡ Some who → is_subject_entered s who ≡ false)
    → held_by s msrs page area on u ≡ on_pages msrs page area
held_off s msrs page area None u h = refl
held_off s msrs page area (Some who) None h = refl
held_off s msrs page area (Some who) (Some u) h = rw (h who refl) refl

-- a CPU on which the subject isn't, before or after
pub held_apart : (f : Cpu → Cpu) (h : Option ℕ → Option ℕ) (s msrs : ℕ) (page area : Option (List ℕ)) (on : List (Option ℕ)) (cpus : List Cpu) (cpu its : ℕ)
    → ((who : Option ℕ) → slice_get on cpu ≡ Some who → (is_subject_entered s who ≡ false) × (is_subject_entered s (h who) ≡ false))
    → held_by s msrs page area (slice_get (change_at cpu h on) its) (slice_get (change_at cpu f cpus) its) ≡ held_by s msrs page area (slice_get on its) (slice_get cpus its)
held_apart f h s msrs page area on cpus cpu its away =
    elim (cases_eq its cpu) [
      | inl e ↦
          held_off s msrs page area (slice_get (change_at cpu h on) its) (slice_get (change_at cpu f cpus) its)
          (λ who at. found_before cpu h on its who at
          (λ w i wat is. subst (λ x. is_subject_entered s x ≡ false) is (away w (ap (slice_get on) (sym i) ∙ wat)).1)
          (λ ne wat. absurd (ne e)))
          ∙ sym (held_off s msrs page area (slice_get on its) (slice_get cpus its) (λ who at. (away who (ap (slice_get on) (sym e) ∙ at)).0))
      | inr ne ↦ rw (others_stay cpu its h on ne, others_stay cpu its f cpus ne) refl
    ]

-- .. where the kernel's own list stays
pub held_apart_on : (f : Cpu → Cpu) (s msrs : ℕ) (page area : Option (List ℕ)) (on : List (Option ℕ)) (cpus : List Cpu) (cpu its : ℕ)
    → ((who : Option ℕ) → slice_get on cpu ≡ Some who → is_subject_entered s who ≡ false)
    → held_by s msrs page area (slice_get on its) (slice_get (change_at cpu f cpus) its) ≡ held_by s msrs page area (slice_get on its) (slice_get cpus its)
held_apart_on f s msrs page area on cpus cpu its away =
    elim (cases_eq its cpu) [
      | inl e ↦
          held_off s msrs page area (slice_get on its) (slice_get (change_at cpu f cpus) its) (λ who at. away who (ap (slice_get on) (sym e) ∙ at))
          ∙ sym (held_off s msrs page area (slice_get on its) (slice_get cpus its) (λ who at. away who (ap (slice_get on) (sym e) ∙ at)))
      | inr ne ↦ rw (others_stay cpu its f cpus ne) refl
    ]

pub held_same : (s msrs : ℕ) (page area page' area' : Option (List ℕ)) (on : Option (Option ℕ)) (u : Option Cpu) → page' ≡ page → area' ≡ area
    → held_by s msrs page' area' on u ≡ held_by s msrs page area on u
held_same s msrs page area page' area' on u e f = rw (e, f) refl

pub own_same : (n : Subject) (things later : Things) (msrs after : Named MsrValues) (h i : Held) → thing_in later (state n.name) ≡ thing_in things (state n.name)
    → named after n.name ≡ named msrs n.name → i ≡ h → IsOwn n things msrs h → IsOwn n later after i
own_same n things later msrs after h i e f is o =
    record {
      page = e ∙ (o.page ∙ sym (ap (λ (x : Held). x.page) is));
      values = record { values = o.values.values; at = f ∙ o.values.at; same = λ j hj. ap (λ (x : Held). x.msr j) is ∙ o.values.same j hj };
    }

module _ (g : Ground) where
  -- what holds of one subject, and of each other, holds of each
  pub each_subject : (P : ℕ → Subject → SubjectPart → Control → Type 0) (t : ℕ) (m : Subject) (r : SubjectPart) (d : Control) → Joined g t m r d → P t m r d
      → ((s : ℕ) (n : Subject) (q : SubjectPart) (c : Control) → Joined g s n q c → (s ≡ t → ⊥) → P s n q c)
      → (s : ℕ) (n : Subject) (q : SubjectPart) (c : Control) → Joined g s n q c → P s n q c
  each_subject P t m r d i here other s n q c j =
      elim (cases_eq s t) [
        | inl e ↦
            let em = one_value (slice_get g.policy.subjects s) m n (ap (slice_get g.policy.subjects) e ∙ i.subject) j.subject in
            let er = one_value (slice_get g.setup.subjects s) r q (ap (slice_get g.setup.subjects) e ∙ i.part) j.part in
            let ed = one_value (slice_get g.setup.controls s) d c (ap (slice_get g.setup.controls) e ∙ i.control) j.control in
            subst (λ x. P s n q x) ed (subst (λ x. P s n x d) er (subst (λ x. P s x r d) em (subst (λ x. P x m r d) (sym e) here)))
        | inr ne ↦ other s n q c j ne
      ]
