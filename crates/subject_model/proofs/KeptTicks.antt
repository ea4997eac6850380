-- A subject that does nothing keeps its ticks.
use Rattle.std.proofs.Common.{◌≡◌, ℕ, Bool, true, List, [], ◌∷◌, Some, None, refl, ap, ◌∙◌, inl, inr}
use Rattle.std.specs.Str.{bytes_eq}
use Rattle.std.proofs.lemmas.Bool.{cases_Bool}
use Rattle.machine_layout.specs.Pending.{without}
use Rattle.policy_lawful.specs.source.Source.{Source}
use Rattle.policy_lawful.specs.source.Subject.{Subject}
use Rattle.guest_isa.specs.state.SubjectState.{SubjectState}
use Rattle.subject_model.specs.Alone.{own_of, solo_turn, vector_for, waits}
use Rattle.subject_model.specs.ByKey.{change_of}
use Rattle.subject_model.specs.Laws.{IsTurnOf, with_page}
use Rattle.subject_model.specs.System.{System, answered, inbox_of, named, system_turn, turn_answered, turn_from, turn_in_slot, turn_of_member, turn_of_subject, with_write}
use Rattle.subject_model.proofs.SystemLaws.{halted_idle, stopped_idle}

-- a change that changes no value changes nothing
unchanged : {K V : Type 0} (same : K → K → Bool) (k : K) (f : V → V) → ((v : V) → f v ≡ v) → (es : List (K × V)) → change_of same k f es ≡ es
unchanged same k f is [] = refl
unchanged same k f is (e ∷ es) =
    elim (cases_Bool (same e.0 k)) [
      | inl h ↦ rw h (ap (λ v. (e.0, v) ∷ es) (is e.1))
      | inr n ↦ rw n (ap (λ xs. e ∷ xs) (unchanged same k f is es))
    ]

-- the answer of a turn in which nothing happens
waited : (p : Source) (s : Subject) (st : SubjectState) (y : System) → answered p s (waits st) y ≡ with_page s.name st y
waited p s st y =
    λ i. record (with_page s.name st y) {
      msrs = unchanged bytes_eq s.name (with_write None) (λ v. refl) y.msrs i;
      now = unchanged bytes_eq s.name (without None) (λ v. refl) y.now i;
      later = unchanged bytes_eq s.name (without None) (λ v. refl) y.later i;
    }

module _ (p : Source) (cpu tick : ℕ) (y : System) (s : Subject) (first : Bool) (st : SubjectState) (h : IsTurnOf p cpu tick y s first st) where
  keeps : solo_turn (own_of p s) (record { state = st; msrs = h.values }) (inbox_of p y s h.slot.first tick) ≡ waits st → system_turn p cpu tick y ≡ record { state = with_page s.name st y; line = None }
  keeps idle =
      ap (λ o. turn_in_slot p cpu tick o y) h.in_slot
      ∙ (ap (λ o. turn_of_member p cpu tick h.slot.first o y) h.active
      ∙ (ap (λ o. turn_of_subject p cpu tick h.slot.first o y) h.is
      ∙ (ap (λ o. turn_from p cpu tick h.slot.first s o (named y.msrs s.name) y) h.stands
      ∙ (ap (λ o. turn_from p cpu tick h.slot.first s (Some st) o y) h.has
      ∙ (ap (λ a. turn_answered p cpu tick s st.pc a y) idle
      ∙ ap (λ z. record { state = z; line = None }) (waited p s st y))))))

  pub stopped_keeps : st.stopped ≡ true → system_turn p cpu tick y ≡ record { state = with_page s.name st y; line = None }
  stopped_keeps stopped = keeps (stopped_idle (own_of p s) (record { state = st; msrs = h.values }) (inbox_of p y s h.slot.first tick) stopped)

  pub halted_keeps : st.halted ≡ true → vector_for st (inbox_of p y s first tick) ≡ None → system_turn p cpu tick y ≡ record { state = with_page s.name st y; line = None }
  halted_keeps halted none =
      keeps (halted_idle (own_of p s) (record { state = st; msrs = h.values }) (inbox_of p y s h.slot.first tick) halted (ap (λ b. vector_for st (inbox_of p y s b tick)) h.begins ∙ none))
