-- Where no monitor may write it, the state page of a subject is that of a state in each state of a run.
use Rattle.std.proofs.Common.{◌≡◌, ℕ, Bool, List, map, Option, Some, None, ap, subst, ◌∙◌, inl, inr, false, sym, refl}
use Rattle.std.specs.Prelude.{option_map}
use Rattle.subject_model.specs.Step.{Stored}
use Rattle.machine_layout.specs.Memory.{over}
use Rattle.policy_lawful.specs.Contents.{Held}
use Rattle.policy_lawful.specs.Events.{irq_of}
use Rattle.policy_lawful.specs.Thing.{Thing, device_memory, same_thing, state}
use Rattle.policy_lawful.specs.source.Source.{Source}
use Rattle.policy_lawful.specs.source.Subject.{Subject}
use Rattle.subject_model.specs.DeviceRecord.{NamedInput, port_input, memory_input, irq_input, dma_input}
use Rattle.subject_model.specs.StatePage.{page_bytes}
use Rattle.subject_model.specs.States.{started}
use Rattle.subject_model.specs.SubjectState.{SubjectState}
use Rattle.subject_model.specs.Alone.{MsrValues, Things, TurnAnswer, own_of, solo_turn, thing_in}
use Rattle.subject_model.specs.Clock.{takes}
use Rattle.subject_model.specs.System.{System, answered, change_thing, inbox_of, start_of, subject_named, took, with_own, with_store}
use Rattle.subject_model.proofs.DeviceWrites.{page_stays}
use Rattle.subject_model.proofs.KeyLaws.{things_apart, value_changed, value_other}
use Rattle.policy_lawful.proofs.SameThings.{cases_thing}
use Rattle.subject_model.proofs.StartLists.{state_started}
use Rattle.proof_views.specs.Laws.{StatePagesStay}
use Rattle.proof_views.specs.AloneRun.{is_altered}
use Rattle.proof_views.proofs.Unmoved.{by_irq, by_raised}
use Rattle.subject_model.specs.Laws.{StoresElsewhere}
use Rattle.proof_views.proofs.Kept.{run_keeps}
use Rattle.proof_views.proofs.Untouched.{solo_elsewhere}

-- a state, and that the page under this name is that of it
abbrev Paged : List ℕ → Things → Type 0
Paged name things = (st : SubjectState) × (thing_in things (state name) ≡ Some (page_bytes st))

-- ---- the start

started_paged : (p : Source) (files : Held) (s : Subject) → subject_named p s.name ≡ Some s → Paged s.name (start_of p files).things
started_paged p files s is = (started s.entry, state_started p files s is)

module _ (name : List ℕ) where
  -- ---- what changes things

  -- a change of another thing
  other_kept : (x : Thing) (f : List ℕ → List ℕ) (things : Things) → (x ≡ state name → ⊥) → Paged name things → Paged name (change_thing x f things)
  other_kept x f things ne h = (h.0, value_other same_thing x (state name) f things (things_apart x (state name) ne) ∙ h.1)

  -- a state page is written
  own_kept : (other : List ℕ) (st : SubjectState) (things : Things) → Paged name things → Paged name (change_thing (state other) (λ _. page_bytes st) things)
  own_kept other st things h =
      elim (cases_thing (state other) (state name)) as (λ _. Paged name (change_thing (state other) (λ _. page_bytes st) things)) [
        | inl e ↦ (
          st,
          ap (λ (x : Thing). thing_in (change_thing x (λ _. page_bytes st) things) (state name)) e
              ∙ (value_changed same_thing (state name) (λ _. page_bytes st) things ∙ ap (option_map (λ _. page_bytes st)) h.1),
        )
        | inr ne ↦ other_kept (state other) (λ _. page_bytes st) things ne h
      ]

  -- a store elsewhere
  store_kept : (s : Subject) → s.name ≡ name → (o : Option (Stored Thing)) (y : System) → StoresElsewhere s o → Paged name y.things → Paged name (with_store o y).things
  store_kept s same None y none h = h
  store_kept s same (Some w) y none h =
      other_kept w.target (λ old. over old w.offset w.bytes) y.things (subst (λ n. w.target ≡ state n → ⊥) same none) h

  -- ---- inputs

  input_kept : (p : Source) (i : NamedInput) (y : System) → Paged name y.things → Paged name (takes p i y).things
  input_kept p (port_input device port value) y h = h
  input_kept p (memory_input device memory offset bytes) y h =
      other_kept (device_memory device memory) (λ old. over old offset bytes) y.things (λ e. cc (e)) h
  input_kept p (irq_input device irq) y h = subst (Paged name) (sym (by_irq (irq_of p device irq) y).things) h
  input_kept p (dma_input device address bytes) y h = (h.0, page_stays p device address bytes y name ∙ h.1)

  -- ---- a turn

  answer_kept : (p : Source) (s q : Subject) → s.name ≡ name → (a : TurnAnswer) (y : System) → StoresElsewhere s a.stored → Paged name y.things → Paged name (answered p q a y).things
  answer_kept p s q same a y none h =
      let own : System = with_own q.name a.state a.msr y in
      let stored : System = took q.name a.taken (with_store a.stored own) in
      subst (Paged name) (sym (by_raised p q a.raised stored).things) (store_kept s same a.stored own none (own_kept q.name a.state y.things h))

solo_kept : (p : Source) (s : Subject) → is_altered p s ≡ false → (first : Bool) (tick : ℕ) (q : Subject) (member : List ℕ) → subject_named p member ≡ Some q → (st : SubjectState) (values : MsrValues) (y : System) → Paged s.name y.things
    → Paged s.name (answered p q (solo_turn (own_of p q) (record { state = st; msrs = values }) (inbox_of p y q first tick)) y).things
solo_kept p s none first tick q member is st values y h =
    let turn : TurnAnswer = solo_turn (own_of p q) (record { state = st; msrs = values }) (inbox_of p y q first tick) in
    answer_kept s.name p s q refl turn y (solo_elsewhere p s none q member is (record { state = st; msrs = values }) (inbox_of p y q first tick)) h

pub pages_stay : StatePagesStay
pages_stay p files inputs order n s none is =
    let at = run_keeps p (λ y. Paged s.name y.things) (λ tick y h. h) (input_kept s.name p) (solo_kept p s none) inputs order n (start_of p files) (started_paged p files s is) in
    record { state = at.0; is = at.1 }
