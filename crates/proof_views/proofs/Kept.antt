-- What inputs and turns keep, each state of a run has.
use Rattle.std.proofs.Common.{◌≡◌, ℕ, zero, suc, Bool, List, [], ◌∷◌, Option, Some, None, refl}
use Rattle.std.specs.Prelude.{slice_get}
use Rattle.subject_model.specs.Frames.{slot_in}
use Rattle.subject_model.specs.Slot.{Slot}
use Rattle.policy_lawful.specs.Frames.{frames_of}
use Rattle.policy_lawful.specs.source.Source.{Source}
use Rattle.policy_lawful.specs.source.Subject.{Subject}
use Rattle.subject_model.specs.DeviceRecord.{NamedInput}
use Rattle.subject_model.specs.SubjectState.{SubjectState}
use Rattle.subject_model.specs.Run.{Turned, all_taken, begun, run_to, tick_ran, turns}
use Rattle.subject_model.specs.TurnLine.{TurnLine}
use Rattle.proof_views.specs.Members.{HasTurn}
use Rattle.subject_model.specs.Alone.{MsrValues, own_of, solo_turn}
use Rattle.subject_model.specs.Clock.{begins, system, takes}
use Rattle.subject_model.specs.System.{System, answered, idle, inbox_of, named, state_of, subject_named, system_turn, turn_answered, turn_from, turn_in_slot, turn_of_member, turn_of_subject}

-- ---- a turn

-- the turn of this subject in a slot, by its own state
abbrev pub acted : Source → ℕ → ℕ → Bool → Subject → SubjectState → MsrValues → System → Turned System TurnLine
acted p cpu tick first q st values y =
    turn_answered p cpu tick q st.pc (solo_turn (own_of p q) (record { state = st; msrs = values }) (inbox_of p y q first tick)) y

-- what holds where nothing happens, and where a subject has acted, holds after a turn
module _ (p : Source) (cpu tick : ℕ) (y : System) (R : Turned System TurnLine → Type 0) (nothing : R (idle y))
    (acts : (slot : Slot) (member : List ℕ) (q : Subject) (st : SubjectState) (values : MsrValues) → HasTurn p cpu tick y slot member q → R (acted p cpu tick slot.first q st values y)) where
  by_own : (slot : Slot) (member : List ℕ) (q : Subject) → HasTurn p cpu tick y slot member q → (st : Option SubjectState) (values : Option MsrValues) → R (turn_from p cpu tick slot.first q st values y)
  by_own slot member q has (Some st) (Some values) = acts slot member q st values has
  by_own slot member q has (Some st) None = nothing
  by_own slot member q has None values = nothing

  by_subject : (slot : Slot) (member : List ℕ) → slot_in (frames_of p cpu) y.frame tick ≡ Some slot → slice_get y.active slot.group ≡ Some member → (o : Option Subject) → subject_named p member ≡ o → R (turn_of_subject p cpu tick slot.first o y)
  by_subject slot member in_slot active None is = nothing
  by_subject slot member in_slot active (Some q) is =
      by_own slot member q (record { in_slot = in_slot; active = active; is = is }) (state_of y q.name) (named y.msrs q.name)

  by_member : (slot : Slot) → slot_in (frames_of p cpu) y.frame tick ≡ Some slot → (o : Option (List ℕ)) → slice_get y.active slot.group ≡ o → R (turn_of_member p cpu tick slot.first o y)
  by_member slot in_slot None active = nothing
  by_member slot in_slot (Some member) active = by_subject slot member in_slot active (subject_named p member) refl

  by_slot : (o : Option Slot) → slot_in (frames_of p cpu) y.frame tick ≡ o → R (turn_in_slot p cpu tick o y)
  by_slot None in_slot = nothing
  by_slot (Some slot) in_slot = by_member slot in_slot (slice_get y.active slot.group) refl

  pub turn_cases : R (system_turn p cpu tick y)
  turn_cases = by_slot (slot_in (frames_of p cpu) y.frame tick) refl

-- ---- a run

module _ (p : Source) (P : System → Type 0)
    (begins_keep : (tick : ℕ) (y : System) → P y → P (begins p tick y))
    (input_keeps : (i : NamedInput) (y : System) → P y → P (takes p i y))
    (answer_keeps : (first : Bool) (tick : ℕ) (q : Subject) (member : List ℕ) → subject_named p member ≡ Some q → (st : SubjectState) (values : MsrValues) (y : System) → P y → P (answered p q (solo_turn (own_of p q) (record { state = st; msrs = values }) (inbox_of p y q first tick)) y)) where
  pub turn_keeps : (cpu tick : ℕ) (y : System) → P y → P (system_turn p cpu tick y).state
  turn_keeps cpu tick y h =
      turn_cases p cpu tick y (λ t. P t.state) h (λ slot member q st values has. answer_keeps slot.first tick q member has.is st values y h)

  inputs_keep : (is : List NamedInput) (y : System) → P y → P (all_taken (system p) is y)
  inputs_keep [] y h = h
  inputs_keep (i ∷ is) y h = inputs_keep is (takes p i y) (input_keeps i y h)

  pub begun_keeps : (tick : ℕ) (is : List NamedInput) (y : System) → P y → P (begun (system p) tick is y)
  begun_keeps tick is y h = inputs_keep is (begins p tick y) (begins_keep tick y h)

  pub turns_keep : (tick : ℕ) (cpus : List ℕ) (y : System) → P y → P (turns (system p) tick cpus y).state
  turns_keep tick [] y h = h
  turns_keep tick (cpu ∷ cpus) y h = turns_keep tick cpus (system_turn p cpu tick y).state (turn_keeps cpu tick y h)

  tick_keeps : (tick : ℕ) (is : List NamedInput) (order : List ℕ) (y : System) → P y → P (tick_ran (system p) tick is order y).state
  tick_keeps tick is order y h = turns_keep tick order (begun (system p) tick is y) (begun_keeps tick is y h)

  pub run_keeps : (inputs : ℕ → List NamedInput) (order : ℕ → List ℕ) (n : ℕ) (y : System) → P y → P (run_to (system p) inputs order n y).state
  run_keeps inputs order zero y h = h
  run_keeps inputs order (suc n) y h =
      tick_keeps n (inputs n) (order n) (run_to (system p) inputs order n y).state (run_keeps inputs order n y h)
