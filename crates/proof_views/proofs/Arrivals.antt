-- What reaches a subject in a tick, beside the turn of its CPU.
use Rattle.std.proofs.Common.{◌≡◌, ℕ, Bool, true, false, cond, List, Option, Some, None, refl, sym, ap, subst, ◌∙◌}
use Rattle.std.specs.Prelude.{slice_get}
use Rattle.std.specs.List.{list_any}
use Rattle.std.specs.Str.{bytes_eq}
use Rattle.std.proofs.lemmas.Bool.{true≢false}
use Rattle.std.proofs.lemmas.Slice.Eq.{bytes_eq-Decides}
use Rattle.subject_model.specs.Frames.{slot_in}
use Rattle.subject_model.specs.Run.{Turned}
use Rattle.subject_model.specs.Slot.{Slot}
use Rattle.policy_lawful.specs.Frames.{frames_of}
use Rattle.policy_lawful.specs.source.Source.{Source}
use Rattle.policy_lawful.specs.source.Subject.{Subject}
use Rattle.subject_model.specs.Alone.{Inbox, MsrValues, OwnState}
use Rattle.subject_model.specs.SubjectState.{SubjectState}
use Rattle.subject_model.specs.System.{System, idle, inbox_of, named, pending, shown_to, state_of, subject_named, system_turn, turn_from, turn_in_slot, turn_of_member, turn_of_subject}
use Rattle.subject_model.specs.TurnLine.{TurnLine}
use Rattle.proof_views.specs.AloneRun.{Arrival, nothing, at_turn, alters, left_there, reaching, reaching_member, reaching_slot, reaching_subject}
use Rattle.proof_views.proofs.Kept.{acted}
use Rattle.proof_views.proofs.OwnLines.{found_so}
use Rattle.proof_views.proofs.OwnStates.{IsOwn}

-- another subject that has a turn
pub record IsOther (p : Source) (s q : Subject) : Type 0 where
  pub member : List ℕ
  pub is : subject_named p member ≡ Some q
  pub apart : q.name ≡ s.name → ⊥

-- by what happens in the turn: nothing, the subject itself acts, or another one, which may write its page or not
module _ (p : Source) (s : Subject) (is : subject_named p s.name ≡ Some s) (tick : ℕ) (y : System) (mine : OwnState) (h : IsOwn s y mine) (R : Arrival → Turned System TurnLine → Type 0)
    (idles : R nothing (idle y)) (idles_there : R (left_there (state_of y s.name)) (idle y))
    (itself : (first : Bool) → R (at_turn (inbox_of p y s first tick)) (acted p s.cpu tick first s mine.state mine.msrs y))
    (sparing : (first : Bool) (q : Subject) → IsOther p s q → list_any (alters s.name) q.monitors ≡ false → (st : SubjectState) (values : MsrValues) → R nothing (acted p s.cpu tick first q st values y))
    (altering : (first : Bool) (q : Subject) → IsOther p s q → (st : SubjectState) (values : MsrValues) → R (left_there (state_of (acted p s.cpu tick first q st values y).state s.name)) (acted p s.cpu tick first q st values y)) where
  by_sparing : (first : Bool) (q : Subject) → IsOther p s q → list_any (alters s.name) q.monitors ≡ false → (st : Option SubjectState) (values : Option MsrValues) → R nothing (turn_from p s.cpu tick first q st values y)
  by_sparing first q other spares (Some st) (Some values) = sparing first q other spares st values
  by_sparing first q other spares (Some st) None = idles
  by_sparing first q other spares None values = idles

  by_altering : (first : Bool) (q : Subject) → IsOther p s q → (st : Option SubjectState) (values : Option MsrValues) → R (left_there (state_of (turn_from p s.cpu tick first q st values y).state s.name)) (turn_from p s.cpu tick first q st values y)
  by_altering first q other (Some st) (Some values) = altering first q other st values
  by_altering first q other (Some st) None = idles_there
  by_altering first q other None values = idles_there

  by_other : (first : Bool) (q : Subject) → IsOther p s q → (b : Bool) → list_any (alters s.name) q.monitors ≡ b
      → R (cond b (left_there (state_of (turn_of_subject p s.cpu tick first (Some q) y).state s.name)) nothing) (turn_of_subject p s.cpu tick first (Some q) y)
  by_other first q other true alters = by_altering first q other (state_of y q.name) (named y.msrs q.name)
  by_other first q other false spares = by_sparing first q other spares (state_of y q.name) (named y.msrs q.name)

  -- by its state, which is on its page
  by_states : (first : Bool) → turn_from p s.cpu tick first s (state_of y s.name) (named y.msrs s.name) y ≡ acted p s.cpu tick first s mine.state mine.msrs y
  by_states first = λ i. turn_from p s.cpu tick first s (h.state i) (h.msrs i) y

  by_name : (first : Bool) (member : List ℕ) (q : Subject) → subject_named p member ≡ Some q → (b : Bool) → bytes_eq q.name s.name ≡ b
      → R (cond b (at_turn (inbox_of p y s first tick)) (cond (list_any (alters s.name) q.monitors) (left_there (state_of (turn_of_subject p s.cpu tick first (Some q) y).state s.name)) nothing)) (turn_of_subject p s.cpu tick first (Some q) y)
  by_name first member q found true same =
      let it : Some q ≡ Some s = sym (found_so p member q found) ∙ ap (subject_named p) ((bytes_eq-Decides q.name s.name).0 same) ∙ is in
      subst (R (at_turn (inbox_of p y s first tick))) (sym (ap (λ o. turn_of_subject p s.cpu tick first o y) it ∙ by_states first)) (itself first)
  by_name first member q found false other =
      let apart : q.name ≡ s.name → ⊥ = λ e. true≢false (sym ((bytes_eq-Decides q.name s.name).1 e) ∙ other) in
      by_other first q (record { member = member; is = found; apart = apart }) (list_any (alters s.name) q.monitors) refl

  by_subject : (first : Bool) (member : List ℕ) (o : Option Subject) → subject_named p member ≡ o → R (reaching_subject p s tick first o y) (turn_of_subject p s.cpu tick first o y)
  by_subject first member None found = idles
  by_subject first member (Some q) found = by_name first member q found (bytes_eq q.name s.name) refl

  by_member : (first : Bool) (o : Option (List ℕ)) → R (reaching_member p s tick first o y) (turn_of_member p s.cpu tick first o y)
  by_member first None = idles
  by_member first (Some member) = by_subject first member (subject_named p member) refl

  by_slot : (o : Option Slot) → R (reaching_slot p s tick o y) (turn_in_slot p s.cpu tick o y)
  by_slot None = idles
  by_slot (Some slot) = by_member slot.first (slice_get y.active slot.group)

  pub arrival_cases : R (reaching p s tick y) (system_turn p s.cpu tick y)
  arrival_cases = by_slot (slot_in (frames_of p s.cpu) y.frame tick)

-- ---- its inbox

module _ (p : Source) (s : Subject) (tick : ℕ) (y : System) (inbox : Inbox) where
  not_left : (o : Option SubjectState) → left_there o ≡ at_turn inbox → ⊥
  not_left None e = absurd (cc (e))
  not_left (Some st) e = absurd (cc (e))

  -- it is that of the system at its turn
  abbrev IsIts : Type 0
  IsIts = (first : Bool) × (inbox_of p y s first tick ≡ inbox)

  of_inbox : (first : Bool) → at_turn (inbox_of p y s first tick) ≡ at_turn inbox → IsIts
  of_inbox first e = (first, cc (e))

  of_subject : (first : Bool) (o : Option Subject) → reaching_subject p s tick first o y ≡ at_turn inbox → IsIts
  of_subject first None e = absurd (cc (e))
  of_subject first (Some q) e =
      elim (bytes_eq q.name s.name)
      as (λ b. cond b (at_turn (inbox_of p y s first tick)) (cond (list_any (alters s.name) q.monitors) (left_there (state_of (turn_of_subject p s.cpu tick first (Some q) y).state s.name)) nothing) ≡ at_turn inbox → IsIts) [
        | true ↦ of_inbox first
        | false ↦ elim (list_any (alters s.name) q.monitors)
            as (λ b. cond b (left_there (state_of (turn_of_subject p s.cpu tick first (Some q) y).state s.name)) nothing ≡ at_turn inbox → IsIts) [
              | true ↦ λ e. absurd (not_left (state_of (turn_of_subject p s.cpu tick first (Some q) y).state s.name) e)
              | false ↦ λ e. absurd (cc (e))
            ]
      ] e

  of_member : (first : Bool) (o : Option (List ℕ)) → reaching_member p s tick first o y ≡ at_turn inbox → IsIts
  of_member first None e = absurd (cc (e))
  of_member first (Some member) e = of_subject first (subject_named p member) e

  of_slot : (o : Option Slot) → reaching_slot p s tick o y ≡ at_turn inbox → IsIts
  of_slot None e = absurd (cc (e))
  of_slot (Some slot) e = of_member slot.first (slice_get y.active slot.group) e

  pub arrived : reaching p s tick y ≡ at_turn inbox → (first : Bool) × (inbox_of p y s first tick ≡ inbox)
  arrived e = of_slot (slot_in (frames_of p s.cpu) y.frame tick) e

  -- what its windows show is in it, and what pends
  pub arrived_things : reaching p s tick y ≡ at_turn inbox → inbox.things ≡ shown_to p s y
  unfolding inbox_of
  arrived_things e = let its = arrived e in sym (ap (λ (b : Inbox). b.things) its.1)

  pub arrived_now : reaching p s tick y ≡ at_turn inbox → inbox.now ≡ pending y.now s.name
  unfolding inbox_of
  arrived_now e = let its = arrived e in sym (ap (λ (b : Inbox). b.now) its.1)

  pub arrived_later : reaching p s tick y ≡ at_turn inbox → inbox.later ≡ pending y.later s.name
  unfolding inbox_of
  arrived_later e = let its = arrived e in sym (ap (λ (b : Inbox). b.later) its.1)
