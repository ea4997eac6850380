-- Who has a tick acts in it if it can.
use Rattle.std.proofs.Common.{◌≡◌, ℕ, ◌<◌, Bool, true, false, cond, List, min, Option, Some, None, refl, sym, ap, ◌∙◌, inl, inr, arith}
use Rattle.std.specs.Prelude.{◌==◌, ◌&&◌, ◌||◌, is_some, not, option_and_then, option_map, slice_get}
use Rattle.std.specs.List.{list_any}
use Rattle.std.specs.Option.{option_map_or}
use Rattle.std.specs.Str.{bytes_eq}
use Rattle.std.proofs.lemmas.Bool.{cases_Bool, eqb-true}
use Rattle.std.proofs.lemmas.Option.{slice_get-map, slice_get_within}
use Rattle.std.proofs.lemmas.List.{length-map}
use Rattle.std.proofs.lemmas.List.Elements.{recursion_from_All}
use Rattle.std.proofs.lemmas.Slice.Eq.{bytes_eq-Decides}
use Rattle.muen_num.proofs.NumbersBelow.{length_numbers, number_at}
use Rattle.muen_num.specs.Range.{numbers_below}
use Rattle.policy_flows.specs.Flows.{IsClosed}
use Rattle.muen_num.proofs.Lookups.{same_self}
use Rattle.policy_lawful.specs.Contents.{Held}
use Rattle.policy_lawful.specs.Frames.{frames_of, group_of}
use Rattle.policy_lawful.specs.Lawful.{IsLawful}
use Rattle.policy_lawful.specs.source.Source.{Source}
use Rattle.policy_lawful.specs.source.Subject.{Subject}
use Rattle.subject_model.specs.Alone.{Inbox, Own, OwnState, TurnAnswer, own_of, solo_turn, stepped, alone, unless_delivered, vector_for, waits}
use Rattle.subject_model.specs.DeviceRecord.{DeviceRecord}
use Rattle.subject_model.specs.Frames.{slot_in}
use Rattle.subject_model.specs.Law.{NamesEachOnce}
use Rattle.subject_model.specs.Slot.{Slot}
use Rattle.subject_model.specs.Step.{step}
use Rattle.subject_model.specs.SubjectState.{SubjectState}
use Rattle.subject_model.specs.TurnAction.{TurnAction}
use Rattle.subject_model.specs.System.{System, inbox_of, line_at, state_of, subject_named, turn_of_subject}
use Rattle.subject_model.specs.View.{Seen, ran_through, seen_in, view_of}
use Rattle.proof_views.specs.Laws.{IsLawfulRun}
use Rattle.proof_views.specs.AloneRun.{alone_in, alone_to, alters, at_turn, left_there, nothing, own_part, reaching, reaching_at, reaching_member, reaching_slot, reaching_subject, says_in, started_alone}
use Rattle.proof_views.proofs.AloneViews.{own_here, views_alone}
use Rattle.proof_isolation.specs.Agree.{own_slot}
use Rattle.proof_isolation.specs.Alike.{is_active}
use Rattle.proof_isolation.proofs.TwoSystems.{before_turn, same_views}
use Rattle.proof_reactive.specs.Acting.{ActsByMembersAlone, ActsIfItCan, HasTicksByMembersAlone, at_turn_of, can_act}

-- ---- a subject alone

awake : (st : SubjectState) (o : Option ℕ) (a : TurnAnswer) → is_some a.what ≡ true → is_some (unless_delivered st o (cond st.halted (waits st) a)).what ≡ (not st.halted || is_some o)
awake st (Some v) a says = elim (cases_Bool st.halted) as (λ _. true ≡ (not st.halted || true)) [ inl e ↦ rw e | inr e ↦ rw e ]
awake st None a says =
    elim st.halted as (λ b. is_some (cond b (waits st) a).what ≡ (not b || false)) [ true ↦ refl | false ↦ says ]

-- its turn has a line just if it can act
says_if_it_can : (own : Own) (mine : OwnState) (inbox : Inbox) → is_some (solo_turn own mine inbox).what ≡ can_act mine.state inbox
unfolding solo_turn
says_if_it_can own mine inbox =
    let st = mine.state in
    let a = stepped own.traps (step (alone own mine.msrs inbox) st) in
    elim st.stopped as (λ b. is_some (cond b (waits st) (unless_delivered st (vector_for st inbox) (cond st.halted (waits st) a))).what ≡ (not b && (not st.halted || is_some (vector_for st inbox)))) [
      | true ↦ refl
      | false ↦ awake st (vector_for st inbox) a refl
    ]

-- ---- whose tick it is

-- a group's slot, by the subject's
record Slots (p : Source) (s : Subject) (y : System) (tick : ℕ) (first : Bool) : Type 0 where
  slot : Slot
  is : slot_in (frames_of p s.cpu) y.frame tick ≡ Some slot
  begins : slot.first ≡ first
  group : group_of p s.name ≡ Some slot.group

its_group : (o : Option ℕ) (slot : Slot) (first : Bool) → cond (option_map_or (λ k. k == slot.group) o false) (Some slot.first) None ≡ Some first → (slot.first ≡ first) × (o ≡ Some slot.group)
its_group None slot first h = absurd (cc (h))
its_group (Some k) slot first h =
    elim (k == slot.group) as (λ b. (k == slot.group) ≡ b → cond b (Some slot.first) None ≡ Some first → (slot.first ≡ first) × (Some k ≡ Some slot.group)) [
      | true ↦ λ e same. (cc (same), ap Some (eqb-true k slot.group e))
      | false ↦ λ e none. absurd (cc (none))
    ] refl h

slots_from : (p : Source) (s : Subject) (y : System) (tick : ℕ) (first : Bool) (o : Option Slot) → slot_in (frames_of p s.cpu) y.frame tick ≡ o
    → option_and_then (λ slot. cond (option_map_or (λ k. k == slot.group) (group_of p s.name) false) (Some slot.first) None) o ≡ Some first → Slots p s y tick first
slots_from p s y tick first None is h = absurd (cc (h))
slots_from p s y tick first (Some slot) is h =
    let its = its_group (group_of p s.name) slot first h in
    record { slot = slot; is = is; begins = its.0; group = its.1 }

named_active : (o : Option (List ℕ)) (name : List ℕ) → option_map_or (λ member. bytes_eq member name) o false ≡ true → o ≡ Some name
named_active None name h = absurd (cc (h))
named_active (Some member) name h = ap Some ((bytes_eq-Decides member name).0 h)

-- what reaches who has the tick is its inbox
module _ (p : Source) (s : Subject) (is : subject_named p s.name ≡ Some s) (y : System) (tick : ℕ) (first : Bool) (in_slot : own_slot p s y.frame tick ≡ Some first) (active : is_active p y s.name ≡ true) where
  reaches_it : reaching p s tick y ≡ at_turn (inbox_of p y s first tick)
  reaches_it =
      let at = slots_from p s y tick first (slot_in (frames_of p s.cpu) y.frame tick) refl in_slot in
      let member : slice_get y.active at.slot.group ≡ Some s.name =
      named_active (slice_get y.active at.slot.group) s.name (ap (λ o. option_map_or (λ member. bytes_eq member s.name) (option_and_then (λ g. slice_get y.active g) o) false) (sym at.group) ∙ active) in
      ap (λ o. reaching_slot p s tick o y) at.is
      ∙ ap (λ o. reaching_member p s tick at.slot.first o y) member
      ∙ ap (λ o. reaching_subject p s tick at.slot.first o y) is
      ∙ ap (λ b. cond b (at_turn (inbox_of p y s at.slot.first tick)) (cond (list_any (alters s.name) s.monitors) (left_there (state_of (turn_of_subject p s.cpu tick at.slot.first (Some s) y).state s.name)) nothing)) (same_self s.name)
      ∙ ap (λ b. at_turn (inbox_of p y s b tick)) at.begins

line_there : (tick cpu pc : ℕ) (name : List ℕ) (o : Option TurnAction) → is_some (option_map (line_at tick cpu name pc) o) ≡ is_some o
line_there tick cpu pc name None = refl
line_there tick cpu pc name (Some w) = refl

module _ (p : Source) (files : Held) (r : DeviceRecord) (s : Subject) (run : IsLawfulRun p r) (is : subject_named p s.name ≡ Some s) where
  -- its view of a tick, by what reaches it
  its_view : (n : ℕ) (v : Seen) → slice_get (view_of p files r s) n ≡ Some v → own_part v ≡ alone_in (own_of p s) (reaching_at p files r s n) n (alone_to (own_of p s) (reaching_at p files r s) n (started_alone s))
  unfolding view_of
  its_view n v at =
      let alone_at = λ (tick : ℕ). alone_in (own_of p s) (reaching_at p files r s tick) tick (alone_to (own_of p s) (reaching_at p files r s) tick (started_alone s)) in
      let views = view_of p files r s in
      let many = length-map (numbers_below r.end) (λ tick. seen_in p s (ran_through p files r s.cpu tick)) in
      let within = slice_get_within views n v at in
      let long = length_numbers r.end in
      let low : n < r.end = omega (arith, many, within, long) in
      let both : Some (own_part v) ≡ Some (alone_at n) =
      sym (ap (option_map own_part) at) ∙ sym (slice_get-map own_part views n) ∙ ap (λ vs. slice_get vs n) (views_alone p files r s run is)
      ∙ slice_get-map alone_at (numbers_below r.end) n ∙ ap (option_map alone_at) (number_at r.end n low) in
      cc (both)

  pub acts_if_it_can : ActsIfItCan p files r s
  unfolding own_of
  acts_if_it_can n first st v has stands at =
      let y = at_turn_of p files r s.cpu n in
      let mine = alone_to (own_of p s) (reaching_at p files r s) n (started_alone s) in
      let inbox = inbox_of p y s first n in
      let view = its_view n v at in
      let arrives : reaching_at p files r s n ≡ at_turn inbox = reaches_it p s is y n first has.in_slot has.active in
      let here = own_here p s is run.policy files r (recursion_from_All (λ (e : ℕ × List ℕ). NamesEachOnce p.processor.logical_cpus e.1) r.orders run.orders) n in
      let both : Some mine.state ≡ Some st = sym here.state ∙ stands in
      let same : mine.state ≡ st = cc (both) in
      ap (λ o. is_some o.line) view
      ∙ line_there n s.cpu mine.state.pc s.name (says_in (own_of p s) (reaching_at p files r s n) mine)
      ∙ ap (λ a. is_some (says_in (own_of p s) a mine)) arrives
      ∙ says_if_it_can (own_of p s) mine inbox
      ∙ ap (λ t. can_act t inbox) same

pub acts_alike : (p : Source) (members : List (List ℕ)) → IsLawful p → IsClosed p members → ActsByMembersAlone p members
acts_alike p members lawful closed q f g r t lawful_too closed_too agree s w member found is n a b at at' =
    ap is_some (same_views p members lawful closed q f g r t lawful_too closed_too agree s w member found is n a b at at').line

pub ticks_alike : (p : Source) (members : List (List ℕ)) → IsLawful p → IsClosed p members → HasTicksByMembersAlone p members
unfolding own_of
ticks_alike p members lawful closed q f g r t lawful_too closed_too agree s w member found is n low =
    let same = before_turn p q lawful lawful_too members closed closed_too f g r t (min r.end t.end) agree s member found n low w is in
    record {
      in_slot = same.slot;
      active = (same.alike s member found).active ∙ ap (is_active q (at_turn_of q g t w.cpu n)) (ap (λ o. o.name) (agree.each s w member found is).own);
    }
