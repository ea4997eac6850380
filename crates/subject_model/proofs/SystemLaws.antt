-- Laws of the abstract system.
use Rattle.std.proofs.Common.{◌≡◌, ℕ, ◌+◌, cond, map, Bool, true, false, ◌||◌, List, Option, Some, None, refl, sym, ap, ◌∙◌, subst}
use Rattle.std.specs.Prelude.{option_map, slice_get}
use Rattle.std.specs.Str.{bytes_eq}
use Rattle.expand_grants.specs.Resources.{are_granted}
use Rattle.guest_isa.specs.Step.{Stored, World, step}
use Rattle.guest_isa.specs.declared.reach.Reach.TheVariants.{Reached}
use Rattle.machine_layout.specs.Memory.{le_number}
use Rattle.muen_num.specs.Range.{numbers_below}
use Rattle.muen_num.proofs.ChangeLaws.{element_changes}
use Rattle.machine_layout.specs.Pending.{with_vector}
use Rattle.muen_num.specs.declared.mode.EventMode.{EventMode}
use Rattle.muen_num.specs.declared.mode.EventMode.TheVariants.{Asap, Async, Own as OwnMode, Switch}
use Rattle.policy_lawful.specs.Events.{Raised, Target, event_of}
use Rattle.policy_lawful.specs.Thing.{Thing, state, same_thing}
use Rattle.policy_lawful.specs.Windows.{Access, access_of, byte, violation}
use Rattle.policy_lawful.specs.source.Source.{Source}
use Rattle.policy_lawful.specs.source.SourceWay.{SourceWay}
use Rattle.policy_lawful.specs.source.Subject.{Subject}
use Rattle.guest_isa.specs.StatePage.{page_bytes}
use Rattle.policy_lawful.specs.Frames.{group_of}
use Rattle.subject_model.specs.Alone.{Inbox, MsrValues, Own, OwnState, TurnAnswer, alone, delivered, input_byte, input_of, reach_by, solo_turn, stepped, thing_in, unless_delivered, vector_for, waits}
use Rattle.subject_model.specs.Laws.{KeepsOthers, StoresElsewhere}
use Rattle.subject_model.specs.Laws.{GrantedPortsAloneAreRead, HaltedWaits, StoppedDoesNothing, TurnSeesItsInboxAlone, WindowsAloneAreReached}
use Rattle.subject_model.specs.Laws.{EventsReachTheirTargetAlone, HandoversCountFromTheNextTurn, OtherMsrsStay, OwnMsrsAreWritten, ThePageIsThatOfTheState}
use Rattle.subject_model.specs.System.{System, happens, happens_as, pends_now, raised_by, took, with_active, with_own, with_store, with_write}
use Rattle.subject_model.proofs.KeyLaws.{names_apart, things_apart, value_changed, value_other}

pub stopped_idle : StoppedDoesNothing
unfolding solo_turn
stopped_idle own mine inbox h =
    ap (λ b. cond b (waits mine.state) (unless_delivered mine.state (vector_for mine.state inbox) (cond mine.state.halted (waits mine.state) (stepped own.traps (step (alone own mine.msrs inbox) mine.state))))) h

by_stop : (own : Own) (mine : OwnState) (inbox : Inbox) (stopped : Bool) → mine.state.halted ≡ true → vector_for mine.state inbox ≡ None → cond stopped (waits mine.state) (unless_delivered mine.state (vector_for mine.state inbox) (cond mine.state.halted (waits mine.state) (stepped own.traps (step (alone own mine.msrs inbox) mine.state)))) ≡ waits mine.state
by_stop own mine inbox true halted none = refl
by_stop own mine inbox false halted none =
    ap (λ o. unless_delivered mine.state o (cond mine.state.halted (waits mine.state) (stepped own.traps (step (alone own mine.msrs inbox) mine.state)))) none
    ∙ ap (λ b. cond b (waits mine.state) (stepped own.traps (step (alone own mine.msrs inbox) mine.state))) halted

pub halted_idle : HaltedWaits
unfolding solo_turn
halted_idle own mine inbox halted none = by_stop own mine inbox mine.state.stopped halted none

-- ---- an inbox by its parts

-- the world of a subject by the parts of its inbox
abbrev world_by : Own → MsrValues → Inbox → (Thing → List ℕ) → List (ℕ × ℕ) → ℕ → World Thing
world_by own values inbox bytes ports tick =
    record (alone own values inbox) { bytes = bytes; input = input_of own.ports ports; tick = tick }

abbrev turn_by : Own → OwnState → Inbox → (Thing → List ℕ) → List (ℕ × ℕ) → List ℕ → List ℕ → Bool → ℕ → TurnAnswer
turn_by own mine inbox bytes ports now later first tick =
    cond mine.state.stopped (waits mine.state)
    (unless_delivered mine.state (cond mine.state.interrupts (delivered now later (first || mine.state.exited)) None)
    (cond mine.state.halted (waits mine.state) (stepped own.traps (step (world_by own mine.msrs inbox bytes ports tick) mine.state))))

pub inbox_alone : TurnSeesItsInboxAlone
unfolding solo_turn
inbox_alone own mine a b bytes ports now later first tick =
    λ i. turn_by own mine a (λ x. bytes x i) (ports i) (now i) (later i) (first i) (tick i)

-- a byte that is reached is that one
pub same_byte : (z x : Thing) (o offset : ℕ) → Reached z o ≡ Reached x offset → byte z o ≡ byte x offset
same_byte z x o offset e = cc (e)

pub window_alone : WindowsAloneAreReached
window_alone own values inbox kind addr x offset h = by_access (access_of own.windows addr kind) h
  where
    by_access : (a : Access Thing) → reach_by kind addr a ≡ Reached x offset → a ≡ byte x offset
    by_access (byte z o) e = same_byte z x o offset e
    by_access (violation found) e = absurd (cc (e))

pub port_alone : GrantedPortsAloneAreRead
port_alone own values inbox port size value h = by_grant (are_granted own.ports port size) (le_number (map (λ k. input_byte inbox.ports (port + k)) (numbers_below size))) h
  where
    by_grant : (b : Bool) (v : ℕ) → cond b (Some v) None ≡ Some value → b ≡ true
    by_grant true v e = refl
    by_grant false v e = absurd (cc (e))

-- ---- what an answer changes

pub raised_things : (p : Source) (s : Subject) (way : Option SourceWay) (y : System) → (raised_by p s way y).things ≡ y.things
raised_things p s None y = refl
raised_things p s (Some way) y = by_event (event_of p s way)
  where
    by_mode : (mode : EventMode) (t : Target) → (happens_as p mode t y).things ≡ y.things
    by_mode Asap t = refl
    by_mode Async t = refl
    by_mode OwnMode t = refl
    by_mode Switch t = by_group (group_of p t.subject)
      where
        by_group : (o : Option ℕ) → (with_active o t.subject (pends_now t y)).things ≡ y.things
        by_group None = refl
        by_group (Some g) = refl

    by_event : (e : Option Raised) → (happens p e y).things ≡ y.things
    by_event None = refl
    by_event (Some e) = by_mode e.mode e.target

pub stored_elsewhere : (s : Subject) (o : Option (Stored Thing)) (y : System) → StoresElsewhere s o → thing_in (with_store o y).things (state s.name) ≡ thing_in y.things (state s.name)
stored_elsewhere s None y h = refl
stored_elsewhere s (Some w) y h = value_other same_thing w.target (state s.name) _ y.things (things_apart w.target (state s.name) h)

there_after : (new : List ℕ) (o : Option (List ℕ)) (page : List ℕ) → o ≡ Some page → option_map (λ _. new) o ≡ Some new
there_after new (Some x) page e = refl
there_after new None page e = absurd (cc (e))

pub page_after : ThePageIsThatOfTheState
page_after p s a y page at h =
    let own : System = with_own s.name a.state a.msr y in
    ap (λ things. thing_in things (state s.name)) (raised_things p s a.raised (took s.name a.taken (with_store a.stored own)))
    ∙ (stored_elsewhere s a.stored own h
    ∙ (value_changed same_thing (state s.name) (λ _. page_bytes a.state) y.things ∙ there_after (page_bytes a.state) (thing_in y.things (state s.name)) page at))

pub own_msrs : OwnMsrsAreWritten
own_msrs name s m y values at = value_changed bytes_eq name (with_write (Some m)) y.msrs ∙ ap (option_map (with_write (Some m))) at

pub other_msrs : OtherMsrsStay
other_msrs name other s m y ne = value_other bytes_eq name other (with_write (Some m)) y.msrs (names_apart name other ne)

-- ---- events

others_now : (t : Target) (y : System) → KeepsOthers t.subject y (pends_now t y)
others_now t y = record {
  now = λ other ne. value_other bytes_eq t.subject other (with_vector t.vector) y.now (names_apart t.subject other ne);
  later = λ other ne. refl;
}

others_stay : (p : Source) (mode : EventMode) (t : Target) (y : System) → KeepsOthers t.subject y (happens_as p mode t y)
others_stay p Asap t y = others_now t y
others_stay p Async t y = record {
  now = λ other ne. refl;
  later = λ other ne. value_other bytes_eq t.subject other (with_vector t.vector) y.later (names_apart t.subject other ne);
}
others_stay p OwnMode t y = others_now t y
others_stay p Switch t y = by_group (group_of p t.subject)
  where
    by_group : (o : Option ℕ) → KeepsOthers t.subject y (with_active o t.subject (pends_now t y))
    by_group None = record { now = (others_now t y).now; later = (others_now t y).later }
    by_group (Some g) = record { now = (others_now t y).now; later = (others_now t y).later }

pub handed_over : HandoversCountFromTheNextTurn
handed_over p t y group member is at =
    ap (λ o. slice_get (with_active o t.subject (pends_now t y)).active group) is
    ∙ (element_changes group (λ _. t.subject) y.active ∙ ap (option_map (λ _. t.subject)) at)

pub raised_alone : EventsReachTheirTargetAlone
raised_alone p s way e y is = subst (λ o. KeepsOthers e.target.subject y (happens p o y)) (sym is) (others_stay p e.mode e.target y)
