-- The active member of each group is one that the group lists, in each state of a run.
use Rattle.std.proofs.Common.{◌≡◌, ℕ, ◌<◌, Bool, true, List, [], ◌∷◌, length, Option, Some, None, refl, sym, ap, subst, ◌∙◌, inl, inr, arith}
use Rattle.std.specs.Prelude.{nat_lt, option_map, position, slice_get}
use Rattle.std.specs.List.{list_all, list_any}
use Rattle.std.specs.Str.{bytes_eq}
use Rattle.std.proofs.lemmas.Bool.{and_parts, cases_eq, ltb-true, or_left}
use Rattle.std.proofs.lemmas.List.Quantifiers.{position-Some}
use Rattle.std.proofs.lemmas.Option.{get_or_from_slice_get, slice_get-map}
use Rattle.subject_model.specs.Step.{Stored}
use Rattle.muen_num.proofs.ChangeLaws.{element_changes, others_stay}
use Rattle.muen_num.specs.ListChange.{change_at}
use Rattle.muen_num.proofs.Lists.{passes_at}
use Rattle.muen_num.proofs.Lookups.{same_self}
use Rattle.muen_num.specs.declared.mode.EventMode.{EventMode}
use Rattle.muen_num.specs.declared.mode.EventMode.TheVariants.{Asap, Async, Own as OwnMode, Switch}
use Rattle.policy_lawful.specs.Rules.{is_group, is_on, subject_cpu}
use Rattle.policy_lawful.specs.Contents.{Held}
use Rattle.policy_lawful.specs.Events.{Raised, Target, event_of, irq_of}
use Rattle.policy_lawful.specs.Frames.{first_member, group_of}
use Rattle.policy_lawful.specs.Thing.{Thing}
use Rattle.policy_lawful.specs.source.Group.{Group}
use Rattle.policy_lawful.specs.source.Source.{Source}
use Rattle.policy_lawful.specs.source.SourceWay.{SourceWay}
use Rattle.policy_lawful.specs.source.Subject.{Subject}
use Rattle.subject_model.specs.DeviceRecord.{NamedInput, port_input, memory_input, irq_input, dma_input}
use Rattle.policy_lawful.proofs.KeptMembers.{MembersKept}
use Rattle.proof_views.specs.Members.{AreListed, lists}
use Rattle.proof_views.proofs.Kept.{begun_keeps, run_keeps, turn_keeps}
use Rattle.subject_model.specs.Run.{begun, run_to}
use Rattle.subject_model.specs.SubjectState.{SubjectState}
use Rattle.subject_model.specs.Alone.{MsrValues, TurnAnswer, own_of, solo_turn}
use Rattle.subject_model.specs.Clock.{irq_reaches, line_writes, system, takes}
use Rattle.subject_model.proofs.DeviceWrites.{line_things}
use Rattle.subject_model.specs.System.{System, answered, happens, happens_as, inbox_of, pends_now, raised_by, start_of, subject_named, system_turn, took, with_active, with_own, with_store}

-- ---- the start

first_listed : (p : Source) (g : Group) → is_group p g ≡ true → lists (first_member g.subjects) g ≡ true
first_listed p g h =
    let some = (and_parts (nat_lt 0 (length g.subjects)) (list_all (λ name. is_on (subject_cpu p name) g.cpu) g.subjects) h).0 in
    elim g.subjects as (λ names. nat_lt 0 (length names) ≡ true → list_any (λ n. bytes_eq n (first_member names)) names ≡ true) [
      | [] ↦ λ e. let l : 0 < 0 = ltb-true 0 0 e in absurd (omega arith)
      | name ∷ (names → _) ↦ λ _. or_left (bytes_eq name name) (list_any (λ n. bytes_eq n name) names) (same_self name)
    ] some

first_of : Group → List ℕ
first_of g = first_member g.subjects

started_listed : (p : Source) (files : Held) → list_all (is_group p) p.scheduling.groups ≡ true → AreListed p (start_of p files).active
unfolding start_of first_of
started_listed p files groups k name g is there =
    let same : Some (first_of g) ≡ Some name = sym (slice_get-map first_of p.scheduling.groups k ∙ ap (option_map first_of) there) ∙ is in
    let first : first_member g.subjects ≡ name = cc (same) in
    subst (λ n. lists n g ≡ true) first (first_listed p g (passes_at (is_group p) p.scheduling.groups k g groups there))

-- ---- a handover

at_position : {X : Type 0} (test : X → Bool) (xs : List X) (k : ℕ) (x : X) → position test xs ≡ Some k → slice_get xs k ≡ Some x → test x ≡ true
at_position test xs k x is there = subst (λ y. test y ≡ true) (get_or_from_slice_get xs k x x there) (position-Some test xs k x is).1

written : (o : Option (List ℕ)) (a b : List ℕ) → option_map (λ _. b) o ≡ Some a → a ≡ b
written None a b h = absurd (cc (h))
written (Some x) a b h = cc (h)

module _ (p : Source) where
  active_listed : (member : List ℕ) (o : Option ℕ) (y : System) → group_of p member ≡ o → AreListed p y.active → AreListed p (with_active o member y).active
  active_listed member None y is h = h
  active_listed member (Some i) y is h = λ k name g at there.
      elim (cases_eq k i) as (λ _. lists name g ≡ true) [
        | inl e ↦
            let here : slice_get p.scheduling.groups i ≡ Some g = subst (λ n. slice_get p.scheduling.groups n ≡ Some g) e there in
            let put : slice_get (change_at i (λ _. member) y.active) i ≡ Some name = subst (λ n. slice_get (change_at i (λ _. member) y.active) n ≡ Some name) e at in
            let same : name ≡ member = written (slice_get y.active i) name member (sym (element_changes i (λ _. member) y.active) ∙ put) in
            subst (λ n. lists n g ≡ true) (sym same) (at_position (lists member) p.scheduling.groups i g is here)
        | inr ne ↦ h k name g (sym (others_stay i k (λ _. member) y.active ne) ∙ at) there
      ]

  happens_listed : (mode : EventMode) (t : Target) (y : System) → AreListed p y.active → AreListed p (happens_as p mode t y).active
  happens_listed Asap t y h = h
  happens_listed Async t y h = h
  happens_listed OwnMode t y h = h
  happens_listed Switch t y h = active_listed t.subject (group_of p t.subject) (pends_now t y) refl h

  event_listed : (o : Option Raised) (y : System) → AreListed p y.active → AreListed p (happens p o y).active
  event_listed None y h = h
  event_listed (Some e) y h = happens_listed e.mode e.target y h

  raised_listed : (q : Subject) (way : Option SourceWay) (y : System) → AreListed p y.active → AreListed p (raised_by p q way y).active
  raised_listed q None y h = h
  raised_listed q (Some way) y h = event_listed (event_of p q way) y h

  -- ---- an answer, and an input

  store_listed : (o : Option (Stored Thing)) (y : System) → AreListed p y.active → AreListed p (with_store o y).active
  store_listed None y h = h
  store_listed (Some w) y h = h

  answer_listed : (q : Subject) (a : TurnAnswer) (y : System) → AreListed p y.active → AreListed p (answered p q a y).active
  answer_listed q a y h =
      let own : System = with_own q.name a.state a.msr y in
      raised_listed q a.raised (took q.name a.taken (with_store a.stored own)) (store_listed a.stored own h)

  solo_listed : (first : Bool) (tick : ℕ) (q : Subject) (member : List ℕ) → subject_named p member ≡ Some q → (st : SubjectState) (values : MsrValues) (y : System) → AreListed p y.active
      → AreListed p (answered p q (solo_turn (own_of p q) (record { state = st; msrs = values }) (inbox_of p y q first tick)) y).active
  solo_listed first tick q member is st values y h =
      answer_listed q (solo_turn (own_of p q) (record { state = st; msrs = values }) (inbox_of p y q first tick)) y h

  irq_listed : (o : Option Target) (y : System) → AreListed p y.active → AreListed p (irq_reaches o y).active
  irq_listed None y h = h
  irq_listed (Some t) y h = h

  input_listed : (i : NamedInput) (y : System) → AreListed p y.active → AreListed p (takes p i y).active
  input_listed (port_input device port value) y h = h
  input_listed (memory_input device memory offset bytes) y h = h
  input_listed (irq_input device irq) y h = irq_listed (irq_of p device irq) y h
  input_listed (dma_input device address bytes) y h = subst (λ z. AreListed p z.active) (sym (line_things (line_writes p device address bytes) y)) h

-- ---- a run

pub turn_listed : (p : Source) (cpu tick : ℕ) (y : System) → AreListed p y.active → AreListed p (system_turn p cpu tick y).state.active
turn_listed p cpu tick y h = turn_keeps p (λ y. AreListed p y.active) (λ tick y h. h) (input_listed p) (solo_listed p) cpu tick y h

-- before the turns of a tick
pub begun_listed : (p : Source) (files : Held) → MembersKept p → (inputs : ℕ → List NamedInput) (order : ℕ → List ℕ) (n : ℕ) → AreListed p (begun (system p) n (inputs n) (run_to (system p) inputs order n (start_of p files)).state).active
begun_listed p files members inputs order n =
    begun_keeps p (λ y. AreListed p y.active) (λ tick y h. h) (input_listed p) (solo_listed p) n (inputs n) (run_to (system p) inputs order n (start_of p files)).state
    (run_keeps p (λ y. AreListed p y.active) (λ tick y h. h) (input_listed p) (solo_listed p) inputs order n (start_of p files) (started_listed p files members.groups))
