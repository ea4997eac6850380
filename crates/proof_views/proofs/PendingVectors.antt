-- Each pending vector, in each state of a run, is one that the policy lets somebody raise.
use Rattle.std.proofs.Common.{◌≡◌, ◌⊎◌, ℕ, Bool, true, false, cond, List, [], ◌∷◌, map, Option, Some, None, refl, sym, ap, subst, ◌∙◌, inl, inr}
use Rattle.std.specs.Prelude.{◌==◌, filter, not, option_map, unwrap_or}
use Rattle.std.specs.List.{find, list_any}
use Rattle.std.specs.Str.{bytes_eq}
use Rattle.std.proofs.lemmas.Bool.{cases_Bool, eqb-true, or_cases, or_left, or_right}
use Rattle.std.proofs.lemmas.Slice.Eq.{bytes_eq-Decides}
use Rattle.subject_model.specs.Run.{begun, run_to, turns}
use Rattle.subject_model.specs.Step.{Stored}
use Rattle.machine_layout.specs.Pending.{with_vector, without}
use Rattle.muen_num.specs.declared.mode.EventMode.{EventMode}
use Rattle.muen_num.specs.declared.mode.EventMode.TheVariants.{Asap, Async, Own as OwnMode, Switch}
use Rattle.policy_lawful.specs.Contents.{Held}
use Rattle.policy_lawful.specs.Events.{Raised, Target, event_of, irq_of}
use Rattle.policy_lawful.specs.Frames.{group_of}
use Rattle.policy_lawful.specs.Thing.{Thing}
use Rattle.policy_lawful.specs.source.Source.{Source}
use Rattle.policy_lawful.specs.source.SourceWay.{SourceWay}
use Rattle.policy_lawful.specs.source.Subject.{Subject}
use Rattle.subject_model.proofs.DeviceWrites.{line_things}
use Rattle.subject_model.proofs.KeyLaws.{names_apart, value_changed, value_other}
use Rattle.subject_model.proofs.StartLists.{named_map}
use Rattle.subject_model.specs.Alone.{Inbox, MsrValues, TurnAnswer, own_of, solo_turn}
use Rattle.muen_num.specs.Numbers.{is_among}
use Rattle.subject_model.specs.Clock.{inputs_at, irq_reaches, line_writes, order_at, system, takes}
use Rattle.subject_model.specs.DeviceRecord.{DeviceRecord, NamedInput, port_input, memory_input, irq_input, dma_input}
use Rattle.subject_model.specs.SubjectState.{SubjectState}
use Rattle.subject_model.specs.System.{Named, System, answered, change_named, happens, happens_as, inbox_of, named, pending, pends_now, raised_by, start_of, subject_named, took, with_active, with_own, with_store}
use Rattle.proof_views.specs.AloneRun.{at_turn, before, reaching_at}
use Rattle.proof_views.specs.Raisers.{IsRaisedLater, IsRaisedNow, waits_for_entry}
use Rattle.proof_views.proofs.Arrivals.{arrived_later, arrived_now}
use Rattle.proof_views.proofs.Kept.{begun_keeps, run_keeps, turns_keep}
use Rattle.proof_views.proofs.OwnLines.{found_so}

-- ---- sets by names

-- each vector in each of these sets is such a one
abbrev pub AreAll : (List ℕ → ℕ → Type 0) → Named (List ℕ) → Type 0
AreAll R sets = (name : List ℕ) (v : ℕ) → is_among (pending sets name) v ≡ true → R name v

module _ (R : List ℕ → ℕ → Type 0) (sets : Named (List ℕ)) (all : AreAll R sets) where
  -- a change of one set that adds such vectors alone
  changed : (name : List ℕ) (f : List ℕ → List ℕ) → ((vs : List ℕ) (v : ℕ) → is_among (f vs) v ≡ true → (is_among vs v ≡ true) ⊎ R name v) → AreAll R (change_named name f sets)
  changed name f adds other v h =
      elim (cases_Bool (bytes_eq name other)) [
        | inl e ↦ its e
        | inr n ↦ all other v (subst (λ o. is_among (unwrap_or o []) v ≡ true) (value_other bytes_eq name other f sets (names_apart name other (λ e. absurd_same e n))) h)
      ]
    where
      absurd_same : name ≡ other → bytes_eq name other ≡ false → ⊥
      absurd_same e n = let t : bytes_eq name other ≡ true = (bytes_eq-Decides name other).1 e in let f : true ≡ false = sym t ∙ n in absurd (cc (f))

      by_set : (o : Option (List ℕ)) → is_among (unwrap_or (option_map f o) []) v ≡ true → (is_among (unwrap_or o []) v ≡ true) ⊎ R name v
      by_set None k = absurd (cc (k))
      by_set (Some vs) k = adds vs v k

      its : bytes_eq name other ≡ true → R other v
      its e =
          let same : name ≡ other = (bytes_eq-Decides name other).0 e in
          let here : is_among (unwrap_or (option_map f (named sets name)) []) v ≡ true =
          subst (λ o. is_among (unwrap_or o []) v ≡ true) (value_changed bytes_eq name f sets) (subst (λ n. is_among (pending (change_named name f sets) n) v ≡ true) (sym same) h) in
          elim (by_set (named sets name) here) as (λ _. R other v) [
            | inl there ↦ subst (λ n. R n v) same (all name v there)
            | inr new ↦ subst (λ n. R n v) same new
          ]

  left_out : (w v : ℕ) (vs : List ℕ) → is_among (filter (λ x. not (x == w)) vs) v ≡ true → is_among vs v ≡ true
  left_out w v [] h = h
  left_out w v (x ∷ xs) h =
      elim (x == w) as (λ b. is_among (cond (not b) (x ∷ filter (λ x. not (x == w)) xs) (filter (λ x. not (x == w)) xs)) v ≡ true → is_among (x ∷ xs) v ≡ true) [
        | true ↦ λ k. or_right (x == v) (is_among xs v) (left_out w v xs k)
        | false ↦ λ k. elim (or_cases (x == v) (is_among (filter (λ x. not (x == w)) xs) v) k) as (λ _. is_among (x ∷ xs) v ≡ true) [
          | inl e ↦ or_left (x == v) (is_among xs v) e
          | inr later ↦ or_right (x == v) (is_among xs v) (left_out w v xs later)
        ]
      ] h

  -- one is taken out
  pub taken : (name : List ℕ) (o : Option ℕ) → AreAll R (change_named name (without o) sets)
  taken name None = changed name (without None) (λ vs v h. inl h)
  taken name (Some w) = changed name (without (Some w)) (λ vs v h. inl (left_out w v vs h))

  -- one is put in
  pub put_in : (name : List ℕ) (o : Option ℕ) → ((v : ℕ) → o ≡ Some v → R name v) → AreAll R (change_named name (with_vector o) sets)
  put_in name None new = changed name (with_vector None) (λ vs v h. inl h)
  put_in name (Some w) new = changed name (with_vector (Some w)) adds
    where
      adds : (vs : List ℕ) (v : ℕ) → is_among (with_vector (Some w) vs) v ≡ true → (is_among vs v ≡ true) ⊎ R name v
      adds vs v h =
          elim (list_any (λ x. x == w) vs) as (λ b. is_among (cond b vs (w ∷ vs)) v ≡ true → (is_among vs v ≡ true) ⊎ R name v) [
            | true ↦ λ k. inl k
            | false ↦ λ k. elim (or_cases (w == v) (is_among vs v) k) as (λ _. (is_among vs v ≡ true) ⊎ R name v) [
              | inl e ↦ let same : w ≡ v = eqb-true w v e in inr (new v (ap (λ n. Some n) same))
              | inr there ↦ inl there
            ]
          ] h

-- ---- a system

pub record AreRaised (p : Source) (y : System) : Type 0 where
  pub now : AreAll (IsRaisedNow p) y.now
  pub later : AreAll (IsRaisedLater p) y.later

module _ (p : Source) where
  -- ---- an event

  by_group : (o : Option ℕ) (member : List ℕ) (y : System) → AreRaised p y → AreRaised p (with_active o member y)
  by_group None member y h = h
  by_group (Some g) member y h = record { now = h.now; later = h.later }

  module _ (q : Subject) (is : subject_named p q.name ≡ Some q) (way : SourceWay) (e : Raised) (raised : event_of p q way ≡ Some e) where
    by_mode : (mode : EventMode) → e.mode ≡ mode → (y : System) → AreRaised p y → AreRaised p (happens_as p mode e.target y)
    by_mode Asap mode y h = record {
      now = put_in (IsRaisedNow p) y.now h.now e.target.subject e.target.vector (λ v vector. inl (record { by = q; way = way; raised = e; declared = is; is = raised; mode = ap waits_for_entry mode; subject = refl; with = vector }));
      later = h.later;
    }
    by_mode Async mode y h = record {
      now = h.now;
      later = put_in (IsRaisedLater p) y.later h.later e.target.subject e.target.vector (λ v vector. record { by = q; way = way; raised = e; declared = is; is = raised; mode = ap waits_for_entry mode; subject = refl; with = vector });
    }
    by_mode OwnMode mode y h = record {
      now = put_in (IsRaisedNow p) y.now h.now e.target.subject e.target.vector (λ v vector. inl (record { by = q; way = way; raised = e; declared = is; is = raised; mode = ap waits_for_entry mode; subject = refl; with = vector }));
      later = h.later;
    }
    by_mode Switch mode y h =
        by_group (group_of p e.target.subject) e.target.subject (pends_now e.target y) (record {
          now = put_in (IsRaisedNow p) y.now h.now e.target.subject e.target.vector (λ v vector. inl (record { by = q; way = way; raised = e; declared = is; is = raised; mode = ap waits_for_entry mode; subject = refl; with = vector }));
          later = h.later;
        })

  by_event : (q : Subject) → subject_named p q.name ≡ Some q → (way : SourceWay) (o : Option Raised) → event_of p q way ≡ o → (y : System) → AreRaised p y → AreRaised p (happens p o y)
  by_event q is way None raised y h = h
  by_event q is way (Some e) raised y h = by_mode q is way e raised e.mode refl y h

  by_way : (q : Subject) → subject_named p q.name ≡ Some q → (o : Option SourceWay) (y : System) → AreRaised p y → AreRaised p (raised_by p q o y)
  by_way q is None y h = h
  by_way q is (Some way) y h = by_event q is way (event_of p q way) refl y h

  -- ---- an answer

  by_store : (o : Option (Stored Thing)) (y : System) → AreRaised p y → AreRaised p (with_store o y)
  by_store None y h = h
  by_store (Some w) y h = record { now = h.now; later = h.later }

  answer_raised : (q : Subject) → subject_named p q.name ≡ Some q → (a : TurnAnswer) (y : System) → AreRaised p y → AreRaised p (answered p q a y)
  answer_raised q is a y h =
      let own : System = with_own q.name a.state a.msr y in
      let stored : System = with_store a.stored own in
      let its : AreRaised p stored = by_store a.stored own (record { now = h.now; later = h.later }) in
      by_way q is a.raised (took q.name a.taken stored) (record {
        now = taken (IsRaisedNow p) stored.now its.now q.name a.taken;
        later = taken (IsRaisedLater p) stored.later its.later q.name a.taken;
      })

  solo_raised : (first : Bool) (tick : ℕ) (q : Subject) (member : List ℕ) → subject_named p member ≡ Some q → (st : SubjectState) (values : MsrValues) (y : System) → AreRaised p y
      → AreRaised p (answered p q (solo_turn (own_of p q) (record { state = st; msrs = values }) (inbox_of p y q first tick)) y)
  solo_raised first tick q member is st values y h =
      answer_raised q (found_so p member q is) (solo_turn (own_of p q) (record { state = st; msrs = values }) (inbox_of p y q first tick)) y h

  -- ---- an input

  by_irq : (device irq : List ℕ) (o : Option Target) → irq_of p device irq ≡ o → (y : System) → AreRaised p y → AreRaised p (irq_reaches o y)
  by_irq device irq None is y h = h
  by_irq device irq (Some t) is y h = record {
    now = put_in (IsRaisedNow p) y.now h.now t.subject t.vector (λ v vector. inr (record { device = device; irq = irq; target = t; is = is; subject = refl; with = vector }));
    later = h.later;
  }

  input_raised : (i : NamedInput) (y : System) → AreRaised p y → AreRaised p (takes p i y)
  input_raised (port_input device port value) y h = record { now = h.now; later = h.later }
  input_raised (memory_input device memory offset bytes) y h = record { now = h.now; later = h.later }
  input_raised (irq_input device irq) y h = by_irq device irq (irq_of p device irq) refl y h
  input_raised (dma_input device address bytes) y h =
      subst (AreRaised p) (sym (line_things (line_writes p device address bytes) y)) (record { now = h.now; later = h.later })

-- ---- a run

none_first : (ss : List Subject) (name : List ℕ) (v : ℕ) → is_among (pending (map (λ s. (s.name, [])) ss) name) v ≡ false
none_first ss name v =
    ap (λ o. is_among (unwrap_or o []) v) (named_map (λ _. []) ss name) ∙ by (find (λ s. bytes_eq s.name name) ss)
  where
    by : (o : Option Subject) → is_among (unwrap_or (option_map (λ _. []) o) []) v ≡ false
    by None = refl
    by (Some s) = refl

module _ (p : Source) (files : Held) where
  started_raised : AreRaised p (start_of p files)
  unfolding start_of
  started_raised = record {
    now = λ name v h. let e : true ≡ false = sym h ∙ none_first p.subjects name v in absurd (cc (e));
    later = λ name v h. let e : true ≡ false = sym h ∙ none_first p.subjects name v in absurd (cc (e));
  }

  pub run_raised : (inputs : ℕ → List NamedInput) (order : ℕ → List ℕ) (n : ℕ) → AreRaised p (run_to (system p) inputs order n (start_of p files)).state
  run_raised inputs order n =
      run_keeps p (AreRaised p) (λ tick y h. record { now = h.now; later = h.later }) (input_raised p) (solo_raised p) inputs order n (start_of p files) started_raised

  module _ (r : DeviceRecord) (s : Subject) (n : ℕ) where
    turn_raised : AreRaised p (turns (system p) n (before s.cpu (order_at p r n)) (begun (system p) n (inputs_at r n) (run_to (system p) (inputs_at r) (order_at p r) n (start_of p files)).state)).state
    turn_raised =
        let after : System = (run_to (system p) (inputs_at r) (order_at p r) n (start_of p files)).state in
        turns_keep p (AreRaised p) (λ tick y h. record { now = h.now; later = h.later }) (input_raised p) (solo_raised p) n (before s.cpu (order_at p r n)) (begun (system p) n (inputs_at r n) after)
        (begun_keeps p (AreRaised p) (λ tick y h. record { now = h.now; later = h.later }) (input_raised p) (solo_raised p) n (inputs_at r n) after (run_raised (inputs_at r) (order_at p r) n))

    -- at its turn
    abbrev here : System
    here = (turns (system p) n (before s.cpu (order_at p r n)) (begun (system p) n (inputs_at r n) (run_to (system p) (inputs_at r) (order_at p r) n (start_of p files)).state)).state

    pub now_raised : (inbox : Inbox) (v : ℕ) → reaching_at p files r s n ≡ at_turn inbox → is_among inbox.now v ≡ true → IsRaisedNow p s.name v
    now_raised inbox v reaches pends = turn_raised.now s.name v (subst (λ vs. is_among vs v ≡ true) (arrived_now p s n here inbox reaches) pends)

    pub later_raised : (inbox : Inbox) (v : ℕ) → reaching_at p files r s n ≡ at_turn inbox → is_among inbox.later v ≡ true → IsRaisedLater p s.name v
    later_raised inbox v reaches pends = turn_raised.later s.name v (subst (λ vs. is_among vs v ≡ true) (arrived_later p s n here inbox reaches) pends)
