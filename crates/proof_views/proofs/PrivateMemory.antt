-- What a subject alone may change holds what its own turns have stored there.
use Rattle.std.proofs.Common.{◌≡◌, ℕ, ◌<◌, arith, zero, suc, Bool, true, false, cond, List, [], ◌∷◌, Option, Some, None, refl, sym, ap, subst, ◌∙◌}
use Rattle.std.specs.Prelude.{◌==◌, ◌||◌, IsTrue, not, option_map, slice_get}
use Rattle.std.specs.Option.{option_map_or}
use Rattle.std.specs.List.{All, AllByRecursion, list_any}
use Rattle.std.specs.Str.{bytes_eq}
use Rattle.std.proofs.lemmas.Bool.{not-true, or_from, true≢false, false_from_ne_true}
use Rattle.std.proofs.lemmas.List.Elements.{recursion_from_All}
use Rattle.std.proofs.lemmas.Slice.Eq.{bytes_eq-Decides}
use Rattle.subject_model.specs.Run.{Turned, run_to, turns}
use Rattle.muen_num.proofs.Members.{any_in, find_in, passes_in}
use Rattle.policy_lawful.proofs.KeptMajors.{MajorsKept, majors_kept}
use Rattle.policy_lawful.proofs.KeptMembers.{MembersKept, members_kept}
use Rattle.policy_lawful.proofs.KeptRules.{rules_of}
use Rattle.policy_lawful.specs.Contents.{Held}
use Rattle.policy_lawful.specs.Dma.{domain_of, domain_windows}
use Rattle.policy_lawful.specs.Lawful.{IsLawful}
use Rattle.policy_lawful.specs.Thing.{Thing, region, channel, provided, device_memory, state, is_device, same_thing}
use Rattle.policy_lawful.specs.Windows.{windows_of}
use Rattle.policy_lawful.specs.source.Domain.{Domain}
use Rattle.policy_lawful.specs.source.Source.{Source}
use Rattle.policy_lawful.specs.source.Subject.{Subject}
use Rattle.subject_model.specs.Alone.{Inbox, MsrValues, OwnState, own_of, solo_turn, thing_in}
use Rattle.subject_model.specs.Clock.{inputs_at, order_at, run_of, system}
use Rattle.subject_model.specs.DeviceRecord.{DeviceRecord, NamedInput, port_input, memory_input, irq_input, dma_input}
use Rattle.subject_model.specs.Law.{NamesEachOnce}
use Rattle.muen_num.specs.Numbers.{are_distinct}
use Rattle.subject_model.specs.SubjectState.{SubjectState}
use Rattle.subject_model.specs.System.{System, idle, inbox_of, is_shown, start_of, state_of, subject_named, system_turn}
use Rattle.subject_model.specs.View.{Seen, through, ran_through, view_of}
use Rattle.subject_model.specs.TurnLine.{TurnLine}
use Rattle.proof_views.specs.AloneRun.{Arrival, at_turn, alone_to, before, left_there, reaching, reaching_at, started_alone}
use Rattle.proof_views.specs.Changes.{after_store, are_writable, input_changes, may_change}
use Rattle.proof_views.specs.LastViews.{behind}
use Rattle.proof_views.specs.Members.{AreListed}
use Rattle.proof_views.specs.Private.{IsPrivate, held_alone, stored_in}
use Rattle.proof_views.proofs.AloneViews.{each_once, own_here, turn_through}
use Rattle.proof_views.proofs.ActiveMembers.{begun_listed}
use Rattle.proof_views.proofs.Arrivals.{IsOther, arrival_cases, arrived_things}
use Rattle.proof_views.proofs.Kept.{acted}
use Rattle.proof_views.proofs.LastViews.{begun_at, orders_distinct, seen_listed, seen_so, seen_there}
use Rattle.proof_views.proofs.OwnLines.{named_so}
use Rattle.proof_views.proofs.OwnStates.{IsOwn}
use Rattle.proof_views.proofs.ThingsStay.{begun_leaves, cpus_leave, map_same, others_answer, own_lands, shown_all, shown_same}
use Rattle.proof_views.proofs.TickParts.{before_distinct, through_front, turns_listed, none_before, none_behind, split_turns}

-- ---- who may not change it

not_memory : (device memory : List ℕ) (x : Thing) → is_device x ≡ false → same_thing (device_memory device memory) x ≡ false
not_memory device memory (region a) h = refl
not_memory device memory (channel a) h = refl
not_memory device memory (provided a b) h = refl
not_memory device memory (device_memory a b) h = absurd (true≢false h)
not_memory device memory (state a) h = refl

module _ (p : Source) (s : Subject) (x : Thing) (private : IsPrivate p s x) where
  -- another subject
  other_spares : (member : List ℕ) (q : Subject) → subject_named p member ≡ Some q → (q.name ≡ s.name → ⊥) → may_change p q x ≡ false
  other_spares member q is apart =
      let within = (find_in (λ s. bytes_eq s.name member) p.subjects q is).0 in
      let its = passes_in (λ q. bytes_eq q.name s.name || not (may_change p q x)) p.subjects private.subjects q within in
      not-true (may_change p q x) (by (bytes_eq q.name s.name) refl its)
    where
      by : (b : Bool) → bytes_eq q.name s.name ≡ b → (b || not (may_change p q x)) ≡ true → not (may_change p q x) ≡ true
      by true e h = absurd (apart ((bytes_eq-Decides q.name s.name).0 e))
      by false e h = h

  -- an input
  in_domain : (o : Option Domain) (device : List ℕ) → domain_of p device ≡ o → are_writable (option_map_or (domain_windows p) o []) x ≡ false
  in_domain None device is = refl
  in_domain (Some d) device is =
      let within = (find_in (λ (d : Domain). list_any (λ name. bytes_eq name device) d.devices) p.device_domains d is).0 in
      false_from_ne_true (are_writable (domain_windows p d) x) (λ may. true≢false (sym (any_in (λ d. are_writable (domain_windows p d) x) p.device_domains d within may) ∙ private.domains))

  input_spares : (i : NamedInput) → input_changes p i x ≡ false
  input_spares (port_input device port value) = refl
  input_spares (memory_input device memory offset bytes) = not_memory device memory x private.device
  input_spares (irq_input device irq) = refl
  input_spares (dma_input device address bytes) = in_domain (domain_of p device) device refl

  inputs_spare : (is : List NamedInput) → list_any (λ i. input_changes p i x) is ≡ false
  inputs_spare [] = refl
  inputs_spare (i ∷ is) = or_from (input_changes p i x) (list_any (λ i. input_changes p i x) is) (input_spares i) (inputs_spare is)

  module _ (majors : MajorsKept p) (members : MembersKept p) (is : subject_named p s.name ≡ Some s) (tick : ℕ) where
    -- turns of other CPUs
    rest_leave : (cpus : List ℕ) (y : System) → AreListed p y.active → list_any (λ c. c == s.cpu) cpus ≡ false → thing_in (turns (system p) tick cpus y).state.things x ≡ thing_in y.things x
    rest_leave cpus y listed out =
        cpus_leave p majors members tick x cpus y listed (λ member q found on.
        other_spares member q found (λ same.
        let both : Some q ≡ Some s = sym found ∙ ap (subject_named p) (sym (named_so p member q found) ∙ same) ∙ is in
        let one : q ≡ s = cc (both) in
        true≢false (sym (subst (λ (q : Subject). list_any (λ c. c == q.cpu) cpus ≡ true) one on) ∙ out)))

-- ---- between two turns of its CPU

module _ (p : Source) (files : Held) (r : DeviceRecord) (s : Subject) (x : Thing) (private : IsPrivate p s x) (lawful : IsLawful p) (is : subject_named p s.name ≡ Some s) (once : All (λ e. IsTrue (are_distinct e.1)) r.orders) where
  abbrev after : ℕ → System
  after n = (run_to (system p) (inputs_at r) (order_at p r) n (start_of p files)).state

  -- at its turn in a tick
  abbrev here : ℕ → System
  here n = (turns (system p) n (before s.cpu (order_at p r n)) (begun_at p files r n)).state

  -- from the start of a tick to its turn
  to_turn : (n : ℕ) → thing_in (here n).things x ≡ thing_in (after n).things x
  to_turn n =
      rest_leave p s x private (majors_kept p (rules_of lawful).rule_16) (members_kept p (rules_of lawful).rule_17) is n (before s.cpu (order_at p r n)) (begun_at p files r n)
      (begun_listed p files (members_kept p (rules_of lawful).rule_17) (inputs_at r) (order_at p r) n) (none_before s.cpu (order_at p r n))
      ∙ begun_leaves p x n (inputs_at r n) (after n) (inputs_spare p s x private (inputs_at r n))

  -- from just after its turn to the end of the tick
  from_turn : (n : ℕ) → thing_in (after (suc n)).things x ≡ thing_in (ran_through p files r s.cpu n).state.things x
  from_turn n =
      ap (λ (y : System). thing_in y.things x) (split_turns p n s.cpu (order_at p r n) (begun_at p files r n))
      ∙ rest_leave p s x private (majors_kept p (rules_of lawful).rule_16) (members_kept p (rules_of lawful).rule_17) is n (behind s.cpu (order_at p r n)) (ran_through p files r s.cpu n).state
      (seen_listed p files r n lawful s.cpu) (none_behind s.cpu (order_at p r n) (orders_distinct p r n once))

  pub reaches_as_seen : (n : ℕ) (inbox : Inbox) (v : Seen) → reaching_at p files r s (suc n) ≡ at_turn inbox → slice_get (view_of p files r s) n ≡ Some v → thing_in inbox.things x ≡ thing_in v.things x
  reaches_as_seen n inbox v reaches seen =
      ap (λ things. thing_in things x) (arrived_things p s (suc n) (here (suc n)) inbox reaches)
      ∙ shown_same p s x (here (suc n)) (ran_through p files r s.cpu n).state (to_turn (suc n) ∙ from_turn n)
      ∙ ap (λ (v : Seen). thing_in v.things x) (seen_so p files r s n v seen)

  pub reaches_first : (inbox : Inbox) → is_shown (windows_of p s) x ≡ true → reaching_at p files r s 0 ≡ at_turn inbox → thing_in inbox.things x ≡ thing_in (start_of p files).things x
  reaches_first inbox shown reaches =
      ap (λ things. thing_in things x) (arrived_things p s 0 (here 0) inbox reaches)
      ∙ shown_all p s x (here 0) shown
      ∙ to_turn 0

  pub private_left : (n : ℕ) → is_shown (windows_of p s) x ≡ true → r.end ≡ suc n → option_map (λ v. thing_in v.things x) (slice_get (view_of p files r s) n) ≡ Some (thing_in (run_of p files r).state.things x)
  unfolding run_of
  private_left n shown ends =
      let there : n < r.end = omega (arith, ends) in
      ap (option_map (λ (v : Seen). thing_in v.things x)) (seen_there p files r s n there)
      ∙ ap Some (shown_all p s x (ran_through p files r s.cpu n).state shown ∙ sym (from_turn n) ∙ ap (λ e. thing_in (after e).things x) (sym ends))

-- ---- its own turn

module _ (p : Source) (s : Subject) (x : Thing) (private : IsPrivate p s x) (is : subject_named p s.name ≡ Some s) (tick : ℕ) (y : System) (mine : OwnState) (h : IsOwn s y mine) where
  -- after a turn of its CPU the thing holds what it held, with the store of its own turn
  abbrev Lands : Arrival → Turned System TurnLine → Type 0
  Lands arrival t = thing_in t.state.things x ≡ option_map (after_store (stored_in (own_of p s) arrival mine) x) (thing_in y.things x)

  by_left : (o : Option SubjectState) (t : Turned System TurnLine) → thing_in t.state.things x ≡ thing_in y.things x → Lands (left_there o) t
  by_left None t same = same ∙ sym (map_same (thing_in y.things x))
  by_left (Some st) t same = same ∙ sym (map_same (thing_in y.things x))

  others : (first : Bool) (q : Subject) → IsOther p s q → (st : SubjectState) (values : MsrValues) → thing_in (acted p s.cpu tick first q st values y).state.things x ≡ thing_in y.things x
  others first q other st values =
      others_answer p q x (other_spares p s x private other.member q other.is other.apart) (record { state = st; msrs = values }) (inbox_of p y q first tick) y

  turn_lands : Lands (reaching p s tick y) (system_turn p s.cpu tick y)
  turn_lands =
      arrival_cases p s is tick y mine h Lands (by_left None (idle y) refl) (by_left (state_of y s.name) (idle y) refl)
      (λ first. own_lands p s x private.page (solo_turn (own_of p s) mine (inbox_of p y s first tick)) y)
      (λ first q other spares st values. by_left None (acted p s.cpu tick first q st values y) (others first q other st values))
      (λ first q other st values. by_left (state_of (acted p s.cpu tick first q st values y).state s.name) (acted p s.cpu tick first q st values y) (others first q other st values))

-- ---- a run

module _ (p : Source) (files : Held) (r : DeviceRecord) (s : Subject) (x : Thing) (private : IsPrivate p s x) (lawful : IsLawful p) (is : subject_named p s.name ≡ Some s)
    (orders : All (λ e. NamesEachOnce p.processor.logical_cpus e.1) r.orders) (bytes : List ℕ) (starts : thing_in (start_of p files).things x ≡ Some bytes) where
  pub once : All (λ e. IsTrue (are_distinct e.1)) r.orders
  once = each_once p r orders

  each : AllByRecursion (λ (e : ℕ × List ℕ). NamesEachOnce p.processor.logical_cpus e.1) r.orders
  each = recursion_from_All (λ (e : ℕ × List ℕ). NamesEachOnce p.processor.logical_cpus e.1) r.orders orders

  abbrev holds : ℕ → List ℕ
  holds n = held_alone (own_of p s) (reaching_at p files r s) (started_alone s) x bytes n

  seen_holds : (n : ℕ) → thing_in (after p files r s x private lawful is once n).things x ≡ Some (holds n) → thing_in (ran_through p files r s.cpu n).state.things x ≡ Some (holds (suc n))
  seen_holds n h =
      ap (λ (y : System). thing_in y.things x) (turn_through p s is lawful files r each n)
      ∙ turn_lands p s x private is n (here p files r s x private lawful is once n) (alone_to (own_of p s) (reaching_at p files r s) n (started_alone s)) (own_here p s is lawful files r each n)
      ∙ ap (option_map (after_store (stored_in (own_of p s) (reaching_at p files r s n) (alone_to (own_of p s) (reaching_at p files r s) n (started_alone s))) x))
      (to_turn p files r s x private lawful is once n ∙ h)

  pub after_holds : (n : ℕ) → thing_in (after p files r s x private lawful is once n).things x ≡ Some (holds n)
  after_holds zero = starts
  after_holds (suc n) = from_turn p files r s x private lawful is once n ∙ seen_holds n (after_holds n)

  pub seen_stores : (n : ℕ) (v : Seen) → is_shown (windows_of p s) x ≡ true → slice_get (view_of p files r s) n ≡ Some v → thing_in v.things x ≡ Some (holds (suc n))
  seen_stores n v shown seen =
      ap (λ (v : Seen). thing_in v.things x) (sym (seen_so p files r s n v seen)) ∙ shown_all p s x (ran_through p files r s.cpu n).state shown ∙ seen_holds n (after_holds n)

  -- at the turn of another subject, by whether its own turn came before
  module _ (q : Subject) (n : ℕ) where
    abbrev front : List ℕ
    front = before q.cpu (order_at p r n)

    before_listed : AreListed p (begun_at p files r n).active
    before_listed = begun_listed p files (members_kept p (rules_of lawful).rule_17) (inputs_at r) (order_at p r) n

    by_order : (b : Bool) → list_any (λ c. c == s.cpu) front ≡ b → thing_in (turns (system p) n front (begun_at p files r n)).state.things x ≡ Some (holds (cond b (suc n) n))
    by_order false out =
        rest_leave p s x private (majors_kept p (rules_of lawful).rule_16) (members_kept p (rules_of lawful).rule_17) is n front (begun_at p files r n) before_listed out
        ∙ begun_leaves p x n (inputs_at r n) (after p files r s x private lawful is once n) (inputs_spare p s x private (inputs_at r n))
        ∙ after_holds n
    by_order true there =
        let its : System = (turns (system p) n (through s.cpu front) (begun_at p files r n)).state in
        ap (λ (y : System). thing_in y.things x) (split_turns p n s.cpu front (begun_at p files r n))
        ∙ rest_leave p s x private (majors_kept p (rules_of lawful).rule_16) (members_kept p (rules_of lawful).rule_17) is n (behind s.cpu front) its
        (turns_listed p n (through s.cpu front) (begun_at p files r n) before_listed) (none_behind s.cpu front (before_distinct q.cpu (order_at p r n) (orders_distinct p r n once)))
        ∙ ap (λ order. thing_in (turns (system p) n order (begun_at p files r n)).state.things x) (through_front s.cpu q.cpu (order_at p r n) there)
        ∙ seen_holds n (after_holds n)

    pub reaches_others : (inbox : Inbox) → is_shown (windows_of p q) x ≡ true → reaching_at p files r q n ≡ at_turn inbox → thing_in inbox.things x ≡ Some (holds (cond (list_any (λ c. c == s.cpu) front) (suc n) n))
    reaches_others inbox shown reaches =
        let its : System = (turns (system p) n front (begun_at p files r n)).state in
        ap (λ things. thing_in things x) (arrived_things p q n its inbox reaches) ∙ shown_all p q x its shown ∙ by_order (list_any (λ c. c == s.cpu) front) refl
