-- The two systems with the answering device: they are lawful, agree on the talker, and the device's answers reach it.
use Rattle.std.proofs.Common.{◌≡◌, ℕ, zero, suc, ◌+◌, ◌<◌, Bool, true, false, cond, List, [], ◌∷◌, ◌++◌, filter, None, Option, Some, refl, sym, ap, subst, ◌∙◌, inl, inr, arith, true≢false}
use Rattle.std.specs.Prelude.{◌==◌, codes}
use Rattle.std.specs.List.{All, flat_map, list_any}
use Rattle.std.specs.Str.{bytes_eq}
use Rattle.std.proofs.lemmas.Bool.{cases_Bool, cases_lt, eq-eqb}
use Rattle.std.proofs.lemmas.List.Concat.{flat_map-cons}
use Rattle.std.proofs.lemmas.List.Elements.{All-from_recursion, filter-append}
use Rattle.guest_isa.specs.declared.end.Change.{Change}
use Rattle.guest_isa.specs.declared.end.Change.TheVariants.{Plain, Set, Stored, Out, WroteMsr}
use Rattle.muen_num.proofs.Members.{In, all_from, all_in, any_in, filter_in, flat_some, left_in, right_in}
use Rattle.muen_num.specs.Range.{numbers_below}
use Rattle.muen_num.specs.declared.limits.TheConstants.{LAST_PORT}
use Rattle.policy_flows.specs.Flows.{IsClosed, flows_to, is_member}
use Rattle.policy_lawful.specs.Contents.{Held}
use Rattle.policy_lawful.specs.Domains.{offence_21, offence_22, offence_23, offence_24}
use Rattle.policy_lawful.specs.Events.{event_of, irq_of}
use Rattle.policy_lawful.specs.Frames.{frames_of}
use Rattle.policy_lawful.specs.Lawful.{IsLawful, offences, unlawful}
use Rattle.policy_lawful.specs.MoreRules.{offence_6, offence_7, offence_9, offence_10, offence_11, offence_12, offence_13, offence_14, offence_15, offence_19}
use Rattle.policy_lawful.specs.Rules.{offence_1, offence_2, offence_3, offence_4, offence_5, offence_8, offence_16, offence_17, offence_18, offence_20, first_overlap, window_extents}
use Rattle.policy_lawful.specs.Thing.{Thing, region, same_thing}
use Rattle.policy_lawful.specs.Windows.{windows_of}
use Rattle.policy_lawful.specs.resources.PortRange.{PortRange}
use Rattle.policy_lawful.specs.source.Source.{Source}
use Rattle.policy_lawful.specs.source.SourceWay.{SourceWay}
use Rattle.policy_lawful.specs.source.Subject.{Subject}
use Rattle.policy_lawful.proofs.SameThings.{same_things}
use Rattle.subject_model.specs.Alone.{own_of, thing_in}
use Rattle.subject_model.specs.Clock.{inputs_at}
use Rattle.subject_model.specs.DeviceRecord.{DeviceRecord, NamedInput, irq_input}
use Rattle.policy_lawful.specs.PortRanges.{has_port}
use Rattle.subject_model.specs.Resources.{port_ranges_of, ports_of}
use Rattle.subject_model.specs.System.{is_shown, start_of, subject_named}
use Rattle.subject_model.specs.TurnAction.{TurnAction}
use Rattle.subject_model.specs.TurnAction.TheVariants.{Ran, Inject, Exit}
use Rattle.subject_model.specs.TurnLine.{TurnLine}
use Rattle.proof_isolation.specs.Agree.{AgreeFor, WritesTheSame, is_handover, irq_to, only_to, own_slot, plain_frame, input_reaches_member, unchosen}
use Rattle.proof_isolation.proofs.WrittenOut.{of_found, own_by}
use Rattle.proof_reactive.specs.Answering.{AgreeButForDevices, Heard}
use Rattle.proof_reactive.specs.Echo.{answer, answer_in, answer_to, answer_to_change, answer_to_ring, busy, echo, echoes, given_back, members, noise, ring_in, serves, silent, talker}
use Rattle.proof_reactive.specs.Playing.{AreTold}
use Rattle.proof_reactive.proofs.EchoContents.{same_program, same_ring}

-- ---- lawful, and closed

pub lawful : (own code : List ℕ) → IsLawful (echo own code)
unfolding unlawful offences offence_1 offence_2 offence_3 offence_4 offence_5 offence_6 offence_7 offence_8 offence_9 offence_10 offence_11 offence_12 offence_13 offence_14 offence_15 offence_16 offence_17 offence_18 offence_19 offence_20 offence_21 offence_22 offence_23 offence_24 first_overlap window_extents windows_of
lawful own code = refl

pub closed : (own code : List ℕ) → IsClosed (echo own code) members
unfolding flows_to windows_of event_of
closed own code =
    let p = echo own code in
    record {
      sources =
          All-from_recursion (λ s. is_member members s ≡ true → All (λ u. flows_to p u s ≡ true → is_member members u ≡ true) p.subjects) p.subjects
          (λ _. All-from_recursion (λ u. flows_to p u talker ≡ true → is_member members u ≡ true) p.subjects (λ _. refl, (λ h. absurd (true≢false (sym h)), tt)), (λ h. absurd (true≢false (sym h)), tt));
    }

-- ---- the one member

pub is_talker : (own code : List ℕ) (s : Subject) → is_member members s ≡ true → subject_named (echo own code) s.name ≡ Some s → talker ≡ s
is_talker own code s member is =
    of_found (λ s. is_member members s ≡ true → talker ≡ s) (λ u. bytes_eq u.name s.name) (talker ∷ noise ∷ []) (λ _. refl, (λ h. absurd (true≢false (sym h)), tt)) s is member

-- ---- its ports

number_in : (n k : ℕ) → k < n → In k (numbers_below n)
number_in zero k low = absurd (omega (arith, low))
number_in (suc n) k low =
    elim (cases_lt k n) as (λ _. In k (numbers_below n ++ n ∷ [])) [
      | inl less ↦ left_in (numbers_below n) (n ∷ []) k (number_in n k less)
      | inr least ↦ right_in (numbers_below n) (n ∷ []) k (inl (omega (arith, low, least)))
    ]

granted : (ranges : List PortRange) (n k : ℕ) → k < n → list_any (λ r. has_port r k) ranges ≡ true → list_any (λ m. m == k) (filter (λ port. list_any (λ r. has_port r port) ranges) (numbers_below n)) ≡ true
granted ranges n k low has =
    let ports = numbers_below n in
    any_in (λ m. m == k) (filter (λ port. list_any (λ r. has_port r port) ranges) ports) k (filter_in (λ port. list_any (λ r. has_port r port) ranges) ports k (number_in n k low) has) (eq-eqb k k refl)

pub has_768 : (p : Source) (s : Subject) → list_any (λ r. has_port r 768) (port_ranges_of p s) ≡ true → list_any (λ m. m == 768) (ports_of p s) ≡ true
unfolding ports_of
has_768 p s has = granted (port_ranges_of p s) (LAST_PORT + 1) 768 (omega arith) has

pub ports_by : (p q : Source) (s : Subject) → port_ranges_of p s ≡ port_ranges_of q s → ports_of p s ≡ ports_of q s
unfolding ports_of
ports_by p q s same = ap (λ ranges. filter (λ port. list_any (λ r. has_port r port) ranges) (numbers_below (LAST_PORT + 1))) same

-- ---- answers

each_kept : {X : Type 0} (test : NamedInput → Bool) (f : X → List NamedInput) → ((x : X) → filter test (f x) ≡ f x) → (xs : List X) → filter test (flat_map f xs) ≡ flat_map f xs
each_kept test f kept [] = refl
each_kept test f kept (x ∷ xs) =
    ap (filter test) (flat_map-cons f x xs) ∙ filter-append test (f x) (flat_map f xs) ∙ (λ i. kept x i ++ each_kept test f kept xs i) ∙ sym (flat_map-cons f x xs)

each_passes : {X : Type 0} (P : NamedInput → Type 0) (f : X → List NamedInput) → ((x : X) → All P (f x)) → (xs : List X) → All P (flat_map f xs)
each_passes P f all xs = all_from P (flat_map f xs) (λ y within. let part = flat_some f xs y within in all_in P (f part.one) (all part.one) y part.part)

module _ (own c d : List ℕ) where
  abbrev one : Source
  one = echo own c

  abbrev other : Source
  other = echo own d

  pub talker_ports : list_any (λ m. m == 768) (ports_of one talker) ≡ true
  unfolding port_ranges_of
  talker_ports = has_768 one talker refl

  reaches_talker : (value : ℕ) → filter (input_reaches_member one other members) (answer value) ≡ answer value
  unfolding irq_of
  reaches_talker value = rw talker_ports refl

  change_reaches : (change : Change) → filter (input_reaches_member one other members) (answer_to_change change) ≡ answer_to_change change
  change_reaches (Out size port value) = reaches_talker value
  change_reaches Plain = refl
  change_reaches (Set reg value) = refl
  change_reaches (Stored size addr value) = refl
  change_reaches (WroteMsr index value) = refl

  action_reaches : (what : TurnAction) → filter (input_reaches_member one other members) (answer_to what) ≡ answer_to what
  action_reaches (Ran change) = change_reaches change
  action_reaches (Inject vector) = refl
  action_reaches (Exit reason qualification addr end) = refl

  line_reaches : (tick : ℕ) (l : TurnLine) → filter (input_reaches_member one other members) (answer_in tick l) ≡ answer_in tick l
  line_reaches tick l =
      elim (l.tick + 1 == tick) as (λ b. filter (input_reaches_member one other members) (cond b (answer_to l.what) []) ≡ cond b (answer_to l.what) []) [ true ↦ action_reaches l.what | false ↦ refl ]

  all_reach : (h : Heard) (tick : ℕ) → filter (input_reaches_member one other members) (echoes h tick) ≡ echoes h tick
  all_reach h tick = each_kept (input_reaches_member one other members) (answer_in tick) (line_reaches tick) h.lines

  busy_reaches_nobody : (tick : ℕ) → filter (input_reaches_member one other members) (busy tick) ≡ []
  unfolding irq_of
  busy_reaches_nobody tick = refl

  pub told_silent : AreTold echoes silent (0 ∷ []) members one other
  told_silent = record { answers_reach = all_reach; others_do_not = λ tick. refl; cpus_hold = refl }

  pub told_busy : AreTold echoes busy (0 ∷ []) members one other
  told_busy = record { answers_reach = all_reach; others_do_not = busy_reaches_nobody; cpus_hold = refl }

  -- none of them is a line of direct memory access
  action_writes : (what : TurnAction) → All (WritesTheSame members one other) (answer_to what)
  action_writes (Ran (Out size port value)) = All-from_recursion (WritesTheSame members one other) (answer value) (tt, (tt, tt))
  action_writes (Ran Plain) = All-from_recursion (WritesTheSame members one other) [] tt
  action_writes (Ran (Set reg value)) = All-from_recursion (WritesTheSame members one other) [] tt
  action_writes (Ran (Stored size addr value)) = All-from_recursion (WritesTheSame members one other) [] tt
  action_writes (Ran (WroteMsr index value)) = All-from_recursion (WritesTheSame members one other) [] tt
  action_writes (Inject vector) = All-from_recursion (WritesTheSame members one other) [] tt
  action_writes (Exit reason qualification addr end) = All-from_recursion (WritesTheSame members one other) [] tt

  line_writes : (tick : ℕ) (l : TurnLine) → All (WritesTheSame members one other) (answer_in tick l)
  line_writes tick l =
      elim (l.tick + 1 == tick) as (λ b. All (WritesTheSame members one other) (cond b (answer_to l.what) [])) [ true ↦ action_writes l.what | false ↦ All-from_recursion (WritesTheSame members one other) [] tt ]

  pub all_write : (h : Heard) (tick : ℕ) → All (WritesTheSame members one other) (echoes h tick)
  all_write h tick = each_passes (WritesTheSame members one other) (answer_in tick) (line_writes tick) h.lines

  -- ---- the card

  ring_reaches : (o : Option (ℕ × ℕ)) → filter (input_reaches_member one other members) (answer_to_ring o) ≡ answer_to_ring o
  unfolding irq_of windows_of
  ring_reaches None = refl
  ring_reaches (Some (owner, value)) =
      elim (owner == 0) as (λ b. filter (input_reaches_member one other members) (cond b (given_back value ∷ irq_input (codes "line") (codes "rx") ∷ []) []) ≡ cond b (given_back value ∷ irq_input (codes "line") (codes "rx") ∷ []) []) [ true ↦ refl | false ↦ refl ]

  pub told_card_silent : AreTold serves silent (0 ∷ []) members one other
  told_card_silent = record { answers_reach = λ h tick. ring_reaches (ring_in (h.memory tick)); others_do_not = λ tick. refl; cpus_hold = refl }

  pub told_card_busy : AreTold serves busy (0 ∷ []) members one other
  told_card_busy = record { answers_reach = λ h tick. ring_reaches (ring_in (h.memory tick)); others_do_not = busy_reaches_nobody; cpus_hold = refl }

  -- its lines of direct memory access do the same in both
  pub gives_alike : (value : ℕ) → WritesTheSame members one other (given_back value)
  unfolding windows_of
  gives_alike value = refl

  ring_writes : (o : Option (ℕ × ℕ)) → All (WritesTheSame members one other) (answer_to_ring o)
  ring_writes None = All-from_recursion (WritesTheSame members one other) [] tt
  ring_writes (Some (owner, value)) =
      let given = All-from_recursion (WritesTheSame members one other) (given_back value ∷ irq_input (codes "line") (codes "rx") ∷ []) (gives_alike value, (tt, tt)) in
      elim (owner == 0) as (λ b. All (WritesTheSame members one other) (cond b (given_back value ∷ irq_input (codes "line") (codes "rx") ∷ []) [])) [ true ↦ given | false ↦ All-from_recursion (WritesTheSame members one other) [] tt ]

  pub all_given : (h : Heard) (tick : ℕ) → All (WritesTheSame members one other) (serves h tick)
  all_given h tick = ring_writes (ring_in (h.memory tick))

  -- ---- what agrees

  same_own : own_of one talker ≡ own_of other talker
  unfolding windows_of port_ranges_of
  same_own = own_by one other talker refl (ports_by one other talker refl)

  same_events : (way : SourceWay) → event_of one talker way ≡ event_of other talker way
  unfolding event_of
  same_events way = refl

  same_irqs : (device irq : List ℕ) → irq_of one device irq ≡ irq_of other device irq
  unfolding irq_of
  same_irqs device irq = refl

  same_slots : (s : Subject) (tick : ℕ) → own_slot one s (plain_frame one tick) tick ≡ own_slot other s (plain_frame other tick) tick
  unfolding frames_of
  same_slots s tick = refl

  same_shown : (f g : Held) (x : Thing) → is_shown (windows_of one talker) x ≡ true → thing_in (start_of one f).things x ≡ thing_in (start_of other g).things x
  unfolding windows_of
  same_shown f g x shown =
      elim (cases_Bool (same_thing (region (codes "talker_code")) x)) [
        | inl t ↦ subst (λ y. thing_in (start_of one f).things y ≡ thing_in (start_of other g).things y) (same_things (region (codes "talker_code")) x t) (same_program own c d f g)
        | inr n ↦
            elim (cases_Bool (same_thing (region (codes "ring")) x)) [
              | inl t ↦ subst (λ y. thing_in (start_of one f).things y ≡ thing_in (start_of other g).things y) (same_things (region (codes "ring")) x t) (same_ring own c d f g)
              | inr m ↦ absurd (true≢false (sym (let h = rw n at shown in let k = rw m at h in k)))
            ]
      ]

  talker_agrees : (f g : Held) → AgreeFor members one other f g talker talker
  talker_agrees f g = record {
    own = same_own;
    switches = λ way. ap is_handover (same_events way);
    events = λ m _ way. ap (only_to m.name) (same_events way);
    first = refl;
    contents = same_shown f g;
    irqs = λ device irq. ap (λ o. irq_to talker.name o) (same_irqs device irq);
  }

  declared : (s : Subject) → is_member members s ≡ true → subject_named one s.name ≡ Some s → subject_named other s.name ≡ Some s
  declared s member is = subst (λ s. subject_named other s.name ≡ Some s) (is_talker own c s member is) refl

  same_subject : (s z : Subject) → is_member members s ≡ true → subject_named one s.name ≡ Some s → subject_named other s.name ≡ Some z → s ≡ z
  same_subject s z member is there = let here = declared s member is in cc (here, there)

pub echoes_agree : (own c d : List ℕ) (f g : Held) (r : DeviceRecord) (ends : ℕ) → ((tick : ℕ) → tick < ends → All (WritesTheSame members (echo own c) (echo own d)) (filter (input_reaches_member (echo own c) (echo own d) members) (inputs_at r tick)))
    → AgreeButForDevices members (echo own c) (echo own d) f g r ends
echoes_agree own c d f g r ends writes = record {
  there = λ s member is. (s, declared own c d s member is);
  back = λ z member is. (z, declared own d c z member is);
  each = λ s z member is there. subst (AgreeFor members (echo own c) (echo own d) f g s) (same_subject own c d s z member is there) (subst (λ s. AgreeFor members (echo own c) (echo own d) f g s s) (is_talker own c s member is) (talker_agrees own c d f g));
  frames =
      unchosen refl refl
      (λ s z member is there tick lt. same_slots own c d s tick ∙ ap (λ n. own_slot (echo own d) n (plain_frame (echo own d) tick) tick) (same_subject own c d s z member is there));
  writes = writes;
}
