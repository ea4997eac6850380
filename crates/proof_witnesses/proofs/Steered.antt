-- Two systems in which a subject chooses the major frames agree on that subject, on inputs that reach it and direct memory access.
use Rattle.std.proofs.Common.{◌≡◌, ℕ, Bool, true, false, cond, List, [], ◌∷◌, ◌++◌, filter, map, Some, refl, sym, ap, subst, ◌∙◌, inl, inr, true≢false}
use Rattle.std.specs.Prelude.{◌==◌, ◌||◌, codes, option_map}
use Rattle.std.specs.List.{All, enumerate_from, list_any}
use Rattle.std.specs.Str.{bytes_eq}
use Rattle.std.proofs.lemmas.Bool.{cases_Bool}
use Rattle.std.proofs.lemmas.List.Elements.{All-from_recursion}
use Rattle.muen_num.proofs.Members.{all_from}
use Rattle.muen_num.specs.declared.access.AccessKind.TheVariants.{Write}
use Rattle.policy_lawful.specs.Contents.{Held}
use Rattle.policy_lawful.specs.Dma.{dma_windows}
use Rattle.policy_lawful.specs.Domains.{offence_21, offence_22, offence_23, offence_24}
use Rattle.policy_lawful.specs.Events.{event_of, irq_of}
use Rattle.policy_lawful.specs.Frames.{frames_of}
use Rattle.policy_lawful.specs.Lawful.{offences, unlawful}
use Rattle.policy_lawful.specs.MoreRules.{offence_6, offence_7, offence_9, offence_10, offence_11, offence_12, offence_13, offence_14, offence_15, offence_19}
use Rattle.policy_lawful.specs.Rules.{offence_1, offence_2, offence_3, offence_4, offence_5, offence_8, offence_16, offence_17, offence_18, offence_20, first_overlap, window_extents}
use Rattle.policy_lawful.specs.Thing.{Item, Thing, device_items, device_memory, item_of, items_of, placed_items, region, region_item, same_thing}
use Rattle.policy_lawful.specs.Windows.{Window, access_of, windows_of}
use Rattle.policy_lawful.specs.source.Source.{Source}
use Rattle.policy_lawful.specs.source.SourceWay.{SourceWay}
use Rattle.policy_lawful.specs.source.Subject.{Subject}
use Rattle.policy_lawful.proofs.SameThings.{same_things}
use Rattle.proof_isolation.proofs.TwoEnds.{printed_alike}
use Rattle.proof_isolation.proofs.WrittenOut.{at_start, of_found, own_by}
use Rattle.proof_isolation.specs.Agree.{AgreeFor, WritesTheSame, as_seen, chosen, input_reaches_member, irq_to, is_handover, is_seen, maps_seen, only_to, own_slot}
use Rattle.proof_isolation.specs.Flows.{flows_to, is_member}
use Rattle.proof_reactive.proofs.Echo.{has_768, ports_by}
use Rattle.proof_reactive.specs.Echo.{code_region, members, noise, ring, talker}
use Rattle.proof_witnesses.specs.Steered.{alone, choice, steered, to_talker, with_others}
use Rattle.proof_witnesses.specs.SteeredLaws.{InputsReachTalker, LineWritesRing, SteeredAgree, SteeredAreLawful, TalkerIsClosed, TalkerIsPrintedAlike}
use Rattle.subject_model.specs.Alone.{own_of, thing_in}
use Rattle.subject_model.specs.Clock.{inputs_at, write_to}
use Rattle.subject_model.specs.DeviceRecord.{NamedInput, port_input, memory_input, irq_input, dma_input}
use Rattle.subject_model.specs.Resources.{port_ranges_of, ports_of}
use Rattle.subject_model.specs.System.{is_shown, start_of, subject_named}
use Rattle.subject_model.specs.frame_at.FrameAt.{FrameAt}

-- ---- lawful, and closed

pub lawful : SteeredAreLawful
unfolding unlawful offences offence_1 offence_2 offence_3 offence_4 offence_5 offence_6 offence_7 offence_8 offence_9 offence_10 offence_11 offence_12 offence_13 offence_14 offence_15 offence_16 offence_17 offence_18 offence_19 offence_20 offence_21 offence_22 offence_23 offence_24 first_overlap window_extents windows_of
lawful own code = refl

pub closed : TalkerIsClosed
unfolding flows_to windows_of event_of
closed own code =
    let p = steered own code in
    record {
      sources =
          All-from_recursion (λ s. is_member members s ≡ true → All (λ u. flows_to p u s ≡ true → is_member members u ≡ true) p.subjects) p.subjects
          (λ _. All-from_recursion (λ u. flows_to p u talker ≡ true → is_member members u ≡ true) p.subjects (λ _. refl, (λ h. absurd (true≢false (sym h)), tt)), (λ h. absurd (true≢false (sym h)), tt));
    }

-- ---- lists of inputs

-- an input that doesn't pass makes no difference
last_unseen : (test : NamedInput → Bool) (keep : ℕ × NamedInput → Bool) (es : List (ℕ × NamedInput)) (e : ℕ × NamedInput) → test e.1 ≡ false
    → filter test (map (λ x. x.1) (filter keep (es ++ e ∷ []))) ≡ filter test (map (λ x. x.1) (filter keep es))
last_unseen test keep [] e h = elim (cases_Bool (keep e)) [ inl t ↦ rw (t, h) refl | inr n ↦ rw n refl ]
last_unseen test keep (x ∷ es) e h =
    elim (cases_Bool (keep x)) [
      | inl t ↦
          elim (cases_Bool (test x.1)) [
            | inl passes ↦ rw (t, passes) (ap (λ ys. x.1 ∷ ys) (last_unseen test keep es e h))
            | inr stops ↦ rw (t, stops) (last_unseen test keep es e h)
          ]
      | inr n ↦ rw n (last_unseen test keep es e h)
    ]

same_filter : (f g : NamedInput → Bool) → ((x : NamedInput) → f x ≡ g x) → (xs : List NamedInput) → filter f xs ≡ filter g xs
same_filter f g same [] = refl
same_filter f g same (x ∷ xs) = (λ i. cond (same x i) (x ∷ same_filter f g same xs i) (same_filter f g same xs i))

-- ---- the bytes at the start

-- the program of `talker`, and its ring
program : List ℕ → Item
program own = region_item (code_region (codes "talker_code") own)

its_program : (own code : List ℕ) → item_of (steered own code) (region (codes "talker_code")) ≡ Some (program own)
unfolding program item_of items_of placed_items device_items
its_program own code = refl

its_ring : (own code : List ℕ) → item_of (steered own code) (region (codes "ring")) ≡ Some (region_item ring)
unfolding item_of items_of placed_items device_items
its_ring own code = refl

-- ---- the one member

is_talker : (own code : List ℕ) (s : Subject) → is_member members s ≡ true → subject_named (steered own code) s.name ≡ Some s → talker ≡ s
is_talker own code s member is =
    of_found (λ s. is_member members s ≡ true → talker ≡ s) (λ u. bytes_eq u.name s.name) (talker ∷ noise ∷ []) (λ _. refl, (λ h. absurd (true≢false (sym h)), tt)) s is member

module _ (own c d : List ℕ) where
  abbrev one : Source
  one = steered own c

  abbrev other : Source
  other = steered own d

  -- ---- what reaches it

  talker_ports : list_any (λ m. m == 768) (ports_of one talker) ≡ true
  unfolding port_ranges_of
  talker_ports = has_768 one talker refl

  same_ports : ports_of one talker ≡ ports_of other talker
  unfolding port_ranges_of
  same_ports = ports_by one other talker refl

  same_windows : (device : List ℕ) → dma_windows one device ≡ dma_windows other device
  same_windows device = elim (cases_Bool (bytes_eq (codes "line") device)) [ inl t ↦ rw t refl | inr n ↦ rw n refl ]

  same_seen : (x : Thing) → is_seen one members x ≡ is_seen other members x
  unfolding windows_of
  same_seen x = refl

  same_maps : (device : List ℕ) → maps_seen one members device ≡ maps_seen other members device
  same_maps device = (λ i. list_any (λ w. same_seen w.thing i) (same_windows device i))

  same_irqs : (device irq : List ℕ) → irq_of one device irq ≡ irq_of other device irq
  unfolding irq_of
  same_irqs device irq = refl

  same_reach : (x : NamedInput) → input_reaches_member one other members x ≡ input_reaches_member other one members x
  unfolding irq_of
  same_reach (port_input device port value) = rw same_ports refl
  same_reach (memory_input device memory offset bytes) = same_seen (device_memory device memory)
  same_reach (irq_input device irq) = refl
  same_reach (dma_input device address bytes) = (λ i. same_maps device i || sym (same_maps device) i)

  pub reaching : All (λ (e : ℕ × NamedInput). input_reaches_member one other members e.1 ≡ true) to_talker
  unfolding irq_of windows_of
  reaching = All-from_recursion (λ (e : ℕ × NamedInput). input_reaches_member one other members e.1 ≡ true) to_talker (rw talker_ports refl, (refl, (refl, tt)))

  pub not_reaching : input_reaches_member one other members (irq_input (codes "net") (codes "rx")) ≡ false
  unfolding irq_of
  not_reaching = refl

  same_inputs : (tick : ℕ) → filter (input_reaches_member one other members) (inputs_at with_others tick) ≡ filter (input_reaches_member other one members) (inputs_at alone tick)
  same_inputs tick =
      last_unseen (input_reaches_member one other members) (λ e. e.0 == tick) to_talker (3, irq_input (codes "net") (codes "rx")) not_reaching
      ∙ same_filter (input_reaches_member one other members) (input_reaches_member other one members) same_reach (inputs_at alone tick)

  -- a line of direct memory access does the same in both
  writes_alike : (x : NamedInput) → WritesTheSame members one other x
  unfolding windows_of
  writes_alike (port_input device port value) = tt
  writes_alike (memory_input device memory offset bytes) = tt
  writes_alike (irq_input device irq) = tt
  writes_alike (dma_input device address bytes) =
      ap (λ (ws : List (Window Thing)). map (option_map (as_seen one members)) (map (λ (e : ℕ × ℕ). write_to (access_of ws e.0 Write) e.1) (enumerate_from address bytes))) (same_windows device)

  -- ---- what it is given

  same_own : own_of one talker ≡ own_of other talker
  unfolding windows_of
  same_own = own_by one other talker refl same_ports

  same_events : (way : SourceWay) → event_of one talker way ≡ event_of other talker way
  unfolding event_of
  same_events way = refl

  same_slots : (at : FrameAt) (tick : ℕ) → own_slot one talker at tick ≡ own_slot other talker at tick
  unfolding frames_of
  same_slots at tick = refl

  same_program : (f g : Held) → thing_in (start_of one f).things (region (codes "talker_code")) ≡ thing_in (start_of other g).things (region (codes "talker_code"))
  unfolding program
  same_program f g = at_start one f (region (codes "talker_code")) (program own) (its_program own c) ∙ sym (at_start other g (region (codes "talker_code")) (program own) (its_program own d))

  same_ring : (f g : Held) → thing_in (start_of one f).things (region (codes "ring")) ≡ thing_in (start_of other g).things (region (codes "ring"))
  same_ring f g = at_start one f (region (codes "ring")) (region_item ring) (its_ring own c) ∙ sym (at_start other g (region (codes "ring")) (region_item ring) (its_ring own d))

  same_shown : (f g : Held) (x : Thing) → is_shown (windows_of one talker) x ≡ true → thing_in (start_of one f).things x ≡ thing_in (start_of other g).things x
  unfolding windows_of
  same_shown f g x shown =
      elim (cases_Bool (same_thing (region (codes "talker_code")) x)) [
        | inl t ↦ subst (λ y. thing_in (start_of one f).things y ≡ thing_in (start_of other g).things y) (same_things (region (codes "talker_code")) x t) (same_program f g)
        | inr n ↦
            elim (cases_Bool (same_thing (region (codes "ring")) x)) [
              | inl t ↦ subst (λ y. thing_in (start_of one f).things y ≡ thing_in (start_of other g).things y) (same_things (region (codes "ring")) x t) (same_ring f g)
              | inr m ↦ absurd (true≢false (sym (let h = rw n at shown in let k = rw m at h in k)))
            ]
      ]

  talker_agrees : (f g : Held) → AgreeFor members one other f g talker talker
  talker_agrees f g = record {
    own = same_own;
    switches = λ way. ap is_handover (same_events way);
    events = λ m _ way. ap (only_to m.name) (same_events way);
    first = refl;
    contents = same_shown f g;
    irqs = λ device irq. ap (λ o. irq_to talker.name o) (same_irqs device irq);
  }

  declared : (s : Subject) → is_member members s ≡ true → subject_named one s.name ≡ Some s → subject_named other s.name ≡ Some s
  declared s member is = subst (λ s. subject_named other s.name ≡ Some s) (is_talker own c s member is) refl

  same_subject : (s z : Subject) → is_member members s ≡ true → subject_named one s.name ≡ Some s → subject_named other s.name ≡ Some z → s ≡ z
  same_subject s z member is there = let here = declared s member is in cc (here, there)

-- ---- all of it

pub agree : SteeredAgree
unfolding frames_of
agree own c d f g =
    let p = steered own c in
    let q = steered own d in
    record {
      there = λ s member is. (s, declared own c d s member is);
      back = λ z member is. (z, declared own d c z member is);
      each = λ s z member is there. subst (AgreeFor members p q f g s) (same_subject own c d s z member is there) (subst (λ s. AgreeFor members p q f g s s) (is_talker own c s member is) (talker_agrees own c d f g));
      frames =
          chosen choice choice refl refl refl refl refl
          (λ s z member is there at tick.
          subst (λ n. own_slot p s at tick ≡ own_slot q n at tick) (same_subject own c d s z member is there)
          (subst (λ n. own_slot p n at tick ≡ own_slot q n at tick) (is_talker own c s member is) (same_slots own c d at tick)));
      inputs = λ tick lt. same_inputs own c d tick;
      writes = λ tick lt. all_from (WritesTheSame members p q) (filter (input_reaches_member p q members) (inputs_at with_others tick)) (λ x _. writes_alike own c d x);
      orders = λ tick lt. refl;
    }

pub reach : InputsReachTalker
reach own c d = (reaching own c d, not_reaching own c d)

pub line_writes_ring : LineWritesRing
line_writes_ring own code = refl

pub alike : TalkerIsPrintedAlike
alike own c d f g =
    printed_alike (steered own c) f with_others (lawful own c) (steered own d) g alone members (lawful own d) (closed own c) (closed own d) (agree own c d f g) talker talker refl refl refl
