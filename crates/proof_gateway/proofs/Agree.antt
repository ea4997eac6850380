-- The gateway and another one that differs in what `black` has agree on the members.
use Rattle.std.proofs.Common.{◌≡◌, ℕ, Bool, true, false, List, [], ◌∷◌, filter, map, refl, sym, ap, subst, ◌∙◌, inl, inr}
use Rattle.std.specs.Prelude.{Some, codes, ◌==◌}
use Rattle.std.specs.List.{All, AllByRecursion}
use Rattle.std.proofs.lemmas.Bool.{cases_Bool}
use Rattle.std.proofs.lemmas.List.Elements.{All-nil}
use Rattle.proof_isolation.specs.Flows.{is_member}
use Rattle.policy_lawful.specs.Contents.{Held}
use Rattle.policy_lawful.specs.Events.{event_of, irq_of}
use Rattle.policy_lawful.specs.Frames.{frames_of}
use Rattle.policy_lawful.specs.Windows.{windows_of}
use Rattle.policy_lawful.specs.source.Mapping.{Mapping}
use Rattle.policy_lawful.specs.source.Region.{Region}
use Rattle.policy_lawful.specs.source.Source.{Source}
use Rattle.policy_lawful.specs.source.SourceWay.{SourceWay}
use Rattle.policy_lawful.specs.source.Subject.{Subject}
use Rattle.policy_lawful.specs.Thing.{Thing}
use Rattle.subject_model.specs.Alone.{own_of, thing_in}
use Rattle.subject_model.specs.Clock.{inputs_at}
use Rattle.subject_model.specs.DeviceRecord.{NamedInput, port_input, irq_input}
use Rattle.subject_model.specs.System.{is_shown, start_of, subject_named}
use Rattle.proof_isolation.specs.Agree.{Agree, AgreeFor, WritesTheSame, is_handover, irq_to, is_first, only_to, own_slot, plain_frame, input_reaches_member, unchosen}
use Rattle.proof_isolation.proofs.WrittenOut.{own_by}
use Rattle.proof_gateway.specs.Gateway.{with_black, plain, keys, slots, cipher, members, network}
use Rattle.proof_gateway.proofs.Contents.{same_contents}
use Rattle.proof_gateway.proofs.Members.{OfMembers, each_member, members_have_no_ports}

-- ---- inputs that reach no member

none_kept : (test : NamedInput → Bool) (keep : ℕ × NamedInput → Bool) (es : List (ℕ × NamedInput)) → AllByRecursion (λ e. test e.1 ≡ false) es → filter test (map (λ e. e.1) (filter keep es)) ≡ []
none_kept test keep [] all = refl
none_kept test keep (e ∷ es) all =
    elim (cases_Bool (keep e)) [ inl t ↦ rw (t, all.0) (none_kept test keep es all.1) | inr n ↦ rw n (none_kept test keep es all.1) ]

module _ (r u : List Region) (w v : List Mapping) (c d : List ℕ) where
  abbrev one : Source
  one = with_black r w c

  abbrev other : Source
  other = with_black u v d

  untouched_port : input_reaches_member one other members (port_input (codes "net") 768 5) ≡ false
  untouched_port = let ports = members_have_no_ports r w c in rw (ports.of_plain, ports.of_keys, ports.of_slots, ports.of_cipher) refl

  untouched_irq : input_reaches_member one other members (irq_input (codes "net") (codes "rx")) ≡ false
  unfolding irq_of
  untouched_irq = refl

  nothing_comes : (tick : ℕ) → filter (input_reaches_member one other members) (inputs_at network tick) ≡ []
  nothing_comes tick = none_kept (input_reaches_member one other members) (λ e. e.0 == tick) network.inputs (untouched_port, (untouched_irq, tt))

  -- ---- of each member

  same_events : OfMembers (λ s. (way : SourceWay) → event_of one s way ≡ event_of other s way)
  unfolding event_of
  same_events = record { of_plain = λ way. refl; of_keys = λ way. refl; of_slots = λ way. refl; of_cipher = λ way. refl }

  same_irqs : (device irq : List ℕ) → irq_of one device irq ≡ irq_of other device irq
  unfolding irq_of
  same_irqs device irq = refl

  same_slots : (s : Subject) (tick : ℕ) → own_slot one s (plain_frame one tick) tick ≡ own_slot other s (plain_frame other tick) tick
  unfolding frames_of
  same_slots s tick = refl

  same_own : OfMembers (λ s. own_of one s ≡ own_of other s)
  unfolding windows_of
  same_own =
      let here = members_have_no_ports r w c in
      let there = members_have_no_ports u v d in
      record {
        of_plain = own_by one other plain refl (here.of_plain ∙ sym there.of_plain);
        of_keys = own_by one other keys refl (here.of_keys ∙ sym there.of_keys);
        of_slots = own_by one other slots refl (here.of_slots ∙ sym there.of_slots);
        of_cipher = own_by one other cipher refl (here.of_cipher ∙ sym there.of_cipher);
      }

  same_first : OfMembers (λ s. is_first one s.name ≡ is_first other s.name)
  same_first = record { of_plain = refl; of_keys = refl; of_slots = refl; of_cipher = refl }

  -- each member is declared in the other policy, and the same
  declared : OfMembers (λ s. subject_named other s.name ≡ Some s)
  declared = record { of_plain = refl; of_keys = refl; of_slots = refl; of_cipher = refl }

  is_declared : (s : Subject) → is_member members s ≡ true → subject_named one s.name ≡ Some s → subject_named other s.name ≡ Some s
  is_declared = each_member (λ s. subject_named other s.name ≡ Some s) r w c declared

  is_same : (s z : Subject) → is_member members s ≡ true → subject_named one s.name ≡ Some s → subject_named other s.name ≡ Some z → s ≡ z
  is_same s z member is there = let here = is_declared s member is in cc (here, there)

  agrees_for : (f g : Held) (s : Subject) → is_member members s ≡ true → subject_named one s.name ≡ Some s → AgreeFor members one other f g s s
  agrees_for f g s member is =
      let events = each_member (λ s. (way : SourceWay) → event_of one s way ≡ event_of other s way) r w c same_events s member is in
      record {
        own = each_member (λ s. own_of one s ≡ own_of other s) r w c same_own s member is;
        switches = λ way. ap is_handover (events way);
        events = λ m _ way. ap (only_to m.name) (events way);
        first = each_member (λ s. is_first one s.name ≡ is_first other s.name) r w c same_first s member is;
        contents = each_member (λ s. (x : Thing) → is_shown (windows_of one s) x ≡ true → thing_in (start_of one f).things x ≡ thing_in (start_of other g).things x) r w c (same_contents r u w v c d f g) s member is;
        irqs = λ device irq. ap (irq_to s.name) (same_irqs device irq);
      }

-- ---- all of it

pub agree : (r u : List Region) (w v : List Mapping) (c d : List ℕ) (f g : Held) → Agree members (with_black r w c) (with_black u v d) f g network network 300
agree r u w v c d f g =
    let p = with_black r w c in
    let q = with_black u v d in
    record {
      there = λ s member is. (s, is_declared r u w v c d s member is);
      back = λ z member is. (z, is_declared u r v w d c z member is);
      each = λ s z member is there. subst (AgreeFor members p q f g s) (is_same r u w v c d s z member is there) (agrees_for r u w v c d f g s member is);
      frames =
          unchosen refl refl
          (λ s z member is there tick lt. same_slots r u w v c d s tick ∙ ap (λ n. own_slot q n (plain_frame q tick) tick) (is_same r u w v c d s z member is there));
      inputs = λ tick lt. nothing_comes r u w v c d tick ∙ sym (nothing_comes u r v w d c tick);
      writes = λ tick lt. subst (All (WritesTheSame members p q)) (sym (nothing_comes r u w v c d tick)) (All-nil (WritesTheSame members p q));
      orders = λ tick lt. refl;
    }
