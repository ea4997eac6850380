-- The machine that a sound image makes stands, at its start, for the policy's system at its start.
use Rattle.std.proofs.Common.{◌≡◌, ℕ, ◌+◌, ◌*◌, ◌≤◌, true, false, List, [], map, replicate, Option, Some, None, refl, sym, ap, subst, ◌∙◌, arith}
use Rattle.std.specs.Prelude.{option_map, slice_get, unwrap_or}
use Rattle.std.specs.List.{All, enumerate_from, list_any}
use Rattle.std.proofs.lemmas.List.Elements.{All-replicate}
use Rattle.std.proofs.lemmas.Map.Keys.{any_passes_from_place}
use Rattle.subject_model.specs.Alone.{MsrValues, Things, msr_value, thing_in}
use Rattle.subject_model.specs.System.{Named, first_inputs, first_page, named, start_of, subject_named}
use Rattle.proof_turns.specs.Devices.{no_inputs}
use Rattle.muen_num.specs.Numbers.{zeros}
use Rattle.expand_grants.specs.Resources.{msrs_of}
use Rattle.image_load.specs.Loaded.{setup_of}
use Rattle.image_memory.specs.Memory.{memory_of, bytes_at, page_at}
use Rattle.image_soundness.proofs.SoundFacts.{areas_of}
use Rattle.image_soundness.specs.Sound.{HasArea, IsSound}
use Rattle.image_pack.specs.ImageConditions.{KeepsConditions, IsSubjectPart as IsImageSubject}
use Rattle.image_pack.specs.declared.parts.Image.{Image}
use Rattle.image_pack.specs.declared.parts.SubjectPart.{SubjectPart}
use Rattle.proof_turns.specs.Ticks.{live_started}
use Rattle.vmx_machine.specs.Memory.{page_of}
use Rattle.muen_num.specs.declared.limits.TheConstants.{LAST_PORT}
use Rattle.muen_num.proofs.Lists.{all_at}
use Rattle.muen_num.proofs.Pairs.{both_at}
use Rattle.policy_lawful.specs.Contents.{Held as HeldFiles, initial_bytes}
use Rattle.policy_lawful.specs.Thing.{Thing, same_thing, state, things_of}
use Rattle.policy_lawful.specs.source.Source.{Source}
use Rattle.policy_lawful.specs.source.Subject.{Subject}
use Rattle.subject_model.specs.StatePage.{page_bytes}
use Rattle.subject_model.specs.States.{started}
use Rattle.proof_turns.proofs.Holds.{held_off}
use Rattle.policy_lawful.proofs.SameThings.{same_thing_self}
use Rattle.proof_turns.specs.Fixed.{IsFixed}
use Rattle.proof_turns.specs.Ground.{part}
use Rattle.guest_isa.specs.Words.{IsByte}
use Rattle.proof_turns.specs.Held.{AreEntries, HasMsr, Held, IsOwn, entry_value, held_by, is_subject_entered, on_pages}
use Rattle.proof_turns.specs.Stands.{HasStateAndMsrArea, ShowsThings, StandsFor}
use Rattle.vmx_machine.specs.Machine.{entries_in, fresh}
use Rattle.vmx_machine.specs.declared.control.Control.{Control}
use Rattle.vmx_machine.specs.declared.cpu.Cpu.{Cpu}
use Rattle.proof_start.specs.GroundOf.{HoldsBytes, ground_of}
use Rattle.proof_start.proofs.MsrFacts.{msrs_differ}
use Rattle.proof_start.proofs.PageFacts.{area_page_there, its_control, small_pages, state_page_there, thing_pages}
use Rattle.proof_start.proofs.SpansOfThings.{thing_span}
use Rattle.proof_start.proofs.StartAreas.{area_entries, area_values}
use Rattle.subject_model.proofs.StartLists.{made_of, named_map, numbered_at, replicated, state_started}
use Rattle.proof_start.proofs.StartSets.{cpus_stand, router_stands, same_cpus, zeros_long}

-- ---- ports

same_inputs : no_inputs ≡ first_inputs
unfolding zeros first_inputs
same_inputs = refl

zeros_small : (n : ℕ) → All IsByte (zeros n)
unfolding zeros
zeros_small n = All-replicate IsByte n 0 (omega arith)

-- ---- who isn't on any CPU is on its pages

off : (s msrs : ℕ) (page area : Option (List ℕ)) (cpus cpu : ℕ) (u : Option Cpu) → held_by s msrs page area (slice_get (replicate cpus None) cpu) u ≡ on_pages msrs page area
off s msrs page area cpus cpu u = held_off s msrs page area (slice_get (replicate cpus None) cpu) u (λ who at. subst (λ w. is_subject_entered s w ≡ false) (replicated cpus cpu None who at) refl)

-- a subject of which all is on its pages
own_by : (n : Subject) (things : Things) (msrs : Named MsrValues) (h : Held) (count many : ℕ) (page area : Option (List ℕ)) (state_bytes area_page : List ℕ) (values : MsrValues) → h ≡ on_pages count page area → page ≡ Some state_bytes → area ≡ Some area_page → count ≡ many
    → thing_in things (state n.name) ≡ Some state_bytes → named msrs n.name ≡ Some values → ((v : ℕ) → HasMsr n v → entry_value (entries_in many area_page) v ≡ msr_value values v) → IsOwn n things msrs h
own_by n things msrs h count many page area state_bytes area_page values is has_page has_area same in_things in_msrs each = record {
  page = in_things ∙ sym (ap (λ (x : Held). x.page) is ∙ has_page);
  values = record {
    values = values;
    at = in_msrs;
    same = λ v has. ap (λ (x : Held). x.msr v) is ∙ ap (λ o. entry_value (entries_in count (unwrap_or o [])) v) has_area ∙ ap (λ k. entry_value (entries_in k area_page) v) same ∙ each v has;
  };
}

-- a thing of the policy has its bytes
pub thing_started : (p : Source) (files : HeldFiles) (x : Thing) → list_any (λ y. same_thing y x) (things_of p) ≡ true → thing_in (start_of p files).things x ≡ Some (initial_bytes p files x)
unfolding start_of
thing_started p files x h = made_of (initial_bytes p files) (things_of p) (map (λ s. (state s.name, first_page s)) p.subjects) x h

module _ (p : Source) (files : HeldFiles) (i : Image) (keeps : KeepsConditions i) (sound : IsSound p files i) where
  -- ---- things

  values_started : (n : Subject) → subject_named p n.name ≡ Some n → named (start_of p files).msrs n.name ≡ Some (map (λ m. (m.index, 0)) (msrs_of n))
  unfolding start_of
  values_started n found =
      named_map (λ s. map (λ m. (m.index, 0)) (msrs_of s)) p.subjects n.name
      ∙ ap (option_map (λ (s : Subject). map (λ m. (m.index, 0)) (msrs_of s))) found

  shown : HoldsBytes i → ShowsThings (ground_of p i) (memory_of i) (start_of p files).things
  unfolding ground_of
  shown small = record {
    bytes = λ x j low.
        let t = thing_span p files i keeps sound x j low in
        thing_pages p files i keeps sound x j low ∙ sym (ap (option_map (part j)) (thing_started p files x (any_passes_from_place (λ y. same_thing y x) (things_of p) t.number x t.listed (same_thing_self x))));
    kept = λ k kept. refl;
    there = λ k. refl;
    small = small_pages p i small;
  }

  -- ---- the pages of a subject

  module _ (s : ℕ) (n : Subject) (q : SubjectPart) (c : Control) (named_n : slice_get p.subjects s ≡ Some n) (here : slice_get i.subjects s ≡ Some q) (at : slice_get (ground_of p i).setup.controls s ≡ Some c) where
    same_count : c.msrs ≡ q.msrs
    same_count = sym (ap (λ (d : Control). d.msrs) (its_control p i s q c here at))

    few : 16 * q.msrs ≤ 4096
    few =
        let kept = (all_at (IsImageSubject i) (enumerate_from 0 i.subjects) s (s, q) keeps.subjects (numbered_at i.subjects s q here)).few_msrs in
        omega (arith, kept)

    its_area : HasArea i n q
    its_area = both_at (HasArea i) p.subjects i.subjects s n q (areas_of p files i sound) named_n here

    pages_there : HasStateAndMsrArea (memory_of i) n c
    pages_there =
        let area = area_page_there p i keeps s q c here at in
        let many = few in
        let same = same_count in
        record {
          state = page_bytes (started n.entry);
          state_is = state_page_there p files i keeps sound s n c named_n at;
          area = page_at i q.area 0;
          area_is = area.0;
          full = area.1;
          room = omega (arith, many, same);
          entries = subst (λ k. AreEntries n (entries_in k (page_at i q.area 0))) (sym same) (area_entries n (bytes_at i q.area) q.msrs few its_area.each (msrs_differ p sound.lawful s n named_n));
        }

    owned : (h : Held) → h ≡ on_pages c.msrs (page_of (memory_of i) c.state) (page_of (memory_of i) c.msr_area) → subject_named p n.name ≡ Some n → IsOwn n (start_of p files).things (start_of p files).msrs h
    owned h is found =
        own_by n (start_of p files).things (start_of p files).msrs h c.msrs q.msrs (page_of (memory_of i) c.state) (page_of (memory_of i) c.msr_area) (page_bytes (started n.entry)) (page_at i q.area 0) (map (λ m. (m.index, 0)) (msrs_of n)) is
        (state_page_there p files i keeps sound s n c named_n at)
        (area_page_there p i keeps s q c here at).0
        same_count
        (state_started p files n found)
        (values_started n found)
        (area_values n (bytes_at i q.area) q.msrs few its_area.each its_area.zeros)

  -- ---- the whole

  -- **the machine stands for the system at the start**
  pub start_stands : HoldsBytes i → IsFixed (ground_of p i) → StandsFor (ground_of p i) (live_started (setup_of i) i.header.cpus (memory_of i)) (start_of p files)
  unfolding ground_of start_of
  start_stands small fixed = record {
    shows = shown small;
    pages = λ s n q c j. pages_there s n q c j.subject j.part j.control;
    owns = λ s n q c j other. owned s n q c j.subject j.part j.control _ (off s c.msrs (page_of (memory_of i) c.state) (page_of (memory_of i) c.msr_area) i.header.cpus q.cpu (slice_get (replicate i.header.cpus fresh) q.cpu)) j.found;
    router = router_stands p files i keeps sound fixed;
    cpus = cpus_stand (ground_of p i) i.header.cpus (same_cpus p files i sound);
    ports = same_inputs;
    many_ports = zeros_long (LAST_PORT + 1);
    small_ports = zeros_small (LAST_PORT + 1);
    frame = refl;
  }
