-- The plan of a lawful policy: its entries are of CPUs that are there, and the region that chooses frames is declared.
use Rattle.std.proofs.Common.{◌≡◌, ℕ, ◌-◌, ◌<◌, ◌≤◌, true, false, cond, List, [], ◌∷◌, length, map, Option, Some, None, refl, sym, ap, ◌∙◌, arith}
use Rattle.std.specs.Prelude.{◌==◌, ◌&&◌, codes, nat_lt, option_and_then, option_map, slice_get}
use Rattle.std.specs.List.{find, flat_map, list_all, list_any}
use Rattle.std.specs.Str.{bytes_eq}
use Rattle.std.proofs.lemmas.Bool.{and_parts, ltb-true, ne_eqb}
use Rattle.std.proofs.lemmas.Option.{slice_get-map}
use Rattle.subject_model.specs.Frames.{slot_in}
use Rattle.subject_model.specs.frame_at.FrameAt.{FrameAt}
use Rattle.subject_model.specs.Slot.{frame_slots}
use Rattle.muen_num.proofs.Lists.{any_first, found}
use Rattle.muen_num.proofs.SearchLaws.{none_both, unless_none}
use Rattle.muen_num.specs.Frame.{Frame}
use Rattle.muen_num.specs.Search.{first_in}
use Rattle.policy_lawful.proofs.KeptAddresses.{addresses_kept}
use Rattle.policy_lawful.proofs.KeptCpus.{cpus_kept}
use Rattle.policy_lawful.proofs.KeptRules.{rules_of}
use Rattle.policy_lawful.specs.Lawful.{IsLawful}
use Rattle.policy_lawful.specs.Offences.{two}
use Rattle.policy_lawful.specs.Rules.{is_alignment, is_fixed, is_laid, is_page_size, major_offence, majors_of, offence_16, tau0_offence}
use Rattle.muen_num.specs.Numbers.{is_page_aligned}
use Rattle.policy_lawful.specs.Contents.{Held, initial_bytes}
use Rattle.policy_lawful.specs.Frames.{frames_of, major_frames_of}
use Rattle.policy_lawful.specs.Thing.{region, same_thing, things_of}
use Rattle.policy_lawful.specs.source.CpuFrames.{CpuFrames}
use Rattle.policy_lawful.specs.source.MajorFrame.{MajorFrame}
use Rattle.policy_lawful.specs.source.Region.{Region}
use Rattle.policy_lawful.specs.source.Source.{Source}
use Rattle.policy_lawful.specs.source.Tau0.{Tau0}
use Rattle.image_soundness.proofs.ThingFacts.{region_is_thing, region_long}

-- ---- CPUs that aren't there

-- no entry is of such a CPU
not_named : (cpus cpu : ℕ) (cs : List CpuFrames) → cpus ≤ cpu → list_all (λ c. nat_lt c.cpu cpus) cs ≡ true → find (λ c. c.cpu == cpu) cs ≡ None
not_named cpus cpu [] l h = refl
not_named cpus cpu (c ∷ cs) l h =
    let both = and_parts (nat_lt c.cpu cpus) (list_all (λ c. nat_lt c.cpu cpus) cs) h in
    let low : c.cpu < cpus = ltb-true c.cpu cpus both.0 in
    let other : (c.cpu == cpu) ≡ false = ne_eqb c.cpu cpu (λ e. let same : c.cpu ≡ cpu = e in omega (arith, low, l, same)) in
    ap (λ b. cond b (Some c) (find (λ c. c.cpu == cpu) cs)) other ∙ not_named cpus cpu cs l both.1

abbrev without : MajorFrame → List Frame
without m = []

-- so it has no minor frames in a major frame
no_frames : (p : Source) (cpu : ℕ) (ms : List MajorFrame) → p.processor.logical_cpus ≤ cpu → list_all (λ m. list_all (λ c. nat_lt c.cpu p.processor.logical_cpus) m.cpus) ms ≡ true
    → map (major_frames_of p cpu) ms ≡ map without ms
no_frames p cpu [] l h = refl
no_frames p cpu (m ∷ ms) l h =
    let both = and_parts (list_all (λ c. nat_lt c.cpu p.processor.logical_cpus) m.cpus) (list_all (λ m. list_all (λ c. nat_lt c.cpu p.processor.logical_cpus) m.cpus) ms) h in
    let here = not_named p.processor.logical_cpus cpu m.cpus l both.0 in
    rw (here, no_frames p cpu ms l both.1) refl

-- nor a slot
no_slot : (ms : List MajorFrame) (frame : FrameAt) (tick : ℕ) → slot_in (map without ms) frame tick ≡ None
no_slot ms frame tick =
    ap (option_and_then (λ (m : List Frame). slice_get (flat_map (frame_slots frame.major) m) (tick - frame.start))) (slice_get-map without ms frame.major)
    ∙ by (slice_get ms frame.major)
  where
    by : (o : Option MajorFrame) → option_and_then (λ (m : List Frame). slice_get (flat_map (frame_slots frame.major) m) (tick - frame.start)) (option_map without o) ≡ None
    by None = refl
    by (Some m) = refl

-- ---- the region that chooses frames

module _ (p : Source) (lawful : IsLawful p) where
  -- a CPU that isn't there has no slot at any tick
  pub no_slots : (cpu : ℕ) (frame : FrameAt) (tick : ℕ) → p.processor.logical_cpus ≤ cpu → slot_in (frames_of p cpu) frame tick ≡ None
  unfolding frames_of
  no_slots cpu frame tick l =
      ap (λ frames. slot_in frames frame tick) (no_frames p cpu p.scheduling.major_frames l (cpus_kept p (rules_of lawful).rule_3).majors) ∙ no_slot p.scheduling.major_frames frame tick

  -- the region that chooses frames is declared
  pub tau0_memory : (t : Tau0) → p.scheduling.tau0 ≡ Some t → list_any (λ r. bytes_eq r.name t.region) p.memory ≡ true
  unfolding offence_16
  tau0_memory t is =
      let last = none_both (first_in (major_offence p) (majors_of p)) (tau0_offence p p.scheduling.tau0) (rules_of lawful).rule_16 in
      let of : tau0_offence p (Some t) ≡ None = ap (tau0_offence p) (sym is) ∙ last.1 in
      let declared = none_both _ _ of in
      let memory = none_both _ _ declared.1 in
      any_first (λ r. bytes_eq r.name t.region) (λ r. length r.shared_memory == 0) p.memory
      (unless_none (list_any (λ r. bytes_eq r.name t.region && (length r.shared_memory == 0)) p.memory) (two (codes "tau0") t.region) memory.0)

  -- and a thing
  pub tau0_region : (t : Tau0) → p.scheduling.tau0 ≡ Some t → list_any (λ x. same_thing x (region t.region)) (things_of p) ≡ true
  tau0_region t is = region_is_thing p t.region (tau0_memory t is)

  -- which has a byte at least
  pub tau0_bytes : (files : Held) (t : Tau0) → p.scheduling.tau0 ≡ Some t → 0 < length (initial_bytes p files (region t.region))
  tau0_bytes files t is =
      let r = found (λ (r : Region). bytes_eq r.name t.region) p.memory (tau0_memory t is) in
      let laid = r.among is_laid (addresses_kept p (rules_of lawful).rule_4).regions in
      let size = (and_parts (is_page_size r.item.size) (is_alignment r.item.alignment) (and_parts (is_page_size r.item.size && is_alignment r.item.alignment) (is_fixed r.item r.item.physical_address) laid).0).0 in
      let some : 0 < r.item.size = ltb-true 0 r.item.size (and_parts (is_page_aligned r.item.size) (nat_lt 0 r.item.size) size).1 in
      let long = region_long p files t.region r.item r.is in
      omega (arith, some, long)
