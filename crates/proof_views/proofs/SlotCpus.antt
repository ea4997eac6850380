-- The group of a slot is on the CPU that has the slot, in the plan of a lawful policy.
use Rattle.std.proofs.Common.{◌≡◌, ℕ, ◌-◌, Bool, true, false, List, [], ◌∷◌, Option, Some, None, refl, sym, ap, subst, ◌∙◌}
use Rattle.std.specs.Prelude.{◌==◌, ◌&&◌, nat_lt, length, option_and_then, option_map, position, slice_get}
use Rattle.std.specs.Option.{option_map_or}
use Rattle.std.specs.List.{cons_option, filter_map, find, flat_map, list_all}
use Rattle.std.specs.Str.{bytes_eq}
use Rattle.std.proofs.lemmas.Bool.{and_from, and_parts, eqb-true}
use Rattle.std.proofs.lemmas.Option.{slice_get-map}
use Rattle.subject_model.specs.Frames.{slot_in}
use Rattle.subject_model.specs.frame_at.FrameAt.{FrameAt}
use Rattle.subject_model.specs.Slot.{Slot, frame_slots}
use Rattle.muen_num.proofs.Lists.{found_among, passes_at}
use Rattle.muen_num.proofs.Lookups.{at_position, found_passes}
use Rattle.muen_num.specs.Frame.{Frame}
use Rattle.muen_num.specs.Range.{numbers_below}
use Rattle.policy_lawful.proofs.KeptMajors.{MajorsKept, first_ticks, has_frames, is_major_kept, is_named}
use Rattle.policy_lawful.specs.Rules.{group_cpu, is_frame, is_on, ticks_in}
use Rattle.policy_lawful.specs.Frames.{entry_frames, frame_of, frames_of, major_frames_of}
use Rattle.policy_lawful.specs.source.CpuFrames.{CpuFrames}
use Rattle.policy_lawful.specs.source.Group.{Group}
use Rattle.policy_lawful.specs.source.MajorFrame.{MajorFrame}
use Rattle.policy_lawful.specs.source.MinorFrame.{MinorFrame}
use Rattle.policy_lawful.specs.source.Source.{Source}
use Rattle.subject_model.proofs.SlotGroups.{at_slot}

-- whether this group is there, and on this CPU
abbrev pub is_here : Source → ℕ → ℕ → Bool
is_here p cpu group = option_map_or (λ g. g.cpu == cpu) (slice_get p.scheduling.groups group) false

-- ---- the minor frames of a CPU

module _ (p : Source) (cpu : ℕ) where
  on_cpu : (o : Option Group) → is_on (option_map (λ g. g.cpu) o) cpu ≡ true → option_map_or (λ g. g.cpu == cpu) o false ≡ true
  on_cpu None h = h
  on_cpu (Some g) h = h

  -- a minor frame
  frame_here : (f : MinorFrame) (o : Option ℕ) → position (λ g. bytes_eq g.name f.group) p.scheduling.groups ≡ o → is_frame p cpu f ≡ true → (fs : List Frame) → list_all (λ f. is_here p cpu f.group) fs ≡ true
      → list_all (λ f. is_here p cpu f.group) (cons_option (option_map (λ n. record { group = n; ticks = f.ticks }) o) fs) ≡ true
  frame_here f None is h fs all = all
  frame_here f (Some n) is h fs all =
      let on = (and_parts (nat_lt 0 f.ticks) (is_on (group_cpu p f.group) cpu) h).1 in
      let there = at_position (λ g. bytes_eq g.name f.group) p.scheduling.groups n is in
      and_from (is_here p cpu n) (list_all (λ f. is_here p cpu f.group) fs)
      (subst (λ o. option_map_or (λ g. g.cpu == cpu) o false ≡ true) (sym there) (on_cpu (find (λ g. bytes_eq g.name f.group) p.scheduling.groups) on)) all

  frames_here : (fs : List MinorFrame) → list_all (is_frame p cpu) fs ≡ true → list_all (λ f. is_here p cpu f.group) (filter_map (frame_of p) fs) ≡ true
  frames_here [] all = refl
  frames_here (f ∷ fs) all =
      let parts = and_parts (is_frame p cpu f) (list_all (is_frame p cpu) fs) all in
      frame_here f (position (λ g. bytes_eq g.name f.group) p.scheduling.groups) refl parts.0 (filter_map (frame_of p) fs) (frames_here fs parts.1)

  -- a major frame
  entry_here : (entries : List CpuFrames) (o : Option CpuFrames) → find (λ c. c.cpu == cpu) entries ≡ o → (ticks : ℕ) → list_all (has_frames p ticks) entries ≡ true → list_all (λ f. is_here p cpu f.group) (option_map_or (entry_frames p) o []) ≡ true
  entry_here entries None is ticks all = refl
  entry_here entries (Some c) is ticks all =
      let same : c.cpu ≡ cpu = eqb-true c.cpu cpu (found_passes (λ c. c.cpu == cpu) entries c is) in
      let kept = found_among (λ c. c.cpu == cpu) (has_frames p ticks) entries c is all in
      let both = and_parts (nat_lt 0 (length c.minor_frames) && list_all (is_frame p c.cpu) c.minor_frames) (ticks == ticks_in c) kept in
      let frames = and_parts (nat_lt 0 (length c.minor_frames)) (list_all (is_frame p c.cpu) c.minor_frames) both.0 in
      frames_here c.minor_frames (subst (λ n. list_all (is_frame p n) c.minor_frames ≡ true) same frames.1)

  major_here : (m : MajorFrame) → is_major_kept p m ≡ true → list_all (λ f. is_here p cpu f.group) (major_frames_of p cpu m) ≡ true
  major_here m h =
      let entries = and_parts (list_all (has_frames p (first_ticks m.cpus)) m.cpus) (list_all (is_named m.cpus) (numbers_below p.processor.logical_cpus)) h in
      entry_here m.cpus (find (λ c. c.cpu == cpu) m.cpus) refl (first_ticks m.cpus) entries.0

  -- ---- a slot

  in_major : (at : FrameAt) (tick : ℕ) (slot : Slot) → list_all (is_major_kept p) p.scheduling.major_frames ≡ true → (o : Option MajorFrame) → slice_get p.scheduling.major_frames at.major ≡ o
      → option_and_then (λ (fs : List Frame). slice_get (flat_map (frame_slots at.major) fs) (tick - at.start)) (option_map (major_frames_of p cpu) o) ≡ Some slot → is_here p cpu slot.group ≡ true
  in_major at tick slot majors None there is = absurd (cc (is))
  in_major at tick slot majors (Some m) there is =
      at_slot (is_here p cpu) at.major (major_frames_of p cpu m) (tick - at.start) slot (major_here m (passes_at (is_major_kept p) p.scheduling.major_frames at.major m majors there)) is

  pub slot_here : MajorsKept p → (at : FrameAt) (tick : ℕ) (slot : Slot) → slot_in (frames_of p cpu) at tick ≡ Some slot → is_here p cpu slot.group ≡ true
  unfolding frames_of
  slot_here kept at tick slot is =
      in_major at tick slot kept.majors (slice_get p.scheduling.major_frames at.major) refl
      (ap (option_and_then (λ (fs : List Frame). slice_get (flat_map (frame_slots at.major) fs) (tick - at.start))) (sym (slice_get-map (major_frames_of p cpu) p.scheduling.major_frames at.major)) ∙ is)
