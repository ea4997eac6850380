-- The groups of the slots of minor frames.
use Rattle.std.proofs.Common.{◌≡◌, ℕ, Bool, true, List, [], ◌∷◌, Some, refl, ap, ◌∙◌}
use Rattle.std.specs.Prelude.{slice_get}
use Rattle.std.specs.List.{flat_map, list_all}
use Rattle.std.proofs.lemmas.Bool.{and_from, and_parts}
use Rattle.std.proofs.lemmas.List.Concat.{flat_map-cons}
use Rattle.std.proofs.lemmas.List.Folds.{list_all-append, list_all-map}
use Rattle.frame_clock.proofs.SlotLaws.{frame_slot}
use Rattle.frame_clock.specs.Slot.{Slot, frame_slots}
use Rattle.muen_num.proofs.Lists.{passes_at}
use Rattle.muen_num.specs.Frame.{Frame}
use Rattle.muen_num.specs.Range.{numbers_below}

always : (b : Bool) (ks : List ℕ) → b ≡ true → list_all (λ k. b) ks ≡ true
always b [] h = refl
always b (k ∷ ks) h = and_from b (list_all (λ k. b) ks) h (always b ks h)

-- where each frame's group passes a test, so does each slot's
module _ (test : ℕ → Bool) (major : ℕ) where
  of_frame : (f : Frame) → test f.group ≡ true → list_all (λ s. test s.group) (frame_slots major f) ≡ true
  of_frame f h = list_all-map (λ s. test s.group) (frame_slot major f) (numbers_below f.ticks) ∙ always (test f.group) (numbers_below f.ticks) h

  of_frames : (fs : List Frame) → list_all (λ f. test f.group) fs ≡ true → list_all (λ s. test s.group) (flat_map (frame_slots major) fs) ≡ true
  of_frames [] all = refl
  of_frames (f ∷ fs) all =
      let parts = and_parts (test f.group) (list_all (λ f. test f.group) fs) all in
      let here = frame_slots major f in
      let later = flat_map (frame_slots major) fs in
      ap (list_all (λ s. test s.group)) (flat_map-cons (frame_slots major) f fs)
      ∙ list_all-append (λ s. test s.group) here later
      ∙ and_from (list_all (λ s. test s.group) here) (list_all (λ s. test s.group) later) (of_frame f parts.0) (of_frames fs parts.1)

  pub at_slot : (fs : List Frame) (k : ℕ) (slot : Slot) → list_all (λ f. test f.group) fs ≡ true → slice_get (flat_map (frame_slots major) fs) k ≡ Some slot → test slot.group ≡ true
  at_slot fs k slot all is = passes_at (λ s. test s.group) (flat_map (frame_slots major) fs) k slot (of_frames fs all) is
